-- When a run is not refused, and what it then comes to. Assumes nothing.
use Rattle.std.proofs.Common.{◌≡◌, ℕ, ◌+◌, ◌≤◌, true, List, length, get_or, Some, None, Ok, Err, Option, Result, sym, refl, ap, ◌∙◌, subst, arith, length-set, get_or-set_same, lt-ltb, le-leb, leb-true}
use Rattle.refusals.specs.declared.refusal.Refusal.{Refusal}
use Rattle.refusals.specs.Faults.{verdict, settle}
use Rattle.refusals.proofs.Firsts.{first_none, unless_true}
use Rattle.plans.specs.declared.step.Step.{Step}
use Rattle.plans.specs.Chain.{Chain}
use Rattle.placing.specs.Placing.{need, Placing, Supplied}
use Rattle.placing.specs.Supply.{supplied_cells}
use Rattle.placing.proofs.Supply.{supplied_cells_lem}
use Rattle.placing.proofs.Fits.{placing_within}
use Rattle.kinds.specs.Kinds.{Meaning}
use Rattle.kinds.specs.Powers.{power}
use Rattle.kinds.proofs.Powers.{Laws}
use Rattle.units.specs.Units.{State, load_fault, loaded}
use Rattle.run_laws.specs.Traces.{Traces}
use Rattle.run_laws.specs.Runs.{run_fault, cell_of, after_steps, after_run, last_value, Ready, Begun, HandsOut, Success}
use Rattle.run_laws.proofs.Sitting.{sits_end}
use Rattle.run_laws.proofs.Traced.{traced}
use Rattle.run_laws.proofs.Turns.{not_refused}

module _ {V : Type 0} (m : Meaning V) (s : State V) (steps : List Step) (x : V) where
  -- the three tests of a run
  pub record Passed : Type 0 where
    pub native : m.native x ≡ true
    pub fits : need steps ≤ length s.cells
    pub enough : length steps ≤ s.left

  pub passed : run_fault m s steps x ≡ None → Passed
  passed h =
      let a = first_none _ _ h in
      let b = first_none _ _ a.1 in
      record {
        native = unless_true _ _ a.0;
        fits = leb-true _ _ (unless_true _ _ b.0);
        enough = leb-true _ _ (unless_true _ _ b.1);
      }

  pub faultless : Passed → run_fault m s steps x ≡ None
  faultless p = simp (p.native, le-leb (need steps) (length s.cells) p.fits, le-leb (length steps) s.left p.enough) refl

  module _ (n : ℕ) (places : List ℕ) (chain : Chain n steps) (named : places ≡ supplied_cells steps) (fine : run_fault m s steps x ≡ None) where
    within : Placing (length s.cells) steps places
    within =
        subst (Placing (length s.cells) steps) (sym named)
        (placing_within (need steps) (length s.cells) steps (supplied_cells steps) (passed fine).fits (supplied_cells_lem steps).placing)

    load_fine : load_fault m s (cell_of places 0) x ≡ None
    load_fine = simp (lt-ltb (cell_of places 0) (length s.cells) (within.below 0 (omega arith)), (passed fine).native) refl

    -- the load is not refused
    pub load_passes : (e : Refusal) → Err e ≡ verdict (load_fault m s (cell_of places 0) x) → ⊥
    load_passes e q = not_refused _ e load_fine q

    -- the state after it
    pub load_is : (b : State V) → b ≡ settle (load_fault m s (cell_of places 0) x) s (loaded s (cell_of places 0) x) → b ≡ loaded s (cell_of places 0) x
    load_is b h = h ∙ ap (λ (f : Option Refusal). settle f s (loaded s (cell_of places 0) x)) load_fine

    pub ready : Ready m (loaded s (cell_of places 0) x) n steps places x
    ready = let p = passed fine in record {
      chain = chain;
      placing = subst (λ (z : ℕ). Placing z steps places) (sym (length-set s.cells (cell_of places 0) (Some x))) within;
      start = get_or-set_same s.cells (cell_of places 0) (Some x) None (within.below 0 (omega arith));
      native = p.native;
      enough = p.enough;
    }

    -- what comes after the load, which left the state b
    module _ (k : Meaning V) (b : State V) (part : List Step) (same : k ≡ m)
        (h : b ≡ settle (load_fault m s (cell_of places 0) x) s (loaded s (cell_of places 0) x)) (is : part ≡ steps) where
      -- the multiplications can begin
      pub begun : Begun k b part places
      begun =
          subst (λ (z : Meaning V). Begun z b part places) (sym same)
          (subst (λ (z : State V). Begun m z part places) (sym (load_is b h))
          (subst (λ (z : List Step). Begun m (loaded s (cell_of places 0) x) z places) (sym is)
          (x, subst (λ (z : ℕ). Ready m (loaded s (cell_of places 0) x) z steps places x) (sym chain.reaches) ready)))

      -- what they hand out is the power of the base
      pub handed : (r : Result V Refusal) → HandsOut k b part places r → r ≡ Ok (power m x n)
      handed r out =
          let start : get_or b.cells (cell_of places 0) None ≡ Some x = ap (λ (z : State V). get_or z.cells (cell_of places 0) None) (load_is b h) ∙ ready.start in
          out x start ∙ ap (λ (z : Meaning V). Ok (power z x (last_value part))) same
          ∙ ap (λ (z : List Step). Ok (power m x (last_value z))) is ∙ ap (λ (z : ℕ). Ok (power m x z)) chain.reaches

      -- and what they leave
      pub ended : (t : State V) → t ≡ after_steps k b places part (length part) → t ≡ after_run m s places steps x
      ended t e =
          e ∙ ap (λ (z : Meaning V). after_steps z b places part (length part)) same
          ∙ ap (λ (z : State V). after_steps m z places part (length part)) (load_is b h)
          ∙ ap (λ (z : List Step). after_run m s places z x) is

    pub success : Laws m → (given : V) (t : State V) → given ≡ power m x n → t ≡ after_run m s places steps x → Success m s n steps x given t
    success laws given t value after =
        let sits = sits_end m (loaded s (cell_of places 0) x) n steps places x laws ready in
        record {
          places = places;
          supplied = subst (Supplied steps) (sym named) (supplied_cells_lem steps);
          named = named;
          fits = (passed fine).fits;
          value = value;
          left = sym (ap (λ (z : State V). z.left + length steps) after ∙ sits.left);
          after = after;
          traces = subst (λ (z : State V). Traces (length s.cells) (cell_of places 0) steps s.log z.log) (sym after) (traced m s x n steps places chain within);
        }
