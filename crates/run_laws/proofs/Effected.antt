-- What a run, and a call that is none, owe to the law. Assumes nothing.
use Rattle.std.proofs.Common.{◌≡◌, ℕ, zero, suc, Bool, true, false, leb, ◌⊎◌, List, [], ◌∷◌, ◌++◌, length, is_some, Some, None, Option, sym, refl, ap, ◌∙◌, subst, inl, inr, arith, length-set, leb-false}
use Rattle.std.specs.Option.{option_map}
use Rattle.refusals.specs.declared.refusal.Refusal.{Refusal}
use Rattle.refusals.specs.Faults.{first, unless}
use Rattle.plans.specs.declared.step.Step.{Step}
use Rattle.placing.specs.Placing.{need}
use Rattle.placing.proofs.Fits.{fits_exactly}
use Rattle.kinds.specs.Kinds.{Meaning}
use Rattle.units.specs.Units.{State, SameShape, loaded}
use Rattle.run_laws.specs.Runs.{run_fault, cell_of, after_steps, after_run, Success}
use Rattle.run_laws.specs.Effects.{Asked, asked, Cause, Powers, Effect}
use Rattle.run_laws.proofs.Passed.{Passed, passed}

nothing_is_something : {A X : Type 0} (a : A) → ◌≡◌ {A = Option A} None (Some a) → X
nothing_is_something a e = absurd (let z : ◌≡◌ {A = ℕ} 0 1 = cc in omega arith)

mapped_kept : {A : Type 0} (o : Option A) (f : A → A) → is_some (option_map f o) ≡ is_some o
mapped_kept None f = refl
mapped_kept (Some a) f = refl

steps_cells : {V : Type 0} (m : Meaning V) (s : State V) (places : List ℕ) (steps : List Step) (i : ℕ)
    → length (after_steps m s places steps i).cells ≡ length s.cells
steps_cells m s places steps zero = refl
steps_cells m s places steps (suc i) = length-set _ _ _ ∙ steps_cells m s places steps i

pub run_cells : {V : Type 0} (m : Meaning V) (s : State V) (places : List ℕ) (steps : List Step) (x : V)
    → length (after_run m s places steps x).cells ≡ length s.cells
run_cells m s places steps x =
    steps_cells m (loaded s (cell_of places 0) x) places steps (length steps) ∙ length-set s.cells (cell_of places 0) (Some x)

-- which test failed
why : (b d f : Bool) (k l n e : Refusal) → first (unless b k) (first (unless d l) (unless f n)) ≡ Some e → (b ≡ false) ⊎ ((d ≡ false) ⊎ (f ≡ false))
why true true true k l n e h = nothing_is_something e h
why true true false k l n e h = inr (inr refl)
why true false f k l n e h = inr (inl refl)
why false d f k l n e h = inl refl

module _ {V : Type 0} (m : Meaning V) (s : State V) (n : ℕ) (steps : List Step) (x : V) where
  must : (m.native x ≡ false) ⊎ ((leb (need steps) (length s.cells) ≡ false) ⊎ (leb (length steps) s.left ≡ false))
      → Cause (length s.cells) s.left (asked m n steps x)
  must (inl e) = inl (rw e refl)
  must (inr (inl e)) =
      inr (inl (λ cells p.
      let few = (fits_exactly steps (length s.cells)).0 (cells, p) in
      let more = leb-false (need steps) (length s.cells) e in
      omega arith))
  must (inr (inr e)) = inr (inr (leb-false (length steps) s.left e))

  must_not : Passed m s steps x → Cause (length s.cells) s.left (asked m n steps x) → ⊥
  must_not p (inl e) = nothing_is_something x (sym e ∙ rw p.native refl)
  must_not p (inr (inl none)) = let here = (fits_exactly steps (length s.cells)).1 p.fits in none here.0 here.1
  must_not p (inr (inr h)) = let l = p.enough in omega arith

  pub accepted_effect : (v : V) (t : State V) → run_fault m s steps x ≡ None → Success m s n steps x v t
      → Effect m s (record { run = Some (asked m n steps x); given = Some (v ∷ []) }) t
  accepted_effect v t fine done =
      let p = passed m s steps x fine in
      record {
        powers = λ r vs run given.
            let is : asked m n steps x ≡ r = cc in
            let are : v ∷ [] ≡ vs = cc in
            subst (λ (z : List V). Powers m r z) are (subst (λ (z : Asked V). Powers m z (v ∷ [])) is
            (x, rw p.native refl, ap (λ (z : V). z ∷ []) done.value));
        left = done.left;
        refused = λ r run.
            let is : asked m n steps x ≡ r = cc in (
              (λ e. nothing_is_something (v ∷ []) (sym e)),
              (λ h. absurd (must_not p (subst (λ (z : Asked V). Cause (length s.cells) s.left z) (sym is) h))),
            );
        silent = λ none. nothing_is_something (asked m n steps x) (sym none);
        shape = (
          ap (λ (z : State V). length z.cells) done.after ∙ run_cells m s done.places steps x,
          ap is_some done.traces.kept ∙ mapped_kept s.log (λ l. l ++ done.traces.added),
        );
      }

  pub refused_effect : (e : Refusal) (t : State V) → run_fault m s steps x ≡ Some e → t ≡ s
      → Effect m s (record { run = Some (asked m n steps x); given = None }) t
  refused_effect e t fault same = record {
    powers = λ r vs run given. nothing_is_something vs given;
    left = ap (λ (z : State V). z.left) (sym same) ∙ omega arith;
    refused = λ r run.
        let is : asked m n steps x ≡ r = cc in
        ((λ h. subst (λ (z : Asked V). Cause (length s.cells) s.left z) is (must (why _ _ _ _ _ _ e fault))), (λ h. refl));
    silent = λ none. refl;
    shape = (ap (λ (z : State V). length z.cells) same, ap (λ (z : State V). is_some z.log) same);
  }

-- a call that asks for no run, and keeps the allowance and the shape
pub plain_effect : {V : Type 0} (m : Meaning V) (s t : State V) → t.left ≡ s.left → SameShape s t → Effect m s (record { run = None; given = None }) t
plain_effect m s t left shape = record {
  powers = λ r vs run h. nothing_is_something r run;
  left = omega arith;
  refused = λ r run. nothing_is_something r run;
  silent = λ none. refl;
  shape = shape;
}

-- a call that changes nothing
pub still_effect : {V : Type 0} (m : Meaning V) (s t : State V) → t ≡ s → Effect m s (record { run = None; given = None }) t
still_effect {V} m s t same =
    plain_effect m s t (ap (λ (z : State V). z.left) same)
    (ap (λ (z : State V). length z.cells) same, ap (λ (z : State V). is_some z.log) same)
