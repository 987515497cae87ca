-- The records of the steps of a plan, worked in sums. Assumes nothing.
use Rattle.std.proofs.Common.{◌≡◌, ℕ, zero, suc, ◌+◌, ◌-◌, ◌<◌, ◌≤◌, true, List, [], ◌∷◌, ◌++◌, map, length, get_or, take, set, replicate, Some, None, Option, sym, refl, ap, ◌∙◌, subst, append_assoc, append-nil, add-one, arith, length-set, take_all, take-suc, get_or-set_same}
use lib.ListN.{length-replicate}
use Rattle.std.specs.Option.{option_map}
use Rattle.std.proofs.lemmas.List.{map_push}
use Rattle.plans.specs.declared.step.Step.{Step}
use Rattle.plans.specs.Chain.{no_step, step_at, value_at, Chain}
use Rattle.plans.proofs.Values.{value_suc}
use Rattle.placing.specs.Placing.{cites, Placing}
use Rattle.placing.proofs.Run.{Stored, stored_read, stored_more}
use Rattle.kinds.specs.Kinds.{Meaning}
use Rattle.units.specs.declared.record.Record.{Record}
use Rattle.units.specs.Units.{State, loaded}
use Rattle.run_laws.specs.Traces.{sum_of, sums, one_in, Traces}
use Rattle.run_laws.specs.Runs.{cell_of, after_steps, after_run}
use Rattle.run_laws.proofs.Sitting.{cites_first, cites_second}

-- the numbers in the cells after the records
abbrev pub summed : List ℕ → List Record → List ℕ
summed cells [] = cells
summed cells (r ∷ rs) = summed (set cells r.to (sum_of cells r)) rs

sums_push : (cells : List ℕ) (rs : List Record) (r : Record) → sums cells (rs ++ (r ∷ [])) ≡ sums cells rs ++ (sum_of (summed cells rs) r ∷ [])
sums_push cells [] r = refl
sums_push cells (q ∷ rs) r = ap (λ (z : List ℕ). sum_of cells q ∷ z) (sums_push (set cells q.to (sum_of cells q)) rs r)

summed_push : (cells : List ℕ) (rs : List Record) (r : Record) → summed cells (rs ++ (r ∷ [])) ≡ set (summed cells rs) r.to (sum_of (summed cells rs) r)
summed_push cells [] r = refl
summed_push cells (q ∷ rs) r = summed_push (set cells q.to (sum_of cells q)) rs r

mapped_push : (old : Option (List Record)) (rs : List Record) (r : Record)
    → option_map (λ l. l ++ (r ∷ [])) (option_map (λ l. l ++ rs) old) ≡ option_map (λ l. l ++ (rs ++ (r ∷ []))) old
mapped_push None rs r = refl
mapped_push (Some l) rs r = ap Some (append_assoc l rs (r ∷ []))

mapped_none : (old : Option (List Record)) → old ≡ option_map (λ l. l ++ []) old
mapped_none None = refl
mapped_none (Some l) = ap Some (sym (append-nil l))

-- the record of the step that makes value v
abbrev row : List ℕ → ℕ → Step → Record
row places v x = record { to = cell_of places v; a = cell_of places x.j; b = cell_of places x.k }

-- the records of the first i steps
abbrev pub rows : List ℕ → List Step → ℕ → List Record
rows places steps zero = []
rows places steps (suc i) = rows places steps i ++ (row places (suc i) (step_at steps i) ∷ [])

pub kept_rows : {V : Type 0} (m : Meaning V) (s : State V) (places : List ℕ) (steps : List Step) (i : ℕ)
    → (after_steps m s places steps i).log ≡ option_map (λ l. l ++ rows places steps i) s.log
kept_rows m s places steps zero = mapped_none s.log
kept_rows m s places steps (suc i) =
    ap (option_map (λ l. l ++ (row places (suc i) (step_at steps i) ∷ []))) (kept_rows m s places steps i)
    ∙ mapped_push s.log (rows places steps i) (row places (suc i) (step_at steps i))

module _ (n c : ℕ) (steps : List Step) (places : List ℕ) (chain : Chain n steps) (placing : Placing c steps places) where
  abbrev cells_at : ℕ → List ℕ
  cells_at i = summed (one_in c (cell_of places 0)) (rows places steps i)

  -- after i records each value that is last or still cited lies in its cell
  record Holds (i : ℕ) : Type 0 where
    pub long : length (cells_at i) ≡ c
    pub stored : Stored (value_at steps) steps places i (cells_at i)
    pub values : sums (one_in c (cell_of places 0)) (rows places steps i) ≡ map (λ x. x.value) (take i steps)

  first : Holds 0
  first =
      let empty : List ℕ = replicate c 0 in
      let size : length empty ≡ c = length-replicate {A = ℕ} c 0 in
      let room : cell_of places 0 < length empty = (let a = placing.below 0 (omega arith) in omega arith) in
      record {
        long = length-set empty (cell_of places 0) 1 ∙ size;
        stored = λ v d h k.
            let z : 0 ≡ v = omega arith in
            subst (λ (u : ℕ). get_or (one_in c (cell_of places 0)) (cell_of places u) d ≡ value_at steps u) z
            (get_or-set_same empty (cell_of places 0) 1 d room);
        values = refl;
      }

  module _ (i : ℕ) (more : i < length steps) (at : Holds i) where
    abbrev st : Step
    st = step_at steps i

    lies : (v : ℕ) → v ≤ i → cites st v ≡ true → get_or (cells_at i) (cell_of places v) 0 ≡ value_at steps v
    lies v h e =
        let same : i + 1 - 1 ≡ i = omega arith in
        stored_read (value_at steps) steps places i (cells_at i) at.stored more v 0 h (ap (λ (u : ℕ). cites (get_or steps u no_step) v) same ∙ e)

    sum_is : sum_of (cells_at i) (row places (suc i) st) ≡ st.value
    sum_is =
        let j = (chain.cites i more).1 in
        let k = (chain.cites i more).0 in
        let a = lies st.j j (cites_first st) in
        let b = lies st.k (omega arith) (cites_second st) in
        let s = chain.sums i more in
        omega arith

    next : Holds (suc i)
    next =
        let r = row places (suc i) st in
        let one = one_in c (cell_of places 0) in
        let here : cells_at (suc i) ≡ set (cells_at i) (cell_of places (suc i)) (value_at steps (suc i)) =
        summed_push one (rows places steps i) r ∙ ap (set (cells_at i) (cell_of places (suc i))) (sum_is ∙ sym (value_suc steps i)) in
        let more-stored = stored_more (value_at steps) c steps places i (cells_at i) placing (omega (arith, at.long)) more at.stored in
        record {
          long = ap length here ∙ length-set (cells_at i) (cell_of places (suc i)) (value_at steps (suc i)) ∙ at.long;
          stored = subst (λ (z : List ℕ). Stored (value_at steps) steps places (suc i) z) (sym here)
              (subst (λ (z : ℕ). Stored (value_at steps) steps places z (set (cells_at i) (cell_of places z) (value_at steps z))) (add-one i) more-stored);
          values = sums_push one (rows places steps i) r ∙ ap (λ (z : ℕ). sums one (rows places steps i) ++ (z ∷ [])) sum_is
              ∙ ap (λ (z : List ℕ). z ++ (st.value ∷ [])) at.values ∙ sym (ap (map (λ x. x.value)) (take-suc steps i no_step more) ∙ map_push (λ x. x.value) (take i steps) st);
        }

  holds : (i : ℕ) → i ≤ length steps → Holds i
  holds zero h = first
  holds (suc i) h = next i (omega arith) (holds i (omega arith))

-- a run's records give the values of its plan
pub traced : {V : Type 0} (m : Meaning V) (s : State V) (x : V) (n : ℕ) (steps : List Step) (places : List ℕ)
    → Chain n steps → Placing (length s.cells) steps places
    → Traces (length s.cells) (cell_of places 0) steps s.log (after_run m s places steps x).log
traced m s x n steps places chain placing =
    let h = holds n (length s.cells) steps places chain placing (length steps) (omega arith) in
    record {
      added = rows places steps (length steps);
      kept = kept_rows m (loaded s (cell_of places 0) x) places steps (length steps);
      values = h.values ∙ ap (map (λ x. x.value)) (take_all (length steps) steps (omega arith));
    }
