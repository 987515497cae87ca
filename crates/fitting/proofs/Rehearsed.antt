-- A run in whole numbers from 1, and the sums that its records make. Assumes nothing.
use Rattle.std.proofs.Common.{◌≡◌, ℕ, suc, ◌^◌, ◌<◌, ◌≤◌, leb, List, [], ◌∷◌, ◌++◌, map, length, get_or, drop, set, replicate, Some, None, Option, sym, refl, ap, ◌∙◌, subst, ⊎_elim, arith, le-leb}
use lib.ListN.{length-map}
use Rattle.std.proofs.lemmas.List.{get_or_past}
use Rattle.std.proofs.lemmas.Bool.{cases_lt}
use Rattle.std.specs.Option.{option_map}
use Rattle.refusals.specs.declared.refusal.Refusal.TheVariants.{AllowanceBelow}
use Rattle.refusals.specs.Faults.{first, unless}
use Rattle.refusals.proofs.Firsts.{unless_none}
use Rattle.plans.specs.declared.step.Step.{Step}
use Rattle.plans.specs.Chain.{Chain, step_at}
use Rattle.plans.proofs.Values.{value_suc}
use Rattle.kinds.specs.declared.counts.Count.{Count}
use Rattle.kinds.specs.Counting.{counting}
use Rattle.units.specs.declared.record.Record.{Record}
use Rattle.units.specs.Units.{State}
use Rattle.banks.specs.Banks.{fresh}
use Rattle.run_sheet.specs.Sheets.{sheeted}
use Rattle.run_laws.specs.Runs.{run_fault, cell_of, Success}
use Rattle.run_laws.specs.Traces.{sum_of, sums, one_in}
use Rattle.fitting.specs.Fitting.{rehearsal_fault}
use Rattle.refusals.proofs.Answered.{first_last}

-- 1, as a count
abbrev pub one_count : Count
one_count = record { value = 1 }

-- a new bank of counts under a new run sheet
abbrev pub outset : State Count
outset = record { cells = replicate 32 None; left = 128; log = Some [] }

pub outset_is : (rows : List Record) (below : State Count) → rows ≡ [] → below ≡ fresh 128 → sheeted rows below ≡ outset
outset_is rows below p q = ap (λ (z : List Record). sheeted z below) p ∙ ap (λ (z : State Count). sheeted [] z) q

module _ (n : ℕ) (steps : List Step) (chain : Chain n steps) where
  outset_fault : run_fault counting outset steps one_count ≡ rehearsal_fault steps
  outset_fault =
      let enough : unless (leb (length steps) 128) (AllowanceBelow (length steps)) ≡ None = unless_none (leb (length steps) 128) (AllowanceBelow (length steps)) (le-leb (length steps) 128 chain.short) in
      ap (first (rehearsal_fault steps)) enough ∙ first_last (rehearsal_fault steps)

  pub fault_is : (s : State Count) → s ≡ outset → run_fault counting s steps one_count ≡ rehearsal_fault steps
  fault_is s e = ap (λ (z : State Count). run_fault counting z steps one_count) e ∙ outset_fault

  values_small : (i : ℕ) → get_or (map (λ x. x.value) steps) i 0 < 2 ^ 63
  values_small i =
      ⊎_elim
      (λ (h : i < length steps).
      let r = chain.rises i h in
      let b = chain.bounded in
      let v : get_or (map (λ x. x.value) steps) i 0 ≡ (step_at steps i).value = value_suc steps i in
      omega arith)
      (λ (h : length steps ≤ i).
      let long : length (map (λ x. x.value) steps) ≤ i = omega (arith, length-map steps (λ x. x.value)) in
      let v : get_or (map (λ x. x.value) steps) i 0 ≡ 0 = get_or_past (map (λ x. x.value) steps) i 0 long in
      omega arith)
      (cases_lt i (length steps))

  sums_long : (cells : List ℕ) (rs : List Record) → length (sums cells rs) ≡ length rs
  sums_long cells [] = refl
  sums_long cells (r ∷ rs) = ap (λ (z : ℕ). suc z) (sums_long (set cells r.to (sum_of cells r)) rs)

  -- after the run, with these records
  module _ (s : State Count) (begun : s ≡ outset) (y : Count) (t : State Count) (done : Success counting s n steps one_count y t)
      (rows : List Record) (logged : t.log ≡ Some rows) where
    rows_are : rows ≡ done.traces.added
    rows_are =
        let old : s.log ≡ Some [] = ap (λ (z : State Count). z.log) begun in
        let new : t.log ≡ Some done.traces.added = done.traces.kept ∙ ap (λ (z : Option (List Record)). option_map (λ l. l ++ done.traces.added) z) old in
        cc

    pub sums_are : (start : ℕ) → start ≡ 0 → sums (one_in 32 start) rows ≡ map (λ x. x.value) steps
    sums_are start h =
        let size : length s.cells ≡ 32 = ap (λ (z : State Count). length z.cells) begun in
        let first : start ≡ cell_of done.places 0 = h ∙ sym done.supplied.start in
        ap (λ (z : List Record). sums (one_in 32 start) z) rows_are
        ∙ ap (λ (z : ℕ). sums (one_in 32 z) done.traces.added) first
        ∙ ap (λ (z : ℕ). sums (one_in z (cell_of done.places 0)) done.traces.added) (sym size)
        ∙ done.traces.values

    pub len_is : length rows ≡ length steps
    len_is =
        sym (sums_long (one_in 32 0) rows) ∙ ap length (sums_are 0 refl) ∙ length-map steps (λ x. x.value)

    pub few : length rows ≤ 128
    few = let b = chain.short in omega (arith, len_is)

    pub sums_small : (start : ℕ) → start ≡ 0 → (i : ℕ) → get_or (sums (one_in 32 start) rows) i 0 < 2 ^ 63
    sums_small start h i = subst (λ (z : List ℕ). get_or z i 0 < 2 ^ 63) (sym (sums_are start h)) (values_small i)

    pub front_is : (start : ℕ) → start ≡ 0 → (was : List ℕ) → sums (one_in 32 start) rows ++ drop (length rows) was ≡ map (λ x. x.value) steps ++ drop (length steps) was
    front_is start h was =
        ap (λ (z : List ℕ). z ++ drop (length rows) was) (sums_are start h) ∙ ap (λ (z : ℕ). map (λ x. x.value) steps ++ drop z was) len_is
