-- What placing answers and leaves, case by case. Assumes nothing.
use Rattle.std.proofs.Common.{◌≡◌, ℕ, ◌+◌, ◌<◌, ◌≤◌, List, ◌++◌, length, drop, Ok, Err, Result, sym, ap, ◌∙◌, subst}
use Rattle.std.proofs.Math.Seq.{drop-append_seam}
use Rattle.std.proofs.lemmas.Bool.{lt-leb, le-leb}
use Rattle.refusals.specs.declared.refusal.Refusal.{Refusal}
use Rattle.refusals.specs.declared.refusal.Refusal.TheVariants.{TableShort, NeedAbove}
use Rattle.refusals.specs.Faults.{answer}
use Rattle.plans.specs.declared.step.Step.{Step}
use Rattle.placing.specs.Placing.{need, Supplied}
use Rattle.placing.specs.Supply.{supplied_cells}
use Rattle.placing.proofs.Supply.{length_supplied, supplied_cells_lem, front_supplied}
use Rattle.placing.specs.Answer.{place_fault, Leaves, LeavesCells}

pub placed_short : (steps : List Step) (c places : ℕ) → places < 129 → Err (TableShort 129) ≡ answer (place_fault steps c places) (need steps)
placed_short steps c places h = let a = lt-leb _ _ h in simp a

pub placed_above : (steps : List Step) (c places n : ℕ) → 129 ≤ places → n ≡ need steps → c < n → Err (NeedAbove n) ≡ answer (place_fault steps c places) (need steps)
placed_above steps c places n h e l =
    let a = le-leb _ _ h in let b = rw e at (lt-leb _ _ l) in simp (a, b, e)

pub placed_ok : (steps : List Step) (c places n : ℕ) → 129 ≤ places → n ≡ need steps → n ≤ c → Ok n ≡ answer (place_fault steps c places) (need steps)
placed_ok steps c places n h e l =
    let a = le-leb _ _ h in let b = rw e at (le-leb _ _ l) in simp (a, b, e)

-- the cells go into the first places of the table, and the rest stays
pub leaves_cells : (steps : List Step) (table part : List ℕ) (k n : ℕ) → k ≡ length part → part ≡ supplied_cells steps → LeavesCells steps table (part ++ drop k table) (Ok n)
leaves_cells steps table part k n e is =
    let l : k ≡ length steps + 1 = e ∙ ap length is ∙ length_supplied steps in
    rw (is, l)

-- what stands behind the supplied cells
pub rest_supplied : (steps : List Step) (table rest : List ℕ) → table ≡ supplied_cells steps ++ rest → drop (length steps + 1) table ≡ rest
rest_supplied steps table rest e =
    ap (drop (length steps + 1)) e ∙ ap (λ (k : ℕ). drop k (supplied_cells steps ++ rest)) (sym (length_supplied steps)) ∙ drop-append_seam (supplied_cells steps) rest

-- those places hold the supplied placing, and the rest is as it was
pub leaves_named : (steps : List Step) (old new : List ℕ) (r : Result ℕ Refusal) → LeavesCells steps old new r → Leaves steps old new r
leaves_named steps old new (Err e) h = h
leaves_named steps old new (Ok n) h = (
  subst (Supplied steps) (sym (front_supplied steps new (drop (length steps + 1) old) h)) (supplied_cells_lem steps),
  rest_supplied steps new (drop (length steps + 1) old) h,
)

pub leaves_ok : (steps : List Step) (table part : List ℕ) (k n : ℕ) → k ≡ length part → part ≡ supplied_cells steps → Leaves steps table (part ++ drop k table) (Ok n)
leaves_ok steps table part k n e is = leaves_named steps table (part ++ drop k table) (Ok n) (leaves_cells steps table part k n e is)
