use Rattle.std.proofs.Common.{◌≡◌, ℕ, ◌+◌, ◌≤◌, List, length, get_or, take, sym, ap, ◌∙◌, subst, arith, lit<}
use Rattle.std.proofs.lemmas.List.{get_or-take, length-take}
use Rattle.plans.specs.declared.step.Step.{Step}
use Rattle.placing.specs.Placing.{Supplied}
use Rattle.placing.specs.Supply.{supplied_cells}
use Rattle.placing.specs.Last.{LastOf}
use Rattle.placing.proofs.Supply.{first_length, supplied_cells_lem}
use Rattle.placing.proofs.Kept.{Filled, Put, put_written, put_push, filled_none, filled_next, filled_need, filled_supplied}
use Rattle.placing.proofs.cells.arrange.Goals as goal
use Rattle.placing.proofs.cells.arrange.Goals.{then-x-len, else-x-len}

pub loop-s-init : goal.loop-s-init
loop-s-init c = simp (c.new-cells.ensures, c.new-until.ensures) (filled_none c.args.plan.now.steps.now)

pub push-requires : goal.push-requires
push-requires c = (lit< tt, omega (arith, length-take (c.len.result + 1) c.last_citations-last.result))

pub push-requires-in-loop-s : goal.push-requires-in-loop-s
push-requires-in-loop-s c = (lit< tt, omega (arith, length-take (c.len.result + 1) c.last_citations-last.result, ap length c.loop-s.invariant.named, first_length c.args.plan.now.steps.now c.loop-s.s))

pub loop-s-preserved : goal.loop-s-preserved
loop-s-preserved c =
    let n : ℕ = get_or (take (c.len.result + 1) c.last_citations-last.result) c.loop-s.s 0 in
    let s : c.loop-s.s ≤ length c.args.plan.now.steps.now = omega (arith, length-take (c.len.result + 1) c.last_citations-last.result) in
    let last : LastOf c.args.plan.now.steps.now c.loop-s.s n =
    subst (LastOf c.args.plan.now.steps.now c.loop-s.s) (sym (get_or-take (c.len.result + 1) c.last_citations-last.result c.loop-s.s 0 (omega arith))) (c.last_citations-last.ensures c.loop-s.s s) in
    let put : Put c.loop-s.until.items c.if-x-len.until.items c.free_cell-x.result n = elim c.if-x-len.branch [
      | then-x-len w ↦ subst (λ v. Put c.loop-s.until.items v.items c.free_cell-x.result n) (sym w.until-is) (put_written c.loop-s.until.items w.deref_mut.result.now c.free_cell-x.result n w.deref_mut.ensures.value (omega arith))
      | else-x-len w ↦ subst (λ xs. Put c.loop-s.until.items xs c.free_cell-x.result n) (sym (ap (λ v. v.items) w.until-is ∙ w.push.ensures.items)) (put_push c.loop-s.until.items c.free_cell-x.result n (omega (arith, ap length c.deref.ensures.0)))
    ] in
    let found = c.free_cell-x.ensures in
    rw c.push-in-loop-s.ensures.items
    (filled_next c.args.plan.now.steps.now c.loop-s.s c.loop-s.cells.items c.loop-s.until.items c.if-x-len.until.items c.free_cell-x.result n s last
    (omega (arith, ap length c.deref.ensures.0))
    (λ y h. omega (arith, found.taken y h, ap (λ xs. get_or xs y 0) c.deref.ensures.0))
    (λ h. omega (arith, found.free (omega (arith, ap length c.deref.ensures.0)), ap (λ xs. get_or xs c.free_cell-x.result 0) c.deref.ensures.0))
    put c.loop-s.invariant)

pub returns : goal.returns
returns c =
    let steps : List Step = c.args.plan.now.steps.now in
    let end : c.loop-s.s ≡ length steps + 1 = omega (arith, length-take (c.len.result + 1) c.last_citations-last.result) in
    let f : Filled steps (length steps + 1) c.loop-s.cells.items c.loop-s.until.items = subst (λ n. Filled steps n c.loop-s.cells.items c.loop-s.until.items) end c.loop-s.invariant in
    let named : c.loop-s.cells.items ≡ supplied_cells steps = filled_supplied steps _ _ f in
    record { used = c.len-2.ensures.value ∙ filled_need steps _ _ f; cells = subst (Supplied steps) (sym named) (supplied_cells_lem steps); named = named }
