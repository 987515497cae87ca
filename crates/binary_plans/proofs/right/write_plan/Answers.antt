use Rattle.std.proofs.Common.{rules, ◌≡◌, ◌+◌, ◌<◌, ◌≤◌, ◌++◌, length, drop, set, refl, sym, ap, ◌∙◌, subst, arith}
use Rattle.planning.specs.declared.steps.StepWriter.{StepWriter}
use Rattle.planning.specs.Planning.{step}
use Rattle.planning.proofs.Writing.{table_of, len_of, added}
use Rattle.binary_plans.specs.RightToLeft.{right_to_left}
use Rattle.binary_plans.proofs.BothPlans.{Highest, highest}
use Rattle.binary_plans.proofs.RightPlans.{RightLoop, SumIsPositive, sum_number, sum_value, right_start, square_fits, right_turn_none, right_turn_first, right_turn_more, right_done_alone, right_done_last}
use Rattle.binary_plans.proofs.right.write_plan.Goals as goal
use Rattle.binary_plans.proofs.right.write_plan.Goals.{then-n-bit-eq1+in-None, then-n-bit-eq1+in-Some, else-n-bit-eq1, in-Some-sum, in_default, After-ilog2-bit-end}

high_bit : (c : After-ilog2-bit-end) → Highest c.args.n c.ilog2-bit-end.result
high_bit c = highest c.requires.bounded c.ilog2-bit-end.ensures.power_le c.ilog2-bit-end.ensures.next_power_gt

pub loop-bit-init : goal.loop-bit-init
loop-bit-init c =
    let e = c.new-steps.ensures in
    (refl, sym e.len, tt, rw (e.table, e.len) (right_start (omega arith) (high_bit c)))

pub loop-bit-preserved : goal.loop-bit-preserved
loop-bit-preserved c =
    let g = c.loop-bit.invariant in
    let more = c.loop-bit-test.true in
    let d = added c.unwrap-square.ensures c.add-in-loop-bit.ensures.written c.add-in-loop-bit.ensures.made in
    let steps = c.if-n-bit-eq1.steps in
    let sum = c.if-n-bit-eq1.sum in
    let turn : (steps.table.ghost_name ≡ c.loop-bit.steps.table.ghost_name)
    × SumIsPositive sum
    × RightLoop c.args.n c.ilog2-bit-end.result c.new-steps.result.table.now (c.loop-bit.bit + 1) (set steps.table.now steps.len (step c.loop-bit.steps.len c.loop-bit.steps.len (c.loop-bit.square.value + c.loop-bit.square.value))) (steps.len + 1) (c.loop-bit.square.value + c.loop-bit.square.value) (sum_number sum) (sum_value sum) =
    elim c.if-n-bit-eq1.branch [
      | then-n-bit-eq1+in-None w ↦ (
        ap (λ (x : StepWriter). x.table.ghost_name) w.steps-is,
        subst SumIsPositive (sym w.sum-is) (omega (arith, g.3.sum)),
        right_turn_first g.3 more (ap table_of w.steps-is) (ap len_of w.steps-is) (ap sum_number w.sum-is ∙ g.1) (ap sum_value w.sum-is) w.if-n-bit-eq1.true (ap sum_value w.in-None.is),
      )
      | then-n-bit-eq1+in-Some w ↦
          let e = added w.unwrap.ensures w.add.ensures.written w.add.ensures.made in
          let number = ap sum_number w.in-Some.is in
          let value = ap sum_value w.in-Some.is in
          let positive : 1 ≤ w.in-Some.low.value = subst SumIsPositive w.in-Some.is g.2 in (
            ap (λ (x : StepWriter). x.table.ghost_name) w.steps-is ∙ w.add.ensures.same_table,
            subst SumIsPositive (sym w.sum-is) (omega (arith, e.value)),
            right_turn_more g.3 more (ap table_of w.steps-is ∙ e.table ∙ rw (g.1, number, value) refl) (ap len_of w.steps-is ∙ e.len) (ap sum_number w.sum-is ∙ e.number ∙ e.len)
                (ap sum_value w.sum-is ∙ e.value ∙ rw value refl) w.if-n-bit-eq1.true (λ z. omega arith),
          )
      | else-n-bit-eq1 w ↦ (
        ap (λ (x : StepWriter). x.table.ghost_name) w.steps-is,
        subst SumIsPositive (sym w.sum-is) g.2,
        right_turn_none g.3 more (ap table_of w.steps-is) (ap len_of w.steps-is) (ap sum_number w.sum-is) (ap sum_value w.sum-is) w.if-n-bit-eq1.false,
      )
    ] in
    (c.add-in-loop-bit.ensures.same_table ∙ turn.0 ∙ g.0, d.number, turn.1, rw (d.table, d.len, d.value, g.1) turn.2)

pub unwrap-square-requires : goal.unwrap-square-requires
unwrap-square-requires c =
    let g = c.loop-bit.invariant.3 in
    let more = c.loop-bit-test.true in
    let room : c.if-n-bit-eq1.steps.len < 128 =
    elim c.if-n-bit-eq1.branch [
      | then-n-bit-eq1+in-None w ↦ omega (arith, ap len_of w.steps-is, g.room, g.short)
      | then-n-bit-eq1+in-Some w ↦
          let e = added w.unwrap.ensures w.add.ensures.written w.add.ensures.made in
          omega (arith, ap len_of w.steps-is, e.len, g.room, g.short)
      | else-n-bit-eq1 w ↦ omega (arith, ap len_of w.steps-is, g.room, g.short)
    ] in
    c.add-in-loop-bit.ensures.fits room (omega (arith, square_fits g more))

pub returns : goal.returns
returns c =
    let g = rw c.new-steps.ensures.table at c.loop-bit.invariant.3 in
    let number_is = c.loop-bit.invariant.1 in
    let steps = c.match-sum-2.steps in
    let end = c.loop-bit-test.false in
    let plan = right_to_left c.args.n in
    let r : (steps.len ≡ length plan) × (steps.table.now ≡ plan ++ drop (length plan) c.args.places.now) =
    elim c.match-sum-2.branch [
      | in-Some-sum w ↦
          let e = added w.unwrap-in-Some-sum.ensures w.add-in-Some-sum.ensures.written w.add-in-Some-sum.ensures.made in
          let number = ap sum_number w.in-Some-sum.is in
          let value = ap sum_value w.in-Some-sum.is in
          let positive : 1 ≤ w.in-Some-sum.low.value = subst SumIsPositive w.in-Some-sum.is c.loop-bit.invariant.2 in
          rw (w.steps-is, e.table, e.len, number_is, ← number, ← value) (right_done_last g end (λ z. omega arith))
      | in_default w ↦ rw w.steps-is (right_done_alone g end (ap sum_value w.in_default.is))
    ] in
    record { count = search (rules, r.0); within = search rules; after = search (rules, r.1) }
