use Rattle.std.proofs.Common.{◌≡◌}
use Rattle.binary_plans.proofs.RightPlans.{RightLoop, SumIsPositive, sum_number, sum_value}
use Rattle.binary_plans.proofs.right.write_plan.Given as goal

abbrev pub invariant-loop-bit : goal.invariant-loop-bit
invariant-loop-bit l =
    (l.steps.table.ghost_name ≡ l.initial.steps.table.ghost_name)
    × (l.square.number ≡ l.steps.len)
    × SumIsPositive l.sum
    × RightLoop l.n l.bit-end l.initial.steps.table.now l.bit l.steps.table.now l.steps.len l.square.value (sum_number l.sum) (sum_value l.sum)
