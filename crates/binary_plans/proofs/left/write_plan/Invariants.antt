use Rattle.binary_plans.proofs.LeftPlans.{LeftLoop}
use Rattle.binary_plans.proofs.left.write_plan.Given as goal

abbrev pub invariant-loop-bit : goal.invariant-loop-bit
invariant-loop-bit l = LeftLoop l.n l.initial.places l.bit l.places l.len l.value
