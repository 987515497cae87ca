use Rattle.std.proofs.Common.{arith}
use Rattle.binary_plans.proofs.BothPlans.{Highest, highest}
use Rattle.binary_plans.proofs.LeftPlans.{left_first, left_turn_none, left_turn_one, left_done}
use Rattle.binary_plans.proofs.left.write_plan.Goals as goal
use Rattle.binary_plans.proofs.left.write_plan.Goals.{After-ilog2-bit}

high_bit : (c : After-ilog2-bit) → Highest c.args.n c.ilog2-bit.result
high_bit c = highest c.requires.bounded c.ilog2-bit.ensures.power_le c.ilog2-bit.ensures.next_power_gt

pub loop-bit-init : goal.loop-bit-init
loop-bit-init c = left_first (omega arith) (high_bit c)

pub loop-bit-preserved-then-n-bit-eq1 : goal.loop-bit-preserved-then-n-bit-eq1
loop-bit-preserved-then-n-bit-eq1 c = left_turn_one c.loop-bit.invariant (omega arith) c.if-n-bit-eq1.true

pub loop-bit-preserved : goal.loop-bit-preserved
loop-bit-preserved c = left_turn_none c.loop-bit.invariant (omega arith) c.if-n-bit-eq1.false

pub returns : goal.returns
returns c =
    let r = left_done c.loop-bit.invariant (omega arith) in
    record { count = r.0; within = omega (arith, c.loop-bit.invariant.room); after = r.1 }
