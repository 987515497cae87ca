use Rattle.std.proofs.Common.{rules, arith}
use Rattle.factor_plans.proofs.Factors.{factor_room, plan_written}
use Rattle.factor_plans.proofs.factoring.write_plan.Goals as goal

pub factor_into-requires : goal.factor_into-requires
factor_into-requires c =
    let s = factor_room c.args.n c.requires.positive c.requires.bounded in
    record { low = c.requires.positive; high = omega arith; room = omega (arith, s.0, c.new-steps.ensures.len); number = search rules }

pub returns : goal.returns
returns c =
    let n = c.args.n in
    let e = c.factor_into.ensures in
    let s = factor_room n c.requires.positive c.requires.bounded in
    let p = plan_written n c.new-steps.result.len c.factor_into.new.steps.len c.args.places.now c.new-steps.result.table.now c.factor_into.new.steps.table.now (omega (arith, s.0)) c.new-steps.ensures.table c.new-steps.ensures.len e.table e.len in
    record { count = search (rules, p.0); within = search rules; after = search (rules, p.1) }
