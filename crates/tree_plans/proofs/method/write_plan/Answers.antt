use Rattle.std.proofs.Common.{◌≡◌, ◌∙◌, arith}
use Rattle.power_tree.specs.Tree.{tree_path}
use Rattle.tree_plans.proofs.Planned.{climbed, plan_written}
use Rattle.tree_plans.proofs.method.write_plan.Goals as goal

pub returns : goal.returns
returns c =
    let n = c.args.n in
    let path : c.deref.result.now ≡ tree_path n = c.deref.ensures.0 ∙ climbed n c.climb.result.items c.args.parents.now c.climb.ensures c.requires.tree c.requires.positive c.requires.within in
    let w = c.write_steps.ensures in
    let p = plan_written n c.write_steps.result _ c.args.places.now _ path w.count (omega arith) w.after in
    record { count = p.0; after = p.1 }
