use Rattle.std.proofs.Common.{◌≡◌, ◌+◌, ◌-◌, refl, ap, ◌∙◌, arith}
use Rattle.std.proofs.lemmas.Grind.{common_steps}
use Rattle.power_tree.specs.Growth.{Growth, stage, stage_at, grown_parents}
use Rattle.power_tree.proofs.Turns.{stage_first, stage_more, stage_space, stage_longer, stage_last}
use Rattle.tree_plans.specs.Growing.{tree_of}
use Rattle.tree_plans.proofs.growing.grow.Goals as goal

pub loop-level-init : goal.loop-level-init
loop-level-init c = record { same_table = refl; level = omega arith; grown = ap (λ (g : Growth). stage g 0) c.first-tree.ensures.tree ∙ stage_first }

pub grow_level-requires : goal.grow_level-requires
grow_level-requires c =
    let l = c.loop-level in
    record { level = l.invariant.level; room = stage_space (l._level - 1) l.from (tree_of l.tree) (omega arith) l.invariant.grown }

pub loop-level-preserved : goal.loop-level-preserved
loop-level-preserved c =
    let l = c.loop-level in
    let next : Growth = tree_of c.grow_level.new.self in
    let n = c.len-to.ensures.value in
    let m : l._level - 1 + 1 ≡ l._level + 1 - 1 = omega arith in
    record {
      same_table = c.grow_level.ensures.same_table ∙ l.invariant.same_table;
      level = omega (arith, n, stage_longer l.from (tree_of l.tree) next c.grow_level.ensures.tree);
      grown = ap (stage next) n ∙ stage_more (l._level - 1) l.from (tree_of l.tree) next l.invariant.grown c.grow_level.ensures.tree ∙ ap stage_at m;
    }

pub returns : goal.returns
returns c =
    let l = c.loop-level in
    let grown : l.tree.parents.now ≡ grown_parents = stage_last (tree_of l.tree) l.from (l._level - 1) (omega arith) l.invariant.grown in
    let same = l.invariant.same_table ∙ c.first-tree.ensures.same_table in
    grind (arith, common_steps, grown, same)
