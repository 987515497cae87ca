use Rattle.std.proofs.Common.{ℕ, ◌-◌, length, List, slice_index, sym, ap, ◌∙◌, arith}
use Rattle.power_tree.specs.Growth.{Growth}
use Rattle.power_tree.proofs.Turns.{level_more, level_room, level_longer, turns_none}
use Rattle.tree_plans.specs.Growing.{tree_of}
use Rattle.tree_plans.proofs.growing.GrowingTree.grow_level.Goals as goal

pub hang_all-requires : goal.hang_all-requires
hang_all-requires c =
    let l = c.loop-k in
    let u = ap (λ (xs : List ℕ). slice_index xs l.k) c.deref.ensures.0 in
    record { room = level_room (tree_of l.self) _ _ l.k (length c.args.self.now.order.items) 1024 (omega arith) u l.invariant.left c.requires.room }

pub loop-k-preserved : goal.loop-k-preserved
loop-k-preserved c =
    let l = c.loop-k in
    let next : Growth = tree_of c.hang_all.new.self in
    let u = ap (λ (xs : List ℕ). slice_index xs l.k) c.deref.ensures.0 in
    record {
      same_table = c.hang_all.ensures.same_table ∙ l.invariant.same_table;
      longer = omega (arith, l.invariant.longer, level_longer (tree_of l.self) next _ c.hang_all.ensures.tree);
      left = level_more (tree_of l.self) next _ _ l.k (length c.args.self.now.order.items) (omega arith) u c.hang_all.ensures.tree l.invariant.left;
    }

pub returns-clause-tree : goal.returns-clause-tree
returns-clause-tree c =
    let l = c.loop-k in
    sym (turns_none (length c.args.self.now.order.items - l.k) l.k (tree_of l.self) (omega arith)) ∙ l.invariant.left
