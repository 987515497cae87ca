use Rattle.std.proofs.Common.{◌≡◌, []}
use Rattle.power_tree.specs.Tree.{turned}
use Rattle.power_tree.specs.Growth.{path_onto, hang_all}
use Rattle.tree_plans.specs.Growing.{tree_of}
use Rattle.tree_plans.proofs.growing.GrowingTree.hang_all.Given as goal

-- the children that are left, hung to the tree so far, make the whole
abbrev pub invariant-loop-a : goal.invariant-loop-a
invariant-loop-a l =
    record {
      same_table : l.self.parents.ghost_name ≡ l.initial.self.parents.ghost_name;
      left : hang_all l.u (tree_of l.self) (turned l.a-iterator.iter.rest.now []) ≡ hang_all l.u (tree_of l.initial.self) (path_onto 19 (tree_of l.initial.self).parents l.u []);
    }
