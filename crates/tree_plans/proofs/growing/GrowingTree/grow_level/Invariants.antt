use Rattle.std.proofs.Common.{◌≡◌, ◌-◌, ◌≤◌, length}
use Rattle.power_tree.specs.Growth.{turns}
use Rattle.tree_plans.specs.Growing.{tree_of}
use Rattle.tree_plans.proofs.growing.GrowingTree.grow_level.Given as goal

-- the turns that are left, from the tree so far, make the whole
abbrev pub invariant-loop-k : goal.invariant-loop-k
invariant-loop-k l =
    record {
      same_table : l.self.parents.ghost_name ≡ l.initial.self.parents.ghost_name;
      longer : length l.initial.self.order.items ≤ length l.self.order.items;
      left : turns (length l.initial.self.order.items - l.k) l.k (tree_of l.self) ≡ turns (length l.initial.self.order.items - l.from) l.from (tree_of l.initial.self);
    }
