use Rattle.std.proofs.Common.{◌≡◌, ◌-◌, ◌≤◌, length}
use Rattle.power_tree.specs.Growth.{stage, stage_at}
use Rattle.tree_plans.specs.Growing.{tree_of}
use Rattle.tree_plans.proofs.growing.grow.Given as goal

-- the tree so far has a level more at each turn
abbrev pub invariant-loop-level : goal.invariant-loop-level
invariant-loop-level l =
    record {
      same_table : l.tree.parents.ghost_name ≡ l.initial.tree.parents.ghost_name;
      level : l.from ≤ length l.tree.order.items;
      grown : stage (tree_of l.tree) l.from ≡ stage_at (l._level - 1);
    }
