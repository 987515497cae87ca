-- What a growing tree is, and a path that was climbed in it. Assumes nothing.
use Rattle.power_tree.specs.Growth.{Growth, growth}
use Rattle.tree_plans.specs.declared.growing.GrowingTree.{GrowingTree}

-- the parents and the numbers of a growing tree
abbrev pub tree_of : GrowingTree → Growth
tree_of t = growth t.parents.now t.order.items
