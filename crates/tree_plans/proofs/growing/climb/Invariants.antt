use Rattle.std.proofs.Common.{◌-◌, ◌<◌, length}
use Rattle.tree_plans.proofs.Climbing.{Climbing}
use Rattle.tree_plans.proofs.growing.climb.Given as goal

abbrev pub invariant-loop-v : goal.invariant-loop-v
invariant-loop-v l = record { small : l.v < 65536; climbing : Climbing l.parents l.u l.v l.path.items }

abbrev pub decreases-loop-v : goal.decreases-loop-v
decreases-loop-v l = 19 - length l.path.items
