use Rattle.std.proofs.Common.{length}
use Rattle.tree_plans.proofs.writing.+write_steps.Given as goal

abbrev pub decreases-write_steps : goal.decreases-write_steps
decreases-write_steps l = length l.path.now
