use Rattle.placing.proofs.Kept.{Filled}
use Rattle.placing.proofs.cells.arrange.Given as goal

abbrev pub invariant-loop-s : goal.invariant-loop-s
invariant-loop-s l = Filled l.plan.steps.now l.s l.cells.items l.until.items
