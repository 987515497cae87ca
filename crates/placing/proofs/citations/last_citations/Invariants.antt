use Rattle.placing.proofs.Lasts.{Noted}
use Rattle.placing.proofs.citations.last_citations.Given as goal

abbrev pub invariant-loop-t : goal.invariant-loop-t
invariant-loop-t l = Noted l.plan.steps.now l.t l.last
