use Rattle.trimming.specs.Needed.{needed_of}
use Rattle.trimming.proofs.Marks.{Writing}
use Rattle.trimming.proofs.trimmer.trim.Given as goal

abbrev pub invariant-loop-i : goal.invariant-loop-i
invariant-loop-i l = Writing (needed_of l.plan.steps.now) l.plan.steps.now l.initial.table l.table l.i
