use Rattle.std.proofs.Common.{◌+◌}
use Rattle.straight_runs.specs.Straight.{powers_of}
use Rattle.straight_runs.proofs.Straight.{Holds}
use Rattle.straight_runs.proofs.run.straight_run.Given as goal

abbrev pub invariant-loop-i : goal.invariant-loop-i
invariant-loop-i g l = Holds (powers_of (g.K.Kind.kind l.kind) l.steps l.fn.base) l.initial.powers l.powers (l.i + 1)
