use Rattle.std.proofs.Common.{◌≡◌, length}
use Rattle.run_laws.specs.Traces.{sums, one_in}
use Rattle.fitting.proofs.Working.{Worked}
use Rattle.fitting.proofs.records.work_records.Given as goal

abbrev pub invariant-loop-i : goal.invariant-loop-i
invariant-loop-i l =
    (length l.cells ≡ 32) × (length l.out ≡ 128)
    × Worked (sums (one_in 32 l.start) l.records) l.records l.initial.out l.out l.cells l.i
