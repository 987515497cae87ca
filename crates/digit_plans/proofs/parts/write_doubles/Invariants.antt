use Rattle.std.proofs.Common.{◌≡◌}
use Rattle.digit_plans.proofs.Doubling.{Doubling}
use Rattle.digit_plans.proofs.parts.write_doubles.Given as goal

abbrev pub invariant-loop-bit : goal.invariant-loop-bit
invariant-loop-bit l =
    (l.steps.table.ghost_name ≡ l.initial.steps.table.ghost_name)
    × Doubling l._bit-end l.fn.from.value l.fn.from.number l.initial.steps.len l.initial.steps.table.now l._bit l.steps.table.now l.steps.len l.source.number l.source.value
