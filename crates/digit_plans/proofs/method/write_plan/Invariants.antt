use Rattle.std.proofs.Common.{◌≡◌, ◌+◌, length}
use lib.Seq.{sets}
use Rattle.digit_plans.specs.Digits.{digits_from}
use Rattle.digit_plans.proofs.DigitLoop.{Turning}
use Rattle.digit_plans.proofs.method.write_plan.Given as goal

abbrev pub invariant-loop-place : goal.invariant-loop-place
invariant-loop-place l =
    (l.steps.table.ghost_name ≡ l.initial.steps.table.ghost_name)
    × Turning l.fn.width.bits l.n l.place l.steps.table.now l.steps.len l.last.number l.last.value
    (sets l.initial.steps.table.now l.initial.steps.len (digits_from l.fn.width.bits l.n l.below l.initial.steps.len l.initial.last.number l.initial.last.value))
    (l.initial.steps.len + length (digits_from l.fn.width.bits l.n l.below l.initial.steps.len l.initial.last.number l.initial.last.value))
