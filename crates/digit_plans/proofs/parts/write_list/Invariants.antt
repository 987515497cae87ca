use Rattle.std.proofs.Common.{◌≡◌, ◌+◌, ◌-◌}
use lib.Seq.{sets}
use Rattle.digit_plans.specs.Digits.{count_from}
use Rattle.digit_plans.proofs.parts.write_list.Given as goal

abbrev pub invariant-loop-value : goal.invariant-loop-value
invariant-loop-value l =
    (l.steps.table.ghost_name ≡ l.initial.steps.table.ghost_name)
    × (l.steps.len + 1 ≡ l.value)
    × (sets l.steps.table.now l.steps.len (count_from (l.last - 1 - l.steps.len) l.steps.len) ≡ sets l.initial.steps.table.now 0 (count_from (l.last - 1) 0))
