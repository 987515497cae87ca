use Rattle.std.proofs.Common.{◌≡◌}
use Rattle.trimming.specs.Needed.{needed_of}
use Rattle.trimming.specs.Trim.{rank}
use Rattle.trimming.proofs.Marks.{Numbered}
use Rattle.trimming.proofs.marking.new_numbers.Given as goal

abbrev pub invariant-loop-mark : goal.invariant-loop-mark
invariant-loop-mark l =
    record {
      numbered : Numbered l.numbers.items (needed_of l.plan.steps.now) l.mark-index;
      count : l.count ≡ rank (needed_of l.plan.steps.now) l.mark-index;
    }
