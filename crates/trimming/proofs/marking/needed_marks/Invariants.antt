use Rattle.std.proofs.Common.{◌≡◌}
use Rattle.trimming.proofs.Marks.{Marking}
use Rattle.trimming.proofs.marking.needed_marks.Given as goal

abbrev pub invariant-loop-i : goal.invariant-loop-i
invariant-loop-i l =
    record {
      from_first : l.i-iterator.iter.count ≡ 0;
      marking : Marking l.plan.steps.now l.i-iterator.iter.iter.rest.now l.marks;
    }
