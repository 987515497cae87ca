use Rattle.std.proofs.Common.{◌≡◌, ◌∙◌, arith}
use Rattle.trimming.proofs.Marks.{marking_start, marking_yes, marking_no, marking_all}
use Rattle.trimming.proofs.marking.needed_marks.Goals as goal

pub loop-i-init : goal.loop-i-init
loop-i-init c =
    let all : c.into_iter-i-iterator.result.iter.iter.rest.now ≡ c.args.plan.now.steps.now = cc in
    let none : c.into_iter-i-iterator.result.iter.count ≡ 0 = cc in
    let same : c.steps-steps.result.now ≡ c.into_iter-i-iterator.result.iter.iter.rest.now = cc in
    record { from_first = none; marking = rw same (marking_start c.args.plan.now.steps.now c.into_iter-i-iterator.result.iter.iter.rest.now all c.args.plan.now.short) }

pub loop-i-preserved-then-marks-i : goal.loop-i-preserved-then-marks-i
loop-i-preserved-then-marks-i c =
    let e = c.in-Some.ensures.steps in
    let l = c.loop-i in
    record {
      from_first = e.0 ∙ l.invariant.from_first;
      marking =
          marking_yes _ _ _ c.in-Some.step.now _ c.in-Some.i c.args.plan.now.short e.1.0 (omega (arith, e.1.1, l.invariant.from_first)) l.invariant.marking
          c.from.result c.from-then-marks-i.result c.args.plan.now.cites c.from.ensures c.from-then-marks-i.ensures c.if-marks-i.true;
    }

pub returns : goal.returns
returns c = record { marked = marking_all _ _ _ c.in-None.ensures.steps.1.0 c.loop-i.invariant.marking }
