use Rattle.std.proofs.Common.{◌≡◌, ℕ, ◌+◌, ◌-◌, ◌<◌, Bool, false, List, get_or, take, drop, ap, ◌∙◌, arith, length-take, get_or-take}
use Rattle.std.proofs.lemmas.Grind.{get_or_after_one}
use Rattle.trimming.specs.Needed.{needed_of}
use Rattle.trimming.proofs.Marks.{numbered_more, count_more}
use Rattle.trimming.proofs.marking.new_numbers.Goals as goal

pub loop-mark-preserved : goal.loop-mark-preserved
loop-mark-preserved c =
    let l = c.loop-mark in
    let kept = needed_of c.args.plan.now.steps.now in
    let marks : List Bool = c.needed_marks-marks.result in
    let n : ℕ = c.len.result + 1 - 1 in
    let h : l.mark-index < n = omega (arith, length-take n (drop 1 marks)) in
    let next : 1 + l.mark-index ≡ l.mark-index + 1 = omega arith in
    let mark : get_or (take n (drop 1 marks)) l.mark-index false ≡ get_or marks (l.mark-index + 1) false =
    get_or-take n (drop 1 marks) l.mark-index false h ∙ get_or_after_one marks l.mark-index false ∙ ap (λ (k : ℕ). get_or marks k false) next in
    let count = count_more kept l.mark-index l.count c.from-count.result _ l.invariant.count c.from-count.ensures (mark ∙ c.needed_marks-marks.ensures.marked (l.mark-index + 1) (omega arith)) in
    record { numbered = rw c.push-in-loop-mark.ensures.items (numbered_more l.numbers.items kept l.mark-index _ l.invariant.numbered count); count = count }
