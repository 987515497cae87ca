use Rattle.std.proofs.Common.{rules, ◌≡◌, ◌/◌, ◌≤◌, List, ◌++◌, length, drop, refl, ap, ◌∙◌, arith}
use lib.Seq.{sets}
use Rattle.plans.specs.declared.step.Step.{Step}
use Rattle.digit_plans.specs.Digits.{digits_plan}
use Rattle.digit_plans.proofs.DigitLoop.{turn, turned, Listed, listed, top_positive, top_small, listed_table, listed_count, turning_first, turning_last, counted_only, sets_front}
use Rattle.digit_plans.proofs.method.write_plan.Goals as goal
use Rattle.digit_plans.proofs.method.write_plan.Goals.{After-ilog2, at-listed-last-requires, at-loop-place-init, at-returns}

-- steps that are written from the front of the places
front : (plan : List Step) {was now old : List Step} → was ≡ old → length old ≡ 128 → length plan ≤ 128 → now ≡ sets was 0 plan → now ≡ plan ++ drop (length plan) old
front plan {was} {now} {old} e l s h = h ∙ ap (λ (t : List Step). sets t 0 plan) e ∙ sets_front old plan (omega arith)

pub returns-then-n-m : goal.returns-then-n-m
returns-then-n-m c =
    let e = c.write_list.ensures in
    let r = counted_only c.args.width.bits c.args.n _ (omega (arith, c.if-n-m.true, c.digit_count-m.ensures.is)) e.count e.after in
    let after = front (digits_plan c.args.width.bits c.args.n) c.new-steps.ensures.table (omega arith) (omega (arith, r.0, c.len.ensures.count, c.len.ensures.within)) r.1 in
    record { count = c.len.ensures.count ∙ r.0; within = c.len.ensures.within; after = search (rules, after) }

-- the list is written, and the top digit is at hand
start : (c : After-ilog2) → Listed c.args.width.bits c.args.n c.digit_count-m.result c.new-steps.result.table.now c.write_list-2.new.steps.table.now c.write_list-2.new.steps.len (c.ilog2.result / c.args.width.bits)
start c = listed c.digit_count-m.ensures.is c.if-n-m.false c.write_list-2.ensures.after c.write_list-2.ensures.count c.ilog2.ensures.bound c.ilog2.ensures.power_le c.ilog2.ensures.next_power_gt

pub listed-last-requires : goal.listed-last-requires
listed-last-requires c =
    let w = c.args.width in
    let m = c.digit_count-m.ensures in
    let l = start (at-listed-last-requires c).After-ilog2 in
    record { low = top_positive l w.low c.requires.bounded; high = omega (arith, top_small l w.low c.requires.bounded, m.is, m.high) }

pub loop-place-init : goal.loop-place-init
loop-place-init c =
    let w = c.args.width in
    let e = c.listed-last.ensures in
    (refl, rw (e.number, e.value) (turning_first (start (at-loop-place-init c).After-ilog2) w.low w.high c.requires.bounded))

pub write_digit-last-requires : goal.write_digit-last-requires
write_digit-last-requires c =
    let g = c.loop-place.invariant.1 in
    let u = turn c.digit_count-m.ensures.is c.loop-place-test.true g in
    record { digit = u.digit; positive = g.positive; bounded = omega (arith, u.within); room = omega (arith, u.room) }

pub loop-place-preserved : goal.loop-place-preserved
loop-place-preserved c =
    let g = c.loop-place.invariant in
    let e = c.write_digit-last.ensures in
    (e.same_table ∙ g.0, turned c.digit_count-m.ensures.is c.loop-place-test.true g.1 _ _ _ _ e.after e.count e.number e.value)

pub returns : goal.returns
returns c =
    let g = c.loop-place.invariant in
    let l = start (at-returns c).After-ilog2 in
    let r = turning_last (omega arith) g.1 in
    let e = c.listed-last.ensures in
    let plan = digits_plan c.args.width.bits c.args.n in
    let count : c.loop-place.steps.len ≡ length plan = r.1 ∙ rw (e.number, e.value) (listed_count l) in
    let after = front plan c.new-steps.ensures.table (omega arith) (omega (arith, count, g.1.room)) (r.0 ∙ rw (e.number, e.value) (listed_table l)) in
    record { count = c.len-2.ensures.count ∙ count; within = c.len-2.ensures.within; after = search (rules, after) }
