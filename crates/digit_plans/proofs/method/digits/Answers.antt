use Rattle.std.proofs.Common.{rules, ◌≡◌, ◌≤◌, true, arith}
use Rattle.std.proofs.lemmas.Bool.Decides.{nat_tests}
use Rattle.planning.proofs.Finishing.{finished}
use Rattle.digit_plans.proofs.DigitPlans.{digits_length_lem, digits_chain}
use Rattle.digit_plans.proofs.DigitRule.{digits_rule}
use Rattle.digit_plans.specs.Digits.{is_width}
use Rattle.digit_plans.proofs.method.digits.Goals as goal

pub returns : goal.returns
returns c =
    let n = c.args.n in
    let k = c.args.width in
    let w = c.in_ok-width.width in
    let ok = c.in_ok-check_request.ensures in
    let same : w.bits ≡ k = c.in_ok-width.ensures in
    let e = rw same at c.write_plan.ensures in
    let some : 1 ≤ k = omega (arith, same, w.low) in
    let allowed : is_width k ≡ true = grind (arith, nat_tests, same, w.low, w.high) in
    let r = finished c.in-Some.ensures.cases e.count e.within e.after ok.positive ok.bounded allowed (digits_length_lem k n some ok.positive ok.bounded) (digits_chain k n some ok.positive ok.bounded) in
    record { answer = search (rules, r.answer); after = search (rules, r.after); rule = digits_rule; within = e.within; count = r.count; chain = search (rules, r.chain) }
