use Rattle.std.proofs.Common.{rules, refl, arith}
use Rattle.bits.proofs.Tops.{top_low, top_high}
use Rattle.planning.proofs.Finishing.{finished}
use Rattle.planning.proofs.Powers.{top_one}
use Rattle.binary_plans.proofs.LeftPlans.{left_all_length, left_all_chain}
use Rattle.binary_plans.proofs.LeftRule.{left_to_right_rule}
use Rattle.binary_plans.proofs.left.left_to_right.Goals as goal

pub returns : goal.returns
returns c =
    let n = c.args.n in
    let ok = c.in_ok-check_request.ensures in
    let e = c.write_plan.ensures in
    let one = top_one n ok.positive (omega (arith, ok.bounded)) in
    let r = finished c.in-Some.ensures.cases e.count e.within e.after ok.positive ok.bounded refl (left_all_length n one) (left_all_chain n ok.positive ok.bounded one) in
    record {
      answer = search (rules, r.answer);
      after = search (rules, r.after);
      rule = left_to_right_rule;
      within = e.within;
      count = r.count;
      chain = search (rules, r.chain);
      highest = (top_low n ok.positive, top_high n);
    }
