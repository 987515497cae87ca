use Rattle.std.proofs.Common.{◌≡◌, true, leb, rules, refl, arith}
use Rattle.planning.proofs.Finishing.{finished}
use Rattle.factor_plans.proofs.Factors.{factor_rule, factor_room}
use Rattle.factor_plans.proofs.Scaled.{factor_chain}
use Rattle.factor_plans.proofs.factoring.factor.Goals as goal

pub returns : goal.returns
returns c =
    let n = c.args.n in
    let ok = c.in_ok-check_request.ensures in
    let e = c.write_plan.ensures in
    let s = factor_room n ok.positive ok.bounded in
    let allowed : leb n 4294967295 ≡ true = ok.allowed in
    let r = finished c.in-Some.ensures.cases e.count e.within e.after ok.positive ok.bounded allowed refl (λ _. factor_chain n ok.positive ok.bounded) in
    record {
      answer = search (rules, r.answer);
      after = search (rules, r.after);
      rule = factor_rule;
      within = e.within;
      short = omega (arith, s.1, r.count);
      chain = search (rules, r.chain);
    }
