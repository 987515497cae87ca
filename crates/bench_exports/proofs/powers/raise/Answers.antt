use Rattle.std.proofs.Common.{◌≡◌, ℕ, List, length, take, replicate, sym, refl, ap, ◌∙◌, subst, arith}
use Rattle.std.proofs.lemmas.List.{length-take-le}
use Rattle.plans.specs.declared.step.Step.{Step}
use Rattle.plans.specs.Chain.{Chain}
use Rattle.bench_exports.proofs.Raising.{raised_refused, raised_made}
use Rattle.bench_exports.proofs.powers.raise.Goals as goal

pub returns-in_err-straight_run : goal.returns-in_err-straight_run
returns-in_err-straight_run c =
    let n : ℕ = c.args.n in
    let steps : List Step = c.in_ok-plan.plan.steps.now in
    let chain : Chain n steps = subst (Chain n) (sym c.in_ok-plan.ensures.plan.1) (c.in_ok-plan.ensures.exactly.0 refl) in
    record {
      value = raised_refused c.args.kind.now.modulus.value c.args.base n steps chain _ _ c.in_err-straight_run.ensures.answer
          c.from_residual-in_err-straight_run.ensures.1;
    }

pub returns : goal.returns
returns c =
    let n : ℕ = c.args.n in
    let steps : List Step = c.in_ok-plan.plan.steps.now in
    let same : steps ≡ take c.in_ok-len.len c.left_to_right.new.table = c.in_ok-plan.ensures.plan.1 in
    let chain : Chain n steps = subst (Chain n) (sym same) (c.in_ok-plan.ensures.exactly.0 refl) in
    let len : c.in_ok-len.len ≡ length steps =
    sym (ap length same ∙ length-take-le c.in_ok-len.len c.left_to_right.new.table (omega (arith, c.in_ok-len.ensures.within, c.left_to_right.auto.table))) in
    record {
      value = raised_made c.args.kind.now.modulus.value c.args.base n steps chain c.in_ok-len.len _ (replicate 129 c.args.base) _ len refl
          c.in_ok-straight_run.ensures.answer c.in_ok-straight_run.ensures.after;
    }
