use Rattle.std.proofs.Common.{◌≡◌, List, length, ap, arith}
use Rattle.plans.specs.declared.step.Step.{Step}
use Rattle.placing.proofs.Lasts.{noted_none, noted_more, noted_all}
use Rattle.placing.proofs.citations.last_citations.Goals as goal

pub loop-t-init : goal.loop-t-init
loop-t-init c = noted_none c.args.plan.now.steps.now

pub loop-t-preserved : goal.loop-t-preserved
loop-t-preserved c =
    simp (c.from.ensures, c.from-in-loop-t.ensures, c.steps-step-items.ensures.steps)
    (noted_more c.args.plan.now.steps.now c.loop-t.t c.loop-t.last c.loop-t.invariant)

pub returns : goal.returns
returns c =
    let steps : List Step = c.args.plan.now.steps.now in
    let end : c.loop-t.t ≡ length steps = omega (arith, ap length c.steps-step-items.ensures.steps) in
    noted_all steps c.loop-t.t c.loop-t.last c.args.plan.now.short end c.loop-t.invariant
