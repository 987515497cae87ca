use Rattle.std.proofs.Common.{◌≡◌, ◌≤◌, length, take, Ok, sym, refl, ◌∙◌, arith}
use Rattle.std.proofs.lemmas.List.{length-take-le}
use Rattle.std.proofs.lemmas.Result.{err_from_is_err_and}
use Rattle.std.proofs.lemmas.Bool.Decides.{nat_tests}
use Rattle.plans.specs.Admission.{step_answer}
use Rattle.plans.proofs.Values.{value_take}
use Rattle.plans.proofs.Admissions.{kept_from_ok, answer_before, answer_here, refused_here, ended_here, below_next}
use Rattle.plans.proofs.admit.check_chain.Goals as goal

pub check_step-requires-clause-below : goal.check_step-requires-clause-below
check_step-requires-clause-below c = λ m h.
    let l : length (take c.loop-i.i c.args.steps.now) ≡ c.loop-i.i = length-take-le c.loop-i.i c.args.steps.now (omega arith) in
    let k : m ≤ c.loop-i.i = omega arith in
    rw (value_take c.args.steps.now c.loop-i.i m (omega arith) k) (c.loop-i.invariant.1 m k)

pub returns-in_err-check_step : goal.returns-in_err-check_step
returns-in_err-check_step c =
    let p = err_from_is_err_and c.from_residual.result c.from_residual.ensures.1 in
    let e = sym (answer_before c.args.n c.args.steps.now c.loop-i.i (omega arith)) ∙ sym c.in_err-check_step.ensures in
    rw (p.1, p.2)
    (sym (refused_here c.args.n c.args.steps.now c.loop-i.i (omega arith) (omega arith) (omega arith) c.loop-i.invariant.0 c.in_err-check_step.field-0.0 (omega arith) e))

pub loop-i-preserved : goal.loop-i-preserved
loop-i-preserved c =
    let e : step_answer c.args.n c.args.steps.now c.loop-i.i ≡ Ok tt = sym (answer_before c.args.n c.args.steps.now c.loop-i.i (omega arith)) ∙ sym c.in_ok-check_step.ensures in
    let k = kept_from_ok c.args.n c.args.steps.now c.loop-i.i e in (
      c.loop-i.invariant.0 ∙ answer_here c.args.n c.args.steps.now c.loop-i.i (omega arith) ∙ rw e refl,
      below_next c.args.n c.args.steps.now c.loop-i.i c.loop-i.invariant.1 k,
    )
