use Rattle.std.proofs.Common.{◌≡◌, ◌≤◌, List, length, take, Ok, Result, refl, ap, ◌∙◌, subst, rules}
use Rattle.refusals.specs.declared.refusal.Refusal.{Refusal}
use Rattle.refusals.proofs.Answered.{exit_is, unchanged_err}
use Rattle.plans.specs.declared.step.Step.{Step}
use Rattle.sheets.specs.Reading.{read_sheet, counted, filled}
use Rattle.runs.specs.Answers.{run_answer, Ran}
use Rattle.jobs.specs.declared.job_refusal.JobRefusal.{JobRefusal}
use Rattle.jobs.specs.declared.stage.Stage.TheVariants.{Admission, Running}
use Rattle.jobs.proofs.Stages.{read_left, read_is, read_fits, on_ok, unread_answer, unread_after, stopped_answer, stopped_after, worked_answer, worked_after, as_asked, kept_on}
use Rattle.jobs.proofs.carrying.job.Goals as goal

pub slice_bounds-new-end : goal.slice_bounds-new-end
slice_bounds-new-end g c =
    let room = length c.args.table.now in
    let sheet : Result (List Step) Refusal = read_sheet c.new-reader.result.text.now room in
    let fits : c.in_ok-count.count ≤ length c.read.new.table =
    read_fits sheet sheet refl c.args.table.now c.read.new.table c.read.result c.in_ok-count.count
    c.read.ensures.answer c.in_ok-count.ensures.value c.read.ensures.after in
    search rules

pub returns-in_err-count : goal.returns-in_err-count
returns-in_err-count g c =
    let u = c.args.unit.now in
    let m = g.U.Kind.kind u in
    let s = g.U.Unit.state u in
    let n = c.args.n in
    let x = c.args.base in
    let table : List Step = c.args.table.now in
    let sheet : Result (List Step) Refusal = read_sheet c.args.text.now (length table) in
    let same : read_sheet c.new-reader.result.text.now (length table) ≡ sheet = ap (λ t. read_sheet t.now (length table)) c.new-reader.ensures.text in
    let said : c.read.result ≡ counted sheet = c.read.ensures.answer ∙ ap counted same in
    let e : JobRefusal = c.in_err-count.field-0.0 in
    let on = c.in_err-count.ensures.value in
    let out = exit_is c.from_residual.result e c.from_residual.ensures.1 in
    record {
      answer = out ∙ unread_answer sheet n c.read.result e said on (λ steps. run_answer m s n steps x);
      after = unread_after sheet n c.read.result e said on (s ≡ s) (λ steps. Ran m s n steps x (run_answer m s n steps x) s) refl;
      table = c.read.ensures.after ∙ ap (λ r. filled r table) same;
      refused = unchanged_err c.from_residual.result e u u out refl;
      same = refl;
    }

pub returns-in_err-plan : goal.returns-in_err-plan
returns-in_err-plan g c =
    let u = c.args.unit.now in
    let m = g.U.Kind.kind u in
    let s = g.U.Unit.state u in
    let n = c.args.n in
    let x = c.args.base in
    let room = length c.args.table.now in
    let sheet : Result (List Step) Refusal = read_sheet c.args.text.now room in
    let own : Result (List Step) Refusal = read_sheet c.new-reader.result.text.now room in
    let same : own ≡ sheet = ap (λ t. read_sheet t.now room) c.new-reader.ensures.text in
    let steps : List Step = take c.in_ok-count.count c.read.new.table in
    let is : sheet ≡ Ok steps =
    read_is sheet own same c.args.table.now c.read.new.table c.read.result c.in_ok-count.count
    c.read.ensures.answer c.in_ok-count.ensures.value c.read.ensures.after in
    let e : JobRefusal = c.in_err-plan.field-0.0 in
    let on = c.in_err-plan.ensures.value in
    let out = exit_is c.from_residual-in_err-plan.result e c.from_residual-in_err-plan.ensures.1 in
    record {
      answer = out ∙ stopped_answer sheet n steps is c.new.result c.new.ensures.answer e on (λ l. run_answer m s n l x);
      after = stopped_after sheet n steps is c.new.result c.new.ensures.answer e on (s ≡ s) (λ l. Ran m s n l x (run_answer m s n l x) s) refl;
      table = read_left sheet own same c.args.table.now c.read.new.table c.read.result c.in_ok-count.count
          c.read.ensures.answer c.in_ok-count.ensures.value c.read.ensures.after;
      refused = unchanged_err c.from_residual-in_err-plan.result e u u out refl;
      same = refl;
    }

pub returns : goal.returns
returns g c =
    let u = c.args.unit.now in
    let m = g.U.Kind.kind u in
    let s = g.U.Unit.state u in
    let n = c.args.n in
    let x = c.args.base in
    let room = length c.args.table.now in
    let sheet : Result (List Step) Refusal = read_sheet c.args.text.now room in
    let own : Result (List Step) Refusal = read_sheet c.new-reader.result.text.now room in
    let same : own ≡ sheet = ap (λ t. read_sheet t.now room) c.new-reader.ensures.text in
    let steps : List Step = take c.in_ok-count.count c.read.new.table in
    let is : sheet ≡ Ok steps =
    read_is sheet own same c.args.table.now c.read.new.table c.read.result c.in_ok-count.count
    c.read.ensures.answer c.in_ok-count.ensures.value c.read.ensures.after in
    let on = c.in_ok-plan.ensures.value in
    let plan = c.in_ok-plan.plan in
    let held = on_ok Admission c.new.result plan _ _ on c.new.ensures.plan in
    let r = c.run.result in
    let t = g.U.Unit.state c.run.new.unit in
    let ran : r ≡ run_answer m s n steps x =
    as_asked (λ k l. r ≡ run_answer m s k l x) plan.exponent n plan.steps.now steps held.0 held.1 c.run.ensures.answer in
    let left : Ran m s n steps x (run_answer m s n steps x) t =
    subst (λ z. Ran m s n steps x z t) ran
    (as_asked (λ k l. Ran m s k l x r t) plan.exponent n plan.steps.now steps held.0 held.1 c.run.ensures.after) in
    record {
      answer = worked_answer sheet n steps is c.new.result c.new.ensures.answer plan on (λ l. run_answer m s n l x)
          r c.at_stage-3.result ran c.at_stage-3.ensures.value;
      after = worked_after sheet n steps is c.new.result c.new.ensures.answer plan on (t ≡ s) (λ l. Ran m s n l x (run_answer m s n l x) t) left;
      table = read_left sheet own same c.args.table.now c.read.new.table c.read.result c.in_ok-count.count
          c.read.ensures.answer c.in_ok-count.ensures.value c.read.ensures.after;
      refused = kept_on Running r c.at_stage-3.result u c.run.new.unit c.at_stage-3.ensures.value c.run.ensures.refused;
      same = c.run.ensures.same;
    }
