use Rattle.std.proofs.Common.{◌≡◌, ℕ, ◌≤◌, List, length, take, Ok, Result, refl, ap, ◌∙◌, subst, arith, rules}
use Rattle.refusals.specs.declared.refusal.Refusal.{Refusal}
use Rattle.refusals.proofs.Answered.{exit_is, unchanged_err}
use Rattle.plans.specs.declared.step.Step.{Step}
use Rattle.sheets.specs.Reading.{read_sheet, counted, filled}
use Rattle.jobs.specs.declared.stage.Stage.TheVariants.{Admission, Running}
use Rattle.jobs.proofs.Stages.{read_left, read_is, read_fits, on_ok, unread_answer, unread_after, stopped_answer, stopped_after, worked_answer, worked_after, as_asked, kept_on}
use Rattle.fitting.specs.Fitting.{fit_answer, FitsUnit, trimmed_in, PlacedIn, PlacedCells, exponents_in}
use Rattle.fitting.proofs.fitter.fit.Goals as goal

pub slice_bounds-new-end : goal.slice_bounds-new-end
slice_bounds-new-end g c =
    let table : List Step = c.args.tables.now.steps in
    let sheet : Result (List Step) Refusal = read_sheet c.new-reader.result.text.now (length table) in
    let fits : c.in_ok-count.count ≤ length c.read.new.table =
    read_fits sheet sheet refl table c.read.new.table c.read.result c.in_ok-count.count
    c.read.ensures.answer c.in_ok-count.ensures.value c.read.ensures.after in
    search rules

pub returns-in_err-count : goal.returns-in_err-count
returns-in_err-count g c =
    let u = c.args.unit.now in
    let m = g.U.Kind.kind u in
    let s = g.U.Unit.state u in
    let n = c.args.n in
    let x = c.args.base in
    let table : List Step = c.args.tables.now.steps in
    let room : length table ≡ 128 = omega arith in
    let sheet : Result (List Step) Refusal = read_sheet c.args.text.now 128 in
    let same : read_sheet c.new-reader.result.text.now (length table) ≡ sheet = ap (λ t. read_sheet t.now (length table)) c.new-reader.ensures.text ∙ ap (read_sheet c.args.text.now) room in
    let e = c.in_err-count.field-0.0 in
    let on = c.in_err-count.ensures.value in
    let said : c.read.result ≡ counted sheet = c.read.ensures.answer ∙ ap counted same in
    let out = exit_is c.from_residual.result e c.from_residual.ensures.1 in
    record {
      answer = out ∙ unread_answer sheet n c.read.result e said on (λ l. fit_answer m s n l x);
      after = unread_after sheet n c.read.result e said on (s ≡ s) (λ l. FitsUnit m s n l x (fit_answer m s n l x) s) refl;
      tables = (c.read.ensures.after ∙ ap (λ r. filled r table) same, unread_after sheet n c.read.result e said on _ _ (refl, refl, refl));
      named = unread_after sheet n c.read.result e said on _ _ refl;
      refused = unchanged_err c.from_residual.result e u u out refl;
      same = refl;
    }

pub returns-in_err-plan : goal.returns-in_err-plan
returns-in_err-plan g c =
    let u = c.args.unit.now in
    let m = g.U.Kind.kind u in
    let s = g.U.Unit.state u in
    let n = c.args.n in
    let x = c.args.base in
    let table : List Step = c.args.tables.now.steps in
    let room : length table ≡ 128 = omega arith in
    let sheet : Result (List Step) Refusal = read_sheet c.args.text.now 128 in
    let own : Result (List Step) Refusal = read_sheet c.new-reader.result.text.now (length table) in
    let same : own ≡ sheet = ap (λ t. read_sheet t.now (length table)) c.new-reader.ensures.text ∙ ap (read_sheet c.args.text.now) room in
    let steps : List Step = take c.in_ok-count.count c.read.new.table in
    let is : sheet ≡ Ok steps =
    read_is sheet own same table c.read.new.table c.read.result c.in_ok-count.count c.read.ensures.answer c.in_ok-count.ensures.value c.read.ensures.after in
    let left = read_left sheet own same table c.read.new.table c.read.result c.in_ok-count.count c.read.ensures.answer c.in_ok-count.ensures.value c.read.ensures.after in
    let e = c.in_err-plan.field-0.0 in
    let on = c.in_err-plan.ensures.value in
    let out = exit_is c.from_residual-in_err-plan.result e c.from_residual-in_err-plan.ensures.1 in
    record {
      answer = out ∙ stopped_answer sheet n steps is c.new.result c.new.ensures.answer e on (λ l. fit_answer m s n l x);
      after = stopped_after sheet n steps is c.new.result c.new.ensures.answer e on (s ≡ s) (λ l. FitsUnit m s n l x (fit_answer m s n l x) s) refl;
      tables = (left, stopped_after sheet n steps is c.new.result c.new.ensures.answer e on _ _ (refl, refl, refl));
      named = stopped_after sheet n steps is c.new.result c.new.ensures.answer e on _ _ refl;
      refused = unchanged_err c.from_residual-in_err-plan.result e u u out refl;
      same = refl;
    }

pub returns : goal.returns
returns g c =
    let u = c.args.unit.now in
    let m = g.U.Kind.kind u in
    let s = g.U.Unit.state u in
    let n = c.args.n in
    let x = c.args.base in
    let was = c.args.tables.now in
    let table : List Step = was.steps in
    let room : length table ≡ 128 = omega arith in
    let sheet : Result (List Step) Refusal = read_sheet c.args.text.now 128 in
    let own : Result (List Step) Refusal = read_sheet c.new-reader.result.text.now (length table) in
    let same : own ≡ sheet = ap (λ t. read_sheet t.now (length table)) c.new-reader.ensures.text ∙ ap (read_sheet c.args.text.now) room in
    let steps : List Step = take c.in_ok-count.count c.read.new.table in
    let is : sheet ≡ Ok steps =
    read_is sheet own same table c.read.new.table c.read.result c.in_ok-count.count c.read.ensures.answer c.in_ok-count.ensures.value c.read.ensures.after in
    let left = read_left sheet own same table c.read.new.table c.read.result c.in_ok-count.count c.read.ensures.answer c.in_ok-count.ensures.value c.read.ensures.after in
    let on = c.in_ok-plan.ensures.value in
    let plan = c.in_ok-plan.plan in
    let held = on_ok Admission c.new.result plan _ _ on c.new.ensures.plan in
    let did = c.fit_plan-fitted in
    let r = did.result in
    let t = g.U.Unit.state did.new.unit in
    let k : ℕ = plan.exponent in
    let part : List Step = plan.steps.now in
    let ran : r ≡ fit_answer m s n steps x = as_asked (λ z l. r ≡ fit_answer m s z l x) k n part steps held.0 held.1 did.ensures.answer in
    let fits : FitsUnit m s n steps x (fit_answer m s n steps x) t =
    subst (λ z. FitsUnit m s n steps x z t) ran (as_asked (λ z l. FitsUnit m s z l x r t) k n part steps held.0 held.1 did.ensures.after) in
    let wrote = as_asked (λ _ l. (did.new.table ≡ trimmed_in l was.trimmed) × PlacedIn l was.cells did.new.cells × (did.new.exponents ≡ exponents_in l was.exponents))
    k n part steps held.0 held.1 (did.ensures.table, did.ensures.cells, did.ensures.exponents) in
    let named = as_asked (λ _ l. PlacedCells l was.cells did.new.cells) k n part steps held.0 held.1 did.ensures.named in
    record {
      answer = worked_answer sheet n steps is c.new.result c.new.ensures.answer plan on (λ l. fit_answer m s n l x) r c.at_stage-3.result ran c.at_stage-3.ensures.value;
      after = worked_after sheet n steps is c.new.result c.new.ensures.answer plan on (t ≡ s) (λ l. FitsUnit m s n l x (fit_answer m s n l x) t) fits;
      tables = (left, worked_after sheet n steps is c.new.result c.new.ensures.answer plan on _ _ wrote);
      named = worked_after sheet n steps is c.new.result c.new.ensures.answer plan on _ _ named;
      refused = kept_on Running r c.at_stage-3.result u did.new.unit c.at_stage-3.ensures.value did.ensures.refused;
      same = did.ensures.same;
    }
