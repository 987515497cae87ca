use Rattle.std.proofs.Common.{◌≡◌, ℕ, ◌-◌, List, length, take, Some, None, refl, ap, ◌∙◌, arith}
use Rattle.refusals.specs.declared.refusal.Refusal.{Refusal}
use Rattle.refusals.proofs.Firsts.{verdict_none, verdict_some}
use Rattle.plans.specs.declared.step.Step.{Step}
use Rattle.plans.proofs.Admitted.{chain_of_lem}
use Rattle.trimming.specs.Trim.{trimmed}
use Rattle.kinds.specs.Powers.{power}
use Rattle.run_laws.specs.Runs.{run_fault}
use Rattle.fitting.specs.Fitting.{rehearsal_fault}
use Rattle.refusals.proofs.Answered.{answer_none, answer_some, answer_value, exit_is, unchanged_err}
use Rattle.fitting.proofs.Trims.{trim_never, trim_length, front_is, admit_never, place_never, start_is, placed, placed_cells, rehearsed, not_rehearsed, not_run, fits, unit_kept, unit_run}
use Rattle.fitting.proofs.fitter.fit_plan.Goals as goal

pub returns-in_err-length : goal.returns-in_err-length
returns-in_err-length g c =
    let plan = c.args.plan.now in
    let room : length c.args.table.now ≡ 128 = omega arith in
    trim_never plan.exponent plan.steps.now (chain_of_lem plan) (length c.args.table.now) c.in_err-length.field-0.0 room c.in_err-length.ensures.answer

pub returns-in_err-short : goal.returns-in_err-short
returns-in_err-short g c =
    let plan = c.args.plan.now in
    let room : length c.args.table.now ≡ 128 = omega arith in
    let told = c.in_ok-length.ensures in
    let k : ℕ = c.in_ok-length.length in
    let part : take k c.trim.new.table ≡ trimmed plan.steps.now =
    front_is plan.exponent plan.steps.now (chain_of_lem plan) k c.args.table.now c.trim.new.table
    (trim_length plan.exponent plan.steps.now (chain_of_lem plan) (length c.args.table.now) k room told.answer) told.after in
    admit_never plan.exponent plan.steps.now (chain_of_lem plan) c.exponent.result (take k c.trim.new.table) c.exponent.ensures part c.in_err-short.ensures.exactly

pub returns-in_err-place : goal.returns-in_err-place
returns-in_err-place g c =
    let room : length c.args.cells.now ≡ 129 = omega arith in
    place_never c.in_ok-short.short.steps.now c.measure-size.result.need (length c.args.cells.now) c.in_err-place.field-0.0
    (ap (λ z. z.need) c.measure-size.ensures.value) room c.in_err-place.ensures.answer

pub rehearse-requires : goal.rehearse-requires
rehearse-requires g c =
    let short : List Step = c.in_ok-short.short.steps.now in
    start_is short c.place.new.places c.in_ok-place.ensures.after.0

pub returns-in_err-rehearse : goal.returns-in_err-rehearse
returns-in_err-rehearse g c =
    let plan = c.args.plan.now in
    let steps : List Step = plan.steps.now in
    let short : List Step = c.in_ok-short.short.steps.now in
    let room : length c.args.table.now ≡ 128 = omega arith in
    let told = c.in_ok-length.ensures in
    let k : ℕ = c.in_ok-length.length in
    let is : short ≡ trimmed steps =
    c.in_ok-short.ensures.plan.1 ∙ front_is plan.exponent steps (chain_of_lem plan) k c.args.table.now c.trim.new.table
    (trim_length plan.exponent steps (chain_of_lem plan) (length c.args.table.now) k room told.answer) told.after in
    let u = c.args.unit.now in
    let m = g.U.Kind.kind u in
    let s = g.U.Unit.state u in
    let e : Refusal = c.in_err-rehearse.field-0.0 in
    let out = exit_is c.from_residual-in_err-rehearse.result e c.from_residual-in_err-rehearse.ensures.1 in
    let stopped : rehearsal_fault short ≡ Some e = verdict_some (rehearsal_fault short) e c.in_err-rehearse.ensures.answer in
    record {
      answer = out ∙ not_rehearsed steps short is m s plan.exponent c.args.base e stopped;
      after = unit_kept steps short is m s plan.exponent c.args.base c.from_residual-in_err-rehearse.result e s out refl;
      table = told.after;
      cells = placed steps short is c.args.cells.now c.place.new.places c.in_ok-place.ensures.after;
      named = placed_cells steps short is c.args.cells.now c.place.new.places c.in_ok-place.ensures.cells;
      exponents = rehearsed steps short is c.args.exponents.now c.rehearse.new.exponents c.in_err-rehearse.ensures.after;
      refused = unchanged_err c.from_residual-in_err-rehearse.result e u u out refl;
      same = refl;
    }

pub returns-in_err-power : goal.returns-in_err-power
returns-in_err-power g c =
    let plan = c.args.plan.now in
    let steps : List Step = plan.steps.now in
    let short : List Step = c.in_ok-short.short.steps.now in
    let room : length c.args.table.now ≡ 128 = omega arith in
    let told = c.in_ok-length.ensures in
    let k : ℕ = c.in_ok-length.length in
    let is : short ≡ trimmed steps =
    c.in_ok-short.ensures.plan.1 ∙ front_is plan.exponent steps (chain_of_lem plan) k c.args.table.now c.trim.new.table
    (trim_length plan.exponent steps (chain_of_lem plan) (length c.args.table.now) k room told.answer) told.after in
    let u = c.args.unit.now in
    let m = g.U.Kind.kind u in
    let s = g.U.Unit.state u in
    let x = c.args.base in
    let e : Refusal = c.in_err-power.field-0.0 in
    let out = exit_is c.from_residual-in_err-power.result e c.from_residual-in_err-power.ensures.1 in
    let fine : rehearsal_fault short ≡ None = verdict_none (rehearsal_fault short) c.in_ok-rehearse.ensures.answer in
    let stopped : run_fault m s short x ≡ Some e = answer_some (run_fault m s short x) e (power m x c.in_ok-short.short.exponent) c.in_err-power.ensures.answer in
    record {
      answer = out ∙ not_run steps short is m s plan.exponent x e fine stopped;
      after = unit_kept steps short is m s plan.exponent x c.from_residual-in_err-power.result e (g.U.Unit.state c.run_on_card.new.unit) out c.in_err-power.ensures.after;
      table = told.after;
      cells = placed steps short is c.args.cells.now c.place.new.places c.in_ok-place.ensures.after;
      named = placed_cells steps short is c.args.cells.now c.place.new.places c.in_ok-place.ensures.cells;
      exponents = rehearsed steps short is c.args.exponents.now c.rehearse.new.exponents c.in_ok-rehearse.ensures.after;
      refused = unchanged_err c.from_residual-in_err-power.result e u c.run_on_card.new.unit out c.in_err-power.ensures.refused;
      same = c.in_err-power.ensures.same;
    }

pub returns : goal.returns
returns g c =
    let plan = c.args.plan.now in
    let steps : List Step = plan.steps.now in
    let short : List Step = c.in_ok-short.short.steps.now in
    let room : length c.args.table.now ≡ 128 = omega arith in
    let told = c.in_ok-length.ensures in
    let k : ℕ = c.in_ok-length.length in
    let held = c.in_ok-short.ensures.plan in
    let is : short ≡ trimmed steps =
    held.1 ∙ front_is plan.exponent steps (chain_of_lem plan) k c.args.table.now c.trim.new.table
    (trim_length plan.exponent steps (chain_of_lem plan) (length c.args.table.now) k room told.answer) told.after in
    let size : c.in_ok-short.short.exponent ≡ plan.exponent = held.0 ∙ c.exponent.ensures in
    let u = c.args.unit.now in
    let m = g.U.Kind.kind u in
    let s = g.U.Unit.state u in
    let x = c.args.base in
    let y = c.in_ok-power.power in
    let ran = c.in_ok-power.ensures in
    let t = g.U.Unit.state c.run_on_card.new.unit in
    let fine : rehearsal_fault short ≡ None = verdict_none (rehearsal_fault short) c.in_ok-rehearse.ensures.answer in
    let able : run_fault m s short x ≡ None = answer_none (run_fault m s short x) y (power m x c.in_ok-short.short.exponent) ran.answer in
    let value = answer_value (run_fault m s short x) y (power m x c.in_ok-short.short.exponent) ran.answer ∙ ap (power m x) size in
    let spent = ran.after.success.left in
    let left : c.allowance.result ≡ s.left - length short = omega (arith, spent, c.allowance.ensures.value) in
    record {
      answer = fits steps short is m s plan.exponent x c.measure.result c.measure-size.result y c.allowance.result fine able c.measure.ensures.value c.measure-size.ensures.value value left;
      after = unit_run steps short is m s plan.exponent x c.in_ok-short.short.exponent y t size ran.after;
      table = told.after;
      cells = placed steps short is c.args.cells.now c.place.new.places c.in_ok-place.ensures.after;
      named = placed_cells steps short is c.args.cells.now c.place.new.places c.in_ok-place.ensures.cells;
      exponents = rehearsed steps short is c.args.exponents.now c.rehearse.new.exponents c.in_ok-rehearse.ensures.after;
      refused = tt;
      same = ran.same;
    }
