use Rattle.std.proofs.Common.{◌≡◌, List, Some, None, sym, refl, ap, ◌∙◌}
use Rattle.std.proofs.lemmas.Result.{err_from_is_err_and}
use Rattle.refusals.specs.declared.refusal.Refusal.{Refusal}
use Rattle.refusals.specs.Faults.{verdict}
use Rattle.refusals.proofs.Firsts.{settle_is}
use Rattle.plans.proofs.Admitted.{chain_of_lem}
use Rattle.kinds.specs.declared.counts.Count.{Count}
use Rattle.kinds.specs.Counting.{counting}
use Rattle.units.specs.declared.record.Record.{Record}
use Rattle.units.specs.Units.{State}
use Rattle.banks.specs.Banks.{bank}
use Rattle.run_sheet.specs.Sheets.{sheeted}
use Rattle.run_laws.specs.Runs.{run_fault}
use Rattle.fitting.specs.Fitting.{rehearsal_fault}
use Rattle.refusals.proofs.Answered.{answer_none, answer_some, settle_none}
use Rattle.fitting.proofs.Rehearsed.{one_count, outset, outset_is, fault_is, few, sums_small, front_is}
use Rattle.fitting.proofs.rehearsal.rehearse.Goals as goal

pub returns-in_err-run : goal.returns-in_err-run
returns-in_err-run c =
    let plan = c.args.plan.now in
    let b = c.new-sheet.result in
    let s : State Count = sheeted b.records.items (bank b.below.places b.below.left) in
    let begun : s ≡ outset = outset_is b.records.items (bank b.below.places b.below.left) c.new-sheet.ensures.records (ap (λ z. bank z.places z.left) c.new-sheet.ensures.below ∙ c.new.ensures.empty) in
    let e : Refusal = c.in_err-run.field-0.0 in
    let f : run_fault counting s plan.steps.now one_count ≡ Some e = answer_some (run_fault counting s plan.steps.now one_count) e _ c.in_err-run.ensures.answer in
    let stopped : rehearsal_fault plan.steps.now ≡ Some e = sym (fault_is plan.exponent plan.steps.now (chain_of_lem plan) s begun) ∙ f in
    let p = err_from_is_err_and c.from_residual.result c.from_residual.ensures.1 in
    rw (p.1, p.2) (record {
      answer = sym (ap verdict stopped);
      after = settle_is (rehearsal_fault plan.steps.now) e c.args.exponents.now _ c.args.exponents.now refl stopped;
    })

pub work_records-requires : goal.work_records-requires
work_records-requires c =
    let plan = c.args.plan.now in
    let b = c.new-sheet.result in
    let s : State Count = sheeted b.records.items (bank b.below.places b.below.left) in
    let begun : s ≡ outset = outset_is b.records.items (bank b.below.places b.below.left) c.new-sheet.ensures.records (ap (λ z. bank z.places z.left) c.new-sheet.ensures.below ∙ c.new.ensures.empty) in
    let d = c.run.new.unit in
    let t : State Count = sheeted d.records.items (bank d.below.places d.below.left) in
    let rows : List Record = c.records.result.now in
    let logged : t.log ≡ Some rows = ap (λ (z : List Record). Some z) (sym c.records.ensures.value) in
    let done = c.in_ok-run.ensures.after in
    record {
      few = few plan.exponent plan.steps.now (chain_of_lem plan) s begun c.in_ok-run.field-0.value t done rows logged;
      small = sums_small plan.exponent plan.steps.now (chain_of_lem plan) s begun c.in_ok-run.field-0.value t done rows logged c.args.start c.requires;
    }

pub returns : goal.returns
returns c =
    let plan = c.args.plan.now in
    let b = c.new-sheet.result in
    let s : State Count = sheeted b.records.items (bank b.below.places b.below.left) in
    let begun : s ≡ outset = outset_is b.records.items (bank b.below.places b.below.left) c.new-sheet.ensures.records (ap (λ z. bank z.places z.left) c.new-sheet.ensures.below ∙ c.new.ensures.empty) in
    let d = c.run.new.unit in
    let t : State Count = sheeted d.records.items (bank d.below.places d.below.left) in
    let rows : List Record = c.records.result.now in
    let logged : t.log ≡ Some rows = ap (λ (z : List Record). Some z) (sym c.records.ensures.value) in
    let f : run_fault counting s plan.steps.now one_count ≡ None = answer_none (run_fault counting s plan.steps.now one_count) c.in_ok-run.field-0 _ c.in_ok-run.ensures.answer in
    let fine : rehearsal_fault plan.steps.now ≡ None = sym (fault_is plan.exponent plan.steps.now (chain_of_lem plan) s begun) ∙ f in
    record {
      answer = sym (ap verdict fine);
      after = c.work_records.ensures.after
          ∙ front_is plan.exponent plan.steps.now (chain_of_lem plan) s begun c.in_ok-run.field-0.value t c.in_ok-run.ensures.after rows logged c.args.start c.requires c.args.exponents.now
          ∙ settle_none (rehearsal_fault plan.steps.now) c.args.exponents.now _ fine;
    }
