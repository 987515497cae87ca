use Rattle.std.proofs.Common.{◌++◌, length, drop, refl, ap, ◌∙◌}
use Rattle.std.proofs.lemmas.Result.{err_from_is_err_and}
use Rattle.sheets.specs.Reading.{steps_in}
use Rattle.sheets.proofs.Readings.{none_found, one_found}
use Rattle.sheets.proofs.Rewritten.{outcome_short, outcome_fault, outcome_read}
use Rattle.sheets.proofs.reader.SheetReader.read.Goals as goal

pub returns-in_err-lines : goal.returns-in_err-lines
returns-in_err-lines c =
    let p = err_from_is_err_and c.from_residual.result c.from_residual.ensures.1 in
    let o = outcome_short c.args.self.now.text.now (length c.args.table.now) c.args.table.now _ c.in_err-lines.ensures.count in
    rw (p.1, p.2) record { answer = o.answer; after = o.after; exactly = o.exactly; text = refl; place = c.after-self.ensures ∙ o.place; back = tt }

pub returns-in-Some : goal.returns-in-Some
returns-in-Some c =
    let q = c.in-Some.ensures.some in
    let f = one_found c.args.self.now.text.now c.in_ok-lines.lines.now c.in_ok-lines.ensures.lines c.in-Some.found q.0 q.1 q.2 in
    let o = outcome_fault c.args.self.now.text.now (length c.args.table.now) _ c.args.table.now c.in-Some.found c.in_ok-lines.ensures.count f in
    record { answer = o.answer; after = o.after; exactly = o.exactly; text = refl; place = c.place-self.ensures ∙ o.place; back = tt }

pub returns : goal.returns
returns c =
    let f = none_found c.args.self.now.text.now c.in_ok-lines.lines.now c.in_ok-lines.ensures.lines c.in_default.ensures.none in
    let o = outcome_read c.args.self.now.text.now (length c.args.table.now) _ c.args.table.now _ c.in_ok-lines.ensures.count f (c.read_lines.ensures ∙ ap (λ ls. steps_in 0 ls ++ drop (length c.in_ok-lines.lines.now) c.args.table.now) c.in_ok-lines.ensures.lines) in
    record { answer = o.answer; after = o.after; exactly = o.exactly; text = refl; place = c.after-self-2.ensures ∙ o.place; back = o.back }
