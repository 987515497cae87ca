use Rattle.std.proofs.Common.{◌≡◌, ◌+◌, ◌*◌, Some, None, take, drop, length, sym, ap, ◌∙◌, arith}
use Rattle.std.specs.Option.{option_map}
use Rattle.sheets.specs.Columns.{start}
use Rattle.sheets.specs.Places.{at, place_in, fault_place, part, part_in, stand, stand_in}
use Rattle.sheets.proofs.Readings.{none_found, one_found, lines_are}
use Rattle.sheets.proofs.reader.SheetReader.field_at_fault.Goals as goal
use Rattle.sheets.proofs.reader.SheetReader.field_at_fault.Goals.{In_ok-found}

-- the first fault of the text
place_at : (c : In_ok-found) → fault_place c.args.self.now.text.now ≡ place_in c.in_ok-found.found
place_at c =
    let l = lines_are c.args.self.now.text.now c.text_lines.result c.in_ok-lines.lines (sym c.ok.ensures.value ∙ c.in_ok-lines.was) c.text_lines.ensures.count c.text_lines.ensures.lines in
    let q = c.in_ok-found.ensures.some in
    ap (λ r. stand_in r c.args.self.now.text.now) l.0
    ∙ ap (stand (length c.in_ok-lines.lines.now)) (one_found c.args.self.now.text.now c.in_ok-lines.lines.now l.1 c.in_ok-found.found q.0 q.1 q.2)

pub returns-in_err-found-clause-part : goal.returns-in_err-found-clause-part
returns-in_err-found-clause-part c =
    let l = lines_are c.args.self.now.text.now c.text_lines.result c.in_ok-lines.lines (sym c.ok.ensures.value ∙ c.in_ok-lines.was) c.text_lines.ensures.count c.text_lines.ensures.lines in
    let p : fault_place c.args.self.now.text.now ≡ at (length c.in_ok-lines.lines.now) None =
    ap (λ r. stand_in r c.args.self.now.text.now) l.0 ∙ ap (stand (length c.in_ok-lines.lines.now)) (none_found c.args.self.now.text.now c.in_ok-lines.lines.now l.1 c.in_err-found.ensures.none) in
    ap (option_map (λ x. x.now)) c.from_residual-in_err-found.ensures ∙ sym (ap (λ x. part x c.args.self.now.text.now) p)

pub returns-in_err-found-2-clause-part : goal.returns-in_err-found-2-clause-part
returns-in_err-found-2-clause-part c =
    let p = place_at (goal.at.returns-in_err-found-2-clause-part c).In_ok-found in
    ap (option_map (λ x. x.now)) c.from_residual-in_err-found-2.ensures
    ∙ sym (ap (λ x. part x c.args.self.now.text.now) p ∙ ap (λ x. part_in c.in_ok-found.found.before x c.args.self.now.text.now) c.in_err-found-2.was)

pub returns-clause-part : goal.returns-clause-part
returns-clause-part c =
    let p = place_at (goal.at.returns-clause-part c).In_ok-found in
    rw c.span-span.ensures
    (ap (λ k. Some (take k (drop (32 * c.in_ok-found.found.before + start c.in_ok-found-2.field-0) c.args.self.now.text.now))) (omega arith)
    ∙ sym (ap (λ x. part x c.args.self.now.text.now) p ∙ ap (λ x. part_in c.in_ok-found.found.before x c.args.self.now.text.now) c.in_ok-found-2.was))

pub returns-clause-position : goal.returns-clause-position
returns-clause-position c =
    let p = place_at (goal.at.returns-clause-position c).In_ok-found in
    rw c.span-span.ensures (rw p (rw c.in_ok-found-2.was (ap (λ k. (c.args.self.now.text.ref_ptr.0, k)) (omega arith))))
