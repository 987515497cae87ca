use Rattle.std.proofs.Common.{refl}
use Rattle.std.proofs.lemmas.Result.{err_from_is_err_and}
use Rattle.methods.proofs.Responses.{sheet_answered, refused_answered}
use Rattle.methods.proofs.response.write_plan.Goals as goal

pub returns-in_err-length : goal.returns-in_err-length
returns-in_err-length c =
    let p = err_from_is_err_and c.from_residual-in_err-length.result c.from_residual-in_err-length.ensures.1 in
    let e = refused_answered c.args.line.now c.in_ok-request.request c.in_err-length.field-0.0 c.in_ok-request.ensures.value c.in_err-length.ensures.answer in
    rw (e, p.1, p.2) (record { answer = refl; after = refl })

pub returns : goal.returns
returns c =
    let p = sheet_answered c.args.line.now c.in_ok-request.request _ c.in_ok-length.length c.plan_request.new.table _ c.args.out.now c.write_sheet.new.out c.write_sheet.result c.in_ok-request.ensures.value c.in_ok-length.ensures.answer c.in_ok-length.ensures.front c.in_ok-length.ensures.chain c.in_ok-plan.ensures.plan.1 c.requires.room c.write_sheet.ensures.answer c.write_sheet.ensures.after in
    record { answer = p.0; after = p.1 }
