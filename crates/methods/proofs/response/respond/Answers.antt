use Rattle.std.proofs.Common.{arith}
use Rattle.methods.proofs.Responses.{small_refusal, respond_sheet, respond_refusal}
use Rattle.methods.proofs.response.respond.Goals as goal

pub write_refusal-requires : goal.write_refusal-requires
write_refusal-requires c =
    let s = small_refusal c.args.line.now c.in-Err.refusal c.in-Err.ensures.answer in
    record { room = omega arith; number = s.0; place = s.1 }

pub returns-in-Ok : goal.returns-in-Ok
returns-in-Ok c =
    let p = respond_sheet c.args.line.now c.args.out.now c.write_plan.new.out c.in-Ok.length (omega arith) c.in-Ok.ensures.answer c.write_plan.ensures.after in
    record { answer = p.0; after = p.1 }

pub returns-in-Err : goal.returns-in-Err
returns-in-Err c =
    let p = respond_refusal c.args.line.now c.args.out.now c.write_plan.new.out c.write_refusal.new.out c.in-Err.refusal c.write_refusal.result (omega arith) c.in-Err.ensures.answer c.write_plan.ensures.after c.write_refusal.ensures.count c.write_refusal.ensures.after in
    record { answer = p.0; after = p.1 }
