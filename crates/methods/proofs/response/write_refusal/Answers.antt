use Rattle.std.proofs.Common.{◌∙◌}
use Rattle.methods.proofs.Responses.{refusal_written}
use Rattle.methods.proofs.response.write_refusal.Goals as goal

pub returns : goal.returns
returns c =
    let w = refusal_written c.args.out.now c.write_field.new.out c.write_field-2.new.out c.args.refusal c.from.result c.place.result c.requires.room c.requires.number c.requires.place (c.from.ensures ∙ c.number.ensures) c.place.ensures c.write_field.ensures.after c.write_field-2.ensures.after in
    record { count = w.0; after = w.1 }
