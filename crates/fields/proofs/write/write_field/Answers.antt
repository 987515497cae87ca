use Rattle.std.proofs.Common.{◌≡◌, ◌≤◌, ◌++◌, length, decimal, ap, ◌∙◌, arith}
use Rattle.std.proofs.lemmas.Grind.{common_steps}
use Rattle.fields.specs.Field.{field, field_value}
use Rattle.fields.proofs.Inverse.{read_field}
use Rattle.fields.proofs.write.write_field.Goals as goal

pub returns-clause-back : goal.returns-clause-back
returns-clause-back c = λ _ narrow.
    let e : c.fill.new.self ++ c.copy_from_slice.new.self ≡ field (length c.args.out.now) c.args.v = grind (arith, common_steps) in
    let l : length (decimal c.args.v) ≤ length c.args.out.now = grind (arith, common_steps) in
    ap field_value e ∙ read_field (length c.args.out.now) c.args.v narrow (omega arith) l
