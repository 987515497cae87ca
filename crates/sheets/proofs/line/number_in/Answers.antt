use Rattle.std.proofs.Common.{◌≡◌, ap, ◌∙◌}
use Rattle.fields.specs.Field.{field_value}
use Rattle.sheets.specs.Columns.{cell}
use Rattle.sheets.specs.Reading.{number_in}
use Rattle.sheets.proofs.Lines.{span_cell, number_by, number_bound}
use Rattle.sheets.proofs.line.number_in.Goals as goal
use Rattle.sheets.proofs.line.number_in.Goals.{After-ok_or}

number_is : (c : After-ok_or) → c.ok_or.result ≡ number_in c.args.i c.args.column (field_value (cell c.args.column c.args.line.now))
number_is c =
    c.ok_or.ensures.value ∙ number_by c.args.i c.args.column c.parse_field.result
    ∙ ap (number_in c.args.i c.args.column) (c.parse_field.ensures.value ∙ ap field_value (span_cell c.args.column c.args.line.now c.span.result c.span.ensures))

pub returns-clause-value : goal.returns-clause-value
returns-clause-value c = number_is c

pub returns-clause-bound : goal.returns-clause-bound
returns-clause-bound c = number_bound c.args.i c.args.column c.args.line.now c.ok_or.result c.told-line (number_is c)
