use Rattle.std.proofs.Common.{refl, ap, ◌∙◌, replicate}
use Rattle.sheets.specs.declared.column.Column.TheVariants.{First, Second}
use Rattle.sheets.specs.Columns.{put_cell}
use Rattle.sheets.proofs.Lines.{line_wrote}
use Rattle.sheets.proofs.line.write_line.Goals as goal

pub returns : goal.returns
returns c =
    line_wrote (replicate 32 32) _ _ _ _ c.args.i c.args.step.now refl c.requires.number c.requires.step
    c.write_number.ensures (c.write_number-2.ensures ∙ ap (λ v. put_cell First v c.write_number.new.line) c.from.ensures) (c.write_number-3.ensures ∙ ap (λ v. put_cell Second v c.write_number-2.new.line) c.from-2.ensures) c.write_number-4.ensures
