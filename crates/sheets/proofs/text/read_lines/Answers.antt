use Rattle.std.proofs.Common.{set, ap, ◌∙◌, sym, arith}
use Rattle.sheets.proofs.Readings.{read_more}
use Rattle.sheets.proofs.text.read_lines.Goals as goal

pub loop-i-preserved : goal.loop-i-preserved
loop-i-preserved c =
    ap (λ xs. set xs c.loop-i.i c.unwrap.result) c.loop-i.invariant ∙ read_more c.args.lines.now c.args.table.now c.loop-i.i c.unwrap.result c.loop-i-test.true (omega arith) (sym c.read_line.ensures ∙ c.unwrap.ensures)
