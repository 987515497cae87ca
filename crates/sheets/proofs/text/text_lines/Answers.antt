use Rattle.std.proofs.Common.{sym, ap, ◌∙◌}
use Rattle.sheets.specs.Reading.{lines_from}
use Rattle.sheets.proofs.Readings.{chunks_are}
use Rattle.sheets.proofs.text.text_lines.Goals as goal

pub returns-clause-lines : goal.returns-clause-lines
returns-clause-lines c = c.as_chunks.ensures.front ∙ chunks_are _ 0 c.args.text.now ∙ ap (λ n. lines_from n 0 c.args.text.now) (sym c.as_chunks.ensures.front_len)
