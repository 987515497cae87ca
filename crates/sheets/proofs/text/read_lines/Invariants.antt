use Rattle.std.proofs.Common.{◌≡◌, ◌++◌, take, drop}
use Rattle.sheets.specs.Reading.{steps_in}
use Rattle.sheets.proofs.text.read_lines.Given as goal

abbrev pub invariant-loop-i : goal.invariant-loop-i
invariant-loop-i l = l.table ≡ steps_in 0 (take l.i l.lines) ++ drop l.i l.initial.table
