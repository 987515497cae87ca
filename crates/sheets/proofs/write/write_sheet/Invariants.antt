use Rattle.std.proofs.Common.{◌≡◌, ◌*◌, ◌++◌, length, take, drop}
use Rattle.sheets.specs.Lines.{line_bytes}
use Rattle.sheets.specs.Sheets.{sheet}
use Rattle.sheets.proofs.write.write_sheet.Given as goal

abbrev pub invariant-loop-i : goal.invariant-loop-i
invariant-loop-i l = (length (sheet (take l.i l.steps)) ≡ line_bytes * l.i) × (l.out ≡ sheet (take l.i l.steps) ++ drop (line_bytes * l.i) l.initial.out)
