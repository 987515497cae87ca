-- Where a reader stands in a text, and the field at fault. Assumes nothing.
use Rattle.std.specs.Prelude.{ℕ, ◌+◌, ◌*◌, List, length, take, drop, Some, None, Ok, Err, Option, Result}
use Rattle.refusals.specs.declared.refusal.Refusal.{Refusal}
use Rattle.sheets.specs.declared.column.Column.{Column}
use Rattle.sheets.specs.declared.fault.Found.{Found}
use Rattle.sheets.specs.declared.fault.Place.{Place}
use Rattle.sheets.specs.declared.reader.SheetReader.{SheetReader}
use Rattle.sheets.specs.Columns.{start, width}
use Rattle.sheets.specs.Lines.{line_bytes}
use Rattle.sheets.specs.Reading.{first_fault, text_lines, room_for}

abbrev pub at : ℕ → Option Column → Place
at i c = record { line = i; column = c }

-- where a fault is
abbrev pub place_in : Found → Place
place_in f = at f.before f.fault.column

-- where a reader stands
abbrev pub place_of : SheetReader → Place
place_of r = r.place

-- before the first line
abbrev pub outset : Place
outset = at 0 None

-- after n lines with this first fault: past them all, or at the fault
abbrev pub stand : ℕ → Option Found → Place
stand n None = at n None
stand n (Some f) = place_in f

-- after the lines of a text are read
abbrev pub stand_in : Result ℕ Refusal → List ℕ → Place
stand_in (Ok n) t = stand n (first_fault n 0 t)
stand_in (Err e) t = outset

-- after reading a text into m places
abbrev pub standing : List ℕ → ℕ → Place
standing t m = stand_in (room_for m (text_lines (length t))) t

-- at the first fault of a text, whatever the table
abbrev pub fault_place : List ℕ → Place
fault_place t = stand_in (text_lines (length t)) t

-- the byte of a text at which a column of the line at i begins
abbrev pub column_start : ℕ → Column → ℕ
column_start i c = line_bytes * i + start c

-- the part of a text that a column of the line at i fills
abbrev pub part_in : ℕ → Option Column → List ℕ → Option (List ℕ)
part_in i None t = None
part_in i (Some c) t = Some (take (width c) (drop (column_start i c) t))

-- the part of a text that the column at a place fills
abbrev pub part : Place → List ℕ → Option (List ℕ)
part p t = part_in p.line p.column t

-- the byte of a text at which the part of a line's column begins
abbrev pub offset_in : ℕ → Option Column → ℕ
offset_in i None = 0
offset_in i (Some c) = column_start i c

-- the byte of a text at which the part of the column at a place begins
abbrev pub offset : Place → ℕ
offset p = offset_in p.line p.column

-- the part of a text that its field at fault fills
abbrev pub field_at_fault : List ℕ → Option (List ℕ)
field_at_fault t = part (fault_place t) t
