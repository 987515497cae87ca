-- The columns of a line. Assumes nothing.
use Rattle.std.specs.Prelude.{ℕ, ◌+◌, List, ◌++◌, take, drop}
use Rattle.fields.specs.Field.{put}
use Rattle.sheets.specs.declared.column.Column.{Column}
use Rattle.sheets.specs.declared.column.Column.TheVariants.{Number, First, Second, Value}

-- the byte of a line, counted from 0, at which a column begins
abbrev pub start : Column → ℕ
start Number = 0
start First = 4
start Second = 8
start Value = 12

-- how many bytes it has
abbrev pub width : Column → ℕ
width Number = 4
width First = 4
width Second = 4
width Value = 19

-- the bytes of a column in a line
abbrev pub cell : Column → List ℕ → List ℕ
cell c b = take (width c) (drop (start c) b)

-- a line after a number is written into a column
abbrev pub put_cell : Column → ℕ → List ℕ → List ℕ
put_cell c v b = take (start c) b ++ (put v (cell c b) ++ drop (start c + width c) b)
