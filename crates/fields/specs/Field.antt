-- Numbers right-justified in fields, and the number that a field holds. Assumes nothing.
use Rattle.std.specs.Prelude.{ℕ, ◌+◌, ◌-◌, ◌*◌, Bool, false, cond, not, ◌&&◌, ◌||◌, List, [], ◌∷◌, ◌++◌, length, replicate, Some, None, decimal, Option, ◌==◌, nat_le}
use Rattle.std.specs.Str.{all_ascii_digits}

-- the byte of a blank
abbrev pub blank : ℕ
blank = 32

-- v in w columns: blanks, then its decimal digits
abbrev pub field : ℕ → ℕ → List ℕ
field w v = replicate (w - length (decimal v)) blank ++ decimal v

-- whether w columns have room for the digits of v
abbrev pub fits : ℕ → ℕ → Bool
fits w v = nat_le (length (decimal v)) w

-- columns after v is written to them: as they were where it does not fit
abbrev pub put : ℕ → List ℕ → List ℕ
put v was = cond (fits (length was) v) (field (length was) v) was

-- what stands after the blanks in front
abbrev pub unblank : List ℕ → List ℕ
unblank [] = []
unblank (c ∷ cs) = cond (c == blank) (unblank cs) (c ∷ cs)

-- digits, at least one, and no leading zero
abbrev pub numeral : List ℕ → Bool
numeral [] = false
numeral (c ∷ cs) = (not (c == 48) || length cs == 0) && all_ascii_digits (c ∷ cs)

-- the number that digits write, after the number so far
abbrev pub read_on : ℕ → List ℕ → ℕ
read_on n [] = n
read_on n (c ∷ cs) = read_on (n * 10 + (c - 48)) cs

-- the number that a numeral writes
abbrev pub numeral_value : List ℕ → Option ℕ
numeral_value ds = cond (numeral ds) (Some (read_on 0 ds)) None

-- the most columns that a field has
abbrev pub most_columns : ℕ
most_columns = 19

-- the number that stands right-justified: a numeral after blanks
abbrev pub justified : List ℕ → Option ℕ
justified b = numeral_value (unblank b)

-- the number in a field, or nothing where it is malformed or too wide
abbrev pub field_value : List ℕ → Option ℕ
field_value b = cond (nat_le (length b) most_columns) (justified b) None
