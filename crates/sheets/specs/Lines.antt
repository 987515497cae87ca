-- The format of a line, which holds one step. Assumes nothing.
use Rattle.std.specs.Prelude.{ℕ, ◌^◌, ◌<◌, List, [], ◌∷◌, ◌++◌}
use Rattle.fields.specs.Field.{field}
use Rattle.plans.specs.declared.step.Step.{Step}

-- the bytes of a line, its newline among them
abbrev pub line_bytes : ℕ
line_bytes = 32

-- the byte that ends a line
abbrev pub newline : ℕ
newline = 10

-- step number i: its number, the two values that it cites, its value, and a newline
abbrev pub line : ℕ → Step → List ℕ
line i s = field 4 i ++ (field 4 s.j ++ (field 4 s.k ++ (field 19 s.value ++ (newline ∷ []))))

-- the numbers of a step have room in their columns
abbrev pub Writable : Step → Type 0
Writable s = (s.j < 10 ^ 4) × (s.k < 10 ^ 4) × (s.value < 10 ^ 19)
