-- Sheets, as they are written. Assumes nothing.
use Rattle.std.specs.Prelude.{◌≡◌, ℕ, ◌+◌, ◌*◌, ◌<◌, ◌≤◌, cond, List, [], ◌∷◌, ◌++◌, length, drop, Ok, Err, Result, nat_le}
use Rattle.refusals.specs.declared.refusal.Refusal.{Refusal}
use Rattle.refusals.specs.declared.refusal.Refusal.TheVariants.{TableShort}
use Rattle.plans.specs.declared.step.Step.{Step}
use Rattle.plans.specs.Chain.{step_at}
use Rattle.sheets.specs.Lines.{line, line_bytes, Writable}

-- one line for each step, the first of which is number i + 1
abbrev pub sheet_from : ℕ → List Step → List ℕ
sheet_from i [] = []
sheet_from i (s ∷ ss) = line (i + 1) s ++ sheet_from (i + 1) ss

-- the sheet of a plan's steps
abbrev pub sheet : List Step → List ℕ
sheet ss = sheet_from 0 ss

-- how many bytes it has
abbrev pub sheet_bytes : List Step → ℕ
sheet_bytes ss = line_bytes * length ss

-- the numbers of each step have room in their fields
abbrev pub AllWritable : List Step → Type 0
AllWritable ss = (i : ℕ) → i < length ss → Writable (step_at ss i)

-- a text is the sheet of some steps, at most 128 and at most m
pub record IsSheet (m : ℕ) (t : List ℕ) : Type 0 where
  pub steps : List Step
  pub writes : sheet steps ≡ t
  pub room : AllWritable steps
  pub short : length steps ≤ 128
  pub placed : length steps ≤ m

-- what writing into so many bytes answers
abbrev pub wrote : List Step → ℕ → Result ℕ Refusal
wrote ss room = cond (nat_le (sheet_bytes ss) room) (Ok (sheet_bytes ss)) (Err (TableShort (sheet_bytes ss)))

-- the bytes after writing: the sheet in front, or all as it was
abbrev pub written : List Step → List ℕ → List ℕ
written ss was = cond (nat_le (sheet_bytes ss) (length was)) (sheet ss ++ drop (sheet_bytes ss) was) was
