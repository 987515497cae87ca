-- What a bank means: its places, the allowance left, and no records. Assumes nothing.
use Rattle.std.specs.Prelude.{ℕ, List, replicate, None, Option}
use Rattle.units.specs.Units.{State}

-- a bank of these places, with so much left
abbrev pub bank : {V : Type 0} → List (Option V) → ℕ → State V
bank places left = record { cells = places; left = left; log = None }

-- a bank as it is made: 32 empty places
abbrev pub fresh : {V : Type 0} → ℕ → State V
fresh left = bank (replicate 32 None) left
