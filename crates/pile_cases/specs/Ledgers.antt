-- What a ledger means: its places, the allowance left, and its records. Assumes nothing.
use Rattle.std.specs.Prelude.{ℕ, min, List, [], replicate, Some, None, Option}
use Rattle.units.specs.declared.record.Record.{Record}
use Rattle.units.specs.Units.{State}

-- a ledger with so much left, that has stored these records
abbrev pub ledgered : {V : Type 0} → List (Option V) → ℕ → List Record → State V
ledgered places left records = record { cells = places; left = left; log = Some records }

-- a ledger as it is made: so many empty cells, an allowance of at most 2,048, and no records
abbrev pub empty_ledger : {V : Type 0} → ℕ → ℕ → State V
empty_ledger size allowance = record { cells = replicate size None; left = min allowance 2048; log = Some [] }
