-- What a run sheet means over the unit below it. Assumes nothing.
use Rattle.std.specs.Prelude.{ℕ, zero, suc, ◌-◌, min, List, length, Some, None, Option, slice_get}
use Rattle.units.specs.declared.record.Record.{Record}
use Rattle.units.specs.Units.{State}

-- a run sheet that holds these records, with 1,024 places for them
abbrev pub sheeted : {V : Type 0} → List Record → State V → State V
sheeted records s = record { cells = s.cells; left = min s.left (1024 - length records); log = Some records }

-- the record of a number, counted from 1
abbrev pub numbered : List Record → ℕ → Option Record
numbered records zero = None
numbered records (suc i) = slice_get records i
