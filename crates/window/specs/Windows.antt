-- What a window means over the unit below it. Assumes nothing.
use Rattle.std.specs.Prelude.{ℕ, take, drop, None}
use Rattle.units.specs.Units.{State}

-- the cells from number w on, at most z of them, and no records
abbrev pub windowed : {V : Type 0} → ℕ → ℕ → State V → State V
windowed w z s = record { cells = take z (drop w s.cells); left = s.left; log = None }
