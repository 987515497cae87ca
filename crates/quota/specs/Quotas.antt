-- What a quota means over the unit below it. Assumes nothing.
use Rattle.std.specs.Prelude.{ℕ, ◌-◌, min}
use Rattle.units.specs.Units.{State}

-- a quota of q multiplications, of which `used` are spent
abbrev pub under_quota : {V : Type 0} → ℕ → ℕ → State V → State V
under_quota q used s = record { cells = s.cells; left = min s.left (q - used); log = s.log }
