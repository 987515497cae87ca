-- Powers under the product of a kind. Assumes nothing.
use Rattle.std.specs.Prelude.{◌≡◌, ℕ, zero, suc, ◌+◌, ◌≤◌, true}
use Rattle.kinds.specs.Kinds.{Meaning}

-- The first power of x is x, and power n + 1 is power n times x, where n is at least 1. Power 0 is x too, since every number has a power here; no rule asks for it.
abbrev pub power : {V : Type 0} → Meaning V → V → ℕ → V
power m x zero = x
power m x (suc zero) = x
power m x (suc (suc n)) = m.times (power m x (suc n)) x

-- Power a + b of a native value is power a times power b.
abbrev pub PowersAdd : {V : Type 0} → Meaning V → Type 0
PowersAdd {V} m = (x : V) → m.native x ≡ true → (a b : ℕ) → 1 ≤ a → 1 ≤ b → power m x (a + b) ≡ m.times (power m x a) (power m x b)
