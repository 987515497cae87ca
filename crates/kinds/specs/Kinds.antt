-- What a kind of value means: its native values and their product. Assumes nothing.
use Rattle.std.specs.Prelude.{◌≡◌, Bool, true, cond, ◌&&◌, Some, None, Option}

-- which values are native, and the product of two native values
pub record Meaning (V : Type 0) : Type 0 where
  pub native : V → Bool
  pub times : V → V → V

-- the product of two values, or nothing if either is not native
abbrev pub product_of : {V : Type 0} → Meaning V → V → V → Option V
product_of m a b = cond (m.native a && m.native b) (Some (m.times a b)) None

-- a product of native values is native
abbrev pub Closed : {V : Type 0} → Meaning V → Type 0
Closed {V} m = (a b : V) → m.native a ≡ true → m.native b ≡ true → m.native (m.times a b) ≡ true

-- (a · b) · c is a · (b · c) for all native a, b, c
abbrev pub Associates : {V : Type 0} → Meaning V → Type 0
Associates {V} m = (a b c : V) → m.native a ≡ true → m.native b ≡ true → m.native c ≡ true → m.times (m.times a b) c ≡ m.times a (m.times b c)
