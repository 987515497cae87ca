-- Chains of products. Assumes nothing.
use Rattle.std.specs.Prelude.{ℕ, zero, suc, cond, ◌&&◌, Some, None, Option}
use Rattle.kinds.specs.Kinds.{Meaning}

-- the product of a and n times b
unfoldable pub chained : {V : Type 0} → Meaning V → V → V → ℕ → V
chained m a b zero = a
chained m a b (suc n) = m.times (chained m a b n) b

-- or nothing, if either is not native
abbrev pub chain_of : {V : Type 0} → Meaning V → V → V → ℕ → Option V
chain_of m a b n = cond (m.native a && m.native b) (Some (chained m a b n)) None
