-- The kinds on plain numbers: counts, residues and polynomials by their numbers. Assumes nothing.
use Rattle.std.specs.Prelude.{ℕ, ◌+◌, ◌-◌, ◌^◌, ◌<◌, ◌≤◌, min, nat_lt}
use Rattle.bits.specs.Bits.{top}
use Rattle.kinds.specs.Kinds.{Meaning}
use Rattle.kinds.specs.Residues.{residue_product}
use Rattle.polynomial_ring.specs.Polynomials.{product}
use Rattle.plain_numbers.specs.declared.rule.Rule.{Rule}
use Rattle.plain_numbers.specs.declared.rule.Rule.TheVariants.{Sums, Residues, Polynomials}

-- the number from which on the values of a kind are foreign
abbrev pub limit : Rule → ℕ
limit Sums = 2 ^ 63
limit (Residues p) = p
limit (Polynomials f) = 2 ^ top f

-- the product of two values: the sum, capped; that of the numbers, modulo p; that of the polynomials, modulo f
abbrev pub times : Rule → ℕ → ℕ → ℕ
times Sums a b = min (a + b) (2 ^ 63 - 1)
times (Residues p) a b = residue_product p a b
times (Polynomials f) a b = product f a b

-- what a kind means on plain numbers
abbrev pub numbers : Rule → Meaning ℕ
numbers r = record { native = λ v. nat_lt v (limit r); times = times r }

-- the modulus is one that there is a kind of
abbrev pub IsRule : Rule → Type 0
IsRule Sums = Unit {0}
IsRule (Residues p) = (2 ≤ p) × (p < 2 ^ 32)
IsRule (Polynomials f) = 2 ≤ f
