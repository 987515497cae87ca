-- What the definitions are, in the words of the subject. Assumes nothing.
use Rattle.std.specs.Prelude.{◌≡◌, ℕ, zero, suc, ◌+◌, ◌-◌, ◌*◌, ◌%◌, ◌≤◌, bit_xor}
use Rattle.bits.specs.Bits.{bit_at}
use Rattle.polynomial_ring.specs.Polynomials.{times, rem, Reduced}

-- the coefficient of t^i
abbrev pub coef : ℕ → ℕ → ℕ
coef a i = bit_at a i

-- g 0 + .. + g (n - 1)
unfoldable pub sum_to : (ℕ → ℕ) → ℕ → ℕ
sum_to g zero = zero
sum_to g (suc n) = sum_to g n + g n

-- `times` is the product of polynomials: the coefficient of t^k is the sum, modulo 2, of the products of those of t^(k - i) and t^i.
abbrev pub Multiplies : Type 0
Multiplies = (a b k : ℕ) → coef (times a b) k ≡ sum_to (λ i. coef a (k - i) * coef b i) (k + 1) % 2

-- what a remainder is: below the degree of f, and x is a multiple of f plus it
pub record Remainder (f x r : ℕ) : Type 0 where
  pub below : Reduced f r
  pub quotient : ℕ
  pub whole : x ≡ bit_xor (times f quotient) r

-- `rem f x` is the remainder of x modulo f, and the only one.
abbrev pub Reduces : Type 0
Reduces = ((f x : ℕ) → 2 ≤ f → Remainder f x (rem f x)) × ((f x r : ℕ) → 2 ≤ f → Remainder f x r → r ≡ rem f x)
