-- Polynomials with coefficients modulo 2, as numbers: bit i of a number is the coefficient of t^i, and the sum of two is `bit_xor`. Assumes nothing.
use Rattle.std.specs.Prelude.{ℕ, zero, suc, ◌*◌, ◌/◌, ◌%◌, ◌^◌, ◌<◌, cond, bit_xor, nat_lt}
use Rattle.bits.specs.Bits.{top}

-- the product: the lowest bit of b times a, plus t times the product with the rest of b
unfoldable pub times_in : ℕ → ℕ → ℕ → ℕ
times_in zero a b = zero
times_in (suc d) a zero = zero
times_in (suc d) a (suc b) = bit_xor (suc b % 2 * a) (times_in d a (suc b / 2) * 2)

unfoldable pub times : ℕ → ℕ → ℕ
unfolding times_in
times a b = times_in b a b

-- one step of the division: y has at most the degree n of f
unfoldable pub reduce : ℕ → ℕ → ℕ → ℕ
reduce n f y = cond (nat_lt y (2 ^ n)) y (bit_xor y f)

-- the remainder of x modulo f of degree n: that of t times the remainder of the rest of x, plus the lowest bit of x
unfoldable pub rem_in : ℕ → ℕ → ℕ → ℕ → ℕ
unfolding reduce
rem_in zero n f x = zero
rem_in (suc d) n f zero = zero
rem_in (suc d) n f (suc x) = reduce n f (bit_xor (suc x % 2) (rem_in d n f (suc x / 2) * 2))

unfoldable pub rem : ℕ → ℕ → ℕ
unfolding top rem_in
rem f x = rem_in x (top f) f x

-- the values below the degree of f
abbrev pub Reduced : ℕ → ℕ → Type 0
Reduced f a = a < 2 ^ top f

-- the product, reduced modulo f
unfoldable pub product : ℕ → ℕ → ℕ → ℕ
unfolding times rem
product f a b = rem f (times a b)
