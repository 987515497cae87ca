-- The binary digits of a number: its highest one bit, and bit b. Assumes nothing.
use Rattle.std.specs.Prelude.{ℕ, zero, suc, pred, ◌+◌, ◌/◌, ◌%◌, ◌^◌, ◌<◌, ◌≤◌}

-- how many binary digits n has; the first argument is at least their number
unfoldable pub length_in : ℕ → ℕ → ℕ
length_in zero n = zero
length_in (suc d) zero = zero
length_in (suc d) (suc n) = suc (length_in d (suc n / 2))

-- top n: the place, from 0, of the highest one bit; 0 for 0, which has none
unfoldable pub top : ℕ → ℕ
unfolding length_in
top n = pred (length_in n n)

-- `top` is the place of the highest one bit.
abbrev pub Highest : Type 0
Highest = (n : ℕ) → 1 ≤ n → (2 ^ top n ≤ n) × (n < 2 ^ (top n + 1))

-- bit b of n
abbrev pub bit_at : ℕ → ℕ → ℕ
bit_at n b = n / 2 ^ b % 2
