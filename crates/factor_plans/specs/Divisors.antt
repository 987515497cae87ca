-- The smallest divisor of a number above 1. Assumes nothing.
use Rattle.std.specs.Prelude.{◌≡◌, ℕ, zero, suc, ◌+◌, ◌%◌, ◌<◌, cond, Some, None, Option, ◌==◌, ◌≢◌, nat_lt}

-- p is the smallest divisor of n above 1
pub record Least (n p : ℕ) : Type 0 where
  pub above : 1 < p
  pub divides : n % p ≡ 0
  pub least : (d : ℕ) → 1 < d → d < p → n % d ≢ 0

-- the first divisor of n from d on, among so many numbers, and else n
unfoldable pub divisor_from : ℕ → ℕ → ℕ → ℕ
divisor_from zero d n = n
divisor_from (suc left) d n = cond (n % d == 0) d (divisor_from left (d + 1) n)

-- the smallest divisor above 1 of a number above 1
unfoldable pub least_divisor : ℕ → ℕ
least_divisor n = divisor_from n 2 n

-- the same of any number; 0 and 1 are given none
abbrev pub least_of : ℕ → Option ℕ
least_of n = cond (nat_lt 1 n) (Some (least_divisor n)) None
