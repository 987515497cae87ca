-- The plan from bit 0 up. Assumes nothing.
use Rattle.std.specs.Prelude.{◌≡◌, ℕ, zero, suc, ◌+◌, ◌%◌, ◌^◌, ◌<◌, ◌≤◌, cond, ◌&&◌, List, [], ◌∷◌, ◌++◌, map, ◌==◌, nat_lt}
use Rattle.plans.specs.declared.step.Step.{Step}
use Rattle.plans.specs.Chain.{value_at}
use Rattle.bits.specs.Bits.{top, bit_at}
use Rattle.planning.specs.Planning.{step}

-- the steps from bit b of n up, where so many bits are left below the highest, `at` steps are there, the last value is the square v, and the sum is w, the value number s (0 as long as there is none):
-- the square is added to the sum if the bit is 1, the first time without a step, and then doubled
abbrev pub right_from : ℕ → ℕ → ℕ → ℕ → ℕ → ℕ → ℕ → List Step
right_from n zero b at v s w = cond (w == 0) [] (step at s (v + w) ∷ [])
right_from n (suc left) b at v s w =
    cond (bit_at n b == 1)
    (cond (w == 0)
    (step at at (v + v) ∷ right_from n left (b + 1) (at + 1) (v + v) at v)
    (step at s (v + w) ∷ step at at (v + v) ∷ right_from n left (b + 1) (at + 1 + 1) (v + v) (at + 1) (v + w)))
    (step at at (v + v) ∷ right_from n left (b + 1) (at + 1) (v + v) s w)

-- the plan of n from bit 0 up
abbrev pub right_to_left : ℕ → List Step
right_to_left n = right_from n (top n) 0 0 1 0 0

-- a step of a plan, read out: the two values that it adds, and what they make
abbrev pub read_out : List Step → Step → ℕ × ℕ × ℕ
read_out plan x = (value_at plan x.j, value_at plan x.k, x.value)

-- What is added at bit b of n. If the bit is 1 and a lower one is too: the square 2 ^ b and the sum so far, n % 2 ^ b, which make n % 2 ^ (b + 1).
-- And then, if b is below the highest bit: the square and itself.
unfoldable pub additions_at : ℕ → ℕ → List (ℕ × ℕ × ℕ)
additions_at n b =
    cond (bit_at n b == 1 && nat_lt 0 (n % 2 ^ b)) ((2 ^ b, n % 2 ^ b, n % 2 ^ (b + 1)) ∷ []) []
    ++ cond (nat_lt b (top n)) ((2 ^ b, 2 ^ b, 2 ^ (b + 1)) ∷ []) []

-- what is added at the bits below b, from bit 0 up
unfoldable pub additions_below : ℕ → ℕ → List (ℕ × ℕ × ℕ)
additions_below n zero = []
additions_below n (suc b) = additions_below n b ++ additions_at n b

-- The rule of the method, of every exponent: the steps of its plan, read out, are the additions at its bits, from bit 0 to the highest.
abbrev pub RightToLeftRule : Type 0
RightToLeftRule = (n : ℕ) → 1 ≤ n → n < 2 ^ 63 → map (read_out (right_to_left n)) (right_to_left n) ≡ additions_below n (top n + 1)
