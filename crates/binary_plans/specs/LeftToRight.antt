-- The plan from the highest bit down. Assumes nothing.
use Rattle.std.specs.Prelude.{◌≡◌, ℕ, zero, suc, ◌+◌, ◌*◌, ◌^◌, ◌<◌, ◌≤◌, cond, List, [], ◌∷◌, ◌++◌, length, ◌==◌}
use Rattle.plans.specs.declared.step.Step.{Step}
use Rattle.bits.specs.Bits.{top, bit_at}
use Rattle.planning.specs.Planning.{step}

-- the steps for the bits of n below b, where `at` steps are there and the last value is v: it is doubled, and then a_0 is added if the bit is 1
abbrev pub left_from : ℕ → ℕ → ℕ → ℕ → List Step
left_from n zero at v = []
left_from n (suc b) at v =
    step at at (v + v)
    ∷ cond (bit_at n b == 1)
    (step (at + 1) 0 (v + v + 1) ∷ left_from n b (at + 1 + 1) (v + v + 1))
    (left_from n b (at + 1) (v + v))

-- the plan of n from its highest bit down
abbrev pub left_to_right : ℕ → List Step
left_to_right n = left_from n (top n) 0 1

-- The rule of the method, of every exponent. The plan of n has r steps, so that its last value, n, is the value number r:
-- the plan of 2n is that plan and a step that doubles the last value, and the plan of 2n + 1 has one step more, which adds a_0.
pub record LeftToRightRule : Type 0 where
  pub one : left_to_right 1 ≡ []
  pub even : (n r : ℕ) → 1 ≤ n → n < 2 ^ 62 → r ≡ length (left_to_right n) → left_to_right (2 * n) ≡ left_to_right n ++ step r r (2 * n) ∷ []
  pub odd : (n r : ℕ) → 1 ≤ n → n < 2 ^ 62 → r ≡ length (left_to_right n) → left_to_right (2 * n + 1) ≡ left_to_right n ++ step r r (2 * n) ∷ step (r + 1) 0 (2 * n + 1) ∷ []
