-- The factor method. Assumes nothing.
use Rattle.std.specs.Prelude.{◌≡◌, ℕ, zero, suc, ◌+◌, ◌-◌, ◌*◌, ◌/◌, ◌<◌, Bool, cond, List, [], ◌∷◌, ◌++◌, map, length, ◌==◌, nat_le}
use Rattle.plans.specs.declared.step.Step.{Step}
use Rattle.planning.specs.Planning.{step}
use Rattle.factor_plans.specs.Divisors.{Least, least_divisor}

-- the factor method allows exponents up to 2 ^ 32 - 1
abbrev pub allows_factor : ℕ → Bool
allows_factor n = nat_le n 4294967295

-- a step of a plan whose a_0 is the value number `base` of another plan, and is `scale` there
abbrev pub shifted : ℕ → ℕ → Step → Step
shifted base scale x = step (x.j + base) (x.k + base) (x.value * scale)

-- a plan of n - 1 and a step that adds a_0
abbrev pub and_one : List Step → ℕ → List Step
and_one s n = s ++ step (length s) 0 n ∷ []

-- a plan of p followed by another, its values times p and its a_0 being p
abbrev pub followed : List Step → ℕ → List Step → List Step
followed s p t = s ++ map (shifted (length s) p) t

-- the plan of n with the smallest divisor p, from the plans of smaller numbers
unfoldable pub factor_body : (ℕ → List Step) → ℕ → ℕ → List Step
factor_body plan n p =
    cond (nat_le n 1) []
    (cond (p == n) (and_one (plan (n - 1)) n) (followed (plan p) p (plan (n / p))))

-- the plans of the numbers up to a depth
unfoldable pub factor_with : ℕ → ℕ → List Step
factor_with zero n = []
factor_with (suc depth) n = factor_body (factor_with depth) n (least_divisor n)

-- the plan of the factor method; no number needs more depth than itself
unfoldable pub factor_plan : ℕ → List Step
factor_plan n = factor_with n n

-- the rule of the method, of every number
pub record FactorRule : Type 0 where
  pub one : factor_plan 1 ≡ []
  pub prime : (n : ℕ) → Least n n → factor_plan n ≡ and_one (factor_plan (n - 1)) n
  pub product : (n p q : ℕ) → Least n p → p < n → n ≡ p * q → factor_plan n ≡ followed (factor_plan p) p (factor_plan q)
