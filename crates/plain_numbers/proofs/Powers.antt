-- Powers on plain numbers.
use Rattle.std.proofs.Common.{◌≡◌, ℕ, zero, suc, ◌-◌, ◌*◌, ◌<◌, ◌≤◌, refl, arith, mod-lt}
use Rattle.kinds.specs.Powers.{power}
use Rattle.polynomial_ring.proofs.Remainders.{product_native}
use Rattle.plain_numbers.specs.declared.rule.Rule.{Rule}
use Rattle.plain_numbers.specs.declared.rule.Rule.TheVariants.{Sums, Residues, Polynomials}
use Rattle.plain_numbers.specs.Plain.{limit, times, numbers, IsRule}

-- a product of values is a value
closed : (r : Rule) (a b : ℕ) → IsRule r → a < limit r → b < limit r → times r a b < limit r
closed Sums a b is h k = omega arith
closed (Residues p) a b is h k = mod-lt (a * b) (omega arith)
closed (Polynomials f) a b is h k = product_native f (omega arith) a b

-- and so is a power
pub power_native : (r : Rule) (b n : ℕ) → IsRule r → b < limit r → power (numbers r) b n < limit r
power_native r b zero is h = h
power_native r b (suc zero) is h = h
power_native r b (suc (suc n)) is h = closed r (power (numbers r) b (suc n)) b is (power_native r b (suc n) is h) h

pub power_next : (r : Rule) (b n : ℕ) → 1 < n → times r (power (numbers r) b (n - 1)) b ≡ power (numbers r) b n
power_next r b zero h = absurd (omega arith)
power_next r b (suc zero) h = absurd (omega arith)
power_next r b (suc (suc n)) h = let e : suc (suc n) - 1 ≡ suc n = omega arith in rw e refl

-- of the first two places each holds the base
pub power_first : (r : Rule) (b n : ℕ) → n ≤ 1 → power (numbers r) b n ≡ b
power_first r b zero h = refl
power_first r b (suc zero) h = refl
power_first r b (suc (suc n)) h = absurd (omega arith)
