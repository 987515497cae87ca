-- The plan by digits of k bits, m = 2 ^ k being how many digits there are. Assumes nothing.
use Rattle.std.specs.Prelude.{◌≡◌, ℕ, zero, suc, ◌+◌, ◌-◌, ◌*◌, ◌/◌, ◌%◌, ◌^◌, ◌<◌, ◌≤◌, Bool, cond, ◌&&◌, List, [], ◌∷◌, ◌++◌, length, ◌==◌, nat_le, nat_lt}
use Rattle.plans.specs.declared.step.Step.{Step}
use Rattle.bits.specs.Bits.{top}
use Rattle.planning.specs.Planning.{step}

-- a digit has 1 to 5 bits
abbrev pub is_width : ℕ → Bool
is_width k = nat_le 1 k && nat_le k 5

-- so many steps, each of which adds a_0 to the value before it, where `at` steps are there and the last value is at + 1
unfoldable pub count_from : ℕ → ℕ → List Step
count_from zero at = []
count_from (suc left) at = step at 0 (at + 2) ∷ count_from left (at + 1)

-- i doublings of v, the value number `from`, where `at` steps are there; one below m is no step, its value being in the list 1, 2, up to m - 1
unfoldable pub doubles : ℕ → ℕ → ℕ → ℕ → ℕ → List Step
doubles m zero at from v = []
doubles m (suc i) at from v =
    cond (nat_lt (v + v) m)
    (doubles m i at (v + v - 1) (v + v))
    (step from from (v + v) ∷ doubles m i (at + 1) (at + 1) (v + v))

-- digit p of n, of k bits, from 0
abbrev pub digit : ℕ → ℕ → ℕ → ℕ
digit k n p = n / 2 ^ (p * k) % 2 ^ k

-- the step that adds the digit e, a value of the list, to the last value v, unless it is 0
abbrev pub addition : ℕ → ℕ → ℕ → List Step
addition e at v = cond (e == 0) [] (step at (e - 1) (v + e) ∷ [])

-- the steps for one digit e: k doublings, and the digit added
unfoldable pub one_digit : ℕ → ℕ → ℕ → ℕ → ℕ → List Step
one_digit k e at from v = doubles (2 ^ k) k at from v ++ addition e (at + length (doubles (2 ^ k) k at from v)) (v * 2 ^ k)

-- the steps for the digits of n below place p, from the highest of them down, where v is the value number `from`; the value after each digit is the last one
unfoldable pub digits_from : ℕ → ℕ → ℕ → ℕ → ℕ → ℕ → List Step
digits_from k n zero at from v = []
digits_from k n (suc p) at from v =
    one_digit k (digit k n p) at from v
    ++ (let at1 : ℕ = at + length (one_digit k (digit k n p) at from v) in digits_from k n p at1 at1 (v * 2 ^ k + digit k n p))

-- how many digits there are below the top one
abbrev pub lower : ℕ → ℕ → ℕ
lower k n = top n / k

-- the top digit
abbrev pub leading : ℕ → ℕ → ℕ
leading k n = n / 2 ^ (lower k n * k)

-- the plan of n by digits of k bits
unfoldable pub digits_plan : ℕ → ℕ → List Step
digits_plan k n =
    cond (nat_lt n (2 ^ k))
    (count_from (n - 1) 0)
    (count_from (2 ^ k - 2) 0 ++ digits_from k n (lower k n) (2 ^ k - 2) (leading k n - 1) (leading k n))

-- The rule of the method, of every width k and every exponent, m being 2 ^ k. Below m the plan of n counts 1, 2, up to n. Any other exponent is m * q + e, where the digit e is below m:
-- if q is below m, the steps for the digit e follow the whole list 1, 2, up to m - 1, in which q is the value number q - 1;
-- else they follow the plan of q, which has r steps, so that its last value, q, is the value number r.
pub record DigitsRule : Type 0 where
  pub count : (k n : ℕ) → 1 ≤ k → k ≤ 5 → 1 ≤ n → n < 2 ^ k → digits_plan k n ≡ count_from (n - 1) 0
  pub first : (k q e : ℕ) → 1 ≤ k → k ≤ 5 → 1 ≤ q → q < 2 ^ k → e < 2 ^ k → digits_plan k (2 ^ k * q + e) ≡ count_from (2 ^ k - 2) 0 ++ one_digit k e (2 ^ k - 2) (q - 1) q
  pub next : (k q e r : ℕ) → 1 ≤ k → k ≤ 5 → 2 ^ k ≤ q → e < 2 ^ k → 2 ^ k * q + e < 2 ^ 63 → r ≡ length (digits_plan k q) → digits_plan k (2 ^ k * q + e) ≡ digits_plan k q ++ one_digit k e r r q

-- how many of the p lowest digits are 0
unfoldable pub zeros : ℕ → ℕ → ℕ → ℕ
zeros k n zero = 0
zeros k n (suc p) = cond (digit k n p == 0) 1 0 + zeros k n p

-- the length of that plan: the list, k doublings and one addition for each digit below the top one, less an addition for each digit that is 0, and less the doublings that are in the list
abbrev pub digits_length : ℕ → ℕ → ℕ
digits_length k n =
    cond (nat_lt n (2 ^ k))
    (n - 1)
    (2 ^ k - 2 + k * lower k n + lower k n - zeros k n (lower k n + 1) - (k - 1 - top (leading k n)))
