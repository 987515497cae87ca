-- The rule of the method: the plan of m * q + e from the plan of q. Assumes nothing.
use Rattle.std.proofs.Common.{◌≡◌, ℕ, zero, suc, ◌+◌, ◌-◌, ◌*◌, ◌/◌, ◌%◌, ◌^◌, ◌<◌, ◌≤◌, List, ◌++◌, length, sym, refl, ap, ◌∙◌, subst, append_assoc, append-nil, suc-mul, mul_comm, mul-le-mul_left, zero-mul, mul-one, div-one, add-one, arith, length-append, pow_pos, pow_mono, shr-shr}
use native.Mathlib.Nat.{div-eq_of_lt, add-div_right}
use lib.Pow.{shr_le}
use Rattle.std.proofs.lemmas.Nat.{div-mul-add, mod-mul-add}
use Rattle.plans.specs.declared.step.Step.{Step}
use Rattle.bits.specs.Bits.{top}
use Rattle.planning.proofs.Powers.{top_less, top_shifted}
use Rattle.digit_plans.specs.Digits.{count_from, digit, one_digit, digits_from, lower, leading, digits_plan, DigitsRule}
use Rattle.digit_plans.proofs.Counting.{count_length}
use Rattle.digit_plans.proofs.DigitPlans.{digits_end, digits_here, value_digit, plan_low, plan_high, the_top}

-- q is n without its last digit, e
module _ (k n q e : ℕ) (parts : n / 2 ^ k ≡ q) (last : n % 2 ^ k ≡ e) where
  shift_up : (p : ℕ) → n / 2 ^ (suc p * k) ≡ q / 2 ^ (p * k)
  shift_up p =
      let a : suc p * k ≡ k + p * k = omega (arith, suc-mul p k) in
      ap (λ (x : ℕ). n / 2 ^ x) a ∙ sym (shr-shr n k (p * k)) ∙ ap (λ (x : ℕ). x / 2 ^ (p * k)) parts

  digit_up : (p : ℕ) → digit k n (suc p) ≡ digit k q p
  digit_up p = ap (λ (x : ℕ). x % 2 ^ k) (shift_up p)

  digit_last : digit k n 0 ≡ e
  digit_last = ap (λ (x : ℕ). n / 2 ^ x % 2 ^ k) (zero-mul k) ∙ ap (λ (x : ℕ). x % 2 ^ k) (div-one n) ∙ last

  shift_none : q / 2 ^ (0 * k) ≡ q
  shift_none = ap (λ (x : ℕ). q / 2 ^ x) (zero-mul k) ∙ div-one q

  -- the steps for the last digit alone
  last_only : (at from v : ℕ) → v ≡ q → digits_from k n 1 at from v ≡ one_digit k e at from q
  last_only at from v s =
      digits_here k n 0 at from v _ refl
      ∙ ap (λ (x : List Step). one_digit k (digit k n 0) at from v ++ x) (digits_end k n _ _ _)
      ∙ append-nil (one_digit k (digit k n 0) at from v)
      ∙ ap (λ (x : ℕ). one_digit k x at from v) digit_last
      ∙ ap (one_digit k e at from) s

  -- the steps for the digits of n are those for the digits of q, and then those for e
  abbrev Splits : ℕ → ℕ → ℕ → ℕ → Type 0
  Splits p at from v = (r : ℕ) → r ≡ at + length (digits_from k q p at from v) → digits_from k n (suc p) at from v ≡ digits_from k q p at from v ++ one_digit k e r r q

  split_here : (p at from v : ℕ) → v ≡ q / 2 ^ (suc p * k) → ((at v : ℕ) → v ≡ q / 2 ^ (p * k) → Splits p at at v) → Splits (suc p) at from v
  split_here p at from v s rest r c =
      let d : ℕ = digit k q p in
      let one : List Step = one_digit k d at from v in
      let at1 : ℕ = at + length one in
      let w : ℕ = v * 2 ^ k + d in
      let tail : List Step = digits_from k q p at1 at1 w in
      let f : digits_from k q (suc p) at from v ≡ one ++ tail = digits_here k q p at from v at1 refl in
      let g : digits_from k n (suc (suc p)) at from v ≡ one ++ digits_from k n (suc p) at1 at1 w =
      digits_here k n (suc p) at from v _ refl
      ∙ ap (λ (x : ℕ). one_digit k x at from v ++ digits_from k n (suc p) (at + length (one_digit k x at from v)) (at + length (one_digit k x at from v)) (v * 2 ^ k + x)) (digit_up p) in
      let w-is : w ≡ q / 2 ^ (p * k) = sym (value_digit k q p ∙ ap (λ (x : ℕ). x * 2 ^ k + d) (sym s)) in
      let i = rest at1 w w-is r (omega (arith, ap length f, length-append one tail)) in
      g
      ∙ ap (λ (x : List Step). one ++ x) i
      ∙ sym (append_assoc one tail (one_digit k e r r q))
      ∙ ap (λ (x : List Step). x ++ one_digit k e r r q) (sym f)

  split_all : (p at v : ℕ) → v ≡ q / 2 ^ (p * k) → Splits p at at v
  split_all zero at v s r c =
      let f = digits_end k q at at v in
      let a : at ≡ r = omega (arith, ap length f) in
      last_only at at v (s ∙ shift_none)
      ∙ ap (λ (x : ℕ). one_digit k e x x q) a
      ∙ ap (λ (x : List Step). x ++ one_digit k e r r q) (sym f)
  split_all (suc p) at v s r c = split_here p at at v s (split_all p) r c

  -- one digit more
  module _ (low : 1 ≤ k) (some : 1 ≤ q) (bounded : n < 2 ^ 63) where
    lower_is : lower k n ≡ suc (lower k q)
    lower_is = ap (λ (x : ℕ). x / k) (top_shifted k parts some bounded) ∙ add-div_right (top q) low ∙ add-one (lower k q)

    leading_is : leading k n ≡ leading k q
    leading_is = ap (λ (x : ℕ). n / 2 ^ (x * k)) lower_is ∙ shift_up (lower k q)

    plan_is : 2 ^ k ≤ n → digits_plan k n ≡ count_from (2 ^ k - 2) 0 ++ digits_from k n (suc (lower k q)) (2 ^ k - 2) (leading k q - 1) (leading k q)
    plan_is h =
        plan_high k n h
        ∙ ap (λ (x : ℕ). count_from (2 ^ k - 2) 0 ++ digits_from k n x (2 ^ k - 2) (leading k n - 1) (leading k n)) lower_is
        ∙ ap (λ (x : ℕ). count_from (2 ^ k - 2) 0 ++ digits_from k n (suc (lower k q)) (2 ^ k - 2) (x - 1) x) leading_is

    -- after one digit, and after more
    plan_first : 2 ^ k ≤ n → q < 2 ^ k → digits_plan k n ≡ count_from (2 ^ k - 2) 0 ++ one_digit k e (2 ^ k - 2) (q - 1) q
    plan_first h s =
        let list : List Step = count_from (2 ^ k - 2) 0 in
        let z : lower k q ≡ 0 = div-eq_of_lt (top_less k q some s) in
        plan_is h
        ∙ ap (λ (x : ℕ). list ++ digits_from k n (suc x) (2 ^ k - 2) (q / 2 ^ (x * k) - 1) (q / 2 ^ (x * k))) z
        ∙ ap (λ (x : ℕ). list ++ digits_from k n 1 (2 ^ k - 2) (x - 1) x) shift_none
        ∙ ap (λ (x : List Step). list ++ x) (last_only (2 ^ k - 2) (q - 1) q refl)

    plan_next : 2 ^ k ≤ n → 2 ^ k ≤ q → (r : ℕ) → r ≡ length (digits_plan k q) → digits_plan k n ≡ digits_plan k q ++ one_digit k e r r q
    plan_next h s r c =
        let list : List Step = count_from (2 ^ k - 2) 0 in
        let v : ℕ = leading k q in
        let p : ℕ = lower k q - 1 in
        let y : 1 ≤ lower k q = (the_top k q low s (omega (arith, shr_le n k))).some in
        let a : lower k q ≡ suc p = omega arith in
        let steps : List Step = digits_from k q (lower k q) (2 ^ k - 2) (v - 1) v in
        let f : digits_plan k q ≡ list ++ steps = plan_high k q s in
        let g : Splits (lower k q) (2 ^ k - 2) (v - 1) v =
        subst (λ (x : ℕ). Splits x (2 ^ k - 2) (v - 1) v) (sym a) (split_here p (2 ^ k - 2) (v - 1) v (ap (λ (x : ℕ). q / 2 ^ (x * k)) a) (split_all p)) in
        plan_is h
        ∙ ap (λ (x : List Step). list ++ x) (g r (omega (arith, ap length f, length-append list steps, count_length (2 ^ k - 2) 0)))
        ∙ sym (append_assoc list steps (one_digit k e r r q))
        ∙ ap (λ (x : List Step). x ++ one_digit k e r r q) (sym f)

-- the parts of m * q + e
module _ (k q e : ℕ) (small : e < 2 ^ k) where
  parts_high : (2 ^ k * q + e) / 2 ^ k ≡ q
  parts_high = ap (λ (x : ℕ). (x + e) / 2 ^ k) (mul_comm (2 ^ k) q) ∙ div-mul-add q (2 ^ k) e small

  parts_low : (2 ^ k * q + e) % 2 ^ k ≡ e
  parts_low = ap (λ (x : ℕ). (x + e) % 2 ^ k) (mul_comm (2 ^ k) q) ∙ mod-mul-add q (2 ^ k) e small

  parts_above : 1 ≤ q → 2 ^ k ≤ 2 ^ k * q + e
  parts_above h = let a : 2 ^ k * 1 ≤ 2 ^ k * q = mul-le-mul_left (2 ^ k) h in omega (arith, mul-one (2 ^ k))

  parts_bounded : k ≤ 5 → q < 2 ^ k → 2 ^ k * q + e < 2 ^ 63
  parts_bounded h l = let a : 2 ^ k ≤ 2 ^ 5 = pow_mono h in let b : 2 ^ k * q ≤ 2 ^ k * 32 = mul-le-mul_left (2 ^ k) (omega arith) in omega arith

pub digits_rule : DigitsRule
digits_rule =
    record {
      count = λ k n a b l h. plan_low k n h;
      first = λ k q e a b l h s. plan_first k (2 ^ k * q + e) q e (parts_high k q e s) (parts_low k q e s) a l (parts_bounded k q e s b h) (parts_above k q e s l) h;
      next = λ k q e r a b h s l c. let one : 1 ≤ q = omega (arith, pow_pos k) in plan_next k (2 ^ k * q + e) q e (parts_high k q e s) (parts_low k q e s) a one l (parts_above k q e s one) h r c;
    }
