-- The smallest divisor above 1. Assumes nothing.
use Rattle.std.proofs.Common.{◌≡◌, ℕ, zero, suc, ◌+◌, ◌*◌, ◌/◌, ◌%◌, ◌<◌, ◌≤◌, true, false, eqb, ltb, Some, None, ◌⊎◌, sym, refl, ap, ◌∙◌, subst, ⊎_elim, mod-eq_of_lt, mul_comm, mul-le-mul, div-add-mod', arith}
use native.Mathlib.Nat.{mod_self, mul-mod_right, div-eq_of_eq-mul_right}
use Rattle.std.proofs.lemmas.Bool.{eqb-true, eqb-false, lt-ltb, le-ltb, cases_lt, cases_order, cond_both}
use Rattle.factor_plans.specs.Divisors.{Least, divisor_from, least_divisor, least_of}

-- no divisor from 2 up to d
abbrev pub NoneBelow : ℕ → ℕ → Type 0
NoneBelow n d = (m : ℕ) → 1 < m → m < d → n % m ≡ 0 → ⊥

none_more : (n d : ℕ) → NoneBelow n d → (n % d ≡ 0 → ⊥) → NoneBelow n (d + 1)
none_more n d b e m l h z =
    ⊎_elim (λ (k : m < d). b m l k z) (λ (k : d ≤ m). let q : m ≡ d = omega arith in e (sym (ap (λ (x : ℕ). n % x) q) ∙ z)) (cases_lt m d)

-- a number is its own divisor
least_itself : (n : ℕ) → 1 < n → NoneBelow n n → Least n n
least_itself n h b = record { above = h; divides = mod_self n; least = b }

from_least : (f d n : ℕ) → 1 < d → d ≤ n → n ≤ d + f → NoneBelow n d → Least n (divisor_from f d n)
unfolding divisor_from
from_least zero d n l h k b = let e : d ≡ n = omega arith in least_itself n (omega arith) (subst (NoneBelow n) e b)
from_least (suc f) d n l h k b =
    cond_both (eqb (n % d) 0) d (divisor_from f (d + 1) n) (Least n)
    (λ e. record { above = l; divides = eqb-true _ _ e; least = b })
    (λ e.
    let z = eqb-false _ _ e in
    let ne : d ≡ n → ⊥ = λ q. z (subst (λ (x : ℕ). x % d ≡ 0) q (mod_self d)) in
    from_least f (d + 1) n (omega arith) (omega arith) (omega arith) (none_more n d b z))

pub divisor_least : (n : ℕ) → 1 < n → Least n (least_divisor n)
unfolding least_divisor
divisor_least n h = from_least n 2 n (omega arith) h (omega arith) (λ m l k z. omega arith)

-- there is one smallest divisor
pub least_same : (n p q : ℕ) → Least n p → Least n q → p ≡ q
least_same n p q a b =
    ⊎_elim (λ (e : p ≡ q). e)
    (⊎_elim (λ (h : p < q). absurd (b.least p a.above h a.divides)) (λ (h : q < p). absurd (a.least q b.above h b.divides)))
    (cases_order p q)

pub least_some : (n p : ℕ) → 1 < n → Least n p → Some p ≡ least_of n
least_some n p h a =
    let e : p ≡ least_divisor n = least_same n p (least_divisor n) a (divisor_least n h) in
    let t : ltb 1 n ≡ true = lt-ltb _ _ h in
    rw (t, e) refl

-- n = p·q with its smallest divisor p
module _ (n p : ℕ) (pos : 1 ≤ n) (a : Least n p) where
  pub divisor_le : p ≤ n
  divisor_le = ⊎_elim (λ (l : n < p). omega (arith, mod-eq_of_lt l, a.divides)) (λ (l : p ≤ n). l) (cases_lt n p)

  pub divisor_times : p * (n / p) ≡ n
  divisor_times = mul_comm p (n / p) ∙ omega (arith, div-add-mod' n p, a.divides)

  pub quotient_low : 1 ≤ n / p
  quotient_low =
      ⊎_elim
      (λ (l : n / p < 1). let z : n / p ≡ 0 = omega arith in let w : p * 0 ≡ n = subst (λ (x : ℕ). p * x ≡ n) z divisor_times in omega arith)
      (λ (l : 1 ≤ n / p). l)
      (cases_lt (n / p) 1)

  pub quotient_less : n / p < n
  quotient_less =
      let w : 2 * (n / p) ≤ p * (n / p) = mul-le-mul {n₁ = 2} a.above (omega arith) in
      omega (arith, divisor_times, quotient_low)

pub quotient_is : (n p q : ℕ) → Least n p → n ≡ p * q → n / p ≡ q
quotient_is n p q a e = div-eq_of_eq-mul_right {n = p} (omega (arith, a.above)) e

-- the other factor of a proper divisor is above 1 too
cofactor : (n m e : ℕ) → 1 < m → m < n → e * m ≡ n → 1 < e
cofactor n m zero l h q = omega arith
cofactor n m (suc zero) l h q = omega arith
cofactor n m (suc (suc e)) l h q = omega arith

-- where no divisor is below d and n is below d·d, n is its own smallest divisor
least_past : (n d : ℕ) → 1 < n → n < d * d → NoneBelow n d → Least n n
least_past n d h big b =
    least_itself n h
    (λ m l k z.
    let e : ℕ = n / m in
    let q : e * m ≡ n = omega (arith, div-add-mod' n m) in
    ⊎_elim (λ (j : m < d). b m l j z)
    (λ (j : d ≤ m).
    ⊎_elim
    (λ (i : e < d). b e (cofactor n m e l k q) i (sym (ap (λ (x : ℕ). x % e) q) ∙ mul-mod_right e m))
    (λ (i : d ≤ e). let w : d * d ≤ e * m = mul-le-mul i j in omega arith)
    (cases_lt e d))
    (cases_lt m d))

-- what the search for a divisor of n finds below d: no number there is past the root of n, and none divides n
abbrev pub WentOn : ℕ → ℕ → Type 0
WentOn n d = (k : ℕ) → 2 ≤ k → k < d → (k * k ≤ n) × (n % k ≡ 0 → ⊥)

-- where it ends at d, and d is within the root, d is the smallest divisor
pub least_here : (n d : ℕ) → 2 ≤ d → (n < d * d) ⊎ (n % d ≡ 0) → WentOn n d → d * d ≤ n → Least n d
least_here n d l ends on within =
    record {
      above = l;
      divides = ⊎_elim (λ (h : n < d * d). absurd (omega arith)) (λ (h : n % d ≡ 0). h) ends;
      least = λ m a h. (on m a h).1;
    }

-- where it went on up to d, which is past the root, n is its own smallest divisor
pub least_beyond : (n d : ℕ) → 1 < n → WentOn n d → n < d * d → Least n n
least_beyond n d h on past = least_past n d h past (λ m a l. (on m a l).1)
