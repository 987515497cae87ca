-- The plan of the factor method: its rule, its length, and how it is written. Assumes nothing.
use Rattle.std.proofs.Common.{◌≡◌, ℕ, zero, suc, ◌+◌, ◌-◌, ◌*◌, ◌/◌, ◌%◌, ◌^◌, ◌<◌, ◌≤◌, true, false, eqb, leb, List, [], ◌∷◌, ◌++◌, map, length, drop, set, sym, refl, ap, ◌∙◌, subst, ⊎_elim, add-zero, add-suc, add-mul, mul_assoc, mul_comm, mul-le-mul, suc-add, arith, length-append}
use lib.ListN.{length-map}
use lib.Seq.{sets, sets-eq}
use Rattle.std.proofs.lemmas.List.{length_push, map-append}
use Rattle.std.proofs.lemmas.Bool.{le-leb, lt-leb, eq-eqb, ne_eqb, cases_lt, cases_eq}
use Rattle.plans.specs.declared.step.Step.{Step}
use Rattle.bits.specs.Bits.{top}
use Rattle.planning.specs.Planning.{step}
use Rattle.bits.proofs.Tops.{top_low, top_max}
use Rattle.planning.proofs.Powers.{top_below, top_mono, top_product}
use Rattle.factor_plans.specs.Divisors.{Least, least_divisor}
use Rattle.factor_plans.specs.Factor.{shifted, and_one, followed, factor_body, factor_with, factor_plan, FactorRule}
use Rattle.factor_plans.proofs.Divisors.{divisor_least, least_same, divisor_le, divisor_times, quotient_low, quotient_less, quotient_is}

-- ---- the rule

module _ (plan : ℕ → List Step) (n p : ℕ) where
  body_one : n < 2 → factor_body plan n p ≡ []
  unfolding factor_body
  body_one h = let t : leb n 1 ≡ true = le-leb _ _ (omega arith) in rw t refl

  body_prime : 1 < n → p ≡ n → factor_body plan n p ≡ and_one (plan (n - 1)) n
  unfolding factor_body
  body_prime h e = let t : leb n 1 ≡ false = lt-leb _ _ h in let u : eqb p n ≡ true = eq-eqb _ _ e in rw (t, u) refl

  body_split : 1 < n → (p ≡ n → ⊥) → factor_body plan n p ≡ followed (plan p) p (plan (n / p))
  unfolding factor_body
  body_split h e = let t : leb n 1 ≡ false = lt-leb _ _ h in let u : eqb p n ≡ false = ne_eqb _ _ e in rw (t, u) refl

-- the plans of smaller numbers are all that it takes
body_same : (f g : ℕ → List Step) (n p : ℕ) → (1 < n → Least n p) → ((m : ℕ) → m < n → f m ≡ g m) → factor_body f n p ≡ factor_body g n p
body_same f g n p least same =
    ⊎_elim
    (λ (h : n < 2). body_one f n p h ∙ sym (body_one g n p h))
    (λ (h : 2 ≤ n).
    ⊎_elim
    (λ (e : p ≡ n). body_prime f n p h e ∙ ap (λ (s : List Step). and_one s n) (same (n - 1) (omega arith)) ∙ sym (body_prime g n p h e))
    (λ (e : p ≡ n → ⊥).
    let pos : 1 ≤ n = omega arith in
    let l : p < n = omega (arith, divisor_le n p pos (least h)) in
    body_split f n p h e
    ∙ ap (λ (s : List Step). followed s p (f (n / p))) (same p l)
    ∙ ap (λ (s : List Step). followed (g p) p s) (same (n / p) (quotient_less n p pos (least h)))
    ∙ sym (body_split g n p h e))
    (cases_eq p n))
    (cases_lt n 2)

with_same : (f g n : ℕ) → n ≤ f → n ≤ g → factor_with f n ≡ factor_with g n
unfolding factor_with
with_same zero zero n h k = refl
with_same zero (suc g) n h k = sym (body_one (factor_with g) n (least_divisor n) (omega arith))
with_same (suc f) zero n h k = body_one (factor_with f) n (least_divisor n) (omega arith)
with_same (suc f) (suc g) n h k = body_same (factor_with f) (factor_with g) n (least_divisor n) (divisor_least n) (λ m l. with_same f g m (omega arith) (omega arith))

plan_is : (n : ℕ) → 1 ≤ n → factor_plan n ≡ factor_body factor_plan n (least_divisor n)
unfolding factor_plan factor_with
plan_is zero h = let no : ⊥ = omega arith in absurd no
plan_is (suc n) h = body_same (factor_with n) factor_plan (suc n) (least_divisor (suc n)) (divisor_least (suc n)) (λ m l. with_same n m m (omega arith) (omega arith))

pub factor_none : (n : ℕ) → n < 2 → factor_plan n ≡ []
unfolding factor_plan factor_with
factor_none zero h = refl
factor_none (suc n) h = plan_is (suc n) (omega arith) ∙ body_one factor_plan (suc n) (least_divisor (suc n)) h

pub factor_prime : (n : ℕ) → Least n n → factor_plan n ≡ and_one (factor_plan (n - 1)) n
factor_prime n a =
    let h : 1 < n = a.above in
    plan_is n (omega arith) ∙ body_prime factor_plan n (least_divisor n) h (least_same n (least_divisor n) n (divisor_least n h) a)

pub factor_split : (n p : ℕ) → Least n p → p < n → factor_plan n ≡ followed (factor_plan p) p (factor_plan (n / p))
factor_split n p a l =
    let h : 1 < n = omega (arith, a.above) in
    let e : least_divisor n ≡ p = least_same n (least_divisor n) p (divisor_least n h) a in
    plan_is n (omega arith)
    ∙ ap (factor_body factor_plan n) e
    ∙ body_split factor_plan n p h (λ q. omega arith)

pub factor_rule : FactorRule
factor_rule =
    record {
      one = factor_none 1 (omega arith);
      prime = factor_prime;
      product = λ n p q a l e. factor_split n p a l ∙ ap (λ (x : ℕ). followed (factor_plan p) p (factor_plan x)) (quotient_is n p q a e);
    }

-- ---- the length

pub prime_length : (n : ℕ) → Least n n → length (factor_plan n) ≡ length (factor_plan (n - 1)) + 1
prime_length n a = ap length (factor_prime n a) ∙ length_push (factor_plan (n - 1)) (step (length (factor_plan (n - 1))) 0 n)

pub split_length : (n p : ℕ) → Least n p → p < n → length (factor_plan n) ≡ length (factor_plan p) + length (factor_plan (n / p))
split_length n p a l =
    ap length (factor_split n p a l)
    ∙ length-append (factor_plan p) (map (shifted (length (factor_plan p)) p) (factor_plan (n / p)))
    ∙ ap (λ (x : ℕ). length (factor_plan p) + x) (length-map (factor_plan (n / p)) (shifted (length (factor_plan p)) p))

-- a length of at most 2·top(n), and one less where n is even
abbrev pub Short : ℕ → Type 0
Short n = (length (factor_plan n) ≤ 2 * top n) × (n % 2 ≡ 0 → length (factor_plan n) + 1 ≤ 2 * top n)

-- the smallest divisor of an even number is 2
even_least : (n p : ℕ) → Least n p → n % 2 ≡ 0 → p ≡ 2
even_least n p a z = ⊎_elim (λ (k : p ≡ 2). k) (λ (k : p ≡ 2 → ⊥). absurd (a.least 2 (omega arith) (omega (arith, a.above)) z)) (cases_eq p 2)

prime_short : (n : ℕ) → Least n n → n < 2 ^ 64 → Short (n - 1) → Short n
prime_short n a b i =
    let h : 1 < n = a.above in
    let one : 1 ≤ top n = top_max 1 n h in
    let m : top (n - 1) ≤ top n = top_mono (n - 1) n (omega arith) (omega arith) b in
    let g = prime_length n a in
    let even : n % 2 ≡ 0 → length (factor_plan n) + 1 ≤ 2 * top n = λ z. omega (arith, even_least n n a z, ap length (factor_none (n - 1) (omega (arith, even_least n n a z)))) in
    (⊎_elim (λ (z : n % 2 ≡ 0). omega (arith, even z)) (λ (z : n % 2 ≡ 0 → ⊥). omega (arith, i.1 (omega arith))) (cases_eq (n % 2) 0), even)

split_short : (n p : ℕ) → Least n p → p < n → n < 2 ^ 64 → Short p → Short (n / p) → Short n
split_short n p a l b i j =
    let pos : 1 ≤ n = omega arith in
    let times = divisor_times n p pos a in
    let t : top p + top (n / p) ≤ top (p * (n / p)) = top_product p (n / p) (omega (arith, a.above)) (quotient_low n p pos a) (omega arith) in
    let u : top (p * (n / p)) ≡ top n = ap top times in
    let g = split_length n p a l in
    (omega (arith, i.0, j.0), λ z. omega (arith, i.1 (omega (arith, even_least n p a z)), j.0))

factor_short : (f n : ℕ) → n ≤ f → 1 ≤ n → n < 2 ^ 64 → Short n
factor_short zero n h l b = let no : ⊥ = omega arith in absurd no
factor_short (suc f) n h l b =
    ⊎_elim
    (λ (s : n < 2). let e = ap length (factor_none n s) in (omega arith, λ z. let no : ⊥ = omega arith in absurd no))
    (λ (s : 2 ≤ n).
    let p : ℕ = least_divisor n in
    let a = divisor_least n s in
    let ql = quotient_less n p l a in
    ⊎_elim
    (λ (e : p ≡ n). prime_short n (subst (Least n) e a) b (factor_short f (n - 1) (omega arith) (omega arith) (omega arith)))
    (λ (e : p ≡ n → ⊥).
    let le = divisor_le n p l a in
    split_short n p a (omega arith) b (factor_short f p (omega arith) (omega (arith, a.above)) (omega arith)) (factor_short f (n / p) (omega arith) (quotient_low n p l a) (omega arith)))
    (cases_eq p n))
    (cases_lt n 2)

-- the plan of an exponent has room in a table of 128 places
pub factor_room : (n : ℕ) → 1 ≤ n → n < 2 ^ 63 → (length (factor_plan n) < 128) × (length (factor_plan n) ≤ 2 * top n)
factor_room n l h =
    let t = top_below (top n) n (top_low n l) h in
    let s = (factor_short n n (omega arith) l (omega arith)).0 in
    (omega arith, s)

-- ---- the table

sets_append : (t : List Step) (i : ℕ) (a b : List Step) → sets t i (a ++ b) ≡ sets (sets t i a) (i + length a) b
sets_append t i [] b = ap (λ (x : ℕ). sets t x b) (sym (add-zero i))
sets_append t i (x ∷ a) b = sets_append (set t i x) (suc i) a b ∙ ap (λ (k : ℕ). sets (sets (set t i x) (suc i) a) k b) (suc-add i (length a) ∙ sym (add-suc i (length a)))

shift_shift : (base scale len p : ℕ) (s : List Step) → map (shifted base scale) (map (shifted len p) s) ≡ map (shifted (base + len) (scale * p)) s
shift_shift base scale len p [] = refl
shift_shift base scale len p (x ∷ s) =
    let e : (x.j + len) + base ≡ x.j + (base + len) = omega arith in
    let f : (x.k + len) + base ≡ x.k + (base + len) = omega arith in
    let g : (x.value * p) * scale ≡ x.value * (scale * p) = mul_assoc x.value p scale ∙ ap (λ (y : ℕ). x.value * y) (mul_comm p scale) in
    rw (e, f, g, shift_shift base scale len p s) refl

shift_none : (s : List Step) → map (shifted 0 1) s ≡ s
shift_none [] = refl
shift_none (x ∷ s) =
    let a : x.j + 0 ≡ x.j = omega arith in
    let b : x.k + 0 ≡ x.k = omega arith in
    let d : x.value * 1 ≡ x.value = omega arith in
    rw (a, b, d, shift_none s) refl

-- the table t with the plan of n from place `base` on, its a_0 being `scale`
abbrev pub placed : List Step → ℕ → ℕ → ℕ → List Step
placed t base scale n = sets t base (map (shifted base scale) (factor_plan n))

pub prime_table : (t u : List Step) (n base scale len : ℕ) → Least n n → len ≡ length (factor_plan (n - 1)) → u ≡ placed t base scale (n - 1) → set u (base + len) (step (base + len) base (n * scale)) ≡ placed t base scale n
prime_table t u n base scale len a l w =
    let s : List Step = factor_plan (n - 1) in
    let x : Step = step (length s) 0 n in
    let m : map (shifted base scale) (factor_plan n) ≡ map (shifted base scale) s ++ shifted base scale x ∷ [] = ap (map (shifted base scale)) (factor_prime n a) ∙ map-append (shifted base scale) s (x ∷ []) in
    let k : base + length (map (shifted base scale) s) ≡ base + len = omega (arith, length-map s (shifted base scale)) in
    let f : length s + base ≡ base + len = omega arith in
    let z : 0 + base ≡ base = omega arith in
    let y : shifted base scale x ≡ step (base + len) base (n * scale) = rw (f, z) refl in
    sym
    (ap (sets t base) m
    ∙ sets_append t base (map (shifted base scale) s) (shifted base scale x ∷ [])
    ∙ rw (k, y, sym w) refl)

pub split_table : (t u w : List Step) (n p base scale len : ℕ) → Least n p → p < n → len ≡ length (factor_plan p) → u ≡ placed t base scale p → w ≡ placed u (base + len) (scale * p) (n / p) → w ≡ placed t base scale n
split_table t u w n p base scale len a h l eu ew =
    let s : List Step = factor_plan p in
    let r : List Step = factor_plan (n / p) in
    let m : map (shifted base scale) (factor_plan n) ≡ map (shifted base scale) s ++ map (shifted (base + len) (scale * p)) r =
    ap (map (shifted base scale)) (factor_split n p a h)
    ∙ map-append (shifted base scale) s (map (shifted (length s) p) r)
    ∙ ap (λ (y : List Step). map (shifted base scale) s ++ y) (ap (λ (y : ℕ). map (shifted base scale) (map (shifted y p) r)) (sym l) ∙ shift_shift base scale len p r) in
    let k : base + length (map (shifted base scale) s) ≡ base + len = omega (arith, length-map s (shifted base scale)) in
    ew
    ∙ sym
    (ap (sets t base) m
    ∙ sets_append t base (map (shifted base scale) s) (map (shifted (base + len) (scale * p)) r)
    ∙ rw (k, sym eu) refl)

-- the same, in the words of a call that has written the plan of n - 1 and adds its last step
pub prime_stands : (t u v : List Step) (n at number scale len k x : ℕ) → 1 ≤ n → Least n n → number ≡ at → u ≡ sets t at (map (shifted number scale) (factor_plan (n - 1)))
    → len ≡ at + length (factor_plan (n - 1)) → k ≡ len → x ≡ (n - 1) * scale → v ≡ set u len (step k number (x + scale))
    → (v ≡ sets t at (map (shifted number scale) (factor_plan n))) × (x + scale ≡ n * scale)
prime_stands t u v n at number scale len k x pos a e eu el ek ex ev =
    let s : List Step = factor_plan (n - 1) in
    let eu' : u ≡ placed t at scale (n - 1) = eu ∙ ap (λ (y : ℕ). sets t at (map (shifted y scale) s)) e in
    let one : n - 1 + 1 ≡ n = omega arith in
    let value : x + scale ≡ n * scale = omega (arith, add-mul (n - 1) 1 scale, ap (λ (y : ℕ). y * scale) one) in
    let r = prime_table t u n at scale (length s) a refl eu' in
    let k' : k ≡ at + length s = ek ∙ el in
    (ev ∙ rw (e, k', el, value) r, value)

-- and that has written the plans of p and of n / p
pub split_stands : (t u w : List Step) (n p at number scale len number2 value2 : ℕ) → 1 ≤ n → Least n p → p < n → number ≡ at → u ≡ sets t at (map (shifted number scale) (factor_plan p))
    → len ≡ at + length (factor_plan p) → number2 ≡ len → value2 ≡ p * scale → w ≡ sets u len (map (shifted number2 value2) (factor_plan (n / p)))
    → w ≡ sets t at (map (shifted number scale) (factor_plan n))
split_stands t u w n p at number scale len number2 value2 pos a h e eu el en ev ew =
    let s : List Step = factor_plan p in
    let eu' : u ≡ placed t at scale p = eu ∙ ap (λ (y : ℕ). sets t at (map (shifted y scale) s)) e in
    let number' : number2 ≡ at + length s = en ∙ el in
    let value' : value2 ≡ scale * p = ev ∙ mul_comm p scale in
    let ew' : w ≡ placed u (at + length s) (scale * p) (n / p) = ew ∙ rw (el, number', value') refl in
    rw e (split_table t u w n p at scale (length s) a h refl eu' ew')

-- the value of the whole product
pub split_value : (n p scale value2 : ℕ) → 1 ≤ n → Least n p → value2 ≡ p * scale → n / p * value2 ≡ n * scale
split_value n p scale value2 pos a e =
    ap (λ (x : ℕ). n / p * x) e ∙ sym (mul_assoc (n / p) p scale) ∙ ap (λ (x : ℕ). x * scale) (mul_comm (n / p) p ∙ divisor_times n p pos a)

-- the whole table after the plan of n was written from its front
pub whole_table : (t s : List Step) → length s ≤ length t → sets t 0 (map (shifted 0 1) s) ≡ s ++ drop (length s) t
whole_table t s h =
    let z : 0 + length s ≡ length s = omega arith in
    ap (sets t 0) (shift_none s) ∙ sets-eq s t 0 (omega arith) ∙ ap (λ (k : ℕ). s ++ drop k t) z

-- the plan of n, written from the front of a table
pub plan_written : (n at len : ℕ) (was start now : List Step) → length (factor_plan n) ≤ length was → start ≡ was → at ≡ 0 → now ≡ sets start at (map (shifted 0 1) (factor_plan n)) → len ≡ at + length (factor_plan n)
    → (len ≡ length (factor_plan n)) × (now ≡ factor_plan n ++ drop (length (factor_plan n)) was)
plan_written n at len was start now h s a e l = (omega arith, e ∙ rw (s, a) (whole_table was (factor_plan n) h))

-- ---- what a call knows of the numbers that it hands on

-- at a prime
pub record PrimeCall (n scale : ℕ) : Type 0 where
  pub least : Least n n
  pub count : length (factor_plan n) ≡ length (factor_plan (n - 1)) + 1
  pub scaled : (n - 1) * scale ≤ n * scale

pub prime_call : (n p scale : ℕ) → Least n p → p ≡ n → PrimeCall n scale
prime_call n p scale a e =
    let b : Least n n = subst (Least n) e a in
    record { least = b; count = prime_length n b; scaled = mul-le-mul (omega arith) (omega arith) }

-- at a product
pub record SplitCall (n p scale : ℕ) : Type 0 where
  pub least : Least n p
  pub less : p < n
  pub low : 1 ≤ n / p
  pub quotient : n / p < n
  pub count : length (factor_plan n) ≡ length (factor_plan p) + length (factor_plan (n / p))
  pub first : p * scale ≤ n * scale
  pub second : n / p * (scale * p) ≡ n * scale
  pub scaled : scale * p ≤ n * scale

pub split_call : (n p scale : ℕ) → 1 ≤ n → Least n p → (p ≡ n → ⊥) → SplitCall n p scale
split_call n p scale pos a ne =
    let le = divisor_le n p pos a in
    let l : p < n = omega arith in
    let first : p * scale ≤ n * scale = mul-le-mul le (omega arith) in
    record {
      least = a;
      less = l;
      low = quotient_low n p pos a;
      quotient = quotient_less n p pos a;
      count = split_length n p a l;
      first = first;
      second = mul_comm (n / p) (scale * p) ∙ mul_assoc scale p (n / p) ∙ ap (λ (x : ℕ). scale * x) (divisor_times n p pos a) ∙ mul_comm scale n;
      scaled = omega (arith, mul_comm scale p);
    }
