-- A chain that goes on from another: its values are times p, and its a_0 is p. Assumes nothing.
use Rattle.std.proofs.Common.{◌≡◌, ℕ, zero, suc, ◌+◌, ◌-◌, ◌*◌, ◌/◌, ◌^◌, ◌<◌, ◌≤◌, List, map, length, sym, ap, ◌∙◌, subst, ⊎_elim, add-zero, add-suc, mul_comm, add-mul, mul-le-mul, mul-lt-mul_of_pos_right, arith, length-append, get_or-append-add}
use lib.ListN.{length-map, get_or-append}
use Rattle.std.proofs.lemmas.List.{get_or-map}
use Rattle.std.proofs.lemmas.Bool.{cases_lt, cases_eq}
use Rattle.plans.specs.declared.step.Step.{Step}
use Rattle.plans.specs.Chain.{no_step, step_at, value_at, Chain}
use Rattle.plans.proofs.Values.{value_suc}
use Rattle.plans.proofs.Admissions.{Fits}
use Rattle.planning.specs.Planning.{step}
use Rattle.planning.proofs.Growing.{Grows, last_value, value_append, fits_under, grows_none, grows_push, last_push}
use Rattle.planning.proofs.Pushing.{Ends, chain_from_ends}
use Rattle.factor_plans.specs.Divisors.{Least, least_divisor}
use Rattle.factor_plans.specs.Factor.{shifted, followed, factor_plan}
use Rattle.factor_plans.proofs.Divisors.{divisor_least, divisor_le, divisor_times, quotient_low, quotient_less}
use Rattle.factor_plans.proofs.Factors.{factor_none, factor_prime, factor_split, factor_room}

-- a larger limit
fits_wider : (m n : ℕ) (a : ℕ → ℕ) (i : ℕ) (x : Step) → m ≤ n → Fits m a i x → Fits n a i x
fits_wider m n a i x h f = record { ordered = f.ordered; earlier = f.earlier; sum = f.sum; rises = f.rises; within = omega (arith, f.within) }

module _ (a b : List Step) (p q : ℕ) (pos : 1 ≤ p) (ends : last_value a ≡ p) where
  abbrev all : List Step
  all = followed a p b

  step_past : (m : ℕ) → m < length b → step_at all (length a + m) ≡ shifted (length a) p (step_at b m)
  step_past m h = get_or-append-add a (map (shifted (length a) p) b) m no_step ∙ get_or-map (shifted (length a) p) b m no_step no_step h

  value_past : (m : ℕ) → m ≤ length b → value_at all (length a + m) ≡ value_at b m * p
  value_past zero h = ap (value_at all) (add-zero (length a)) ∙ value_append a (map (shifted (length a) p) b) (length a) (omega arith) ∙ ends ∙ omega arith
  value_past (suc m) h =
      ap (value_at all) (add-suc (length a) m)
      ∙ value_suc all (length a + m)
      ∙ ap (λ (x : Step). x.value) (step_past m (omega arith))
      ∙ sym (ap (λ (x : ℕ). x * p) (value_suc b m))

  length_all : length all ≡ length a + length b
  length_all = length-append a (map (shifted (length a) p) b) ∙ ap (λ (x : ℕ). length a + x) (length-map b (shifted (length a) p))

  pub last_scaled : last_value all ≡ last_value b * p
  last_scaled = ap (value_at all) length_all ∙ value_past (length b) (omega arith)

  fits_scaled : (m : ℕ) (x : Step) → m < length b → Fits q (value_at b) m x → Fits (q * p) (value_at all) (length a + m) (shifted (length a) p x)
  fits_scaled m x h f =
      let o = f.ordered in
      let l = f.earlier in
      let cited : (i : ℕ) → i ≤ length b → value_at all (i + length a) ≡ value_at b i * p =
      λ i k. let e : i + length a ≡ length a + i = omega arith in ap (value_at all) e ∙ value_past i k in
      record {
        ordered = omega arith;
        earlier = omega arith;
        sum = ap (λ (y : ℕ). y * p) f.sum ∙ add-mul (value_at b x.j) (value_at b x.k) p ∙ omega (arith, cited x.j (omega arith), cited x.k (omega arith));
        rises = omega (arith, value_past m (omega arith), mul-lt-mul_of_pos_right f.rises pos);
        within = mul-le-mul f.within (omega arith);
      }

  pub grows_scaled : p ≤ q * p → Grows p a → Grows q b → Grows (q * p) all
  grows_scaled wide ga gb i h =
      ⊎_elim
      (λ (l : i < length a).
      subst (Fits (q * p) (value_at all) i) (sym (get_or-append a (map (shifted (length a) p) b) no_step i l))
      (fits_under (value_at a) (value_at all) (λ m k. sym (value_append a (map (shifted (length a) p) b) m (omega arith))) (fits_wider p (q * p) (value_at a) i (step_at a i) wide (ga i l))))
      (λ (l : length a ≤ i).
      let m : ℕ = i - length a in
      let e : length a + m ≡ i = omega arith in
      let k : m < length b = omega (arith, length_all) in
      subst (λ (y : ℕ). Fits (q * p) (value_at all) y (step_at all y)) e
      (subst (Fits (q * p) (value_at all) (length a + m)) (sym (step_past m k)) (fits_scaled m (step_at b m) k (gb m k))))
      (cases_lt i (length a))

-- ---- the plan of the factor method is a chain for n

prime_ends : (n : ℕ) → Least n n → Ends (n - 1) (factor_plan (n - 1)) → Ends n (factor_plan n)
prime_ends n a r =
    let h : 1 < n = a.above in
    let p : List Step = factor_plan (n - 1) in
    let x : Step = step (length p) 0 n in
    let last : value_at p (length p) ≡ n - 1 = r.last in
    let fx : Fits n (value_at p) (length p) x = record { ordered = omega arith; earlier = omega arith; sum = omega arith; rises = omega arith; within = omega arith } in
    subst (Ends n) (sym (factor_prime n a))
    (record { grows = grows_push n p x (λ i k. fits_wider (n - 1) n (value_at p) i (step_at p i) (omega arith) (r.grows i k)) fx; last = last_push p x })

split_ends : (n p : ℕ) → Least n p → p < n → Ends p (factor_plan p) → Ends (n / p) (factor_plan (n / p)) → Ends n (factor_plan n)
split_ends n p a l r s =
    let q : ℕ = n / p in
    let low : 1 ≤ p = omega (arith, a.above) in
    let k : q * p ≡ n = mul_comm q p ∙ divisor_times n p (omega arith) a in
    let g = grows_scaled (factor_plan p) (factor_plan q) p q low r.last (omega arith) r.grows s.grows in
    let v = last_scaled (factor_plan p) (factor_plan q) p q low r.last in
    subst (Ends n) (sym (factor_split n p a l))
    (record { grows = subst (λ (y : ℕ). Grows y (followed (factor_plan p) p (factor_plan q))) k g; last = v ∙ ap (λ (y : ℕ). y * p) s.last ∙ k })

factor_ends : (f n : ℕ) → n ≤ f → 1 ≤ n → Ends n (factor_plan n)
factor_ends zero n h l = let no : ⊥ = omega arith in absurd no
factor_ends (suc f) n h l =
    ⊎_elim
    (λ (s : n < 2).
    let one : 1 ≡ n = omega arith in
    subst (Ends n) (sym (factor_none n s)) (record { grows = grows_none n; last = one }))
    (λ (s : 2 ≤ n).
    let p : ℕ = least_divisor n in
    let a = divisor_least n s in
    let ql = quotient_less n p l a in
    ⊎_elim
    (λ (e : p ≡ n). prime_ends n (subst (Least n) e a) (factor_ends f (n - 1) (omega arith) (omega arith)))
    (λ (e : p ≡ n → ⊥).
    let le = divisor_le n p l a in
    split_ends n p a (omega arith) (factor_ends f p (omega arith) (omega (arith, a.above))) (factor_ends f (n / p) (omega arith) (quotient_low n p l a)))
    (cases_eq p n))
    (cases_lt n 2)

pub factor_chain : (n : ℕ) → 1 ≤ n → n < 2 ^ 63 → Chain n (factor_plan n)
factor_chain n l h = chain_from_ends n (factor_plan n) l h (omega (arith, (factor_room n l h).0)) (factor_ends n n (omega arith) l)
