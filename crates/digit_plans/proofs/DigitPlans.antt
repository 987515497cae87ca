-- The plan by digits: its length, and that it is a chain. Assumes nothing.
use Rattle.std.proofs.Common.{◌≡◌, ℕ, zero, suc, ◌+◌, ◌-◌, ◌*◌, ◌/◌, ◌%◌, ◌^◌, ◌<◌, ◌≤◌, true, false, cond, eqb, ltb, List, [], ◌∷◌, ◌++◌, length, sym, refl, ap, ◌∙◌, subst, ⊎_elim, append_assoc, append-nil, mul-le-mul_right, mod-eq_of_lt, suc-mul, one-mul, pow-suc, mul-zero, div-add-mod', zero-mul, mul-suc, div-one, add-one, arith, length-append, pow_pos, pow_mono, shr-shr, shr_lt}
use lib.Pow.{shr_le}
use Rattle.std.proofs.lemmas.Nat.{mod_below, le-div}
use Rattle.std.proofs.lemmas.Bool.{eq-eqb, ne_eqb, lt-ltb, le-ltb, cases_eq, cases_lt}
use Rattle.plans.specs.declared.step.Step.{Step}
use Rattle.plans.specs.Chain.{value_at, Chain}
use Rattle.bits.specs.Bits.{top}
use Rattle.planning.specs.Planning.{step}
use Rattle.bits.proofs.Tops.{top_low, top_max, top_high}
use Rattle.planning.proofs.Powers.{top_less}
use Rattle.planning.proofs.Pushing.{Ends, ends_here, chain_from_ends}
use Rattle.digit_plans.specs.Digits.{count_from, doubles, digit, one_digit, digits_from, lower, leading, digits_plan, zeros, digits_length}
use Rattle.digit_plans.proofs.Counting.{count_length, counted_all}
use Rattle.digit_plans.proofs.Doubling.{length_all, length_at_most, length_top, Ready, ready_as, ready_push, ready_doubles}

-- one digit that is 0, and another
pub one_none : (k e at from v : ℕ) → e ≡ 0 → one_digit k e at from v ≡ doubles (2 ^ k) k at from v
unfolding one_digit
one_none k e at from v z = let t : eqb e 0 ≡ true = eq-eqb _ _ z in rw t (append-nil (doubles (2 ^ k) k at from v))

pub one_some : (k e at from v : ℕ) → (e ≡ 0 → ⊥) → one_digit k e at from v ≡ doubles (2 ^ k) k at from v ++ step (at + length (doubles (2 ^ k) k at from v)) (e - 1) (v * 2 ^ k + e) ∷ []
unfolding one_digit
one_some k e at from v z = let t : eqb e 0 ≡ false = ne_eqb _ _ z in rw t refl

-- the digits
pub digits_end : (k n at from v : ℕ) → digits_from k n 0 at from v ≡ []
unfolding digits_from
digits_end k n at from v = refl

pub digits_here : (k n p at from v at1 : ℕ) → at1 ≡ at + length (one_digit k (digit k n p) at from v) → digits_from k n (suc p) at from v ≡ one_digit k (digit k n p) at from v ++ digits_from k n p at1 at1 (v * 2 ^ k + digit k n p)
unfolding digits_from
digits_here k n p at from v at1 e = rw e refl

pub value_digit : (k n p : ℕ) → n / 2 ^ (p * k) ≡ n / 2 ^ (suc p * k) * 2 ^ k + digit k n p
value_digit k n p =
    let u : ℕ = n / 2 ^ (p * k) in
    let e : suc p * k ≡ p * k + k = suc-mul p k in
    let f : u / 2 ^ k ≡ n / 2 ^ (suc p * k) = shr-shr n (p * k) k ∙ ap (λ (x : ℕ). n / 2 ^ x) (sym e) in
    sym (div-add-mod' u (2 ^ k)) ∙ ap (λ (x : ℕ). x * 2 ^ k + u % 2 ^ k) f

pub digit_below : (k n p : ℕ) → digit k n p < 2 ^ k
digit_below k n p = mod_below (n / 2 ^ (p * k)) (2 ^ k) (pow_pos k)

times_at_least : (k v : ℕ) → 1 ≤ v → 2 ^ k ≤ v * 2 ^ k
times_at_least k v h = let a : 1 * 2 ^ k ≤ v * 2 ^ k = mul-le-mul_right (2 ^ k) h in omega (arith, one-mul (2 ^ k))

-- how many steps a digit has: its doublings, and one more unless it is 0
abbrev nought : ℕ → ℕ
nought e = cond (eqb e 0) 1 0

one_length : (k e at from v : ℕ) → length (one_digit k e at from v) + nought e ≡ length (doubles (2 ^ k) k at from v) + 1
one_length k e at from v =
    let ds : List Step = doubles (2 ^ k) k at from v in
    ⊎_elim
    (λ (z : e ≡ 0). let t : eqb e 0 ≡ true = eq-eqb _ _ z in rw t (omega (arith, ap length (one_none k e at from v z))))
    (λ (z : e ≡ 0 → ⊥). let t : eqb e 0 ≡ false = ne_eqb _ _ z in rw t (omega (arith, ap length (one_some k e at from v z), length-append ds (step (at + length ds) (e - 1) (v * 2 ^ k + e) ∷ []))))
    (cases_eq e 0)

pub one_at_most : (k e at from v : ℕ) → length (one_digit k e at from v) ≤ k + 1
one_at_most k e at from v = omega (arith, one_length k e at from v, length_at_most (2 ^ k) k at from v)

zeros_here : (k n p : ℕ) → zeros k n (suc p) ≡ nought (digit k n p) + zeros k n p
unfolding zeros
zeros_here k n p = refl

zeros_some : (k n p : ℕ) → (digit k n p ≡ 0 → ⊥) → zeros k n (suc p) ≡ zeros k n p
zeros_some k n p z = let t : eqb (digit k n p) 0 ≡ false = ne_eqb _ _ z in zeros_here k n p ∙ rw t (omega arith)

zeros_end : (k n : ℕ) → zeros k n 0 ≡ 0
unfolding zeros
zeros_end k n = refl

-- a digit and those below it, where the length of those is known
digits_length_here : (k n p at from v : ℕ) → ((at from v : ℕ) → 2 ^ k ≤ v → length (digits_from k n p at from v) + zeros k n p ≡ k * p + p) → 1 ≤ v → length (digits_from k n (suc p) at from v) + zeros k n (suc p) ≡ length (doubles (2 ^ k) k at from v) + 1 + k * p + p
digits_length_here k n p at from v r h =
    let d : ℕ = digit k n p in
    let one : List Step = one_digit k d at from v in
    let at1 : ℕ = at + length one in
    let w : ℕ = v * 2 ^ k + d in
    let e : digits_from k n (suc p) at from v ≡ one ++ digits_from k n p at1 at1 w = digits_here k n p at from v at1 refl in
    omega (arith, ap length e, length-append one (digits_from k n p at1 at1 w), one_length k d at from v, r at1 at1 w (omega (arith, times_at_least k v h)), zeros_here k n p)

rest_length : (k n p at from v : ℕ) → 2 ^ k ≤ v → length (digits_from k n p at from v) + zeros k n p ≡ k * p + p
rest_length k n zero at from v h = omega (arith, ap length (digits_end k n at from v), zeros_end k n, mul-zero k)
rest_length k n (suc p) at from v h =
    let o = digits_length_here k n p at from v (rest_length k n p) (omega (arith, pow_pos k)) in
    omega (arith, length_all (2 ^ k) k at from v (omega arith), mul-suc k p)

first_length : (k n p at from v a : ℕ) → 2 ^ a ≤ v → v < 2 * 2 ^ a → a < k → length (digits_from k n (suc p) at from v) + zeros k n (suc p) + (k - 1 - a) ≡ k * suc p + suc p
first_length k n p at from v a low high s =
    let o = digits_length_here k n p at from v (rest_length k n p) (omega (arith, pow_pos a)) in
    omega (arith, length_top k k at from v a low high s (omega arith), mul-suc k p)

-- the chain, after one digit more, and after all
ready_digit : (n k e at from v : ℕ) (q : List Step) → e < 2 ^ k → v * 2 ^ k + e ≤ n → Ready n (2 ^ k) q at from v → Ready n (2 ^ k) (q ++ one_digit k e at from v) (at + length (one_digit k e at from v)) (at + length (one_digit k e at from v)) (v * 2 ^ k + e)
ready_digit n k e at from v q small le r =
    let ds : List Step = doubles (2 ^ k) k at from v in
    let b = times_at_least k v r.positive in
    let s = ready_doubles n (2 ^ k) k at from v q (omega arith) b r in
    let long = s.long in
    ⊎_elim
    (λ (z : e ≡ 0).
    let o = one_none k e at from v z in
    let a : at + length ds ≡ at + length (one_digit k e at from v) = omega (arith, ap length o) in
    ready_as (ap (λ (x : List Step). q ++ x) (sym o)) a a (omega arith) s)
    (λ (z : e ≡ 0 → ⊥).
    let x : Step = step (at + length ds) (e - 1) (v * 2 ^ k + e) in
    let o = one_some k e at from v z in
    let a : at + length ds + 1 ≡ at + length (one_digit k e at from v) = omega (arith, ap length o, length-append ds (x ∷ [])) in
    let s1 = ready_push n (2 ^ k) (q ++ ds) (at + length ds) (at + length ds) (v * 2 ^ k) (at + length ds) (e - 1) (v * 2 ^ k + e) s (omega arith) (omega arith) (omega (arith, s.source, s.list (e - 1) (omega arith))) (omega (arith, s.source)) le (omega arith) in
    ready_as (append_assoc q ds (x ∷ []) ∙ ap (λ (x : List Step). q ++ x) (sym o)) a a refl s1)
    (cases_eq e 0)

digits_ends : (n k p at from v : ℕ) (q : List Step) → 2 ^ k ≤ n → v ≡ n / 2 ^ (p * k) → Ready n (2 ^ k) q at from v → Ends n (q ++ digits_from k n p at from v)
digits_ends n k zero at from v q h e r =
    let w : v ≡ n = e ∙ ap (λ (x : ℕ). n / 2 ^ x) (zero-mul k) ∙ div-one n in
    subst (λ (x : List Step). Ends n (q ++ x)) (sym (digits_end k n at from v)) (ends_here n q at r.grown (r.high (omega arith) ∙ w))
digits_ends n k (suc p) at from v q h e r =
    let d : ℕ = digit k n p in
    let one : List Step = one_digit k d at from v in
    let at1 : ℕ = at + length one in
    let u : n / 2 ^ (p * k) ≡ v * 2 ^ k + d = value_digit k n p ∙ ap (λ (x : ℕ). x * 2 ^ k + d) (sym e) in
    let s = ready_digit n k d at from v q (digit_below k n p) (omega (arith, shr_le n (p * k))) r in
    let t = digits_ends n k p at1 at1 (v * 2 ^ k + d) (q ++ one) h (sym u) s in
    subst (Ends n) (append_assoc q one (digits_from k n p at1 at1 (v * 2 ^ k + d)) ∙ ap (λ (x : List Step). q ++ x) (sym (digits_here k n p at from v at1 refl))) t

-- the top digit
pub record Top (k n : ℕ) : Type 0 where
  pub some : 1 ≤ lower k n
  pub within : lower k n * k ≤ top n
  pub positive : 1 ≤ leading k n
  pub below : leading k n < 2 ^ k

pub the_top : (k n : ℕ) → 1 ≤ k → 2 ^ k ≤ n → n < 2 ^ 63 → Top k n
the_top k n a h b =
    let t : ℕ = lower k n in
    let one : 1 ≤ n = omega (arith, pow_pos k) in
    let e : t * k + top n % k ≡ top n = div-add-mod' (top n) k in
    let r : top n % k < k = mod_below (top n) k a in
    let up : n < 2 * 2 ^ top n = top_high n in
    let kt : k ≤ top n = top_max k n h in
    let le : t * k ≤ top n = omega arith in
    let p : 2 ^ (t * k) ≤ 2 ^ top n = pow_mono le in
    let l : suc (top n) ≤ k + t * k = omega arith in
    let p2 : 2 ^ suc (top n) ≤ 2 ^ (k + t * k) = pow_mono l in
    let p3 = pow-suc 2 (top n) in
    record {
      some = le-div 1 (top n) k a (omega (arith, one-mul k));
      within = le;
      positive = le-div 1 n (2 ^ (t * k)) (pow_pos (t * k)) (omega (arith, one-mul (2 ^ (t * k)), top_low n one));
      below = shr_lt k (t * k) (omega arith);
    }

-- the whole plan
pub plan_low : (k n : ℕ) → n < 2 ^ k → digits_plan k n ≡ count_from (n - 1) 0
unfolding digits_plan
plan_low k n h = let t : ltb n (2 ^ k) ≡ true = lt-ltb _ _ h in rw t refl

pub plan_high : (k n : ℕ) → 2 ^ k ≤ n → digits_plan k n ≡ count_from (2 ^ k - 2) 0 ++ digits_from k n (lower k n) (2 ^ k - 2) (leading k n - 1) (leading k n)
unfolding digits_plan
plan_high k n h = let t : ltb n (2 ^ k) ≡ false = le-ltb _ _ h in rw t refl

pub digits_length_lem : (k n : ℕ) → 1 ≤ k → 1 ≤ n → n < 2 ^ 63 → length (digits_plan k n) ≡ digits_length k n
digits_length_lem k n a one b =
    ⊎_elim
    (λ (h : n < 2 ^ k). let t : ltb n (2 ^ k) ≡ true = lt-ltb _ _ h in rw t (ap length (plan_low k n h) ∙ count_length (n - 1) 0))
    (λ (h : 2 ^ k ≤ n).
    let t : ltb n (2 ^ k) ≡ false = le-ltb _ _ h in
    let y = the_top k n a h b in
    let d : ℕ = leading k n in
    let c : List Step = count_from (2 ^ k - 2) 0 in
    let p : ℕ = lower k n - 1 in
    let e : lower k n ≡ suc p = omega arith in
    let dn : d < 2 ^ 64 = omega (arith, shr_le n (lower k n * k)) in
    let low = top_low d y.positive in
    let high = top_high d in
    let td = top_less k d y.positive y.below in
    let f = first_length k n p (2 ^ k - 2) (d - 1) d (top d) low high td in
    let f1 = subst (λ (x : ℕ). length (digits_from k n x (2 ^ k - 2) (d - 1) d) + zeros k n x + (k - 1 - top d) ≡ k * x + x) (sym e) f in
    let z0 : digit k n (lower k n) ≡ d = mod-eq_of_lt y.below in
    let zs : zeros k n (lower k n + 1) ≡ zeros k n (lower k n) = ap (zeros k n) (add-one (lower k n)) ∙ zeros_some k n (lower k n) (λ (z : digit k n (lower k n) ≡ 0). omega arith) in
    rw t (omega (arith, ap length (plan_high k n h), length-append c (digits_from k n (lower k n) (2 ^ k - 2) (d - 1) d), count_length (2 ^ k - 2) 0)))
    (cases_lt n (2 ^ k))

pub digits_chain : (k n : ℕ) → 1 ≤ k → 1 ≤ n → n < 2 ^ 63 → length (digits_plan k n) ≤ 128 → Chain n (digits_plan k n)
digits_chain k n a one b short =
    let q1 : 2 ^ 1 ≤ 2 ^ k = pow_mono a in
    chain_from_ends n (digits_plan k n) one b short
    (⊎_elim
    (λ (h : n < 2 ^ k).
    let c = counted_all n (n - 1) (omega arith) in
    let l : value_at (count_from (n - 1) 0) (n - 1) ≡ n = c.list (n - 1) (omega arith) ∙ (let y : n - 1 + 1 ≡ n = omega arith in y) in
    subst (Ends n) (append-nil (count_from (n - 1) 0) ∙ sym (plan_low k n h)) (ends_here n (count_from (n - 1) 0) (n - 1) c.grown l))
    (λ (h : 2 ^ k ≤ n).
    let y = the_top k n a h b in
    let d : ℕ = leading k n in
    let p : List Step = count_from (2 ^ k - 2) 0 in
    let c = counted_all n (2 ^ k - 2) (omega arith) in
    let positive = y.positive in
    let below = y.below in
    let r : Ready n (2 ^ k) p (2 ^ k - 2) (d - 1) d =
    record {
      grown = c.grown;
      list = λ e g. c.list e (omega arith);
      long = omega arith;
      before = omega arith;
      source = c.list (d - 1) (omega arith) ∙ (let y : d - 1 + 1 ≡ d = omega arith in y);
      positive = positive;
      low = λ _. omega (arith, c.list (2 ^ k - 2) (omega arith));
      high = λ g. absurd (let no : ⊥ = omega arith in no);
    } in
    subst (Ends n) (sym (plan_high k n h)) (digits_ends n k (lower k n) (2 ^ k - 2) (d - 1) d p h refl r))
    (cases_lt n (2 ^ k)))
