-- The place of the highest one bit. Assumes nothing.
use Rattle.std.proofs.Common.{◌≡◌, ℕ, zero, suc, pred, ◌*◌, ◌/◌, ◌^◌, ◌<◌, ◌≤◌, ◌⊎◌, sym, refl, ap, ◌∙◌, subst, inl, inr, le_refl, eq-zero-or-pos, pow-suc, add-one, arith, pow_pos, pow_mono}
use lib.Arith.{half_le}
use Rattle.std.proofs.lemmas.Bool.{cases_lt, cases_order}
use Rattle.bits.specs.Bits.{length_in, top, Highest}

length_in_zero : (d : ℕ) → length_in d 0 ≡ 0
unfolding length_in
length_in_zero zero = refl
length_in_zero (suc d) = refl

length_is : (d n : ℕ) → 0 < n → n ≤ d → (k : ℕ) × (length_in d n ≡ suc k) × (2 ^ k ≤ n) × (n < 2 ^ suc k)
unfolding length_in
length_is zero n p h = absurd (omega arith)
length_is (suc d) zero p h = absurd (omega arith)
length_is (suc d) (suc n) p h = go (λ q. length_is d (suc n / 2) q (half_le h)) (eq-zero-or-pos (suc n / 2))
  where
    go : (0 < suc n / 2 → (k : ℕ) × (length_in d (suc n / 2) ≡ suc k) × (2 ^ k ≤ suc n / 2) × (suc n / 2 < 2 ^ suc k))
        → (suc n / 2 ≡ 0) ⊎ (0 < suc n / 2) → (k : ℕ) × (suc (length_in d (suc n / 2)) ≡ suc k) × (2 ^ k ≤ suc n) × (suc n < 2 ^ suc k)
    go rest (inl e) = (0, ap suc (ap (length_in d) e ∙ length_in_zero d), omega arith, omega arith)
    go rest (inr q) = let t = rest q in (suc t.0, ap suc t.1, omega arith, omega arith)

pub top_bounds : (n : ℕ) → 0 < n → (2 ^ top n ≤ n) × (n < 2 ^ suc (top n))
unfolding top
top_bounds n p =
    let t = length_is n n p (le_refl n) in
    let e : top n ≡ t.0 = ap pred t.1 in
    (subst (λ (k : ℕ). 2 ^ k ≤ n) (sym e) t.2, subst (λ (k : ℕ). n < 2 ^ suc k) (sym e) t.3)

pub top_unique : (n j : ℕ) → 2 ^ j ≤ n → n < 2 ^ suc j → j ≡ top n
top_unique n j lo hi = go (cases_order j (top n))
  where
    pos : 0 < n
    pos = omega (arith, pow_pos j)

    b : (2 ^ top n ≤ n) × (n < 2 ^ suc (top n))
    b = top_bounds n pos

    go : (j ≡ top n) ⊎ ((j < top n) ⊎ (top n < j)) → j ≡ top n
    go (inl e) = e
    go (inr (inl h)) = absurd (omega (arith, pow_mono {i = suc j} {j = top n} h, b))
    go (inr (inr h)) = absurd (omega (arith, pow_mono {i = suc (top n)} {j = j} h, b))

pub highest : Highest
highest n p = let b = top_bounds n p in (b.0, subst (λ (k : ℕ). n < 2 ^ k) (sym (add-one (top n))) b.1)

pub top_low : (n : ℕ) → 1 ≤ n → 2 ^ top n ≤ n
top_low n h = (top_bounds n h).0

pub top_high : (n : ℕ) → n < 2 * 2 ^ top n
top_high n = go (eq-zero-or-pos n)
  where
    go : (n ≡ 0) ⊎ (0 < n) → n < 2 * 2 ^ top n
    go (inl e) = omega (arith, e, pow_pos (top n))
    go (inr p) = omega (arith, (top_bounds n p).1, pow-suc 2 (top n))

-- the place t with 2 ^ t ≤ n < 2 ^ (t + 1) is the top
pub top_is : (t n : ℕ) → 2 ^ t ≤ n → n < 2 * 2 ^ t → top n ≡ t
top_is t n low high = sym (top_unique n t low (omega (arith, pow-suc 2 t)))

pub top_max : (t n : ℕ) → 2 ^ t ≤ n → t ≤ top n
top_max t n l = go (cases_lt (top n) t)
  where
    go : (top n < t) ⊎ (t ≤ top n) → t ≤ top n
    go (inl h) = absurd (omega (arith, pow_mono {i = suc (top n)} {j = t} h, top_high n, pow-suc 2 (top n)))
    go (inr h) = h
