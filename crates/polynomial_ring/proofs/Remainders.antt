-- Remainders modulo f, and the two laws of the product. Assumes nothing.
use Rattle.std.proofs.Common.{◌≡◌, ℕ, zero, suc, ◌+◌, ◌-◌, ◌*◌, ◌/◌, ◌%◌, ◌^◌, ◌<◌, ◌≤◌, ltb, ◌⊎◌, sym, ap, ◌∙◌, subst, ap₂, inl, inr, le_refl, not-suc-le-zero, mul-le-mul_right, eq-zero-or-pos, not-le_of_lt, arith, pow_pos}
use lib.Arith.{half_le, bin_ind}
use lib.Bits.{bit_xor, xor_assoc, xor_comm, xor_self, xor_zero_r, xor_block, xor_lt}
use Rattle.std.proofs.lemmas.Bool.{cases_lt, lt-ltb, le-ltb, cond-true, cond-false}
use Rattle.bits.specs.Bits.{top}
use Rattle.bits.proofs.Tops.{top_bounds}
use Rattle.polynomial_ring.specs.Polynomials.{times, reduce, rem_in, rem, product}
use Rattle.polynomial_ring.specs.Laws.{Remainder, Reduces}
use Rattle.polynomial_ring.proofs.Products.{bit_lt, xor_cancel, xor4, xor_dbl, xor_split, times_zero, times_step, times_add_l, times_add_r, times_dbl_r, times_one_l, times_comm, times_assoc}

-- ---- bounds on sums

pub xor_ge : (k x y : ℕ) → x < 2 ^ k → 2 ^ k ≤ y → 2 ^ k ≤ bit_xor x y
xor_ge k x y hx hy = go (cases_lt (bit_xor x y) (2 ^ k))
  where
    go : (bit_xor x y < 2 ^ k) ⊎ (2 ^ k ≤ bit_xor x y) → 2 ^ k ≤ bit_xor x y
    go (inl h) = absurd (not-le_of_lt (subst (λ (z : ℕ). z < 2 ^ k) (xor_cancel x y) (xor_lt k x (bit_xor x y) hx h)) hy)
    go (inr h) = h

-- the highest bits of two numbers of one length cancel
pub xor_top : (k x y : ℕ) → 2 ^ k ≤ x → x < 2 ^ suc k → 2 ^ k ≤ y → y < 2 ^ suc k → bit_xor x y < 2 ^ k
xor_top k x y lx hx ly hy =
    let ex : x ≡ 1 * 2 ^ k + (x - 2 ^ k) = omega arith in
    let ey : y ≡ 1 * 2 ^ k + (y - 2 ^ k) = omega arith in
    let bx : x - 2 ^ k < 2 ^ k = omega arith in
    let by : y - 2 ^ k < 2 ^ k = omega arith in
    let e : bit_xor x y ≡ bit_xor (x - 2 ^ k) (y - 2 ^ k) =
    ap₂ bit_xor ex ey ∙ xor_block k 1 1 (x - 2 ^ k) (y - 2 ^ k) bx by ∙ omega arith in
    subst (λ (z : ℕ). z < 2 ^ k) (sym e) (xor_lt k (x - 2 ^ k) (y - 2 ^ k) bx by)

times_one : (a : ℕ) → times a 1 ≡ a
times_one a = times_comm a 1 ∙ times_one_l a

pub reduce_small : (n f y : ℕ) → y < 2 ^ n → reduce n f y ≡ y
unfolding reduce
reduce_small n f y h = cond-true (ltb y (2 ^ n)) y (bit_xor y f) (lt-ltb y (2 ^ n) h)

pub reduce_large : (n f y : ℕ) → 2 ^ n ≤ y → reduce n f y ≡ bit_xor y f
unfolding reduce
reduce_large n f y h = cond-false (ltb y (2 ^ n)) y (bit_xor y f) (le-ltb y (2 ^ n) h)

-- x and y differ by a multiple of f
pub record Same (f x y : ℕ) : Type 0 where
  pub by : ℕ
  pub eq : x ≡ bit_xor y (times f by)

-- ---- division by f of degree n

module _ (f n : ℕ) (lo : 2 ^ n ≤ f) (hi : f < 2 ^ suc n) where
  -- a multiple of f other than 0 has at least its degree
  times_ge : (q : ℕ) → 0 < q → 2 ^ n ≤ times f q
  times_ge =
      bin_ind (λ (q : ℕ). 0 < q → 2 ^ n ≤ times f q) (λ p. absurd (omega arith)) (λ q ih p. go q ih p (eq-zero-or-pos (q / 2)))
    where
      go : (q : ℕ) → (0 < q / 2 → 2 ^ n ≤ times f (q / 2)) → 0 < q → (q / 2 ≡ 0) ⊎ (0 < q / 2) → 2 ^ n ≤ times f q
      go q ih p (inl e) =
          let e1 : q ≡ 1 = omega arith in
          subst (λ (x : ℕ). 2 ^ n ≤ x) (sym (ap (times f) e1 ∙ times_one f)) lo
      go q ih p (inr h) =
          let b : q % 2 ≤ 1 = omega arith in
          let x : q % 2 * f < 2 ^ suc n = omega (arith, mul-le-mul_right f b) in
          let i = ih h in
          let y : 2 ^ suc n ≤ times f (q / 2) * 2 = omega arith in
          let z = xor_ge (suc n) (q % 2 * f) (times f (q / 2) * 2) x y in
          subst (λ (w : ℕ). 2 ^ n ≤ w) (sym (times_step f q)) (omega arith)

  same_refl : (x : ℕ) → Same f x x
  same_refl x = record { by = 0; eq = sym (ap (bit_xor x) (times_zero f) ∙ xor_zero_r x) }

  same_of : {x y : ℕ} → x ≡ y → Same f x y
  same_of {x} {y} e = record { by = 0; eq = e ∙ sym (ap (bit_xor y) (times_zero f) ∙ xor_zero_r y) }

  same_sym : {x y : ℕ} → Same f x y → Same f y x
  same_sym {x} {y} h = record {
    by = h.by;
    eq = sym (ap (λ (z : ℕ). bit_xor z (times f h.by)) h.eq ∙ xor_assoc y (times f h.by) (times f h.by)
        ∙ ap (bit_xor y) (xor_self (times f h.by)) ∙ xor_zero_r y);
  }

  same_trans : {x y z : ℕ} → Same f x y → Same f y z → Same f x z
  same_trans {x} {y} {z} h k = record {
    by = bit_xor k.by h.by;
    eq = h.eq ∙ ap (λ (w : ℕ). bit_xor w (times f h.by)) k.eq ∙ xor_assoc z (times f k.by) (times f h.by)
        ∙ ap (bit_xor z) (sym (times_add_r f k.by h.by));
  }

  same_add : {x y u v : ℕ} → Same f x y → Same f u v → Same f (bit_xor x u) (bit_xor y v)
  same_add {x} {y} {u} {v} h k = record {
    by = bit_xor h.by k.by;
    eq = ap₂ bit_xor h.eq k.eq ∙ xor4 y (times f h.by) v (times f k.by)
        ∙ ap (bit_xor (bit_xor y v)) (sym (times_add_r f h.by k.by));
  }

  same_times_l : {x y : ℕ} (z : ℕ) → Same f x y → Same f (times x z) (times y z)
  same_times_l {x} {y} z h = record {
    by = times h.by z;
    eq = ap (λ (w : ℕ). times w z) h.eq ∙ times_add_l y (times f h.by) z
        ∙ ap (bit_xor (times y z)) (times_assoc f h.by z);
  }

  same_times_r : {x y : ℕ} (z : ℕ) → Same f x y → Same f (times z x) (times z y)
  same_times_r {x} {y} z h = same_trans (same_of (times_comm z x)) (same_trans (same_times_l z h) (same_of (times_comm y z)))

  same_dbl : {x y : ℕ} → Same f x y → Same f (x * 2) (y * 2)
  same_dbl {x} {y} h = record {
    by = h.by * 2;
    eq = ap (λ (w : ℕ). w * 2) h.eq ∙ sym (xor_dbl y (times f h.by)) ∙ ap (bit_xor (y * 2)) (sym (times_dbl_r f h.by));
  }

  -- no two numbers below 2 ^ n differ by a multiple of f
  same_below : (x y : ℕ) → x < 2 ^ n → y < 2 ^ n → Same f x y → x ≡ y
  same_below x y hx hy h = go (eq-zero-or-pos h.by)
    where
      go : (h.by ≡ 0) ⊎ (0 < h.by) → x ≡ y
      go (inl e) = h.eq ∙ ap (λ (q : ℕ). bit_xor y (times f q)) e ∙ ap (bit_xor y) (times_zero f) ∙ xor_zero_r y
      go (inr p) =
          let e : bit_xor y x ≡ times f h.by = ap (bit_xor y) h.eq ∙ xor_cancel y (times f h.by) in
          absurd (omega (arith, times_ge h.by p, xor_lt n y x hy hx, e))

  reduce_lt : (y : ℕ) → y < 2 ^ suc n → reduce n f y < 2 ^ n
  reduce_lt y h = go (cases_lt y (2 ^ n))
    where
      go : (y < 2 ^ n) ⊎ (2 ^ n ≤ y) → reduce n f y < 2 ^ n
      go (inl k) = subst (λ (z : ℕ). z < 2 ^ n) (sym (reduce_small n f y k)) k
      go (inr k) = subst (λ (z : ℕ). z < 2 ^ n) (sym (reduce_large n f y k)) (xor_top n y f k h lo hi)

  reduce_same : (y : ℕ) → Same f (reduce n f y) y
  reduce_same y = go (cases_lt y (2 ^ n))
    where
      go : (y < 2 ^ n) ⊎ (2 ^ n ≤ y) → Same f (reduce n f y) y
      go (inl k) = same_of (reduce_small n f y k)
      go (inr k) = record { by = 1; eq = reduce_large n f y k ∙ ap (bit_xor y) (sym (times_one f)) }

  grown_lt : (c r : ℕ) → c < 2 → r < 2 ^ n → bit_xor c (r * 2) < 2 ^ suc n
  grown_lt c r hc hr =
      let p = pow_pos n in
      let k : c < 2 ^ suc n = omega arith in
      let l : r * 2 < 2 ^ suc n = omega arith in
      xor_lt (suc n) c (r * 2) k l

  rem_in_is : (d x : ℕ) → x ≤ d → (rem_in d n f x < 2 ^ n) × Same f (rem_in d n f x) x
  unfolding rem_in
  rem_in_is zero zero h = (pow_pos n, same_refl 0)
  rem_in_is zero (suc x) h = absurd (not-suc-le-zero h)
  rem_in_is (suc d) zero h = (pow_pos n, same_refl 0)
  rem_in_is (suc d) (suc x) h =
      let ih = rem_in_is d (suc x / 2) (half_le h) in
      let y : ℕ = bit_xor (suc x % 2) (rem_in d n f (suc x / 2) * 2) in (
        reduce_lt y (grown_lt (suc x % 2) (rem_in d n f (suc x / 2)) (bit_lt (suc x)) ih.0),
        same_trans (reduce_same y) (same_trans (same_add (same_refl (suc x % 2)) (same_dbl ih.1)) (same_of (xor_split (suc x)))),
      )

-- ---- remainders modulo f, of at least 1

module _ (f : ℕ) (pos : 0 < f) where
  low : 2 ^ top f ≤ f
  low = (top_bounds f pos).0

  high : f < 2 ^ suc (top f)
  high = (top_bounds f pos).1

  pub rem_lt : (x : ℕ) → rem f x < 2 ^ top f
  unfolding rem
  rem_lt x = (rem_in_is f (top f) low high x x (le_refl x)).0

  pub rem_same : (x : ℕ) → Same f (rem f x) x
  unfolding rem
  rem_same x = (rem_in_is f (top f) low high x x (le_refl x)).1

  trans : {x y z : ℕ} → Same f x y → Same f y z → Same f x z
  trans = same_trans f (top f) low high

  flip : {x y : ℕ} → Same f x y → Same f y x
  flip = same_sym f (top f) low high

  -- the only number below 2 ^ top f that differs from x by a multiple of f
  pub rem_is : (x r : ℕ) → r < 2 ^ top f → Same f r x → rem f x ≡ r
  rem_is x r h k = same_below f (top f) low high (rem f x) r (rem_lt x) h (trans (rem_same x) (flip k))

  pub rem_remainder : (x : ℕ) → Remainder f x (rem f x)
  rem_remainder x =
      let s = flip (rem_same x) in
      record { below = rem_lt x; quotient = s.by; whole = s.eq ∙ xor_comm (rem f x) (times f s.by) }

  pub remainder_rem : (x r : ℕ) → Remainder f x r → r ≡ rem f x
  remainder_rem x r h =
      let s : Same f x r = record { by = h.quotient; eq = h.whole ∙ xor_comm (times f h.quotient) r } in
      sym (rem_is x r h.below (flip s))

  pub rem_of : (x y : ℕ) → Same f x y → rem f x ≡ rem f y
  rem_of x y h = rem_is x (rem f y) (rem_lt y) (trans (rem_same y) (flip h))

  pub rem_below : (x : ℕ) → x < 2 ^ top f → rem f x ≡ x
  rem_below x h = rem_is x x h (same_refl f (top f) low high x)

  pub rem_add : (x y : ℕ) → rem f (bit_xor x y) ≡ bit_xor (rem f x) (rem f y)
  rem_add x y =
      rem_is (bit_xor x y) (bit_xor (rem f x) (rem f y)) (xor_lt (top f) (rem f x) (rem f y) (rem_lt x) (rem_lt y))
      (same_add f (top f) low high (rem_same x) (rem_same y))

  pub rem_dbl : (x : ℕ) → rem f (x * 2) ≡ reduce (top f) f (rem f x * 2)
  rem_dbl x =
      let h = rem_lt x in
      let k : rem f x * 2 < 2 ^ suc (top f) = omega arith in
      rem_is (x * 2) (reduce (top f) f (rem f x * 2)) (reduce_lt f (top f) low high (rem f x * 2) k)
      (trans (reduce_same f (top f) low high (rem f x * 2)) (same_dbl f (top f) low high (rem_same x)))

  -- ---- the two laws

  pub product_native : (a b : ℕ) → product f a b < 2 ^ top f
  unfolding product
  product_native a b = rem_lt (times a b)

  pub product_assoc : (a b c : ℕ) → product f (product f a b) c ≡ product f a (product f b c)
  unfolding product
  product_assoc a b c =
      rem_of (times (rem f (times a b)) c) (times (times a b) c) (same_times_l f (top f) low high c (rem_same (times a b)))
      ∙ ap (rem f) (times_assoc a b c)
      ∙ sym (rem_of (times a (rem f (times b c))) (times a (times b c)) (same_times_r f (top f) low high a (rem_same (times b c))))

-- ---- the laws, as they are stated

pub reduces : Reduces
reduces = ((λ f x h. rem_remainder f (omega arith) x), (λ f x r h k. remainder_rem f (omega arith) x r k))
