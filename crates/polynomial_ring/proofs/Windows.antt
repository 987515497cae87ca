-- Products four bits at a time. Assumes nothing.
use Rattle.std.proofs.Common.{◌≡◌, ℕ, zero, suc, ◌+◌, ◌-◌, ◌*◌, ◌/◌, ◌%◌, ◌^◌, ◌<◌, ◌≤◌, sym, ap, ◌∙◌, subst, ap₂, add-zero, add-suc, mul-le-mul_right, mod-lt, mul_assoc, mul_comm, one-mul, pow-suc, div-add-mod', zero-mul, mul-one, arith, pow_pos, pow_mono, pow-add, shr-shr}
use lib.Pow.{shr_le, mod-pow-add, split}
use lib.Bits.{bit_xor, xor_assoc, xor_comm, xor_zero_r, xor_block, xor_lt, xor_shifted, xor_self}
use Rattle.bits.specs.Bits.{top}
use Rattle.polynomial_ring.specs.Polynomials.{times, reduce, rem}
use Rattle.polynomial_ring.proofs.Products.{times_zero, times_step, times_add_l, times_add_r, times_dbl_r, times_one_l, times_comm, times_assoc}
use Rattle.bits.proofs.Tops.{top_bounds}
use Rattle.polynomial_ring.proofs.Remainders.{xor_top, rem_add, rem_dbl, rem_below, rem_of, rem_same}

pub times_one : (a : ℕ) → times a 1 ≡ a
times_one a = times_comm a 1 ∙ times_one_l a

-- twice, and twice and one more
pub times_even : (a m : ℕ) → times a (2 * m) ≡ times a m * 2
times_even a m = ap (times a) (mul_comm 2 m) ∙ times_dbl_r a m

pub times_odd : (a m : ℕ) → times a (2 * m + 1) ≡ bit_xor (times a m * 2) a
times_odd a m =
    let e : bit_xor (m * 2 ^ 1) 1 ≡ m * 2 + 1 = xor_shifted m 1 1 (omega arith) in
    let q : 2 * m + 1 ≡ m * 2 + 1 = omega arith in
    ap (times a) (q ∙ sym e) ∙ times_add_r a (m * 2) 1 ∙ ap₂ bit_xor (times_dbl_r a m) (times_one a)

pub times_sixteen : (a b : ℕ) → times a (b * 16) ≡ times a b * 16
times_sixteen a b =
    let e : b * 16 ≡ b * 2 * 2 * 2 * 2 = omega arith in
    let d : times a b * 2 * 2 * 2 * 2 ≡ times a b * 16 = omega arith in
    ap (times a) e ∙ times_dbl_r a (b * 2 * 2 * 2) ∙ ap (λ (x : ℕ). x * 2) (times_dbl_r a (b * 2 * 2))
    ∙ ap (λ (x : ℕ). x * 2 * 2) (times_dbl_r a (b * 2)) ∙ ap (λ (x : ℕ). x * 2 * 2 * 2) (times_dbl_r a b) ∙ d

pub times_nibble : (a b : ℕ) → times a b ≡ bit_xor (times a (b / 16) * 16) (times a (b % 16))
times_nibble a b =
    let e : bit_xor (b / 16 * 16) (b % 16) ≡ b = xor_shifted (b / 16) 4 (b % 16) (omega arith) ∙ div-add-mod' b 16 in
    ap (times a) (sym e) ∙ times_add_r a (b / 16 * 16) (b % 16) ∙ ap (λ (x : ℕ). bit_xor x (times a (b % 16))) (times_sixteen a (b / 16))

-- a turn of the program, from the bits of b above place 4 i on to those from 4 (i - 1) on
pub turn : (a b i acc : ℕ) → 0 < i → acc ≡ times a (b / 2 ^ (4 * i))
    → bit_xor (acc * 16) (times a (b / 2 ^ (4 * (i - 1)) % 16)) ≡ times a (b / 2 ^ (4 * (i - 1)))
turn a b i acc hi ea =
    let e : 4 * (i - 1) + 4 ≡ 4 * i = omega arith in
    let high : b / 2 ^ (4 * (i - 1)) / 16 ≡ b / 2 ^ (4 * i) = shr-shr b (4 * (i - 1)) 4 ∙ ap (λ (k : ℕ). b / 2 ^ k) e in
    ap (λ (x : ℕ). bit_xor (x * 16) (times a (b / 2 ^ (4 * (i - 1)) % 16))) (ea ∙ ap (times a) (sym high))
    ∙ sym (times_nibble a (b / 2 ^ (4 * (i - 1))))

pub times_lt : (k m a b : ℕ) → a < 2 ^ m → b < 2 ^ k → times a b < 2 ^ (m + k)
times_lt zero m a b ha hb =
    let z : b ≡ 0 = omega arith in
    subst (λ (x : ℕ). x < 2 ^ (m + 0)) (sym (ap (times a) z ∙ times_zero a)) (pow_pos (m + 0))
times_lt (suc k) m a b ha hb =
    let h : b / 2 < 2 ^ k = omega arith in
    let ih : times a (b / 2) < 2 ^ (m + k) = times_lt k m a (b / 2) ha h in
    let e : m + suc k ≡ suc (m + k) = add-suc m k in
    let c : b % 2 ≤ 1 = omega arith in
    let up : 2 ^ m ≤ 2 ^ suc (m + k) = pow_mono {i = m} {j = suc (m + k)} (omega arith) in
    let low : b % 2 * a < 2 ^ suc (m + k) = omega (arith, mul-le-mul_right a c) in
    let high : times a (b / 2) * 2 < 2 ^ suc (m + k) = omega arith in
    subst (λ (x : ℕ). times a b < 2 ^ x) (sym e)
    (subst (λ (x : ℕ). x < 2 ^ suc (m + k)) (sym (times_step a b)) (xor_lt (suc (m + k)) (b % 2 * a) (times a (b / 2) * 2) low high))

-- what is above the lowest four bits
pub high_part : (b i : ℕ) → b < 2 ^ 64 → 0 < i → b / 2 ^ (4 * i) < 2 ^ 60
high_part b i hb hi =
    let e : 4 + (4 * i - 4) ≡ 4 * i = omega arith in
    let s : b / 2 ^ 4 / 2 ^ (4 * i - 4) ≡ b / 2 ^ (4 * i) = shr-shr b 4 (4 * i - 4) ∙ ap (λ (k : ℕ). b / 2 ^ k) e in
    let l : b / 2 ^ 4 < 2 ^ 60 = omega arith in
    omega (arith, s, l, shr_le (b / 2 ^ 4) (4 * i - 4))

-- ---- the table of a modulus

pub xor_shl : (n a b : ℕ) → bit_xor (a * 2 ^ n) (b * 2 ^ n) ≡ bit_xor a b * 2 ^ n
xor_shl n a b =
    ap₂ bit_xor (sym (add-zero (a * 2 ^ n))) (sym (add-zero (b * 2 ^ n))) ∙ xor_block n a b 0 0 (pow_pos n) (pow_pos n)
    ∙ add-zero (bit_xor a b * 2 ^ n)

pub times_shl : (k a b : ℕ) → times a (b * 2 ^ k) ≡ times a b * 2 ^ k
times_shl zero a b = ap (times a) (mul-one b) ∙ sym (mul-one (times a b))
times_shl (suc k) a b =
    let e : b * 2 ^ suc k ≡ b * 2 ^ k * 2 = ap (λ (x : ℕ). b * x) (pow-suc 2 k) ∙ sym (mul_assoc b (2 ^ k) 2) in
    let d : times a b * 2 ^ k * 2 ≡ times a b * 2 ^ suc k = mul_assoc (times a b) (2 ^ k) 2 ∙ ap (λ (x : ℕ). times a b * x) (sym (pow-suc 2 k)) in
    ap (times a) e ∙ times_dbl_r a (b * 2 ^ k) ∙ ap (λ (x : ℕ). x * 2) (times_shl k a b) ∙ d

pub pow_times : (j h : ℕ) → times (2 ^ j) h ≡ h * 2 ^ j
pow_times j h =
    times_comm (2 ^ j) h ∙ ap (times h) (sym (one-mul (2 ^ j))) ∙ times_shl j h 1 ∙ ap (λ (x : ℕ). x * 2 ^ j) (times_one h)

module _ (f : ℕ) (pos : 0 < f) where
  -- a factor may be reduced first
  pub rem_times : (x z : ℕ) → rem f (times (rem f x) z) ≡ rem f (times x z)
  rem_times x z =
      let s = rem_same f pos x in
      rem_of f pos (times (rem f x) z) (times x z)
      (record {
        by = times s.by z;
        eq = ap (λ (w : ℕ). times w z) s.eq ∙ times_add_l x (times f s.by) z ∙ ap (bit_xor (times x z)) (times_assoc f s.by z);
      })

  pub entry : (j u h : ℕ) → u ≡ rem f (2 ^ j) → rem f (times u h) ≡ rem f (h * 2 ^ j)
  entry j u h e = ap (λ (w : ℕ). rem f (times w h)) e ∙ rem_times (2 ^ j) h ∙ ap (rem f) (pow_times j h)

  -- the first unit
  pub unit_first : bit_xor (2 ^ top f) f ≡ rem f (2 ^ top f)
  unit_first =
      let b = top_bounds f pos in
      let l : bit_xor (2 ^ top f) f < 2 ^ top f = xor_top (top f) (2 ^ top f) f (omega arith) (omega (arith, pow_pos (top f))) b.0 b.1 in
      sym (rem_of f pos (2 ^ top f) (bit_xor (2 ^ top f) f)
      (record {
        by = 1;
        eq = sym (xor_assoc (2 ^ top f) f (times f 1) ∙ ap (bit_xor (2 ^ top f)) (ap (bit_xor f) (times_one f) ∙ xor_self f) ∙ xor_zero_r (2 ^ top f));
      })
      ∙ rem_below f pos (bit_xor (2 ^ top f) f) l)

  -- and the next, from the entry 8 of a row
  pub unit_next : (j u e v : ℕ) → u ≡ rem f (2 ^ j) → e ≡ rem f (times u 8) → v ≡ reduce (top f) f (e * 2) → v ≡ rem f (2 ^ (j + 4))
  unit_next j u e v hu he hv =
      let p : 8 * 2 ^ j * 2 ≡ 2 ^ (j + 4) = omega (arith, pow-add 2 j 4) in
      hv ∙ ap (λ (w : ℕ). reduce (top f) f (w * 2)) (he ∙ entry j u 8 hu) ∙ sym (rem_dbl f pos (8 * 2 ^ j)) ∙ ap (rem f) p

  -- entries of a row
  pub entry_even : (u h x y : ℕ) → x ≡ rem f (times u h) → y ≡ reduce (top f) f (x * 2) → y ≡ rem f (times u (2 * h))
  entry_even u h x y hx hy =
      hy ∙ ap (λ (w : ℕ). reduce (top f) f (w * 2)) hx ∙ sym (rem_dbl f pos (times u h)) ∙ ap (rem f) (sym (times_even u h))

  pub entry_odd : (u h y : ℕ) → u < 2 ^ top f → y ≡ rem f (times u (2 * h)) → bit_xor y u ≡ rem f (times u (2 * h + 1))
  entry_odd u h y l hy =
      ap₂ bit_xor (hy ∙ ap (rem f) (times_even u h)) (sym (rem_below f pos u l)) ∙ sym (rem_add f pos (times u h * 2) u)
      ∙ ap (rem f) (sym (times_odd u h))

  -- ---- a remainder by the table

  -- four bits more of h
  pub fold_more : (n h k : ℕ) →
      bit_xor (rem f (h % 2 ^ (4 * k) * 2 ^ n)) (rem f (h / 2 ^ (4 * k) % 16 * 2 ^ (n + 4 * k))) ≡ rem f (h % 2 ^ (4 * (k + 1)) * 2 ^ n)
  fold_more n h k =
      let x : ℕ = h / 2 ^ (4 * k) % 16 in
      let lo : ℕ = h % 2 ^ (4 * k) in
      let l : lo < 2 ^ (4 * k) = mod-lt h (pow_pos (4 * k)) in
      let e : 4 + 4 * k ≡ 4 * (k + 1) = omega arith in
      let both : bit_xor (x * 2 ^ (4 * k)) lo ≡ h % 2 ^ (4 * (k + 1)) =
      xor_shifted x (4 * k) lo l ∙ sym (mod-pow-add h 4 (4 * k)) ∙ ap (λ (m : ℕ). h % 2 ^ m) e in
      let moved : x * 2 ^ (n + 4 * k) ≡ x * 2 ^ (4 * k) * 2 ^ n =
      ap (λ (m : ℕ). x * m) (pow-add 2 n (4 * k) ∙ mul_comm (2 ^ n) (2 ^ (4 * k))) ∙ sym (mul_assoc x (2 ^ (4 * k)) (2 ^ n)) in
      sym (rem_add f pos (lo * 2 ^ n) (x * 2 ^ (n + 4 * k)))
      ∙ ap (rem f) (ap (bit_xor (lo * 2 ^ n)) moved ∙ xor_shl n lo (x * 2 ^ (4 * k)) ∙ ap (λ (m : ℕ). m * 2 ^ n) (xor_comm lo (x * 2 ^ (4 * k)) ∙ both))

  pub fold_whole : (p : ℕ) → bit_xor (p % 2 ^ top f) (rem f (p / 2 ^ top f * 2 ^ top f)) ≡ rem f p
  fold_whole p =
      let n : ℕ = top f in
      let l : p % 2 ^ n < 2 ^ n = mod-lt p (pow_pos n) in
      ap (λ (x : ℕ). bit_xor x (rem f (p / 2 ^ n * 2 ^ n))) (sym (rem_below f pos (p % 2 ^ n) l))
      ∙ sym (rem_add f pos (p % 2 ^ n) (p / 2 ^ n * 2 ^ n))
      ∙ ap (rem f) (xor_comm (p % 2 ^ n) (p / 2 ^ n * 2 ^ n) ∙ xor_shifted (p / 2 ^ n) n (p % 2 ^ n) l ∙ split p n)

-- no bits of h yet
pub fold_none : (f n h x : ℕ) → 0 < f → bit_xor x (rem f (h % 2 ^ 0 * 2 ^ n)) ≡ x
fold_none f n h x pos =
    let e : h % 1 * 2 ^ n ≡ 0 = ap (λ (m : ℕ). m * 2 ^ n) (mod_one h) ∙ zero-mul (2 ^ n) in
    ap (λ (m : ℕ). bit_xor x (rem f m)) e ∙ ap (bit_xor x) (rem_below f pos 0 (pow_pos (top f))) ∙ xor_zero_r x
  where
    mod_one : (h : ℕ) → h % 1 ≡ 0
    mod_one h = omega arith
