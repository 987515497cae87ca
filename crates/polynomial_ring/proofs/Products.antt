-- The ring of polynomials with coefficients modulo 2, over numbers. Assumes nothing.
use Rattle.std.proofs.Common.{◌≡◌, ℕ, zero, suc, ◌*◌, ◌/◌, ◌%◌, ◌<◌, ◌≤◌, sym, refl, ap, ◌∙◌, ap₂, le_refl, le_of_suc-le-suc, not-suc-le-zero, add-zero, mod-lt, zero-lt-suc, mul_assoc, one-mul, mul-zero, div-add-mod', zero-mul, mul-one}
use native.Mathlib.Decide.{le_ind}
use lib.Arith.{half_le, bin_ind}
use lib.Bits.{bit_xor, xor_assoc, xor_comm, xor_self, xor_block, xor_shifted}
use Rattle.polynomial_ring.specs.Polynomials.{times_in, times}

two_pos : zero < 2
two_pos = zero-lt-suc 1

pub bit_lt : (n : ℕ) → n % 2 < 2
bit_lt n = mod-lt n two_pos

-- ---- sums

pub xor_left_comm : (a b c : ℕ) → bit_xor a (bit_xor b c) ≡ bit_xor b (bit_xor a c)
xor_left_comm a b c = sym (xor_assoc a b c) ∙ ap (λ (x : ℕ). bit_xor x c) (xor_comm a b) ∙ xor_assoc b a c

pub xor_cancel : (a b : ℕ) → bit_xor a (bit_xor a b) ≡ b
xor_cancel a b = sym (xor_assoc a a b) ∙ ap (λ (x : ℕ). bit_xor x b) (xor_self a)

pub xor4 : (a b c d : ℕ) → bit_xor (bit_xor a b) (bit_xor c d) ≡ bit_xor (bit_xor a c) (bit_xor b d)
xor4 a b c d = xor_assoc a b (bit_xor c d) ∙ ap (bit_xor a) (xor_left_comm b c d) ∙ sym (xor_assoc a c (bit_xor b d))

pub xor_dbl : (a b : ℕ) → bit_xor (a * 2) (b * 2) ≡ bit_xor a b * 2
xor_dbl a b =
    ap₂ bit_xor (sym (add-zero (a * 2))) (sym (add-zero (b * 2))) ∙ xor_block 1 a b 0 0 two_pos two_pos ∙ add-zero (bit_xor a b * 2)

-- the lowest bit and the rest
pub xor_split : (n : ℕ) → bit_xor (n % 2) (n / 2 * 2) ≡ n
xor_split n = xor_comm (n % 2) (n / 2 * 2) ∙ xor_shifted (n / 2) 1 (n % 2) (bit_lt n) ∙ div-add-mod' n 2

-- ---- a bit times a number

no_bit {ℓ} : {A : Type ℓ} {x : ℕ} → suc (suc x) < 2 → A
no_bit h = absurd (not-suc-le-zero (le_of_suc-le-suc (le_of_suc-le-suc h)))

pub bit_xor_lem : (c a b : ℕ) → c < 2 → c * bit_xor a b ≡ bit_xor (c * a) (c * b)
bit_xor_lem zero a b h = simp zero-mul
bit_xor_lem (suc zero) a b h = simp one-mul
bit_xor_lem (suc (suc c)) a b h = no_bit h

-- ---- products

more : (d a b : ℕ) → b ≤ d → times_in (suc d) a b ≡ times_in d a b
unfolding times_in
more zero a zero h = refl
more zero a (suc b) h = absurd (not-suc-le-zero h)
more (suc d) a zero h = refl
more (suc d) a (suc b) h = ap (λ (x : ℕ). bit_xor (suc b % 2 * a) (x * 2)) (more d a (suc b / 2) (half_le h))

enough : (d a b : ℕ) → b ≤ d → times_in d a b ≡ times_in b a b
unfolding times_in
enough d a b h = le_ind (λ (m : ℕ). times_in m a b ≡ times_in b a b) refl (λ m k e. more m a b k ∙ e) d h

pub times_zero : (a : ℕ) → times a 0 ≡ 0
unfolding times times_in
times_zero a = refl

pub times_step : (a b : ℕ) → times a b ≡ bit_xor (b % 2 * a) (times a (b / 2) * 2)
unfolding times times_in
times_step a zero = sym (ap (λ (x : ℕ). bit_xor x 0) (zero-mul a))
times_step a (suc b) = ap (λ (x : ℕ). bit_xor (suc b % 2 * a) (x * 2)) (enough b a (suc b / 2) (half_le (le_refl (suc b))))

pub times_add_l : (a b c : ℕ) → times (bit_xor a b) c ≡ bit_xor (times a c) (times b c)
times_add_l a b =
    bin_ind (λ (n : ℕ). times (bit_xor a b) n ≡ bit_xor (times a n) (times b n))
    (times_zero (bit_xor a b) ∙ sym (ap₂ bit_xor (times_zero a) (times_zero b)))
    (λ n ih. times_step (bit_xor a b) n
    ∙ ap₂ bit_xor (bit_xor_lem (n % 2) a b (bit_lt n)) (ap (λ (x : ℕ). x * 2) ih ∙ sym (xor_dbl (times a (n / 2)) (times b (n / 2))))
    ∙ xor4 (n % 2 * a) (n % 2 * b) (times a (n / 2) * 2) (times b (n / 2) * 2)
    ∙ sym (ap₂ bit_xor (times_step a n) (times_step b n)))

pub times_dbl_l : (a c : ℕ) → times (a * 2) c ≡ times a c * 2
times_dbl_l a =
    bin_ind (λ (n : ℕ). times (a * 2) n ≡ times a n * 2)
    (times_zero (a * 2) ∙ sym (ap (λ (x : ℕ). x * 2) (times_zero a)))
    (λ n ih. times_step (a * 2) n
    ∙ ap₂ bit_xor (sym (mul_assoc (n % 2) a 2)) (ap (λ (x : ℕ). x * 2) ih)
    ∙ xor_dbl (n % 2 * a) (times a (n / 2) * 2)
    ∙ ap (λ (x : ℕ). x * 2) (sym (times_step a n)))

pub times_zero_l : (c : ℕ) → times 0 c ≡ 0
times_zero_l =
    bin_ind (λ (n : ℕ). times 0 n ≡ 0) (times_zero 0)
    (λ n ih. times_step 0 n ∙ ap₂ (λ (x y : ℕ). bit_xor x (y * 2)) (mul-zero (n % 2)) ih)

pub times_one_l : (c : ℕ) → times 1 c ≡ c
times_one_l =
    bin_ind (λ (n : ℕ). times 1 n ≡ n) (times_zero 1)
    (λ n ih. times_step 1 n ∙ ap₂ (λ (x y : ℕ). bit_xor x (y * 2)) (mul-one (n % 2)) ih ∙ xor_split n)

bit_times_l : (c a : ℕ) → c < 2 → times c a ≡ c * a
bit_times_l zero a h = times_zero_l a ∙ sym (zero-mul a)
bit_times_l (suc zero) a h = times_one_l a ∙ sym (one-mul a)
bit_times_l (suc (suc c)) a h = no_bit h

pub times_comm : (a b : ℕ) → times a b ≡ times b a
times_comm a b =
    bin_ind (λ (n : ℕ). times a n ≡ times n a) (times_zero a ∙ sym (times_zero_l a))
    (λ n ih. times_step a n
    ∙ ap₂ bit_xor (sym (bit_times_l (n % 2) a (bit_lt n))) (ap (λ (x : ℕ). x * 2) ih ∙ sym (times_dbl_l (n / 2) a))
    ∙ sym (times_add_l (n % 2) (n / 2 * 2) a)
    ∙ ap (λ (x : ℕ). times x a) (xor_split n)) b

pub times_add_r : (a b c : ℕ) → times a (bit_xor b c) ≡ bit_xor (times a b) (times a c)
times_add_r a b c = times_comm a (bit_xor b c) ∙ times_add_l b c a ∙ ap₂ bit_xor (times_comm b a) (times_comm c a)

pub times_dbl_r : (a b : ℕ) → times a (b * 2) ≡ times a b * 2
times_dbl_r a b = times_comm a (b * 2) ∙ times_dbl_l b a ∙ ap (λ (x : ℕ). x * 2) (times_comm b a)

bit_times : (c a b : ℕ) → c < 2 → c * times a b ≡ times a (c * b)
bit_times zero a b h = zero-mul (times a b) ∙ sym (ap (times a) (zero-mul b) ∙ times_zero a)
bit_times (suc zero) a b h = one-mul (times a b) ∙ sym (ap (times a) (one-mul b))
bit_times (suc (suc c)) a b h = no_bit h

pub times_assoc : (a b c : ℕ) → times (times a b) c ≡ times a (times b c)
times_assoc a b =
    bin_ind (λ (n : ℕ). times (times a b) n ≡ times a (times b n))
    (times_zero (times a b) ∙ sym (ap (times a) (times_zero b) ∙ times_zero a))
    (λ n ih. times_step (times a b) n
    ∙ ap₂ bit_xor (bit_times (n % 2) a b (bit_lt n)) (ap (λ (x : ℕ). x * 2) ih ∙ sym (times_dbl_r a (times b (n / 2))))
    ∙ sym (times_add_r a (n % 2 * b) (times b (n / 2) * 2))
    ∙ ap (times a) (sym (times_step b n)))
