-- The coefficients of a product. Assumes nothing.
use Rattle.std.proofs.Common.{◌≡◌, ℕ, zero, suc, ◌+◌, ◌-◌, ◌*◌, ◌/◌, ◌%◌, ◌^◌, ◌<◌, sym, refl, ap, ◌∙◌, ap₂, le_of_suc-le-suc, not-suc-le-zero, add-zero, add_assoc, mul_comm, one-mul, zero-add, zero-mul, div-one, add-one, one-add, arith, shr-shr}
use native.Mathlib.Nat.{add-mod-mod, suc-sub-suc, sub-zero}
use lib.Bits.{bit_xor, xor_shr, xor_mod, shifted_half}
use Rattle.polynomial_ring.specs.Polynomials.{times}
use Rattle.polynomial_ring.specs.Laws.{coef, sum_to, Multiplies}
use Rattle.polynomial_ring.proofs.Products.{bit_lt, times_step}

no_bit {ℓ} : {A : Type ℓ} {x : ℕ} → suc (suc x) < 2 → A
no_bit h = absurd (not-suc-le-zero (le_of_suc-le-suc (le_of_suc-le-suc h)))

bit_sum : (p q : ℕ) → p < 2 → q < 2 → bit_xor p q ≡ (p + q) % 2
bit_sum zero zero hp hq = refl
bit_sum zero (suc zero) hp hq = refl
bit_sum zero (suc (suc q)) hp hq = no_bit hq
bit_sum (suc zero) zero hp hq = refl
bit_sum (suc zero) (suc zero) hp hq = refl
bit_sum (suc zero) (suc (suc q)) hp hq = no_bit hq
bit_sum (suc (suc p)) q hp hq = no_bit hp

coef_xor : (x y k : ℕ) → coef (bit_xor x y) k ≡ (coef x k + coef y k) % 2
coef_xor x y k =
    ap (λ (z : ℕ). z % 2) (xor_shr x y k) ∙ xor_mod (x / 2 ^ k) (y / 2 ^ k) 1
    ∙ bit_sum (coef x k) (coef y k) (bit_lt (x / 2 ^ k)) (bit_lt (y / 2 ^ k))

coef_bit : (c a k : ℕ) → c < 2 → coef (c * a) k ≡ coef a k * c
coef_bit zero a k h = ap (λ (x : ℕ). x / 2 ^ k % 2) (zero-mul a) ∙ none k ∙ sym (mul_comm (coef a k) 0 ∙ zero-mul (coef a k))
  where
    none : (k : ℕ) → 0 / 2 ^ k % 2 ≡ 0
    none k = let e : 0 / 2 ^ k ≡ 0 = omega arith in ap (λ (x : ℕ). x % 2) e
coef_bit (suc zero) a k h = ap (λ (x : ℕ). x / 2 ^ k % 2) (one-mul a) ∙ sym (mul_comm (coef a k) 1 ∙ one-mul (coef a k))
coef_bit (suc (suc c)) a k h = no_bit h

-- the coefficients of x / t
coef_half : (x k : ℕ) → coef (x / 2) k ≡ coef x (suc k)
coef_half x k = ap (λ (z : ℕ). z % 2) (shr-shr x 1 k ∙ ap (λ (z : ℕ). x / 2 ^ z) (one-add k))

coef_dbl : (y k : ℕ) → coef (y * 2) (suc k) ≡ coef y k
coef_dbl y k = sym (coef_half (y * 2) k) ∙ ap (λ (z : ℕ). coef z k) (shifted_half y 0 ∙ omega arith)

coef_dbl_zero : (y : ℕ) → coef (y * 2) 0 ≡ 0
coef_dbl_zero y = omega arith

-- ---- sums

sum_front : (g : ℕ → ℕ) (n : ℕ) → sum_to g (suc n) ≡ g 0 + sum_to (λ i. g (suc i)) n
unfolding sum_to
sum_front g zero = zero-add (g 0) ∙ sym (add-zero (g 0))
sum_front g (suc n) = ap (λ (x : ℕ). x + g (suc n)) (sum_front g n) ∙ add_assoc (g 0) (sum_to (λ i. g (suc i)) n) (g (suc n))

sum_ext : (g h : ℕ → ℕ) → ((i : ℕ) → g i ≡ h i) → (n : ℕ) → sum_to g n ≡ sum_to h n
unfolding sum_to
sum_ext g h e zero = refl
sum_ext g h e (suc n) = ap₂ (λ (x y : ℕ). x + y) (sum_ext g h e n) (e n)

coefficients : (a b k : ℕ) → coef (times a b) k ≡ sum_to (λ i. coef a (k - i) * coef b i) (suc k) % 2
unfolding sum_to
coefficients a b zero =
    ap (λ (x : ℕ). coef x 0) (times_step a b) ∙ coef_xor (b % 2 * a) (times a (b / 2) * 2) 0
    ∙ ap (λ (x : ℕ). x % 2) (ap₂ (λ (x y : ℕ). x + y) (coef_bit (b % 2) a 0 (bit_lt b)) (coef_dbl_zero (times a (b / 2))) ∙ first)
  where
    first : coef a 0 * (b % 2) + 0 ≡ 0 + coef a (0 - 0) * coef b 0
    first = add-zero (coef a 0 * (b % 2)) ∙ ap (λ (x : ℕ). coef a 0 * (x % 2)) (sym (div-one b)) ∙ sym (zero-add (coef a 0 * coef b 0))
coefficients a b (suc k) =
    ap (λ (x : ℕ). coef x (suc k)) (times_step a b) ∙ coef_xor (b % 2 * a) (times a (b / 2) * 2) (suc k)
    ∙ ap (λ (x : ℕ). x % 2)
    (ap₂ (λ (x y : ℕ). x + y) (coef_bit (b % 2) a (suc k) (bit_lt b)) (coef_dbl (times a (b / 2)) k ∙ coefficients a (b / 2) k))
    ∙ add-mod-mod (coef a (suc k) * (b % 2)) (sum_to (λ i. coef a (k - i) * coef (b / 2) i) (suc k)) 2
    ∙ ap (λ (x : ℕ). x % 2)
    (ap₂ (λ (x y : ℕ). x + y) head (sum_ext (λ i. coef a (k - i) * coef (b / 2) i) (λ i. coef a (suc k - suc i) * coef b (suc i)) tail (suc k))
    ∙ sym (sum_front (λ i. coef a (suc k - i) * coef b i) (suc k)))
  where
    head : coef a (suc k) * (b % 2) ≡ coef a (suc k - 0) * coef b 0
    head = ap₂ (λ (x y : ℕ). coef a x * (y % 2)) (sym (sub-zero (suc k))) (sym (div-one b))

    tail : (i : ℕ) → coef a (k - i) * coef (b / 2) i ≡ coef a (suc k - suc i) * coef b (suc i)
    tail i = ap₂ (λ (x y : ℕ). coef a x * y) (sym (suc-sub-suc k i)) (coef_half b i)

pub multiplies : Multiplies
multiplies a b k = coefficients a b k ∙ ap (λ (n : ℕ). sum_to (λ i. coef a (k - i) * coef b i) n % 2) (sym (add-one k))
