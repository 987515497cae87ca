-- The product of two polynomials modulo a third, one bit of the second factor at a time.
use Rattle.std.proofs.Common.{◌≡◌, ℕ, zero, suc, ◌+◌, ◌-◌, ◌*◌, ◌/◌, ◌%◌, ◌^◌, ◌<◌, ◌≤◌, ap, ap₂, sym, ◌∙◌, arith, shr-shr, one-mul, zero-mul}
use lib.Bits.{bit_xor, bit_and, and_mask, xor_comm, xor_zero_l}
use Rattle.bits.specs.Bits.{top}
use Rattle.polynomial_ring.specs.Polynomials.{times, rem, reduce, product, Reduced}
use Rattle.polynomial_ring.proofs.Products.{bit_lt, times_step}
use Rattle.polynomial_ring.proofs.Remainders.{rem_add, rem_below, rem_dbl}

small : (d a n : ℕ) → d < 2 → a < n → d * a < n
small zero a n h k = omega arith
small (suc zero) a n h k = omega arith
small (suc (suc d)) a n h k = absurd (omega arith)

pub product_step : (f : ℕ) → 0 < f → (a q : ℕ) → Reduced f a → product f a q ≡ bit_xor (q % 2 * a) (reduce (top f) f (product f a (q / 2) * 2))
unfolding product
product_step f pos a q h =
    ap (rem f) (times_step a q)
    ∙ rem_add f pos (q % 2 * a) (times a (q / 2) * 2)
    ∙ ap₂ bit_xor (rem_below f pos (q % 2 * a) (small (q % 2) a (2 ^ top f) (bit_lt q) h)) (rem_dbl f pos (times a (q / 2)))

-- one bit further down: `acc` is the product with the bits of b from i on, and `next` t times it, reduced
pub turn : (f a b i acc next : ℕ) → 2 ≤ f → Reduced f a → 0 < i → acc ≡ product f a (b / 2 ^ i) → next ≡ reduce (top f) f (acc * 2)
    → product f a (b / 2 ^ (i - 1)) ≡ bit_xor (b / 2 ^ (i - 1) % 2 * a) next
turn f a b i acc next two h hi ea en =
    let e : i - 1 + 1 ≡ i = omega arith in
    let high : b / 2 ^ (i - 1) / 2 ≡ b / 2 ^ i = shr-shr b (i - 1) 1 ∙ ap (λ (k : ℕ). b / 2 ^ k) e in
    product_step f (omega arith) a (b / 2 ^ (i - 1)) h
    ∙ ap (λ (x : ℕ). bit_xor (b / 2 ^ (i - 1) % 2 * a) (reduce (top f) f (product f a x * 2))) high
    ∙ ap (λ (x : ℕ). bit_xor (b / 2 ^ (i - 1) % 2 * a) (reduce (top f) f (x * 2))) (sym ea)
    ∙ ap (bit_xor (b / 2 ^ (i - 1) % 2 * a)) (sym en)

pub turn_odd : (p a d next : ℕ) → bit_and d 1 ≡ 1 → p ≡ bit_xor (d % 2 * a) next → bit_xor next a ≡ p
turn_odd p a d next h e =
    let one : d % 2 ≡ 1 = sym (and_mask d 1) ∙ h in
    let f : d % 2 * a ≡ a = rw one (one-mul a) in
    xor_comm next a ∙ ap (λ (x : ℕ). bit_xor x next) (sym f) ∙ sym e

pub turn_even : (p a d next : ℕ) → (bit_and d 1 ≡ 1 → ⊥) → p ≡ bit_xor (d % 2 * a) next → next ≡ p
turn_even p a d next h e =
    let m : bit_and d 1 ≡ d % 2 = and_mask d 1 in
    let zero : d % 2 ≡ 0 = omega arith in
    let f : d % 2 * a ≡ 0 = rw zero (zero-mul a) in
    sym (e ∙ ap (λ (x : ℕ). bit_xor x next) f ∙ xor_zero_l next)
