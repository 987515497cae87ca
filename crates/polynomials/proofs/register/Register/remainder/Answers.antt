use Rattle.std.proofs.Common.{◌≡◌, ℕ, ◌+◌, ◌-◌, ◌*◌, ◌/◌, ◌%◌, ◌^◌, ◌<◌, [], get_or, sym, ap, ◌∙◌, subst, ap₂, mod-eq_of_lt, arith, shr_lt, shr-shr, div-one}
use lib.Bits.{bit_xor, bit_and, and_mask, xor_assoc}
use Rattle.bits.specs.Bits.{top}
use Rattle.polynomial_ring.specs.Polynomials.{rem}
use Rattle.polynomial_ring.proofs.Windows.{fold_more, fold_whole, fold_none}
use Rattle.polynomials.proofs.register.Register.remainder.Goals as goal

pub overflow_cast-high-2 : goal.overflow_cast-high-2
overflow_cast-high-2 c =
    let m = c.args.self.now.modulus in
    let h : c.args.p / 2 ^ m.degree < 2 ^ 64 =
    subst (λ (n : ℕ). c.args.p / 2 ^ n < 2 ^ 64) (sym m.high) (shr_lt {n = c.args.p} 64 (top m.value) c.requires) in
    omega (arith, h)

pub loop-row-init : goal.loop-row-init
loop-row-init c =
    let m = c.args.self.now.modulus in
    let f : ℕ = m.value in
    let p : ℕ = c.args.p in
    let pos : 0 < f = omega (arith, m.least) in (
      ap (λ (n : ℕ). p / 2 ^ n) m.high ∙ sym (div-one (p / 2 ^ top f)),
      ap (bit_and p) (c.from.ensures ∙ ap (λ (x : ℕ). x - 1) c.limit.ensures) ∙ and_mask p (top f)
          ∙ sym (fold_none f (top f) (p / 2 ^ top f) (p % 2 ^ top f) pos),
    )

pub loop-row-preserved : goal.loop-row-preserved
loop-row-preserved c =
    let m = c.args.self.now.modulus in
    let f : ℕ = m.value in
    let n : ℕ = top f in
    let p : ℕ = c.args.p in
    let k : ℕ = c.loop-row.row-index in
    let pos : 0 < f = omega (arith, m.least) in
    let h : ℕ = p / 2 ^ n in
    let w : ℕ = h / 2 ^ (4 * k) % 16 in
    let e : 4 * k + 4 ≡ 4 * (k + 1) = omega arith in
    let high : c.loop-row.high ≡ h / 2 ^ (4 * k) = c.loop-row.invariant.0 in
    let found : get_or (get_or c.args.self.now.rows k []) (c.loop-row.high % 16) 0 ≡ rem f (w * 2 ^ (n + 4 * k)) =
    ap (λ (x : ℕ). get_or (get_or c.args.self.now.rows k []) (x % 16) 0) high
    ∙ c.args.self.now.folds k w (omega arith, omega arith) in (
      ap (λ (x : ℕ). x / 16) high ∙ shr-shr h (4 * k) 4 ∙ ap (λ (x : ℕ). h / 2 ^ x) e,
      ap₂ bit_xor c.loop-row.invariant.1 found
          ∙ xor_assoc (p % 2 ^ n) (rem f (h % 2 ^ (4 * k) * 2 ^ n)) (rem f (w * 2 ^ (n + 4 * k)))
          ∙ ap (bit_xor (p % 2 ^ n)) (fold_more f pos n h k),
    )

pub returns : goal.returns
returns c =
    let m = c.args.self.now.modulus in
    let f : ℕ = m.value in
    let n : ℕ = top f in
    let p : ℕ = c.args.p in
    let pos : 0 < f = omega (arith, m.least) in
    let end : c.loop-row.row-index ≡ 16 = omega arith in
    let small : p / 2 ^ n < 2 ^ 64 = shr_lt {n = p} 64 n c.requires in
    let whole : p / 2 ^ n % 2 ^ 64 ≡ p / 2 ^ n = mod-eq_of_lt small in
    c.loop-row.invariant.1
    ∙ ap (λ (k : ℕ). bit_xor (p % 2 ^ n) (rem f (p / 2 ^ n % 2 ^ (4 * k) * 2 ^ n))) end
    ∙ ap (λ (h : ℕ). bit_xor (p % 2 ^ n) (rem f (h * 2 ^ n))) whole
    ∙ fold_whole f pos p
