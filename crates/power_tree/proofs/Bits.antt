-- A set of numbers, kept as the bits of one number.
use Rattle.std.proofs.Common.{◌≡◌, ℕ, suc, ◌+◌, ◌-◌, ◌*◌, ◌/◌, ◌%◌, ◌^◌, ◌<◌, sym, ap, ◌∙◌, ⊎_elim, one-mul, pow-suc, div-add-mod', arith, pow_pos, pow-add, shr-shr}
use native.Mathlib.Nat.{add-mul-div_right, add-mul-mod_self_right}
use Rattle.std.proofs.lemmas.Nat.{mod_below}
use Rattle.std.proofs.lemmas.Bool.{cases_order}

abbrev pub In : ℕ → ℕ → Type 0
In b c = b / 2 ^ c % 2 ≡ 1

-- one number more
pub in_same : (b c : ℕ) → b / 2 ^ c % 2 ≡ 0 → In (b + 2 ^ c) c
in_same b c z =
    let q : (b + 1 * 2 ^ c) / 2 ^ c ≡ b / 2 ^ c + 1 = add-mul-div_right b 1 (pow_pos c) in
    let e : (b + 2 ^ c) / 2 ^ c ≡ b / 2 ^ c + 1 = ap (λ (x : ℕ). (b + x) / 2 ^ c) (sym (one-mul (2 ^ c))) ∙ q in
    let d = div-add-mod' (b / 2 ^ c) 2 in
    ap (λ (x : ℕ). x % 2) e ∙ odd (b / 2 ^ c) z
  where
    odd : (x : ℕ) → x % 2 ≡ 0 → (x + 1) % 2 ≡ 1
    odd x h = omega (arith, div-add-mod' x 2, div-add-mod' (x + 1) 2, mod_below (x + 1) 2 (omega arith))

pub in_other : (b c d : ℕ) → b / 2 ^ c % 2 ≡ 0 → (d ≡ c → ⊥) → (b + 2 ^ c) / 2 ^ d % 2 ≡ b / 2 ^ d % 2
in_other b c d z ne =
    ⊎_elim
    (λ (e : d ≡ c). absurd (ne e))
    (λ o. ⊎_elim
    (λ (l : d < c).
    let k : ℕ = c - d - 1 in
    let s : c ≡ suc k + d = omega arith in
    let p : 2 ^ c ≡ 2 ^ k * 2 * 2 ^ d = ap (λ (x : ℕ). 2 ^ x) s ∙ pow-add 2 (suc k) d ∙ ap (λ (x : ℕ). x * 2 ^ d) (pow-suc 2 k) in
    let q : (b + 2 ^ k * 2 * 2 ^ d) / 2 ^ d ≡ b / 2 ^ d + 2 ^ k * 2 = add-mul-div_right b (2 ^ k * 2) (pow_pos d) in
    ap (λ (x : ℕ). (b + x) / 2 ^ d % 2) p ∙ ap (λ (x : ℕ). x % 2) q ∙ add-mul-mod_self_right (b / 2 ^ d) (2 ^ k) 2)
    (λ (l : c < d).
    let k : ℕ = d - c - 1 in
    let s : c + 1 + k ≡ d = omega arith in
    let q : (b + 1 * 2 ^ c) / 2 ^ c ≡ b / 2 ^ c + 1 = add-mul-div_right b 1 (pow_pos c) in
    let e : (b + 2 ^ c) / 2 ^ c ≡ b / 2 ^ c + 1 = ap (λ (x : ℕ). (b + x) / 2 ^ c) (sym (one-mul (2 ^ c))) ∙ q in
    let h : (b / 2 ^ c + 1) / 2 ≡ b / 2 ^ c / 2 = half (b / 2 ^ c) z in
    let a : (x : ℕ) → x / 2 ^ d ≡ x / 2 ^ c / 2 / 2 ^ k = λ x. ap (λ (y : ℕ). x / 2 ^ y) (sym s) ∙ sym (shr-shr x (c + 1) k) ∙ ap (λ (y : ℕ). y / 2 ^ k) (sym (shr-shr x c 1)) in
    ap (λ (x : ℕ). x % 2) (a (b + 2 ^ c) ∙ ap (λ (x : ℕ). x / 2 / 2 ^ k) e ∙ ap (λ (x : ℕ). x / 2 ^ k) h ∙ sym (a b)))
    o)
    (cases_order d c)
  where
    half : (x : ℕ) → x % 2 ≡ 0 → (x + 1) / 2 ≡ x / 2
    half x h = omega (arith, div-add-mod' x 2, div-add-mod' (x + 1) 2, mod_below (x + 1) 2 (omega arith))
