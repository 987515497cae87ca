-- Powers of two and the highest one bit. Assumes nothing.
use Rattle.std.proofs.Common.{◌≡◌, ℕ, suc, ◌+◌, ◌*◌, ◌/◌, ◌%◌, ◌^◌, ◌<◌, ◌≤◌, sym, ap, ◌∙◌, ⊎_elim, mul-le-mul_right, mul_assoc, suc-mul, mul-le-mul, mul-le-mul_left, div-add-mod', add-one, arith, pow_pos, pow_mono, pow-add, shr-shr}
use native.Mathlib.Nat.{div-eq_of_lt-le}
use Rattle.std.proofs.lemmas.Nat.{mod_below}
use Rattle.std.proofs.lemmas.Bool.{cases_lt}
use Rattle.bits.specs.Bits.{top, bit_at}
use Rattle.bits.proofs.Tops.{top_is, top_low, top_high, top_max}

-- one bit more of n
pub halves : (n b : ℕ) → n / 2 ^ b ≡ n / 2 ^ suc b + n / 2 ^ suc b + bit_at n b
halves n b =
    let e : n / 2 ^ b / 2 ≡ n / 2 ^ (b + 1) = shr-shr n b 1 in
    let f : n / 2 ^ (b + 1) ≡ n / 2 ^ suc b = ap (λ (x : ℕ). n / 2 ^ x) (add-one b) in
    let g : n / 2 ^ b / 2 * 2 + n / 2 ^ b % 2 ≡ n / 2 ^ b = div-add-mod' (n / 2 ^ b) 2 in
    omega arith

pub top_below : (t n : ℕ) → 2 ^ t ≤ n → n < 2 ^ 63 → t ≤ 62
top_below t n l h = ⊎_elim (λ (e : t < 63). omega arith) (λ (e : 63 ≤ t). let p : 2 ^ 63 ≤ 2 ^ t = pow_mono e in omega arith) (cases_lt t 63)

pub top_less : (k n : ℕ) → 1 ≤ n → n < 2 ^ k → top n < k
top_less k n l h = ⊎_elim (λ (e : top n < k). e) (λ (e : k ≤ top n). let p : 2 ^ k ≤ 2 ^ top n = pow_mono e in absurd (let no : ⊥ = omega (arith, top_low n l) in no)) (cases_lt (top n) k)

-- from it on a number is 1
pub top_one : (n : ℕ) → 1 ≤ n → n < 2 ^ 64 → n / 2 ^ top n ≡ 1
top_one n a h = let l = top_low n a in let u = top_high n in div-eq_of_lt-le (2 ^ top n) (omega arith) (omega arith)

-- with k bits more below it the highest bit stands k places up
pub top_shifted : {n q : ℕ} (k : ℕ) → n / 2 ^ k ≡ q → 1 ≤ q → n < 2 ^ 63 → top n ≡ top q + k
top_shifted {n} {q} k e l b =
    let s : q * 2 ^ k + n % 2 ^ k ≡ n = ap (λ (x : ℕ). x * 2 ^ k + n % 2 ^ k) (sym e) ∙ div-add-mod' n (2 ^ k) in
    let r : n % 2 ^ k < 2 ^ k = mod_below n (2 ^ k) (pow_pos k) in
    let a : q * 1 ≤ q * 2 ^ k = mul-le-mul_left q (pow_pos k) in
    let u : suc q ≤ 2 * 2 ^ top q = top_high q in
    let p : 2 ^ (top q + k) ≡ 2 ^ top q * 2 ^ k = pow-add 2 (top q) k in
    let low : 2 ^ top q * 2 ^ k ≤ q * 2 ^ k = mul-le-mul_right (2 ^ k) (top_low q l) in
    let up : suc q * 2 ^ k ≤ 2 * 2 ^ top q * 2 ^ k = mul-le-mul_right (2 ^ k) u in
    let high : n < 2 * 2 ^ (top q + k) = omega (arith, suc-mul q (2 ^ k), mul_assoc 2 (2 ^ top q) (2 ^ k)) in
    let t : top q + k ≤ 62 = top_below (top q + k) n (omega arith) b in
    top_is (top q + k) n (omega arith) high

pub top_mono : (m n : ℕ) → 1 ≤ m → m ≤ n → n < 2 ^ 64 → top m ≤ top n
top_mono m n l h b = top_max (top m) n (omega (arith, top_low m l))

pub top_product : (p q : ℕ) → 1 ≤ p → 1 ≤ q → p * q < 2 ^ 64 → top p + top q ≤ top (p * q)
top_product p q a b h = top_max (top p + top q) (p * q) (rw (pow-add 2 (top p) (top q)) (mul-le-mul (top_low p a) (top_low q b)))
