-- What both plans rest on: the highest bit, and a table that holds a whole plan. Assumes nothing.
use Rattle.std.proofs.Common.{◌≡◌, ℕ, ◌*◌, ◌/◌, ◌^◌, ◌<◌, ◌≤◌, ap, ◌∙◌, arith}
use native.Mathlib.Nat.{div-eq_of_lt-le}
use Rattle.std.proofs.lemmas.Nat.{mod_below}
use Rattle.bits.specs.Bits.{top, bit_at}
use Rattle.bits.proofs.Tops.{top_is}
use Rattle.planning.proofs.Powers.{top_below}

pub bit_small : (n b : ℕ) → bit_at n b < 2
bit_small n b = mod_below (n / 2 ^ b) 2 (omega arith)

-- t is the place of the highest bit, from which on n is 1
pub record Highest (n t : ℕ) : Type 0 where
  pub is : top n ≡ t
  pub small : t ≤ 62
  pub one : n / 2 ^ top n ≡ 1

pub highest : {n t : ℕ} → n < 2 ^ 63 → 2 ^ t ≤ n → n < 2 * 2 ^ t → Highest n t
highest {n} {t} b l h =
    let s = top_below t n l b in
    let e = top_is t n l h in
    record { is = e; small = s; one = ap (λ (x : ℕ). n / 2 ^ x) e ∙ div-eq_of_lt-le (2 ^ t) (omega arith) (omega arith) }
