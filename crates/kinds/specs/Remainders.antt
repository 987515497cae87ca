-- The product modulo p associates. Assumes nothing.
use Rattle.std.specs.Prelude.{◌≡◌, ℕ, ◌+◌, ◌*◌, ◌/◌, ◌%◌}
use Rattle.std.proofs.Common.{sym, ap, ◌∙◌, div-add-mod', mul_comm, mul_assoc, arith}
use Rattle.std.proofs.Math.Nat.{mul-add-mod_self_right}
use Rattle.kinds.specs.Residues.{residue_product}

mul_mod_left : (x c p : ℕ) → x % p * c % p ≡ x * c % p
mul_mod_left x c p =
    let m = ap (λ (z : ℕ). z * c) (div-add-mod' x p) in
    let e : x * c ≡ (x / p * c) * p + x % p * c = omega arith in
    sym (ap (λ (z : ℕ). z % p) e ∙ mul-add-mod_self_right (x / p * c) p (x % p * c))

mul_mod_right : (c x p : ℕ) → c * (x % p) % p ≡ c * x % p
mul_mod_right c x p = ap (λ (z : ℕ). z % p) (mul_comm c (x % p)) ∙ mul_mod_left x c p ∙ ap (λ (z : ℕ). z % p) (mul_comm x c)

pub residue_assoc : (p a b c : ℕ) → residue_product p (residue_product p a b) c ≡ residue_product p a (residue_product p b c)
residue_assoc p a b c = mul_mod_left (a * b) c p ∙ ap (λ (z : ℕ). z % p) (mul_assoc a b c) ∙ sym (mul_mod_right a (b * c) p)
