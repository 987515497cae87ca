-- Residues: 0 to p - 1, whose product is that of the numbers, modulo p. Assumes nothing.
use Rattle.std.specs.Prelude.{ℕ, ◌*◌, ◌%◌, ◌^◌, Bool, ◌&&◌, Option, nat_le, nat_lt}
use Rattle.refusals.specs.declared.refusal.Refusal.{Refusal}
use Rattle.refusals.specs.declared.refusal.Refusal.TheVariants.{BadModulus}
use Rattle.refusals.specs.Faults.{unless}
use Rattle.kinds.specs.Kinds.{Meaning}

-- a modulus is 2 to 2^32 - 1
abbrev pub is_modulus : ℕ → Bool
is_modulus p = nat_le 2 p && nat_lt p (2 ^ 32)

-- why no kind has the modulus p
abbrev pub modulus_fault : ℕ → Option Refusal
modulus_fault p = unless (is_modulus p) BadModulus

abbrev pub is_residue : ℕ → ℕ → Bool
is_residue p v = nat_lt v p

abbrev pub residue_product : ℕ → ℕ → ℕ → ℕ
residue_product p a b = a * b % p

abbrev pub residues : ℕ → Meaning ℕ
residues p = record { native = is_residue p; times = residue_product p }
