-- Register polynomials: those below the degree of a modulus f, whose product is reduced modulo f. Assumes nothing.
use Rattle.std.specs.Prelude.{ℕ, ◌^◌, Bool, Option, nat_le, nat_lt}
use Rattle.refusals.specs.declared.refusal.Refusal.{Refusal}
use Rattle.refusals.specs.declared.refusal.Refusal.TheVariants.{BadModulus}
use Rattle.refusals.specs.Faults.{unless}
use Rattle.kinds.specs.Kinds.{Meaning}
use Rattle.bits.specs.Bits.{top}
use Rattle.polynomial_ring.specs.Polynomials.{product}
use Rattle.polynomials.specs.declared.word.Word.{Word}

-- why no kind has the modulus f: it is below 2
abbrev pub modulus_fault : ℕ → Option Refusal
modulus_fault f = unless (nat_le 2 f) BadModulus

-- a value is below 2^top(f)
abbrev pub is_reduced : ℕ → Word → Bool
is_reduced f v = nat_lt v.bits (2 ^ top f)

abbrev pub word_product : ℕ → Word → Word → Word
word_product f a b = record { bits = product f a.bits b.bits }

abbrev pub polynomials : ℕ → Meaning Word
polynomials f = record { native = is_reduced f; times = word_product f }
