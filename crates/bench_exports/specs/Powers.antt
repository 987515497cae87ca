-- The power of a base by a plan. Assumes nothing.
use Rattle.std.specs.Prelude.{ℕ, Result}
use Rattle.refusals.specs.declared.refusal.Refusal.{Refusal}
use Rattle.refusals.specs.declared.refusal.Refusal.TheVariants.{Exponent, NotNative}
use Rattle.refusals.specs.Faults.{first, unless, answer}
use Rattle.planning.specs.Planning.{is_exponent}
use Rattle.kinds.specs.Powers.{power}
use Rattle.polynomials.specs.declared.word.Word.{Word}
use Rattle.polynomials.specs.Polynomials.{is_reduced, polynomials}

-- power n of x modulo f, unless n is no exponent or x not native
abbrev pub raised : ℕ → Word → ℕ → Result Word Refusal
raised f x n = answer (first (unless (is_exponent n) Exponent) (unless (is_reduced f x) NotNative)) (power (polynomials f) x n)
