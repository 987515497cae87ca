use Rattle.std.proofs.Common.{rules}
use Rattle.polynomial_ring.proofs.Coefficients.{multiplies}
use Rattle.bits.proofs.Tops.{highest}
use Rattle.polynomial_ring.proofs.Remainders.{reduces}
use Rattle.polynomials.proofs.register.Register.new.Goals as goal

pub returns-in_err-modulus : goal.returns-in_err-modulus
returns-in_err-modulus c = record { answer = search rules; highest = highest; multiplies = multiplies; reduces = reduces }

pub returns : goal.returns
returns c = record { answer = search rules; highest = highest; multiplies = multiplies; reduces = reduces }
