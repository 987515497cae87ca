use Rattle.std.proofs.Common.{arith}
use Rattle.bits.proofs.Tops.{top_unique}
use Rattle.polynomials.proofs.modulus.Modulus.new.Goals as goal

pub invariant_of-result : goal.invariant_of-result
invariant_of-result c =
    let e = top_unique c.args.value c.ilog2.result c.ilog2.ensures.power_le (omega arith) in
    record { least = omega arith; high = omega arith; narrow = omega arith }
