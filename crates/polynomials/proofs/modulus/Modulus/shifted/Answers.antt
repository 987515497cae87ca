use Rattle.std.proofs.Common.{◌*◌, sym, arith}
use Rattle.bits.specs.Bits.{top}
use Rattle.polynomial_ring.proofs.Remainders.{reduce_small, reduce_large}
use Rattle.polynomials.proofs.modulus.Modulus.shifted.Goals as goal

pub returns-then-y-limit : goal.returns-then-y-limit
returns-then-y-limit c = sym (reduce_small (top c.args.self.now.value) c.args.self.now.value (c.args.x * 2) (omega arith))

pub returns-else-y-limit : goal.returns-else-y-limit
returns-else-y-limit c = sym (reduce_large (top c.args.self.now.value) c.args.self.now.value (c.args.x * 2) (omega arith))
