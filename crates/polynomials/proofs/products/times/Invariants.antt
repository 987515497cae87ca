use Rattle.std.proofs.Common.{◌≡◌, ◌*◌, ◌/◌, ◌^◌}
use Rattle.polynomial_ring.specs.Polynomials.{times}
use Rattle.polynomials.proofs.products.times.Given as goal

abbrev pub invariant-loop-i : goal.invariant-loop-i
invariant-loop-i l = l.product ≡ times l.a (l.b / 2 ^ (4 * l.i))
