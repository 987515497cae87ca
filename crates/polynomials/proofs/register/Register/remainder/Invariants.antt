use Rattle.std.proofs.Common.{◌≡◌, ◌*◌, ◌/◌, ◌%◌, ◌^◌}
use lib.Bits.{bit_xor}
use Rattle.bits.specs.Bits.{top}
use Rattle.polynomial_ring.specs.Polynomials.{rem}
use Rattle.polynomials.proofs.register.Register.remainder.Given as goal

abbrev pub invariant-loop-row : goal.invariant-loop-row
invariant-loop-row l =
    let f = l.self.modulus.value in
    let above = l.p / 2 ^ top f in
    (l.high ≡ above / 2 ^ (4 * l.row-index))
    × (l.r ≡ bit_xor (l.p % 2 ^ top f) (rem f (above % 2 ^ (4 * l.row-index) * 2 ^ top f)))
