use Rattle.std.proofs.Common.{ℕ, ◌+◌, ◌^◌, ◌<◌, ◌≤◌, ap, ◌∙◌, arith, pow_mono}
use Rattle.bits.specs.Bits.{top}
use Rattle.polynomial_ring.specs.Polynomials.{rem, times, product}
use Rattle.polynomial_ring.proofs.Windows.{times_lt}
use Rattle.polynomials.proofs.register.Register.reduced_product.Goals as goal

pub remainder-requires : goal.remainder-requires
remainder-requires c =
    let n : ℕ = top c.args.self.now.modulus.value in
    let k : n + n ≤ 64 + n = omega (arith, c.args.self.now.modulus.narrow, c.args.self.now.modulus.high) in
    let l : times c.args.a c.args.b < 2 ^ (n + n) = times_lt n n c.args.a c.args.b c.requires.0 c.requires.1 in
    omega (arith, pow_mono {i = n + n} {j = 64 + n} k, l, c.times.ensures)

pub returns : goal.returns
unfolding product
returns c = c.remainder.ensures ∙ ap (rem c.args.self.now.modulus.value) c.times.ensures
