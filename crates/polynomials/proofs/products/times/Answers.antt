use Rattle.std.proofs.Common.{◌≡◌, ℕ, ◌-◌, ◌*◌, ◌/◌, ◌%◌, ◌^◌, ◌<◌, sym, ap, ◌∙◌, arith}
use lib.Bits.{bit_xor}
use Rattle.polynomial_ring.specs.Polynomials.{times}
use Rattle.polynomial_ring.proofs.Products.{times_zero}
use Rattle.polynomial_ring.proofs.Windows.{times_lt, turn, high_part}
use Rattle.polynomials.proofs.products.times.Goals as goal

pub loop-i-init : goal.loop-i-init
loop-i-init c =
    let e : c.args.b / 2 ^ 64 ≡ 0 = omega arith in
    sym (ap (times c.args.a) e ∙ times_zero c.args.a)

pub overflow_mul-product : goal.overflow_mul-product
overflow_mul-product c =
    let l : c.args.b / 2 ^ (4 * c.loop-i.i) < 2 ^ 60 = high_part c.args.b c.loop-i.i (omega arith) (omega arith) in
    let k : times c.args.a (c.args.b / 2 ^ (4 * c.loop-i.i)) < 2 ^ 123 =
    times_lt 60 63 c.args.a (c.args.b / 2 ^ (4 * c.loop-i.i)) (omega arith) l in
    omega (arith, c.loop-i.invariant, k)

pub loop-i-preserved : goal.loop-i-preserved
loop-i-preserved c =
    let w : ℕ = c.args.b / 2 ^ (4 * (c.loop-i.i - 1)) % 16 in
    ap (bit_xor (c.loop-i.product * 16)) (c.multiples-row.ensures w (omega arith))
    ∙ turn c.args.a c.args.b c.loop-i.i c.loop-i.product c.loop-i-test.true c.loop-i.invariant
