use Rattle.std.proofs.Common.{◌≡◌, ℕ, ◌-◌, ◌/◌, ◌^◌, sym, ap, ◌∙◌, arith}
use Rattle.polynomial_ring.specs.Polynomials.{rem, rem_in, product, Reduced}
use Rattle.polynomial_ring.proofs.Products.{times_zero}
use Rattle.polynomial_ring.proofs.Remainders.{product_native}
use Rattle.plain_numbers.proofs.Steps.{turn, turn_odd, turn_even}
use Rattle.plain_numbers.proofs.rule.polynomial_product.Goals as goal

product_zero : (f a : ℕ) → product f a 0 ≡ 0
unfolding product rem rem_in
product_zero f a = ap (rem f) (times_zero a)

pub loop-i-init : goal.loop-i-init
loop-i-init c two small =
    let e : c.args.b / 2 ^ 64 ≡ 0 = omega arith in
    sym (ap (product c.args.f c.args.a) e ∙ product_zero c.args.f c.args.a)

pub loop-i-preserved-then-b-i-eq1 : goal.loop-i-preserved-then-b-i-eq1
loop-i-preserved-then-b-i-eq1 c two small =
    let q : ℕ = c.args.b / 2 ^ (c.loop-i.i - 1) in
    let acc = c.loop-i.invariant two small in
    let low : Reduced c.args.f c.loop-i.product = rw acc (product_native c.args.f (omega arith) c.args.a (c.args.b / 2 ^ c.loop-i.i)) in
    let next = c.shifted-product.ensures two c.degree-degree.ensures.value low in
    turn_odd (product c.args.f c.args.a q) c.args.a q c.shifted-product.result c.if-b-i-eq1.true
    (turn c.args.f c.args.a c.args.b c.loop-i.i c.loop-i.product c.shifted-product.result two small c.loop-i-test.true acc next)

pub loop-i-preserved : goal.loop-i-preserved
loop-i-preserved c two small =
    let q : ℕ = c.args.b / 2 ^ (c.loop-i.i - 1) in
    let acc = c.loop-i.invariant two small in
    let low : Reduced c.args.f c.loop-i.product = rw acc (product_native c.args.f (omega arith) c.args.a (c.args.b / 2 ^ c.loop-i.i)) in
    let next = c.shifted-product.ensures two c.degree-degree.ensures.value low in
    turn_even (product c.args.f c.args.a q) c.args.a q c.shifted-product.result c.if-b-i-eq1.false
    (turn c.args.f c.args.a c.args.b c.loop-i.i c.loop-i.product c.shifted-product.result two small c.loop-i-test.true acc next)
