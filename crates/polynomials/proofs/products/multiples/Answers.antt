use Rattle.std.proofs.Common.{◌≡◌, ℕ, ◌*◌, ◌%◌, ◌^◌, ◌<◌, sym, ◌∙◌, ap₂, arith, rules}
use lib.Bits.{bit_xor}
use Rattle.polynomial_ring.specs.Polynomials.{times}
use Rattle.polynomial_ring.proofs.Products.{times_zero}
use Rattle.polynomial_ring.proofs.Windows.{times_one, times_even, times_odd, times_lt}
use Rattle.polynomials.proofs.Halves.{row_all}
use Rattle.polynomials.proofs.products.multiples.Goals as goal

pub returns : goal.returns
returns c =
    let a : ℕ = c.args.a in
    row_all (λ m x. x ≡ times a m) 0 _ _ _ c.row.result c.row.ensures (sym (times_zero a)) (c.from.ensures ∙ sym (times_one a))
    (λ h x y z l e double sum.
    let small : times a h < 2 ^ 66 = times_lt 3 63 a h (omega arith) (omega arith) in
    let shifted : y ≡ x * 2 % 2 ^ 128 = search rules in
    let even : y ≡ times a h * 2 = omega arith in
    (even ∙ sym (times_even a h), sum ∙ ap₂ bit_xor even c.from.ensures ∙ sym (times_odd a h)))
