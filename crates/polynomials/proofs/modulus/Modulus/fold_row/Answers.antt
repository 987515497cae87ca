use Rattle.std.proofs.Common.{◌≡◌, ℕ, ◌*◌, ◌^◌, ◌<◌, sym, ap, ◌∙◌, subst, arith, rules, pow_pos}
use lib.Bits.{xor_lt}
use Rattle.bits.specs.Bits.{top}
use Rattle.polynomial_ring.specs.Polynomials.{times, rem, reduce}
use Rattle.polynomial_ring.proofs.Products.{times_zero}
use Rattle.polynomial_ring.proofs.Remainders.{rem_lt, rem_below, rem_dbl}
use Rattle.polynomial_ring.proofs.Windows.{times_one, entry_even, entry_odd}
use Rattle.polynomials.proofs.Halves.{row_all}
use Rattle.polynomials.proofs.modulus.Modulus.fold_row.Goals as goal

pub row-requires : goal.row-requires
row-requires c =
    let f : ℕ = c.args.self.now.value in
    let pos : 0 < f = omega (arith, c.args.self.now.least) in (
      omega arith,
      (
        λ x y. tt,
        (
          c.requires,
          λ x y z small double sum.
              let made : y ≡ reduce (top f) f (x * 2) = search rules in
              let e : reduce (top f) f (x * 2) ≡ rem f (x * 2) = ap (λ (w : ℕ). reduce (top f) f (w * 2)) (sym (rem_below f pos x small)) ∙ sym (rem_dbl f pos x) in
              let even : y < 2 ^ top f = subst (λ (w : ℕ). w < 2 ^ top f) (sym (made ∙ e)) (rem_lt f pos (x * 2)) in
              (even, subst (λ (w : ℕ). w < 2 ^ top f) (sym sum) (xor_lt (top f) y c.args.unit even c.requires)),
        ),
      ),
    )

pub returns : goal.returns
returns c =
    let f : ℕ = c.args.self.now.value in
    let u : ℕ = c.args.unit in
    let pos : 0 < f = omega (arith, c.args.self.now.least) in
    row_all (λ m x. x ≡ rem f (times u m)) 0 _ _ _ c.row.result c.row.ensures
    (sym (ap (rem f) (times_zero u) ∙ rem_below f pos 0 (pow_pos (top f))))
    (sym (ap (rem f) (times_one u) ∙ rem_below f pos u c.requires))
    (λ h x y z l e double sum.
    let made : y ≡ reduce (top f) f (x * 2) = search rules in
    let even : y ≡ rem f (times u (2 * h)) = entry_even f pos u h x y e made in
    (even, sum ∙ entry_odd f pos u h y c.requires even))
