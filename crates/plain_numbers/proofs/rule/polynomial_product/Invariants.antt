use Rattle.std.proofs.Common.{◌≡◌, ◌/◌, ◌^◌, ◌≤◌}
use Rattle.polynomial_ring.specs.Polynomials.{product, Reduced}
use Rattle.plain_numbers.proofs.rule.polynomial_product.Given as goal

abbrev pub invariant-loop-i : goal.invariant-loop-i
invariant-loop-i l = 2 ≤ l.f → Reduced l.f l.a → l.product ≡ product l.f l.a (l.b / 2 ^ l.i)
