use Rattle.std.proofs.Common.{◌≡◌, ℕ, ◌*◌, ◌^◌, ◌<◌, ◌≤◌, Some, None, Option, refl, sym, ◌∙◌}
use Rattle.std.specs.Option.{IfNone, IfSome, unwrap_or}
use Rattle.bits.specs.Bits.{length_in, top}
use Rattle.bits.proofs.Tops.{top_is}
use Rattle.plain_numbers.proofs.rule.degree.Goals as goal

top_zero : top 0 ≡ 0
unfolding top length_in
top_zero = refl

degree_of : (f : ℕ) (r : Option ℕ) → IfNone r (f ≡ 0) → IfSome r (λ k. 2 ^ k ≤ f) → IfSome r (λ k. f < 2 * 2 ^ k) → unwrap_or r 0 ≡ top f
degree_of f None zero low high = rw zero (sym top_zero)
degree_of f (Some k) zero low high = sym (top_is k f low high)

pub returns-clause-value : goal.returns-clause-value
returns-clause-value c =
    let e = c.checked_ilog2.ensures in
    c.unwrap_or.ensures ∙ degree_of c.args.f c.checked_ilog2.result e.none e.power_le e.next_power_gt
