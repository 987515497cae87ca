use Rattle.std.proofs.Common.{◌≡◌, ℕ, ◌*◌, ◌%◌, ◌<◌, ◌≤◌, ◌⊎◌, rules}
use Rattle.std.proofs.lemmas.Iterator.{first_from_Range}
use borrow.Author.Tests.{tests}
use Rattle.factor_plans.proofs.divisor.search_end.Goals as goal

pub returns : goal.returns
returns c =
    let n = c.args.n in
    first_from_Range _ _ _ _ (λ (d : ℕ). (n < d * d) ⊎ (n % d ≡ 0)) (λ (d : ℕ). (d * d ≤ n) × (n % d ≡ 0 → ⊥)) c.find.ensures.ran
    (λ x q k. search (rules, tests)) (λ x q k. search (rules, tests))
