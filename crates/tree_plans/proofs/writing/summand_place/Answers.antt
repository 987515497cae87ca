use Rattle.std.proofs.Common.{◌≡◌, ℕ, ◌+◌, rules, sym, arith}
use Rattle.std.proofs.lemmas.Iterator.{IsFirst-from_position, YieldsList-from_slice}
use borrow.Author.Tests.{tests}
use Rattle.power_tree.proofs.Steps.{summand_found, summand_absent}
use Rattle.tree_plans.proofs.writing.summand_place.Goals as goal

pub returns : goal.returns
returns c =
    let u = c.args.u in
    let x = c.args.x in
    let f =
    IsFirst-from_position _ _ _ (λ (a : ℕ). u + a ≡ x) (λ (a : ℕ). u + a ≡ x → ⊥) c.in-Some.ensures.ran (YieldsList-from_slice c.args.path.now cc)
    (λ y q k. search (rules, tests)) (λ y q k. search (rules, tests)) in
    record { within = omega arith; place = sym (summand_found u x c.args.path.now c.in-Some.from_top f.0 f.1 f.2) }

pub returns-in_default : goal.returns-in_default
returns-in_default c =
    let u = c.args.u in
    let x = c.args.x in
    let f =
    IsFirst-from_position _ _ _ (λ (a : ℕ). u + a ≡ x) (λ (a : ℕ). u + a ≡ x → ⊥) c.in_default.ensures.ran (YieldsList-from_slice c.args.path.now cc)
    (λ y q k. search (rules, tests)) (λ y q k. search (rules, tests)) in
    record { within = omega arith; place = sym (summand_absent u x c.args.path.now f) }
