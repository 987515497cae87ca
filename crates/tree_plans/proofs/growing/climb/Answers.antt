use Rattle.std.proofs.Common.{◌≡◌, ℕ, length, slice_index, sym, ap, ◌∙◌, arith}
use Rattle.std.proofs.lemmas.Bool.{eqb-false}
use Rattle.std.specs.Option.{unwrap_or}
use Rattle.tree_plans.proofs.Climbing.{climbing_more}
use Rattle.tree_plans.proofs.growing.climb.Goals as goal

pub loop-v-preserved : goal.loop-v-preserved
loop-v-preserved c =
    let ps = c.args.parents.now in
    let next : c.unwrap_or-v.result ≡ slice_index ps c.loop-v.v =
    c.unwrap_or-v.ensures ∙ ap (λ o. unwrap_or o 0) c.copied.ensures ∙ c.get.ensures.lookup.4 (omega arith) 0 ∙ ap (λ (i : ℕ). slice_index ps i) c.from.ensures in
    let room : length c.loop-v.path.items ≡ 19 → ⊥ = eqb-false _ _ (sym c.is_full.ensures.value ∙ c.if-not-is_full.true) in
    record {
      small = omega arith;
      climbing = climbing_more ps c.args.u c.loop-v.v _ c.loop-v.path.items _ (omega arith) c.loop-v-test.true c.push.ensures.items next c.loop-v.invariant.climbing;
    }
