use Rattle.std.proofs.Common.{◌≡◌, ◌≤◌, ◌++◌, true, leb, List, length, drop, refl, ap, ◌∙◌, arith, take-append-drop}
use Rattle.std.proofs.lemmas.Bool.{leb-true}
use Rattle.plans.specs.declared.step.Step.{Step}
use Rattle.planning.proofs.Finishing.{finished}
use Rattle.power_tree.proofs.Plans.{tree_stands}
use Rattle.power_tree.proofs.Rules.{tree_rule}
use Rattle.tree_plans.proofs.Planned.{granted, parents_filled}
use Rattle.tree_plans.proofs.method.tree.Goals as goal

pub returns-in_default-first_chunk_mut-clause-after : goal.returns-in_default-first_chunk_mut-clause-after
returns-in_default-first_chunk_mut-clause-after c =
    let t = c.args.table.now in
    ap (λ (x : List Step). x ++ drop 128 t) c.in-Some.ensures.cases.same ∙ take-append-drop 128 t

pub returns : goal.returns
returns c =
    let n = c.args.n in
    let ok = c.in_ok-check_request.ensures in
    let w = c.write_plan.ensures in
    let s = tree_stands n ok.positive (leb-true _ _ ok.allowed) in
    let allowed : leb n 1024 ≡ true = ok.allowed in
    let wide : 1025 ≤ length c.args.parents.now = c.in-Some-first_chunk_mut.ensures.cases.enough in
    let r = finished c.in-Some.ensures.cases w.count (omega (arith, w.count, s.chain.short)) w.after ok.positive ok.bounded allowed refl (λ _. s.chain) in
    record {
      answer = granted n _ _ _ _ r.answer wide;
      after = r.after;
      rule = tree_rule;
      parents = parents_filled c.args.parents.now c.grow.new.parents c.grow.ensures;
      within = omega (arith, w.count, s.chain.short);
      count = omega (arith, w.count, s.short);
      chain = r.chain;
    }
