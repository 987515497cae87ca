use Rattle.std.proofs.Common.{◌≡◌, ◌+◌, ◌-◌, ℕ, List, length, take, drop, refl, arith, length-drop}
use Rattle.std.proofs.lemmas.List.{take_all}
use Rattle.power_tree.specs.Tree.{steps_of}
use Rattle.power_tree.proofs.Steps.{steps_fewer, steps_more, steps_one_more, sets_more}
use Rattle.tree_plans.proofs.writing.+write_steps.Goals as goal

pub returns : goal.returns
returns t c =
    let path = c.args.path.now in
    let below : List ℕ = take (length path - 1) (drop 1 path) in
    let e : below ≡ drop 1 path = take_all (length path - 1) (drop 1 path) (omega (arith, length-drop 1 path)) in
    let m = steps_more path below e (omega arith) (omega arith) in
    let w = c.write_steps-at.ensures in
    let n : c.write_steps-at.result + 1 ≡ length (steps_of path) = omega (arith, steps_one_more path below e (omega arith) (omega arith), w.count) in
    record {
      within = omega (arith, n, steps_fewer path (omega arith));
      count = n;
      after = sets_more c.args.places.now c.write_steps-at.new.places (steps_of path) (steps_of below) _ _ _ _ _ _ _ m w.after w.count refl c.summand_place-k.ensures.place c.from.ensures;
    }
