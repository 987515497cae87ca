use Rattle.std.proofs.Common.{◌≡◌, ℕ, List, [], ap, ◌∙◌, refl}
use Rattle.power_tree.specs.Tree.{turned}
use Rattle.power_tree.specs.Growth.{hang_all}
use Rattle.power_tree.proofs.Turns.{all_more, all_room, all_none}
use Rattle.tree_plans.specs.Growing.{tree_of}
use Rattle.tree_plans.proofs.growing.GrowingTree.hang_all.Goals as goal

pub hang-requires : goal.hang-requires
hang-requires c = record { room = all_room c.args.u (tree_of c.loop-a.self) _ _ _ c.in-Some.a.now 1024 c.in-Some.ensures.steps c.loop-a.invariant.left c.requires.room }

pub loop-a-init : goal.loop-a-init
loop-a-init c =
    let path : c.into_iter-a-iterator.result.iter.rest.now ≡ c.climb.result.items = cc in
    record {
      same_table = refl;
      left = ap (hang_all c.args.u (tree_of c.args.self.now)) (ap (λ (x : List ℕ). turned x []) path ∙ c.climb.ensures);
    }

pub loop-a-preserved : goal.loop-a-preserved
loop-a-preserved c =
    record {
      same_table = c.hang.ensures.same_table ∙ c.loop-a.invariant.same_table;
      left = all_more c.args.u (tree_of c.loop-a.self) (tree_of c.hang.new.self) _ _ _ c.in-Some.a.now c.in-Some.ensures.steps c.hang.ensures.tree c.loop-a.invariant.left;
    }

pub returns : goal.returns
returns c =
    record {
      same_table = c.loop-a.invariant.same_table;
      tree = all_none c.args.u (tree_of c.loop-a.self) _ c.loop-a.a-iterator.iter.rest.now c.in-None.ensures.steps.0 c.loop-a.invariant.left;
    }
