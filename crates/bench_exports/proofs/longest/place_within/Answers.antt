use Rattle.std.proofs.Common.{sym, ap, ◌∙◌}
use Rattle.plans.specs.Admission.{admission}
use Rattle.bench_exports.proofs.Planned.{placed_long}
use Rattle.bench_exports.proofs.longest.place_within.Goals as goal

pub returns : goal.returns
returns c =
    record {
      value = placed_long c.args.counted c.args.cells _ _ (c.in_ok-plan.ensures.plan.1 ∙ c.write_longest.ensures)
          (sym c.in_ok-plan.ensures.answer ∙ ap (admission 129) (sym c.in_ok-plan.ensures.plan.1)) c.place.ensures.answer;
    }
