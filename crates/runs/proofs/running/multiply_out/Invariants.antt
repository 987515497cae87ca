use Rattle.std.proofs.Common.{◌≡◌, length}
use Rattle.run_laws.specs.Runs.{after_steps}
use Rattle.runs.proofs.running.multiply_out.Given as goal

abbrev pub invariant-loop-step : goal.invariant-loop-step
invariant-loop-step g l =
    let kind = g.U.Kind.kind in
    let state = g.U.Unit.state in
    (state l.unit ≡ after_steps (kind l.initial.unit) (state l.initial.unit) l.places l.plan.steps.now (length l.yielded))
    × (kind l.unit ≡ kind l.initial.unit)
