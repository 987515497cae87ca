use Rattle.std.proofs.Common.{◌≡◌, ℕ, ◌+◌, ◌-◌, ◌<◌, List, Err, length-append, length, [], ◌∷◌, take, drop, get_or, refl, sym, ap, ◌∙◌, arith, rules, length-take, length-drop, get_or-take, get_or-drop}
use Rattle.std.proofs.lemmas.Slice.Zip.{zip_turn, zip_end}
use Rattle.plans.specs.declared.step.Step.{Step}
use Rattle.plans.specs.Chain.{no_step, step_at}
use Rattle.kinds.proofs.Powers.{Laws}
use Rattle.units.specs.Units.{reading}
use Rattle.run_laws.specs.Runs.{last_value, cell_of, step_answer, step_after, after_steps}
use Rattle.run_laws.proofs.Turns.{turn_passes, turn_next, end_is, end_hands}
use Rattle.runs.proofs.running.multiply_out.Given as given
use Rattle.runs.proofs.running.multiply_out.Goals as goal
use Rattle.runs.proofs.running.multiply_out.Goals.{In-Some, In-None}

laws_of : (g : given.Over) (u : g.row.U.Denot) → Laws (g.U.Kind.kind u)
laws_of g u = record { closed = g.met.U.Kind.closed u; assoc = g.met.U.Kind.assoc u }

-- the cells of a_1 and on, as they are lent to the loop
abbrev later : List ℕ → List ℕ
later places = take (length places - 1) (drop 1 places)

later_long : (places : List ℕ) → length (later places) ≡ length places - 1
later_long places = simp (length-take, length-drop) (omega arith)

later_at : (places : List ℕ) (i : ℕ) → i < length (later places) → get_or (later places) i 0 ≡ cell_of places (i + 1)
later_at places i h =
    let lt : i < length places - 1 = omega (arith, later_long places) in
    get_or-take (length places - 1) (drop 1 places) i 0 lt ∙ get_or-drop 1 places i 0 ∙ ap (λ k. get_or places k 0) (let e : 1 + i ≡ i + 1 = omega arith in e)

-- a turn after i others, with the step that it makes and the cell of its value
record Turn (steps : List Step) (places : List ℕ) (i : ℕ) (step : Step) (to : ℕ) : Type 0 where
  within : i < length steps
  step_is : step ≡ step_at steps i
  to_is : to ≡ cell_of places (i + 1)

turn : (g : given.Over) (c : In-Some g) → Turn c.args.plan.now.steps.now c.args.places.now (length c.loop-step.yielded) c.in-Some.step.now c.in-Some.to.now
turn g c =
    let steps : List Step = c.args.plan.now.steps.now in
    let places : List ℕ = c.args.places.now in
    let i : ℕ = length c.loop-step.yielded in
    let s = c.into_iter-step-iterator.result in
    let first : s.a.rest.now ≡ steps = search rules in
    let second : s.b.rest.now ≡ later places = search rules in
    let at = zip_turn steps (later places) c.loop-step.yielded s c.loop-step.step-iterator c.next.new.self c.next.result first second c.loop-step.yielded_by
    (c.in-Some.step, c.in-Some.to) c.in-Some.is c.next.ensures.steps in
    let whole : length places ≡ length steps + 1 = c.requires.1.placing.whole in
    record {
      within = at.0;
      step_is = at.2 no_step;
      to_is = at.3 0 ∙ later_at places i at.1;
    }

end_of : (g : given.Over) (c : In-None g) → length c.loop-step.yielded ≡ length c.args.plan.now.steps.now
end_of g c =
    let steps : List Step = c.args.plan.now.steps.now in
    let places : List ℕ = c.args.places.now in
    let s = c.into_iter-step-iterator.result in
    let first : s.a.rest.now ≡ steps = search rules in
    let second : s.b.rest.now ≡ later places = search rules in
    let end = zip_end steps (later places) c.loop-step.yielded s c.loop-step.step-iterator c.next.new.self c.next.result first second c.loop-step.yielded_by
    c.in-None.is c.next.ensures.steps in
    let whole : length places ≡ length steps + 1 = c.requires.1.placing.whole in
    omega (arith, end, later_long places)

pub returns-in_err-multiply : goal.returns-in_err-multiply
returns-in_err-multiply g c =
    let u = c.args.unit.now in
    let steps : List Step = c.args.plan.now.steps.now in
    let places : List ℕ = c.args.places.now in
    let i : ℕ = length c.loop-step.yielded in
    let t = turn g (goal.at.returns-in_err-multiply g c).In-Some in
    let e = c.in_err-multiply.field-0.0 in
    let s = g.U.Unit.state c.loop-step.unit in
    let said : Err e ≡ step_answer s places (i + 1) (step_at steps i) = rw (← t.to_is, ← t.step_is, ← c.from.ensures, ← c.from-in-loop-step.ensures) c.in_err-multiply.ensures.value in
    absurd (turn_passes (g.U.Kind.kind u) (g.U.Unit.state u) (last_value steps) steps places c.requires.0 (laws_of g u) c.requires.1
    i (g.U.Kind.kind c.loop-step.unit) s c.loop-step.invariant.1 c.loop-step.invariant.0 e t.within said)

pub loop-step-preserved : goal.loop-step-preserved
loop-step-preserved g c =
    let u = c.args.unit.now in
    let steps : List Step = c.args.plan.now.steps.now in
    let places : List ℕ = c.args.places.now in
    let i : ℕ = length c.loop-step.yielded in
    let t = turn g (goal.at.loop-step-preserved g c).In-Some in
    let k = g.U.Kind.kind c.loop-step.unit in
    let s = g.U.Unit.state c.loop-step.unit in
    let after = g.U.Unit.state c.multiply.new.self in
    let made : after ≡ step_after k s places (i + 1) (step_at steps i) = rw (← t.to_is, ← t.step_is, ← c.from.ensures, ← c.from-in-loop-step.ensures) c.multiply.ensures.after in (
      turn_next (g.U.Kind.kind u) (g.U.Unit.state u) (last_value steps) steps places c.requires.0 (laws_of g u) c.requires.1
          i k s c.loop-step.invariant.1 c.loop-step.invariant.0 after t.within made
          ∙ ap (after_steps (g.U.Kind.kind u) (g.U.Unit.state u) places steps) (sym (length-append c.loop-step.yielded ((c.in-Some.step, c.in-Some.to) ∷ []))),
      c.multiply.ensures.same ∙ c.loop-step.invariant.1,
    )

pub returns : goal.returns
returns g c =
    let u = c.args.unit.now in
    let steps : List Step = c.args.plan.now.steps.now in
    let places : List ℕ = c.args.places.now in
    let s = g.U.Unit.state c.loop-step.unit in
    let end : length c.loop-step.yielded ≡ length steps = end_of g (goal.at.returns g c).In-None in
    let read : c.read.result ≡ reading s (cell_of places (length steps)) = c.read.ensures.value ∙ ap (λ k. reading s (cell_of places k)) c.len.ensures.count in
    record {
      value = end_hands (g.U.Kind.kind u) (g.U.Unit.state u) (last_value steps) steps places c.requires.0 (laws_of g u) c.requires.1
          (length c.loop-step.yielded) (g.U.Kind.kind c.loop-step.unit) s c.loop-step.invariant.1 c.loop-step.invariant.0 end refl c.read.result read;
      after = end_is (g.U.Kind.kind u) (g.U.Unit.state u) (last_value steps) steps places c.requires.0 (laws_of g u) c.requires.1
          (length c.loop-step.yielded) (g.U.Kind.kind c.loop-step.unit) s c.loop-step.invariant.1 c.loop-step.invariant.0 end;
      same = c.loop-step.invariant.1;
    }
