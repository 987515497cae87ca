-- What is read of a writer of steps, and what a caller of `add` has of the answer.
use Rattle.std.proofs.Common.{◌≡◌, ℕ, ◌+◌, List, set, Ok, Result, IfOk, MatchResult}
use Rattle.refusals.specs.declared.refusal.Refusal.{Refusal}
use Rattle.plans.specs.declared.step.Step.{Step}
use Rattle.planning.specs.declared.steps.Reached.{Reached}
use Rattle.planning.specs.declared.steps.StepWriter.{StepWriter}
use Rattle.planning.specs.Planning.{step}
use Rattle.planning.specs.Steps.{Pushed, Kept}

abbrev pub table_of : StepWriter → List Step
table_of steps = steps.table.now

abbrev pub len_of : StepWriter → ℕ
len_of steps = steps.len

abbrev pub number_of : Reached → ℕ
number_of x = x.number

abbrev pub value_of : Reached → ℕ
value_of x = x.value

-- the step that adds x and y stands, and makes this value
pub record Added (old new : StepWriter) (x y made : Reached) : Type 0 where
  pub table : new.table.now ≡ set old.table.now old.len (step x.number y.number (x.value + y.value))
  pub len : new.len ≡ old.len + 1
  pub number : made.number ≡ new.len
  pub value : made.value ≡ x.value + y.value

pub added : {r : Result Reached Refusal} {old new : StepWriter} {x y made : Reached} → r ≡ Ok made → MatchResult r (λ m. Pushed old new (step x.number y.number m.value)) (λ _. Kept old new) → IfOk r (λ m. (m.number ≡ new.len) × (m.value ≡ x.value + y.value)) → Added old new x y made
added {r} {old} {new} {x} {y} {made} e written m =
    let w : Pushed old new (step x.number y.number made.value) = rw e at written in
    let f : (made.number ≡ new.len) × (made.value ≡ x.value + y.value) = rw e at m in
    record { table = rw (← f.1) w.table; len = w.len; number = f.0; value = f.1 }
