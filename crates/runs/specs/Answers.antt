-- What a run answers, and how it leaves the unit. Assumes nothing.
use Rattle.std.specs.Prelude.{◌≡◌, ℕ, List, Ok, Err, Result}
use Rattle.refusals.specs.declared.refusal.Refusal.{Refusal}
use Rattle.refusals.specs.Faults.{answer}
use Rattle.plans.specs.declared.step.Step.{Step}
use Rattle.kinds.specs.Kinds.{Meaning}
use Rattle.kinds.specs.Powers.{power}
use Rattle.units.specs.Units.{State}
use Rattle.run_laws.specs.Runs.{run_fault, Success}
use Rattle.runs.specs.declared.raised.Raised.{Raised}

-- a run to the exponent n by the steps, from the base x: its refusal, or the n-th power of the base
abbrev pub run_answer : {V : Type 0} → Meaning V → State V → ℕ → List Step → V → Result (Raised V) Refusal
run_answer m s n steps x = answer (run_fault m s steps x) (record { value = power m x n })

-- a refused run leaves the state as it was, and an accepted one as a success has it
abbrev pub Ran : {V : Type 0} → Meaning V → State V → ℕ → List Step → V → Result (Raised V) Refusal → State V → Type 0
Ran m s n steps x (Err e) t = t ≡ s
Ran m s n steps x (Ok y) t = Success m s n steps x y.value t
