-- Jobs: one sheet carried through reading, admission and running. Assumes nothing.
use Rattle.std.specs.Prelude.{◌≡◌, ℕ, List, Some, None, Ok, Err, Option, Result, MatchOption, codes}
use Rattle.refusals.specs.declared.refusal.Refusal.{Refusal}
use Rattle.refusals.specs.Codes.{code}
use Rattle.refusals.specs.Faults.{and_then}
use Rattle.plans.specs.declared.step.Step.{Step}
use Rattle.plans.specs.Admission.{admission}
use Rattle.kinds.specs.Kinds.{Meaning}
use Rattle.units.specs.Units.{State}
use Rattle.runs.specs.declared.raised.Raised.{Raised}
use Rattle.runs.specs.Answers.{run_answer, Ran}
use Rattle.jobs.specs.declared.stage.Stage.{Stage}
use Rattle.jobs.specs.declared.stage.Stage.TheVariants.{Reading, Admission, Running}
use Rattle.jobs.specs.declared.job_refusal.JobRefusal.{JobRefusal}

-- a stage's name
abbrev pub stage_name : Stage → List ℕ
stage_name Reading = codes "reading"
stage_name Admission = codes "admission"
stage_name Running = codes "running"

-- a job's refusal: the number and the place of a stage's fault, and that stage
pub record Arrived : Type 0 where
  pub number : ℕ
  pub place : ℕ
  pub stage : Stage

-- the one reading of a job's refusal
abbrev pub arrived : JobRefusal → Arrived
arrived e = record { number = (code e.refusal).number; place = (code e.refusal).place; stage = e.stage }

-- what a stage answers, its fault whole, with the stage
abbrev pub staged : {X : Type 0} → Stage → Result X Refusal → Result X JobRefusal
staged g (Ok x) = Ok x
staged g (Err e) = Err (record { stage = g; refusal = e })

-- the three stages in order: a sheet that is read so, its steps admitted as a plan of n, and what is then done with them
abbrev pub through_stages : {Y : Type 0} → Result (List Step) Refusal → ℕ → (List Step → Result Y Refusal) → Result Y JobRefusal
through_stages sheet n work =
    and_then (staged Reading sheet) (λ steps.
    and_then (staged Admission (admission n steps)) (λ _.
    staged Running (work steps)))

-- what a job answers, whose sheet is read so: the three stages in order, and the plan is run in the last
abbrev pub job_answer : {V : Type 0} → Meaning V → State V → Result (List Step) Refusal → ℕ → V → Result (Raised V) JobRefusal
job_answer m s sheet n x = through_stages sheet n (λ steps. run_answer m s n steps x)

-- the steps, if they are admitted
abbrev pub if_admitted : Result (Unit {0}) Refusal → List Step → Option (List Step)
if_admitted (Ok u) steps = Some steps
if_admitted (Err e) steps = None

-- the plan of n that a job comes to run: the steps of its sheet, if they are read and admitted
abbrev pub job_plan : Result (List Step) Refusal → ℕ → Option (List Step)
job_plan (Ok steps) n = if_admitted (admission n steps) steps
job_plan (Err e) n = None

-- a job that came to run no plan leaves the state as it was, and another as its run does
abbrev pub Jobbed : {V : Type 0} → Meaning V → State V → ℕ → V → Option (List Step) → State V → Type 0
Jobbed m s n x plan t = MatchOption plan (t ≡ s) (λ steps. Ran m s n steps x (run_answer m s n steps x) t)
