-- A list of calls made on one unit, with one step table: what each answers and leaves, and the run that it asks for. Assumes nothing.
use Rattle.std.specs.Prelude.{◌≡◌, ℕ, List, [], ◌∷◌, map, Some, None, Ok, Err, Option, Result, nat_le}
use Rattle.std.specs.Option.{option_map}
use Rattle.refusals.specs.declared.refusal.Refusal.{Refusal}
use Rattle.refusals.specs.declared.refusal.Refusal.TheVariants.{TableShort}
use Rattle.refusals.specs.Faults.{unless, verdict, Unchanged}
use Rattle.plans.specs.declared.step.Step.{Step}
use Rattle.sheets.specs.Reading.{read_sheet, filled}
use Rattle.kinds.specs.Kinds.{Meaning}
use Rattle.units.specs.Units.{State, load_answer, load_after, reading}
use Rattle.run_laws.specs.Effects.{Event, Asked, asked}
use Rattle.runs.specs.declared.raised.Raised.{Raised}
use Rattle.runs.specs.Answers.{run_answer, Ran}
use Rattle.calls.specs.declared.call.Call.{Call}
use Rattle.calls.specs.declared.act.Act.{Act}
use Rattle.calls.specs.declared.act.Act.TheVariants.{Load, Read, Run, Job}
use Rattle.calls.specs.declared.act.Answer.{Answer}
use Rattle.calls.specs.declared.act.Answer.TheVariants.{Loaded, Got, Power, Carried}
use Rattle.jobs.specs.Jobs.{job_answer, job_plan, Jobbed}

-- what calls work on: the unit, by its meaning, and the lent step table
pub record Bench (V : Type 0) : Type 0 where
  pub unit : State V
  pub table : List Step

-- the unit in the state s, and the table
abbrev pub bench : {V : Type 0} → State V → List Step → Bench V
bench s table = record { unit = s; table = table }

-- what one call answers and leaves, where the table has so many places
abbrev pub MadeBy : {V : Type 0} → Meaning V → ℕ → Act V → Bench V → Answer V → Bench V → Type 0
MadeBy m room (Load i v) b a d =
    (a ≡ Loaded (load_answer m b.unit i v)) × (d.unit ≡ load_after m b.unit i v) × (d.table ≡ b.table)
MadeBy m room (Read i) b a d =
    (a ≡ Got (reading b.unit i)) × (d.unit ≡ b.unit) × (d.table ≡ b.table)
MadeBy m room (Run p x) b a d =
    (a ≡ Power (run_answer m b.unit p.exponent p.steps.now x))
    × Ran m b.unit p.exponent p.steps.now x (run_answer m b.unit p.exponent p.steps.now x) d.unit
    × (d.table ≡ b.table)
MadeBy m room (Job text n x) b a d =
    (a ≡ Carried (job_answer m b.unit (read_sheet text.now room) n x))
    × Jobbed m b.unit n x (job_plan (read_sheet text.now room) n) d.unit
    × (d.table ≡ filled (read_sheet text.now room) b.table)

-- what a call answers and leaves
abbrev pub Made : {V : Type 0} → Meaning V → ℕ → Call V → Bench V → Answer V → Bench V → Type 0
Made m room c b a d = MadeBy m room c.act b a d

-- a call with this answer left the thing itself as it was if it was refused, and every reading did
abbrev pub Kept : {V A : Type 0} → Answer V → A → A → Type 0
Kept (Loaded r) old new = Unchanged r old new
Kept (Got r) old new = new ≡ old
Kept (Power r) old new = Unchanged r old new
Kept (Carried r) old new = Unchanged r old new

-- a call beside its answer
pub record Turn (V : Type 0) : Type 0 where
  pub call : Call V
  pub answer : Answer V

-- each call beside the answer in its place
abbrev pub turns : {V : Type 0} → List (Call V) → List (Answer V) → List (Turn V)
turns [] ys = []
turns (c ∷ cs) [] = []
turns (c ∷ cs) (a ∷ ys) = record { call = c; answer = a } ∷ turns cs ys

-- the calls were made in turn, each on what the one before had left
abbrev pub Performed : {V : Type 0} → Meaning V → ℕ → Bench V → List (Turn V) → Bench V → Type 0
Performed m room b [] d = d ≡ b
Performed {V} m room b (e ∷ es) d = (c : Bench V) × Made m room e.call b e.answer c × Performed m room c es d

-- the run that a call asks for: a run, that of its plan; a job, that of its sheet's steps, if they are read and admitted; the others none
abbrev pub asks : {V : Type 0} → Meaning V → ℕ → Act V → Option (Asked V)
asks m room (Load i v) = None
asks m room (Read i) = None
asks m room (Run p x) = Some (asked m p.exponent p.steps.now x)
asks m room (Job text n x) = option_map (λ steps. asked m n steps x) (job_plan (read_sheet text.now room) n)

-- what an accepted run handed out
abbrev pub handed_out : {V E : Type 0} → Result (Raised V) E → Option (List V)
handed_out (Ok y) = Some (y.value ∷ [])
handed_out (Err e) = None

-- what a call handed out of a run
abbrev pub gives : {V : Type 0} → Answer V → Option (List V)
gives (Loaded r) = None
gives (Got r) = None
gives (Power r) = handed_out r
gives (Carried r) = handed_out r

-- a call and its answer, as the law sees them
abbrev pub event_of : {V : Type 0} → Meaning V → ℕ → Turn V → Event V
event_of m room e = record { run = asks m room e.call.act; given = gives e.answer }

-- the calls and their answers, as the law sees them
abbrev pub events : {V : Type 0} → Meaning V → ℕ → List (Call V) → List (Answer V) → List (Event V)
events m room calls answers = map (event_of m room) (turns calls answers)

-- what a list of so many calls answers, where there is room for so many answers
abbrev pub list_answer : ℕ → ℕ → Result (Unit {0}) Refusal
list_answer calls room = verdict (unless (nat_le calls room) (TableShort calls))
