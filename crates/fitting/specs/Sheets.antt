-- The plan of a sheet fitted to a card. Assumes nothing.
use Rattle.std.specs.Prelude.{◌≡◌, ℕ, List, replicate, Option, Result, MatchOption}
use Rattle.refusals.specs.declared.refusal.Refusal.{Refusal}
use Rattle.plans.specs.declared.step.Step.{Step}
use Rattle.plans.specs.Chain.{no_step}
use Rattle.sheets.specs.Reading.{filled}
use Rattle.kinds.specs.Kinds.{Meaning}
use Rattle.units.specs.Units.{State}
use Rattle.jobs.specs.declared.job_refusal.JobRefusal.{JobRefusal}
use Rattle.jobs.specs.Jobs.{through_stages, job_plan}
use Rattle.fitting.specs.declared.fitted.Fitted.{Fitted}
use Rattle.fitting.specs.declared.tables.Tables.{Tables}
use Rattle.fitting.specs.Fitting.{fit_answer, FitsUnit, trimmed_in, PlacedIn, PlacedCells, exponents_in}

-- what fitting a sheet answers that is read so: it is read, its steps are admitted as a plan of n, and that is fitted
abbrev pub sheet_answer : {V : Type 0} → Meaning V → State V → Result (List Step) Refusal → ℕ → V → Result (Fitted V) JobRefusal
sheet_answer m s sheet n x = through_stages sheet n (λ steps. fit_answer m s n steps x)

-- the card after: as it was where no plan came to be fitted, and else as fitting that plan leaves it
abbrev pub FitsSheet : {V : Type 0} → Meaning V → State V → ℕ → V → Option (List Step) → State V → Type 0
FitsSheet m s n x plan t = MatchOption plan (t ≡ s) (λ steps. FitsUnit m s n steps x (fit_answer m s n steps x) t)

-- tables of zeros
abbrev pub blank : Tables
blank = record { steps = replicate 128 no_step; trimmed = replicate 128 no_step; cells = replicate 129 0; exponents = replicate 128 0 }

-- the tables of the trimmed plan after: as they were where no plan came to be fitted, and else as fitting that plan leaves them
abbrev pub TablesOf : Option (List Step) → Tables → Tables → Type 0
TablesOf plan was new =
    MatchOption plan
    ((new.trimmed ≡ was.trimmed) × (new.cells ≡ was.cells) × (new.exponents ≡ was.exponents))
    (λ steps. (new.trimmed ≡ trimmed_in steps was.trimmed) × PlacedIn steps was.cells new.cells × (new.exponents ≡ exponents_in steps was.exponents))

-- all tables after a sheet is fitted that is read so: its steps are kept also where a later stage refuses
abbrev pub TablesAfter : Result (List Step) Refusal → ℕ → Tables → Tables → Type 0
TablesAfter sheet n was new = (new.steps ≡ filled sheet was.steps) × TablesOf (job_plan sheet n) was new

-- the table of cells after, by name: as it was where no plan came to be fitted, and else as fitting that plan leaves it
abbrev pub CellsOf : Option (List Step) → Tables → Tables → Type 0
CellsOf plan was new = MatchOption plan (new.cells ≡ was.cells) (λ steps. PlacedCells steps was.cells new.cells)
