-- A plan fitted to a card: what is answered, and what is left on the card and in the lent tables. Assumes nothing.
use Rattle.std.specs.Prelude.{◌≡◌, ℕ, ◌+◌, ◌-◌, List, [], ◌∷◌, ◌++◌, map, length, take, drop, Some, Ok, Err, Option, Result, nat_le}
use Rattle.refusals.specs.declared.refusal.Refusal.{Refusal}
use Rattle.refusals.specs.declared.refusal.Refusal.TheVariants.{NeedAbove}
use Rattle.refusals.specs.Faults.{first, unless, answer, settle}
use Rattle.plans.specs.declared.step.Step.{Step}
use Rattle.placing.specs.Placing.{need, Supplied}
use Rattle.placing.specs.Supply.{supplied_cells}
use Rattle.trimming.specs.Trim.{trimmed}
use Rattle.kinds.specs.Kinds.{Meaning}
use Rattle.kinds.specs.Powers.{power}
use Rattle.units.specs.Units.{State}
use Rattle.run_laws.specs.Runs.{run_fault, Success}
use Rattle.run_laws.specs.Effects.{Event, asked, Law}
use Rattle.fitting.specs.declared.fitted.Size.{Size}
use Rattle.fitting.specs.declared.fitted.Fitted.{Fitted}

-- the length and the need of a plan with these steps
abbrev pub size_of : List Step → Size
size_of steps = record { length = length steps; need = need steps }

-- why a plan cannot be rehearsed: the bank of whole numbers has 32 cells
abbrev pub rehearsal_fault : List Step → Option Refusal
rehearsal_fault steps = unless (nat_le (need steps) 32) (NeedAbove (need steps))

-- why a plan cannot be fitted: its trimmed plan cannot be rehearsed, or not be run on the card
abbrev pub fit_fault : {V : Type 0} → Meaning V → State V → List Step → V → Option Refusal
fit_fault m s steps x = first (rehearsal_fault (trimmed steps)) (run_fault m s (trimmed steps) x)

-- what is found of a plan of n: its size before and after trimming, the power of the base, and the allowance that is left
abbrev pub found : {V : Type 0} → Meaning V → State V → ℕ → List Step → V → Fitted V
found m s n steps x = record {
  plan = size_of steps;
  trimmed = size_of (trimmed steps);
  power = power m x n;
  left = s.left - length (trimmed steps);
}

-- what fitting a plan of n answers
abbrev pub fit_answer : {V : Type 0} → Meaning V → State V → ℕ → List Step → V → Result (Fitted V) Refusal
fit_answer m s n steps x = answer (fit_fault m s steps x) (found m s n steps x)

-- one accepted run to the exponent n, which handed out y, as the law sees it
abbrev pub one_run : {V : Type 0} → Meaning V → ℕ → List Step → V → V → List (Event V)
one_run m n steps x y = (record { run = Some (asked m n steps x); given = Some (y ∷ []) }) ∷ []

-- a run that was accepted and its law, from the state s to the state t
pub record Lawful {V : Type 0} (m : Meaning V) (s : State V) (n : ℕ) (steps : List Step) (x y : V) (t : State V) : Type 0 where
  pub success : Success m s n steps x y t
  pub law : Law m s (one_run m n steps x y) t

-- a run leaves the state as it was where it is refused, and else as the law has it
abbrev pub RanOnce : {V : Type 0} → Meaning V → State V → ℕ → List Step → V → Result V Refusal → State V → Type 0
RanOnce m s n steps x (Err e) t = t ≡ s
RanOnce m s n steps x (Ok y) t = Lawful m s n steps x y t

-- the card after a plan was fitted: as it was where that is refused, and else as the run of the trimmed plan leaves it
abbrev pub FitsUnit : {V : Type 0} → Meaning V → State V → ℕ → List Step → V → Result (Fitted V) Refusal → State V → Type 0
FitsUnit m s n steps x (Err e) t = t ≡ s
FitsUnit m s n steps x (Ok y) t = Lawful m s n (trimmed steps) x y.power t

-- the table of the trimmed steps after: they stand in front, and the rest is as it was
abbrev pub trimmed_in : List Step → List Step → List Step
trimmed_in steps was = trimmed steps ++ drop (length (trimmed steps)) was

-- the table of cells after: the supplied placing of the trimmed plan stands in front, and the rest is as it was
abbrev pub PlacedIn : List Step → List ℕ → List ℕ → Type 0
PlacedIn steps was new =
    Supplied (trimmed steps) (take (length (trimmed steps) + 1) new)
    × (drop (length (trimmed steps) + 1) new ≡ drop (length (trimmed steps) + 1) was)

-- the same with the cells by name: the supplied cells of the trimmed plan stand in front
abbrev pub PlacedCells : List Step → List ℕ → List ℕ → Type 0
PlacedCells steps was new =
    (new ≡ supplied_cells (trimmed steps) ++ drop (length (trimmed steps) + 1) was) × Supplied (trimmed steps) (supplied_cells (trimmed steps))

-- the table of exponents after a rehearsal of a plan: a_1 to a_r stand in front and the rest is as it was, or it is all as it was where that is refused
abbrev pub rehearsed_in : List Step → List ℕ → List ℕ
rehearsed_in steps was = settle (rehearsal_fault steps) was (map (λ x. x.value) steps ++ drop (length steps) was)

-- the same after a plan was fitted, whose trimmed plan is rehearsed
abbrev pub exponents_in : List Step → List ℕ → List ℕ
exponents_in steps was = rehearsed_in (trimmed steps) was
