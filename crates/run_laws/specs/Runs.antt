-- What a run answers and leaves. Assumes nothing.
use Rattle.std.specs.Prelude.{◌≡◌, ℕ, zero, suc, ◌+◌, ◌≤◌, true, List, length, get_or, Some, None, Ok, Option, Result, nat_le, slice_index, slice_index_or}
use Rattle.refusals.specs.declared.refusal.Refusal.{Refusal}
use Rattle.refusals.specs.declared.refusal.Refusal.TheVariants.{NotNative, NeedAbove, AllowanceBelow}
use Rattle.refusals.specs.Faults.{first, unless}
use Rattle.plans.specs.declared.step.Step.{Step}
use Rattle.plans.specs.Chain.{step_at, value_at, Chain}
use Rattle.placing.specs.Placing.{need, Placing, Supplied}
use Rattle.placing.specs.Supply.{supplied_cells}
use Rattle.kinds.specs.Kinds.{Meaning}
use Rattle.kinds.specs.Powers.{power}
use Rattle.units.specs.Units.{State, loaded, multiplied, multiply_answer, multiply_after}
use Rattle.run_laws.specs.Traces.{Traces}

-- the fault of a run
abbrev pub run_fault : {V : Type 0} → Meaning V → State V → List Step → V → Option Refusal
run_fault m s steps x =
    first (unless (m.native x) NotNative)
    (first (unless (nat_le (need steps) (length s.cells)) (NeedAbove (need steps)))
    (unless (nat_le (length steps) s.left) (AllowanceBelow (length steps))))

-- the cell of a value
abbrev pub cell_of : List ℕ → ℕ → ℕ
cell_of places v = slice_index places v

-- the multiplication of a step, whose value goes to the cell of value v
abbrev pub stepped : {V : Type 0} → Meaning V → State V → List ℕ → ℕ → Step → State V
stepped m s places v x = multiplied m s (cell_of places v) (cell_of places x.j) (cell_of places x.k)

-- what that multiplication answers, and what it leaves
abbrev pub step_answer : {V : Type 0} → State V → List ℕ → ℕ → Step → Result (Unit {0}) Refusal
step_answer s places v x = multiply_answer s (cell_of places v) (cell_of places x.j) (cell_of places x.k)

abbrev pub step_after : {V : Type 0} → Meaning V → State V → List ℕ → ℕ → Step → State V
step_after m s places v x = multiply_after m s (cell_of places v) (cell_of places x.j) (cell_of places x.k)

-- the state after the first i steps
abbrev pub after_steps : {V : Type 0} → Meaning V → State V → List ℕ → List Step → ℕ → State V
after_steps m s places steps zero = s
after_steps m s places steps (suc i) = stepped m (after_steps m s places steps i) places (suc i) (step_at steps i)

-- the state after a run on the places: the base is loaded into the cell of a_0, and then all steps are made
abbrev pub after_run : {V : Type 0} → Meaning V → State V → List ℕ → List Step → V → State V
after_run m s places steps x = after_steps m (loaded s (cell_of places 0) x) places steps (length steps)

-- an accepted run, under one placing: what it handed out, and what it left
pub record Success {V : Type 0} (m : Meaning V) (s : State V) (n : ℕ) (steps : List Step) (x : V) (given : V) (t : State V) : Type 0 where
  -- the cells of the values, which are the supplied placing and are within the unit's
  pub places : List ℕ
  pub supplied : Supplied steps places
  pub fits : need steps ≤ length s.cells
  -- it handed out the n-th power of the base
  pub value : given ≡ power m x n
  -- the allowance is lower by the length of the plan
  pub left : s.left ≡ t.left + length steps
  -- the whole state after
  pub after : t ≡ after_run m s places steps x
  -- the records that it added, worked in sums from 1 in the cell of a_0, give a_1 to a_r in order
  pub traces : Traces (length s.cells) (cell_of places 0) steps s.log t.log
  -- those cells by name
  pub named : places ≡ supplied_cells steps

-- a run from the value x that the cell of a_0 holds: the steps are a chain for n, the placing is within the cells, and the allowance is enough
pub record Ready {V : Type 0} (m : Meaning V) (s : State V) (n : ℕ) (steps : List Step) (places : List ℕ) (x : V) : Type 0 where
  pub chain : Chain n steps
  pub placing : Placing (length s.cells) steps places
  pub start : get_or s.cells (cell_of places 0) None ≡ Some x
  pub native : m.native x ≡ true
  pub enough : length steps ≤ s.left

-- the last value of the steps
abbrev pub last_value : List Step → ℕ
last_value steps = value_at steps (length steps)

-- the multiplications of the steps can be made from the value in the cell of a_0
abbrev pub Begun : {V : Type 0} → Meaning V → State V → List Step → List ℕ → Type 0
Begun {V} m s steps places = (x : V) × Ready m s (last_value steps) steps places x

-- what is handed out is the power of that value to the last value of the steps
abbrev pub HandsOut : {V : Type 0} → Meaning V → State V → List Step → List ℕ → Result V Refusal → Type 0
HandsOut {V} m s steps places r = (x : V) → slice_index_or s.cells (cell_of places 0) None ≡ Some x → r ≡ Ok (power m x (last_value steps))
