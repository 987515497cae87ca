-- What a straight run answers and writes. Assumes nothing.
use Rattle.std.specs.Prelude.{ℕ, ◌+◌, List, ◌++◌, map, length, drop, Option, Result, nat_le}
use Rattle.refusals.specs.declared.refusal.Refusal.{Refusal}
use Rattle.refusals.specs.declared.refusal.Refusal.TheVariants.{NotNative, TableShort}
use Rattle.refusals.specs.Faults.{first, unless, verdict, settle}
use Rattle.plans.specs.declared.step.Step.{Step}
use Rattle.plans.specs.Chain.{values}
use Rattle.kinds.specs.Kinds.{Meaning}
use Rattle.kinds.specs.Powers.{power}

-- the powers a_0 to a_r of x
abbrev pub powers_of : {V : Type 0} → Meaning V → List Step → V → List V
powers_of m s x = map (power m x) (values s)

-- the first fault: the base, then the number of places
abbrev pub straight_fault : {V : Type 0} → Meaning V → List Step → V → ℕ → Option Refusal
straight_fault m s x places = first (unless (m.native x) NotNative) (unless (nat_le (length s + 1) places) (TableShort (length s + 1)))

-- the powers in the first places, and the rest as it was
abbrev pub straightened : {V : Type 0} → Meaning V → List Step → V → List V → List V
straightened m s x was = powers_of m s x ++ drop (length s + 1) was

-- the answer
abbrev pub straight_answer : {V : Type 0} → Meaning V → List Step → V → ℕ → Result (Unit {0}) Refusal
straight_answer m s x places = verdict (straight_fault m s x places)

-- the places after the run: as they were, if it is refused
abbrev pub straight_after : {V : Type 0} → Meaning V → List Step → V → List V → List V
straight_after m s x was = settle (straight_fault m s x (length was)) was (straightened m s x was)
