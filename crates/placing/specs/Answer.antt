-- What placing answers, and how it leaves the table. Assumes nothing.
use Rattle.std.specs.Prelude.{◌≡◌, ℕ, ◌+◌, List, ◌++◌, length, take, drop, Ok, Err, Option, Result, nat_le}
use Rattle.refusals.specs.declared.refusal.Refusal.{Refusal}
use Rattle.refusals.specs.declared.refusal.Refusal.TheVariants.{TableShort, NeedAbove}
use Rattle.refusals.specs.Faults.{first, unless}
use Rattle.plans.specs.declared.step.Step.{Step}
use Rattle.placing.specs.Placing.{need, Supplied}
use Rattle.placing.specs.Supply.{supplied_cells}

-- the fault of placing within c cells, with a table of so many places: fewer than 129, then a need above c
abbrev pub place_fault : List Step → ℕ → ℕ → Option Refusal
place_fault steps c places = first (unless (nat_le 129 places) (TableShort 129)) (unless (nat_le (need steps) c) (NeedAbove (need steps)))

-- a refused call leaves the table as it was; another leaves the supplied placing in its first r + 1 places, and the rest as it was
abbrev pub Leaves : List Step → List ℕ → List ℕ → Result ℕ Refusal → Type 0
Leaves steps old new (Err e) = new ≡ old
Leaves steps old new (Ok n) =
    Supplied steps (take (length steps + 1) new) × (drop (length steps + 1) new ≡ drop (length steps + 1) old)

-- the same with the cells by name: the first r + 1 places are the supplied cells
abbrev pub LeavesCells : List Step → List ℕ → List ℕ → Result ℕ Refusal → Type 0
LeavesCells steps old new (Err e) = new ≡ old
LeavesCells steps old new (Ok n) = new ≡ supplied_cells steps ++ drop (length steps + 1) old
