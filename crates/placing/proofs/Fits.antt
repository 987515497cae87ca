-- A placing within c cells exists exactly if the need is at most c. Assumes nothing.
use Rattle.std.proofs.Common.{ℕ, ◌≤◌, List, arith}
use Rattle.plans.specs.declared.step.Step.{Step}
use Rattle.placing.specs.Placing.{need, Placing, FitsExactly}
use Rattle.placing.specs.Supply.{supplied_cells}
use Rattle.placing.proofs.Crowds.{fits_only}
use Rattle.placing.proofs.Supply.{supplied_cells_lem}

-- more cells do no harm
pub placing_within : (c d : ℕ) (steps : List Step) (cells : List ℕ) → c ≤ d → Placing c steps cells → Placing d steps cells
placing_within c d steps cells h p = record { whole = p.whole; below = λ i l. omega (arith, p.below i l); apart = p.apart }

-- if: the supplied cells are within the need
pub fits_if : (c : ℕ) (steps : List Step) → need steps ≤ c → (cells : List ℕ) × Placing c steps cells
fits_if c steps h = (supplied_cells steps, placing_within (need steps) c steps (supplied_cells steps) h (supplied_cells_lem steps).placing)

pub fits_exactly : (steps : List Step) → FitsExactly steps
fits_exactly steps c = ((λ p. fits_only c steps p.0 p.1), (λ h. fits_if c steps h))
