-- The last citation of a value. Assumes nothing.
use Rattle.std.specs.Prelude.{◌≡◌, ℕ, ◌<◌, ◌≤◌, true, List, length, ◌≢◌}
use Rattle.plans.specs.declared.step.Step.{Step}
use Rattle.placing.specs.Placing.{cites, step_number}

-- n is the last of the steps 1 to m that cites value i, or 0 where none does
pub record LastIn (steps : List Step) (m i n : ℕ) : Type 0 where
  pub within : n ≤ m
  pub here : 0 < n → cites (step_number steps n) i ≡ true
  pub after : (t : ℕ) → n < t → t ≤ m → cites (step_number steps t) i ≢ true

-- n is the last step that cites value i, or 0 where none does
abbrev pub LastOf : List Step → ℕ → ℕ → Type 0
LastOf steps i n = LastIn steps (length steps) i n
