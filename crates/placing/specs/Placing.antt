-- Placing: the cells that hold the values of a plan while it is worked, and how many it needs. Assumes nothing.
-- Only the citations of a plan count here, never its sums or its values.
use Rattle.std.specs.Prelude.{◌≡◌, ℕ, zero, suc, ◌+◌, ◌-◌, ◌<◌, ◌≤◌, max, Bool, true, false, cond, ◌||◌, List, [], ◌∷◌, length, get_or, drop, ◌==◌, ◌≢◌, slice_index, slice_index_or}
use Rattle.plans.specs.declared.step.Step.{Step}
use Rattle.plans.specs.Chain.{no_step}

-- THE BOUNDARY: when value s is put into its cell, the steps 1 to `past s` are over.
-- This line alone says which steps count; all that follows rests on it.
abbrev pub past : ℕ → ℕ
past s = s

-- step t, counted from 1
abbrev pub step_number : List Step → ℕ → Step
step_number steps t = slice_index_or steps (t - 1) no_step

-- the step cites value i
abbrev pub cites : Step → ℕ → Bool
cites t i = t.j == i || t.k == i

-- value s may take over the cell of value i: no step that is not over at s cites i
abbrev pub Unused : List Step → ℕ → ℕ → Type 0
Unused steps s i = (t : ℕ) → past s < t → t ≤ length steps → cites (step_number steps t) i ≢ true

-- a placing within c cells: each of the values 0 to r has a cell below c, and where i and s share one, i before s, s may take it over
pub record Placing (c : ℕ) (steps : List Step) (cells : List ℕ) : Type 0 where
  pub whole : length cells ≡ length steps + 1
  pub below : (i : ℕ) → i ≤ length steps → slice_index cells i < c
  pub apart : (i s : ℕ) → i < s → s ≤ length steps → slice_index cells i ≡ slice_index cells s → Unused steps s i

-- no placing within c cells exists
abbrev pub NoPlacing : ℕ → List Step → Type 0
NoPlacing c steps = (cells : List ℕ) → Placing c steps cells → ⊥

-- some step of the list cites value i
abbrev pub cited : List Step → ℕ → Bool
cited [] i = false
cited (t ∷ ts) i = cites t i || cited ts i

-- value i is held at s: a step that is not over at s cites it
unfoldable pub held : List Step → ℕ → ℕ → Bool
held steps s i = cited (drop (past s) steps) i

-- how many numbers below n pass the test p
abbrev pub count : (ℕ → Bool) → ℕ → ℕ
count p zero = 0
count p (suc n) = cond (p n) 1 0 + count p n

-- how many values stand in cells at s: value s together with the earlier ones held at s
abbrev pub live : List Step → ℕ → ℕ
live steps s = 1 + count (held steps s) s

-- the largest of f 0 to f n
abbrev pub most : (ℕ → ℕ) → ℕ → ℕ
most f zero = f 0
most f (suc n) = max (most f n) (f (suc n))

-- the need of a plan: the most values that stand in cells, over s from 0 to r
abbrev pub need : List Step → ℕ
need steps = most (live steps) (length steps)

-- each of two statements follows from the other
abbrev pub Exactly : Type 0 → Type 0 → Type 0
Exactly P Q = (P → Q) × (Q → P)

-- the theorem: a placing within c cells exists exactly if the need is at most c
abbrev pub FitsExactly : List Step → Type 0
FitsExactly steps = (c : ℕ) → Exactly ((cells : List ℕ) × Placing c steps cells) (need steps ≤ c)

-- the supplied placing: within the need, and a_0 in cell 0
pub record Supplied (steps : List Step) (cells : List ℕ) : Type 0 where
  pub placing : Placing (need steps) steps cells
  pub start : get_or cells 0 0 ≡ 0
