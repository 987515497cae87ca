-- Needed values: a value is needed if it is the last one or a needed step cites it. Assumes nothing.
use Rattle.std.specs.Prelude.{◌≡◌, ℕ, ◌+◌, ◌<◌, Bool, true, false, cond, ◌||◌, ◌⊎◌, List, [], ◌∷◌, length, Decides, ◌==◌}
use Rattle.plans.specs.declared.step.Step.{Step}
use Rattle.plans.specs.Chain.{step_at}

-- whether a list has the number i
abbrev pub has : List ℕ → ℕ → Bool
has [] i = false
has (x ∷ l) i = i == x || has l i

-- a list, and the values that step number i cites if the list has i
abbrev pub with_cited : ℕ → Step → List ℕ → List ℕ
with_cited i x l = cond (has l i) (x.k ∷ x.j ∷ l) l

-- the roots, and what the needed ones of the steps after number `at` cite, from the last step back
abbrev pub needed_after : List ℕ → ℕ → List Step → List ℕ
needed_after roots at [] = roots
needed_after roots at (x ∷ rest) = with_cited (at + 1) x (needed_after roots (at + 1) rest)

-- the numbers of the values that the roots need
unfoldable pub needed_for : List ℕ → List Step → List ℕ
needed_for roots s = needed_after roots 0 s

-- the numbers of the needed values of a plan, its last value being the root
abbrev pub needed_of : List Step → List ℕ
needed_of s = needed_for (length s ∷ []) s

-- whether value i of a plan is needed
abbrev pub needed : List Step → ℕ → Bool
needed s i = has (needed_of s) i

-- a step cites value i
abbrev pub Cited : Step → ℕ → Type 0
Cited x i = (i ≡ x.j) ⊎ (i ≡ x.k)

-- value i is the last one, or a needed step a + 1 cites it
abbrev pub LastOrCited : List Step → ℕ → Type 0
LastOrCited s i = (i ≡ length s) ⊎ ((a : ℕ) × (a < length s) × (needed s (a + 1) ≡ true) × Cited (step_at s a) i)

-- what needed means: exactly those values are needed
abbrev pub NeededLaw : List Step → Type 0
NeededLaw s = (i : ℕ) → Decides (needed s i) (LastOrCited s i)
