-- Trimming: the needed steps of a plan in their order, renumbered. Assumes nothing.
use Rattle.std.specs.Prelude.{ℕ, zero, suc, ◌+◌, cond, List, [], ◌∷◌, length, Ok, Err, Result, nat_le}
use Rattle.refusals.specs.declared.refusal.Refusal.{Refusal}
use Rattle.refusals.specs.declared.refusal.Refusal.TheVariants.{TableShort}
use Rattle.plans.specs.declared.step.Step.{Step}
use Rattle.planning.specs.Planning.{step}
use Rattle.trimming.specs.Needed.{has, needed_of}

-- the new number of value i: how many of the values 1 to i are kept
abbrev pub rank : List ℕ → ℕ → ℕ
rank kept zero = 0
rank kept (suc i) = rank kept i + cond (has kept (suc i)) 1 0

-- a step under the new numbers
abbrev pub renumbered : List ℕ → Step → Step
renumbered kept x = step (rank kept x.j) (rank kept x.k) x.value

-- those of the steps after number i whose values are kept
abbrev pub kept_from : List ℕ → ℕ → List Step → List Step
kept_from kept i [] = []
kept_from kept i (x ∷ rest) = cond (has kept (i + 1)) (renumbered kept x ∷ kept_from kept (i + 1) rest) (kept_from kept (i + 1) rest)

-- the steps of a plan whose values are kept
abbrev pub keep : List ℕ → List Step → List Step
keep kept s = kept_from kept 0 s

-- the needed steps of a plan
abbrev pub trimmed : List Step → List Step
trimmed s = keep (needed_of s) s

-- the new length, unless the table has fewer places
abbrev pub trim_answer : List Step → ℕ → Result ℕ Refusal
trim_answer s places = cond (nat_le (length (trimmed s)) places) (Ok (length (trimmed s))) (Err (TableShort (length (trimmed s))))
