-- The cells of the supplied placing, by first fit. Assumes nothing.
-- Which cells they are is left free by the rules: callers rest only on `Supplied`, which `place` promises of them.
use Rattle.std.specs.Prelude.{ℕ, zero, suc, ◌+◌, Bool, cond, ◌&&◌, List, [], ◌∷◌, ◌++◌, length, ◌==◌, nat_lt, slice_index}
use Rattle.plans.specs.declared.step.Step.{Step}
use Rattle.placing.specs.Placing.{held, count}

-- cell x is taken at s: one of the values before s has it and is held at s
abbrev pub taken : List Step → List ℕ → ℕ → ℕ → Bool
taken steps cells s x = nat_lt 0 (count (λ i. held steps s i && slice_index cells i == x) s)

-- the lowest number that fails the test p, or n if all below n pass it
abbrev pub lowest : (ℕ → Bool) → ℕ → ℕ
lowest p zero = 0
lowest p (suc n) = cond (p 0) (suc (lowest (λ x. p (suc x)) n)) 0

-- the cells of the first n values: each in turn goes into the lowest cell that is not taken
abbrev pub first_cells : List Step → ℕ → List ℕ
first_cells steps zero = []
first_cells steps (suc s) = first_cells steps s ++ (lowest (taken steps (first_cells steps s) s) s ∷ [])

-- the cells of the values a_0 to a_r
unfoldable pub supplied_cells : List Step → List ℕ
supplied_cells steps = first_cells steps (length steps + 1)
