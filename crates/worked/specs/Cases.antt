-- Plans, needs and powers worked through by hand, as one computed test. Assumes nothing.
use Rattle.std.specs.Prelude.{◌≡◌, ℕ, ◌+◌, Bool, true, false, ◌&&◌, List, [], ◌∷◌, map, length, Some, None, Option, ◌==◌}
use Rattle.refusals.specs.declared.refusal.Refusal.{Refusal}
use Rattle.refusals.specs.Codes.{code}
use Rattle.plans.specs.declared.step.Step.{Step}
use Rattle.planning.specs.Planning.{step}
use Rattle.binary_plans.specs.LeftToRight.{left_to_right}
use Rattle.binary_plans.specs.RightToLeft.{right_to_left}
use Rattle.factor_plans.specs.Factor.{factor_plan}
use Rattle.digit_plans.specs.Digits.{digits_plan}
use Rattle.power_tree.specs.Tree.{tree_plan}
use Rattle.trimming.specs.Trim.{trimmed}
use Rattle.placing.specs.Placing.{need}
use Rattle.placing.specs.Answer.{place_fault}
use Rattle.kinds.specs.Powers.{power}
use Rattle.kinds.specs.Residues.{residues}
use Rattle.polynomials.specs.Polynomials.{polynomials}

-- two steps are the same, citations and value
abbrev pub same_step : Step → Step → Bool
same_step a b = a.j == b.j && (a.k == b.k && a.value == b.value)

abbrev pub same_steps : List Step → List Step → Bool
same_steps [] [] = true
same_steps [] (y ∷ ys) = false
same_steps (x ∷ xs) [] = false
same_steps (x ∷ xs) (y ∷ ys) = same_step x y && same_steps xs ys

-- a fault with this number and place
abbrev pub refused_as : ℕ → ℕ → Option Refusal → Bool
refused_as number place None = false
refused_as number place (Some e) = (code e).number == number && (code e).place == place

-- all of them hold
abbrev pub all : List Bool → Bool
all [] = true
all (b ∷ bs) = b && all bs

-- 1 2 4 5 10 11 22 23
abbrev pub left23 : List Step
left23 = step 0 0 2 ∷ step 1 1 4 ∷ step 2 0 5 ∷ step 3 3 10 ∷ step 4 0 11 ∷ step 5 5 22 ∷ step 6 0 23 ∷ []

-- 1 2 3 4 7 8 16 23
abbrev pub right23 : List Step
right23 = step 0 0 2 ∷ step 1 0 3 ∷ step 1 1 4 ∷ step 3 2 7 ∷ step 3 3 8 ∷ step 5 5 16 ∷ step 6 4 23 ∷ []

-- 1 2 3 5 10 13 23
abbrev pub tree23 : List Step
tree23 = step 0 0 2 ∷ step 1 0 3 ∷ step 2 1 5 ∷ step 3 3 10 ∷ step 4 2 13 ∷ step 5 4 23 ∷ []

-- 1 2 4 5 10 20 40 50 55
abbrev pub factor55 : List Step
factor55 = step 0 0 2 ∷ step 1 1 4 ∷ step 2 0 5 ∷ step 3 3 10 ∷ step 4 4 20 ∷ step 5 5 40 ∷ step 6 4 50 ∷ step 7 3 55 ∷ []

-- 1 2 3 4 8 9 18 36 39 78 156
abbrev pub digits156 : List Step
digits156 = step 0 0 2 ∷ step 1 0 3 ∷ step 1 1 4 ∷ step 3 3 8 ∷ step 4 0 9 ∷ step 5 5 18 ∷ step 6 6 36 ∷ step 7 2 39 ∷ step 8 8 78 ∷ step 9 9 156 ∷ []

-- 1 2 3 4, and the same without its idle step, 1 2 4
abbrev pub digits4 : List Step
digits4 = step 0 0 2 ∷ step 1 0 3 ∷ step 1 1 4 ∷ []

abbrev pub trimmed4 : List Step
trimmed4 = step 0 0 2 ∷ step 1 1 4 ∷ []

-- the plans of the methods
abbrev pub plan_cases : List Bool
plan_cases =
    same_steps (left_to_right 23) left23
    ∷ same_steps (right_to_left 23) right23
    ∷ same_steps (tree_plan 23) tree23
    ∷ same_steps (factor_plan 55) factor55
    ∷ same_steps (digits_plan 2 156) digits156
    ∷ same_steps (digits_plan 2 4) digits4
    ∷ same_steps (trimmed (digits_plan 2 4)) trimmed4
    ∷ same_steps (left_to_right 1) []
    ∷ []

-- the needs of plans: 2 cells for either plan of 23, 3 for that of 156, so that two cells are refused 23 at place 3, and 1 for the plan of 1
abbrev pub need_cases : List Bool
need_cases =
    (need (left_to_right 23) == 2)
    ∷ (need (right_to_left 23) == 2)
    ∷ (need (digits_plan 2 156) == 3)
    ∷ refused_as 23 3 (place_fault (digits_plan 2 156) 2 129)
    ∷ (need (left_to_right 1) == 1)
    ∷ []

-- powers: 5 to the 23rd modulo 101 is 97, and t to the 10th modulo t^4 + t + 1 is t^2 + t + 1
abbrev pub power_cases : List Bool
power_cases = ((power (residues 101) 5 23) == 97) ∷ ((power (polynomials 19) (record { bits = 2 }) 10).bits == 7) ∷ []

-- how many cases there are
abbrev pub case_count : ℕ
case_count = length plan_cases + (length need_cases + length power_cases)

-- every worked case holds
abbrev pub WorkedCases : Type 0
WorkedCases = (all plan_cases && (all need_cases && all power_cases)) ≡ true

-- the plans of 1, by every method and width
abbrev pub plans_of1 : List (List Step)
plans_of1 =
    left_to_right 1
    ∷ right_to_left 1
    ∷ factor_plan 1
    ∷ tree_plan 1
    ∷ digits_plan 1 1
    ∷ digits_plan 2 1
    ∷ digits_plan 3 1
    ∷ digits_plan 4 1
    ∷ digits_plan 5 1
    ∷ []

-- none of them has a step, and each needs 1 cell
abbrev pub one_cases : List Bool
one_cases = map (λ p. same_steps p [] && need p == 1) plans_of1

-- every one of these cases holds
abbrev pub OneCases : Type 0
OneCases = all one_cases ≡ true
