-- The methods by their numbers, and the plan of each. Assumes nothing.
use Rattle.std.specs.Prelude.{◌≡◌, ℕ, Bool, true, cond, List, Some, None, Option, Result, MatchResult, ◌==◌, nat_le}
use Rattle.refusals.specs.declared.refusal.Refusal.{Refusal}
use Rattle.plans.specs.declared.step.Step.{Step}
use Rattle.planning.specs.Planning.{request}
use Rattle.binary_plans.specs.LeftToRight.{left_to_right}
use Rattle.binary_plans.specs.RightToLeft.{right_to_left}
use Rattle.factor_plans.specs.Factor.{factor_plan}
use Rattle.digit_plans.specs.Digits.{is_width, digits_plan}
use Rattle.power_tree.specs.Tree.{tree_plan}
use Rattle.tree_plans.specs.Method.{tree_request, Parents}
use Rattle.methods.specs.declared.method.Method.{Method}
use Rattle.methods.specs.declared.method.Method.TheVariants.{LeftToRight, RightToLeft, Factor, Digits, Tree}

-- the methods that take no width
abbrev pub plain_method : ℕ → Option Method
plain_method number =
    cond (number == 1) (Some LeftToRight) (cond (number == 2) (Some RightToLeft) (cond (number == 3) (Some Factor) (cond (number == 5) (Some Tree) None)))

-- the method of a number and a width: digits of 1 to 5 bits, or another with the width 0
abbrev pub method_of : ℕ → ℕ → Option Method
method_of number width =
    cond (number == 4) (cond (is_width width) (Some (Digits width)) None) (cond (width == 0) (plain_method number) None)

-- the plan of n by a method
abbrev pub plan_of : Method → ℕ → List Step
plan_of LeftToRight n = left_to_right n
plan_of RightToLeft n = right_to_left n
plan_of Factor n = factor_plan n
plan_of (Digits width) n = digits_plan width n
plan_of Tree n = tree_plan n

-- the method's own limit
abbrev pub allows : Method → ℕ → Bool
allows LeftToRight n = true
allows RightToLeft n = true
allows Factor n = nat_le n 4294967295
allows (Digits width) n = is_width width
allows Tree n = nat_le n 1024

-- whether a method plans n into tables of so many steps and so many parents, which only the tree wants
abbrev pub request_by : Method → ℕ → ℕ → ℕ → Result (Unit {0}) Refusal
request_by LeftToRight n steps parents = request (allows LeftToRight n) n steps
request_by RightToLeft n steps parents = request (allows RightToLeft n) n steps
request_by Factor n steps parents = request (allows Factor n) n steps
request_by (Digits width) n steps parents = request (allows (Digits width) n) n steps
request_by Tree n steps parents = tree_request n steps parents

-- how a method leaves the table of parents: the tree fills it, unless it is refused
abbrev pub ParentsBy : Method → Result ℕ Refusal → List ℕ → List ℕ → Type 0
ParentsBy LeftToRight r was is = is ≡ was
ParentsBy RightToLeft r was is = is ≡ was
ParentsBy Factor r was is = is ≡ was
ParentsBy (Digits width) r was is = is ≡ was
ParentsBy Tree r was is = MatchResult r (λ _. Parents was is) (λ _. is ≡ was)
