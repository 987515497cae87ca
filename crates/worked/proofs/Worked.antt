-- The worked cases, computed.
use Rattle.std.proofs.Common.{refl}
use Rattle.factor_plans.specs.Divisors.{divisor_from, least_divisor}
use Rattle.factor_plans.specs.Factor.{factor_body, factor_with, factor_plan}
use Rattle.digit_plans.specs.Digits.{count_from, doubles, one_digit, digits_from, digits_plan}
use Rattle.power_tree.specs.Tree.{next_level, path_from, tree_path}
use Rattle.trimming.specs.Needed.{needed_for}
use Rattle.placing.specs.Placing.{held}
use Rattle.bits.specs.Bits.{length_in, top}
use Rattle.polynomial_ring.specs.Polynomials.{times_in, times, reduce, rem_in, rem, product}
use Rattle.worked.specs.Cases.{WorkedCases, OneCases}

pub worked_cases : WorkedCases
unfolding length_in top divisor_from least_divisor factor_body factor_with factor_plan count_from doubles one_digit digits_from digits_plan next_level path_from tree_path needed_for held times_in times reduce rem_in rem product
worked_cases = refl

pub one_cases : OneCases
unfolding length_in top divisor_from least_divisor factor_body factor_with factor_plan count_from doubles one_digit digits_from digits_plan next_level path_from tree_path held
one_cases = refl
