-- What every planning method answers, and what it leaves in the caller's table. Assumes nothing.
use Rattle.std.specs.Prelude.{ℕ, ◌^◌, Bool, cond, ◌&&◌, List, ◌++◌, length, drop, Ok, Err, Result, nat_le, nat_lt}
use Rattle.refusals.specs.declared.refusal.Refusal.{Refusal}
use Rattle.refusals.specs.declared.refusal.Refusal.TheVariants.{Exponent, Method, TableShort}
use Rattle.plans.specs.declared.step.Step.{Step}

-- a step that cites the values number j and k
abbrev pub step : ℕ → ℕ → ℕ → Step
step j k value = record { j = j; k = k; value = value }

-- an exponent is a number from 1 to 2 ^ 63 - 1
abbrev pub is_exponent : ℕ → Bool
is_exponent n = nat_le 1 n && nat_lt n (2 ^ 63)

-- whether n is an exponent
abbrev pub exponent_request : ℕ → Result (Unit {0}) Refusal
exponent_request n = cond (is_exponent n) (Ok tt) (Err Exponent)

-- whether a method that allows n, or does not, plans into a table of so many places: the exponent, the method, the table, in this order
abbrev pub request : Bool → ℕ → ℕ → Result (Unit {0}) Refusal
request allowed n places =
    cond (is_exponent n) (cond allowed (cond (nat_le 128 places) (Ok tt) (Err (TableShort 128))) (Err Method)) (Err Exponent)

-- the plan's length, unless the request is refused
abbrev pub length_or : Result (Unit {0}) Refusal → List Step → Result ℕ Refusal
length_or (Ok _) plan = Ok (length plan)
length_or (Err e) plan = Err e

-- the answer of a method with its plan of n
abbrev pub planned : Bool → ℕ → List Step → ℕ → Result ℕ Refusal
planned allowed n plan places = length_or (request allowed n places) plan

-- what the table holds after that answer: the plan, and then what it held; or all that it held
abbrev pub written : Result ℕ Refusal → List Step → List Step → List Step
written (Ok _) plan table = plan ++ drop (length plan) table
written (Err _) plan table = table
