-- The checksum of a method's plan, and the longest plans. Assumes nothing.
use Rattle.std.specs.Prelude.{ℕ, ◌+◌, ◌-◌, ◌*◌, ◌/◌, ◌%◌, ◌^◌, cond, fold, map, List, Result, nat_lt}
use Rattle.std.specs.List.{range_with_len}
use Rattle.refusals.specs.declared.refusal.Refusal.{Refusal}
use Rattle.refusals.specs.Faults.{and_then, answer}
use Rattle.plans.specs.declared.step.Step.{Step}
use Rattle.plans.specs.Admission.{admission}
use Rattle.planning.specs.Planning.{step}
use Rattle.placing.specs.Placing.{need}
use Rattle.placing.specs.Answer.{place_fault}
use Rattle.methods.specs.declared.request.PlanRequest.{PlanRequest}

-- a checksum with one step more: its value and both citations count
abbrev pub mixed : ℕ → Step → ℕ
mixed sum x = ((sum * 1000003 % 2 ^ 64 + x.value) % 2 ^ 64 + (x.j * 65536 + x.k)) % 2 ^ 64

-- the checksum of some steps after others
abbrev pub checksum_from : ℕ → List Step → ℕ
checksum_from sum steps = fold mixed sum steps

-- without its lowest bit, so that it is never 2^64 - 1
abbrev pub checksum : List Step → ℕ
checksum steps = checksum_from 0 steps / 2

abbrev pub request : ℕ → ℕ → ℕ → PlanRequest
request method width n = record { method = method; width = width; exponent = n }

-- step i + 1 of a plan with the values 1, 2, 3 and on: the first h steps add a_0 to the value before them, the others add a_0, a_1 and on to a_h
abbrev pub long_step : ℕ → ℕ → Step
long_step h i = cond (nat_lt i h) (step i 0 (i + 2)) (step h (i - h) (i + 2))

-- as many as a plan can have
unfoldable pub longest : ℕ → List Step
longest h = map (long_step h) (range_with_len 0 128)

-- its need, unless it is no plan of 129, or not to be placed within c cells
abbrev pub placed_longest : ℕ → ℕ → Result ℕ Refusal
placed_longest h c = and_then (admission 129 (longest h)) (λ _. answer (place_fault (longest h) c 129) (need (longest h)))
