-- What the plan program is asked, and what it answers. Assumes nothing.
use Rattle.std.specs.Prelude.{ℕ, cond, List, [], ◌∷◌, ◌++◌, length, take, drop, Some, None, Ok, Err, Option, Result, ◌==◌, nat_le, slice_index}
use Rattle.refusals.specs.declared.refusal.Refusal.{Refusal}
use Rattle.refusals.specs.declared.refusal.Refusal.TheVariants.{Exponent, Method, SheetLine, Field, TableShort}
use Rattle.refusals.specs.Codes.{code}
use Rattle.refusals.specs.Faults.{and_then}
use Rattle.fields.specs.Field.{field, field_value}
use Rattle.plans.specs.declared.step.Step.{Step}
use Rattle.planning.specs.Planning.{is_exponent}
use Rattle.sheets.specs.Sheets.{sheet}
use Rattle.methods.specs.declared.request.PlanRequest.{PlanRequest}
use Rattle.methods.specs.declared.method.Method.{Method as PlanMethod}
use Rattle.methods.specs.Methods.{method_of, plan_of, allows}

-- the number in a field of the line, or the refusal that it is malformed
abbrev pub number_in : Option ℕ → Result ℕ Refusal
number_in (Some v) = Ok v
number_in None = Err (Field 1)

-- columns of a line, the first counted from 0
abbrev pub columns : ℕ → ℕ → List ℕ → List ℕ
columns from width line = take width (drop from line)

-- method, width and exponent, from the left
abbrev pub fields_of : List ℕ → Result PlanRequest Refusal
fields_of line =
    and_then (number_in (field_value (columns 0 4 line))) (λ m.
    and_then (number_in (field_value (columns 4 4 line))) (λ w.
    and_then (number_in (field_value (columns 8 19 line))) (λ n.
    Ok (record { method = m; width = w; exponent = n }))))

-- the request of a line of 28 bytes, the last of them a newline
abbrev pub request_of : List ℕ → Result PlanRequest Refusal
request_of line = cond (length line == 28) (cond (slice_index line 27 == 10) (fields_of line) (Err (SheetLine 1))) (Err (SheetLine 1))

-- the plan by a method, if there is one and it allows n
abbrev pub plan_by : Option PlanMethod → ℕ → Result (List Step) Refusal
plan_by (Some m) n = cond (allows m n) (Ok (plan_of m n)) (Err Method)
plan_by None n = Err Method

-- the plan that a request asks for: the exponent comes first, then the method
abbrev pub plan_for : PlanRequest → Result (List Step) Refusal
plan_for q = cond (is_exponent q.exponent) (plan_by (method_of q.method q.width) q.exponent) (Err Exponent)

-- its steps, and none where it is refused
abbrev pub steps_or : Result (List Step) Refusal → List Step
steps_or (Ok steps) = steps
steps_or (Err e) = []

-- the plan that a line asks for
abbrev pub asked : List ℕ → Result (List Step) Refusal
asked line = and_then (request_of line) plan_for

-- the bytes of its sheet, and how many they are
abbrev pub sheet_length : Result (List Step) Refusal → Result ℕ Refusal
sheet_length (Ok steps) = Ok (length (sheet steps))
sheet_length (Err e) = Err e

-- bytes with the sheet written over the first of them; where the plan is refused they stay
abbrev pub sheet_over : Result (List Step) Refusal → List ℕ → List ℕ
sheet_over (Ok steps) was = sheet steps ++ drop (length (sheet steps)) was
sheet_over (Err e) was = was

-- a refusal in print: number and place, four columns each
abbrev pub refusal_line : Refusal → List ℕ
refusal_line e = field 4 (code e).number ++ (field 4 (code e).place ++ (10 ∷ []))

-- the sheet of a plan, or the line of its refusal
abbrev pub printed : Result (List Step) Refusal → List ℕ
printed (Ok steps) = sheet steps
printed (Err e) = refusal_line e

-- what the program prints for its input
abbrev pub response : List ℕ → List ℕ
response line = printed (asked line)

-- the answer where so many bytes are lent: the bytes of the response, for which 4,096 are always enough
abbrev pub room_answer : List ℕ → ℕ → Result ℕ Refusal
room_answer line room = cond (nat_le 4096 room) (Ok (length (response line))) (Err (TableShort 4096))

-- the lent bytes then: the response in front, or all as it was
abbrev pub responded : List ℕ → List ℕ → List ℕ
responded line was = cond (nat_le 4096 (length was)) (response line ++ drop (length (response line)) was) was
