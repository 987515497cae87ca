-- Sheets, as they are read: the steps, or the first fault. Assumes nothing.
use Rattle.std.specs.Prelude.{ℕ, zero, suc, ◌+◌, ◌-◌, ◌*◌, ◌/◌, ◌%◌, cond, List, [], ◌∷◌, ◌++◌, length, take, drop, Some, None, Ok, Err, Option, Result, ◌==◌, nat_le, slice_index, slice_index_or, IsOk}
use Rattle.refusals.specs.declared.refusal.Refusal.{Refusal}
use Rattle.refusals.specs.declared.refusal.Refusal.TheVariants.{TooLong, SheetLine, Field, StepNumber, TableShort}
use Rattle.refusals.specs.Faults.{and_then}
use Rattle.fields.specs.Field.{field_value}
use Rattle.plans.specs.declared.step.Step.{Step}
use Rattle.plans.specs.Chain.{no_step}
use Rattle.sheets.specs.declared.fault.Fault.{Fault}
use Rattle.sheets.specs.declared.fault.Found.{Found}
use Rattle.sheets.specs.declared.column.Column.{Column}
use Rattle.sheets.specs.declared.column.Column.TheVariants.{Number, First, Second, Value}
use Rattle.sheets.specs.Columns.{cell}
use Rattle.sheets.specs.Lines.{line_bytes, newline}

-- a refusal, with the column at fault
abbrev pub fault : Refusal → Option Column → Fault
fault e c = record { refusal = e; column = c }

-- the number in a column of line i, or the fault that it is malformed
abbrev pub number_in : ℕ → Column → Option ℕ → Result ℕ Fault
number_in i c (Some v) = Ok v
number_in i c None = Err (fault (Field i) (Some c))

-- what comes of the numbers in the columns of line i, read from the left
abbrev pub numbers : ℕ → List ℕ → (ℕ → ℕ → ℕ → ℕ → Result Step Fault) → Result Step Fault
numbers i b go =
    and_then (number_in i Number (field_value (cell Number b))) (λ n.
    and_then (number_in i First (field_value (cell First b))) (λ j.
    and_then (number_in i Second (field_value (cell Second b))) (λ k.
    and_then (number_in i Value (field_value (cell Value b))) (λ v. go n j k v))))

-- the step of line i, whose step number is to be i
abbrev pub numbered : ℕ → ℕ → ℕ → ℕ → ℕ → Result Step Fault
numbered i n j k v = cond (n == i) (Ok (record { j = j; k = k; value = v })) (Err (fault (StepNumber i) (Some Number)))

-- line i: its newline, its columns from the left, its step number
abbrev pub read_line : ℕ → List ℕ → Result Step Fault
read_line i b = cond (slice_index b (line_bytes - 1) == newline) (numbers i b (numbered i)) (Err (fault (SheetLine i) None))

-- line i + 1 of these lines holds a step
abbrev pub Reads : List (List ℕ) → ℕ → Type 0
Reads ls i = IsOk (read_line (i + 1) (slice_index_or ls i []))

-- line i + 1 of a text
abbrev pub line_at : ℕ → List ℕ → List ℕ
line_at i t = take line_bytes (drop (line_bytes * i) t)

-- what it holds
abbrev pub line_in : ℕ → List ℕ → Result Step Fault
line_in i t = read_line (i + 1) (line_at i t)

-- the n lines after line i
abbrev pub lines_from : ℕ → ℕ → List ℕ → List (List ℕ)
lines_from zero i t = []
lines_from (suc n) i t = line_at i t ∷ lines_from n (i + 1) t

-- the fault after i lines, or else what comes next
abbrev pub or_next : {X : Type 0} → ℕ → Result X Fault → Option Found → Option Found
or_next i (Ok x) next = next
or_next i (Err f) next = Some (record { before = i; fault = f })

-- the first fault of lines that stand after i others
abbrev pub first_fault_in : ℕ → List (List ℕ) → Option Found
first_fault_in i [] = None
first_fault_in i (b ∷ bs) = or_next i (read_line (i + 1) b) (first_fault_in (i + 1) bs)

-- the first fault of the n lines after line i
abbrev pub first_fault : ℕ → ℕ → List ℕ → Option Found
first_fault n i t = first_fault_in i (lines_from n i t)

-- what is handed out, unless there is a fault
abbrev pub unless_found : {X : Type 0} → Option Found → X → Result X Refusal
unless_found None x = Ok x
unless_found (Some f) x = Err f.fault.refusal

-- the step that a line holds
abbrev pub step_of : Result Step Fault → Step
step_of (Ok s) = s
step_of (Err f) = no_step

-- the steps of lines that stand after i others
abbrev pub steps_in : ℕ → List (List ℕ) → List Step
steps_in i [] = []
steps_in i (b ∷ bs) = step_of (read_line (i + 1) b) ∷ steps_in (i + 1) bs

-- the steps of the n lines after line i
abbrev pub steps_from : ℕ → ℕ → List ℕ → List Step
steps_from n i t = steps_in i (lines_from n i t)

-- how many lines a text of so many bytes has
abbrev pub text_lines : ℕ → Result ℕ Refusal
text_lines bytes = cond (bytes % line_bytes == 0) (cond (nat_le (bytes / line_bytes) 128) (Ok (bytes / line_bytes)) (Err TooLong)) (Err (SheetLine 0))

-- so many lines, if m places are enough
abbrev pub room_for : ℕ → Result ℕ Refusal → Result ℕ Refusal
room_for m (Ok n) = cond (nat_le n m) (Ok n) (Err (TableShort n))
room_for m (Err e) = Err e

-- the steps of the lines of a text
abbrev pub read_lines : Result ℕ Refusal → List ℕ → Result (List Step) Refusal
read_lines (Ok n) t = unless_found (first_fault n 0 t) (steps_from n 0 t)
read_lines (Err e) t = Err e

-- reading a text into m places
abbrev pub read_sheet : List ℕ → ℕ → Result (List Step) Refusal
read_sheet t m = read_lines (room_for m (text_lines (length t))) t

-- how many steps were read
abbrev pub counted : Result (List Step) Refusal → Result ℕ Refusal
counted (Ok ss) = Ok (length ss)
counted (Err e) = Err e

-- the table after reading: the steps in front, or all as it was
abbrev pub filled : Result (List Step) Refusal → List Step → List Step
filled (Ok ss) was = ss ++ drop (length ss) was
filled (Err e) was = was
