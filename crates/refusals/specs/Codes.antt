-- The number and the place of each refusal. Assumes nothing.
use Rattle.std.specs.Prelude.{ℕ}
use Rattle.refusals.specs.declared.refusal.Refusal.{Refusal}
use Rattle.refusals.specs.declared.refusal.Refusal.TheVariants.{Exponent, Method, TooLong, SheetLine, Field, StepNumber, Citation, NotSum, NotRising, NotReached, NotNative, BadModulus, NoSuchCell, TableShort, CellEmpty, AllowanceSpent, NeedAbove, AllowanceBelow}

-- a refusal's number, and the place in the input or the state that it speaks of
pub record Code : Type 0 where
  pub number : ℕ
  pub place : ℕ

abbrev pub numbered : ℕ → ℕ → Code
numbered n p = record { number = n; place = p }

abbrev pub code : Refusal → Code
code Exponent = numbered 1 0
code Method = numbered 2 0
code TooLong = numbered 3 129
code (SheetLine line) = numbered 4 line
code (Field line) = numbered 5 line
code (StepNumber line) = numbered 6 line
code (Citation step) = numbered 7 step
code (NotSum step) = numbered 8 step
code (NotRising step) = numbered 9 step
code (NotReached length) = numbered 10 length
code NotNative = numbered 11 0
code BadModulus = numbered 12 0
code (NoSuchCell cell) = numbered 13 cell
code (TableShort wanted) = numbered 14 wanted
code (CellEmpty cell) = numbered 21 cell
code AllowanceSpent = numbered 22 0
code (NeedAbove need) = numbered 23 need
code (AllowanceBelow length) = numbered 24 length
