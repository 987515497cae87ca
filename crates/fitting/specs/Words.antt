-- Refusals in words. Assumes nothing.
use Rattle.std.specs.Prelude.{ℕ, List, codes}
use Rattle.refusals.specs.declared.refusal.Refusal.{Refusal}
use Rattle.refusals.specs.declared.refusal.Refusal.TheVariants.{Exponent, Method, TooLong, SheetLine, Field, StepNumber, Citation, NotSum, NotRising, NotReached, NotNative, BadModulus, NoSuchCell, TableShort, CellEmpty, AllowanceSpent, NeedAbove, AllowanceBelow}

-- what is refused, in words; the place is the refusal's own
abbrev pub words : Refusal → List ℕ
words Exponent = codes "the exponent is outside 1 to 2^63 - 1"
words Method = codes "no such method or width, or an exponent above the method's limit"
words TooLong = codes "the sheet has over 128 steps"
words (SheetLine place) = codes "the sheet's length is no number of whole lines, or this line has no newline at its end"
words (Field place) = codes "a field of this line is malformed"
words (StepNumber place) = codes "the step number of this line is not the line's own"
words (Citation place) = codes "this step cites a value that is not earlier, or cites in the wrong order"
words (NotSum place) = codes "the value of this step is not the sum of the two that it cites"
words (NotRising place) = codes "the value of this step does not exceed the one before it, or exceeds the exponent"
words (NotReached place) = codes "the last value, after so many steps, is not the exponent"
words NotNative = codes "the base is not native to the kind"
words BadModulus = codes "the modulus is outside its kind's bounds"
words (NoSuchCell place) = codes "there is no cell of this number"
words (TableShort place) = codes "a table is too short, and so many places are wanted"
words (CellEmpty place) = codes "this cell is empty"
words AllowanceSpent = codes "the allowance is 0"
words (NeedAbove place) = codes "the trimmed plan needs so many cells, and the card has fewer"
words (AllowanceBelow place) = codes "the trimmed plan has so many steps, and the allowance is less"
