-- The text of a refusal. Assumes nothing.
use Rattle.std.specs.Prelude.{ℕ, List, ◌++◌, codes}
use Rattle.std.specs.Fmt.{decimal}

-- the text of a refusal by its number and its place
abbrev pub refused_text : ℕ → ℕ → List ℕ
refused_text number place = codes "refused " ++ decimal number ++ codes " at " ++ decimal place
