use Rattle.std.proofs.Common.{refl}
use Rattle.worked.proofs.Worked.{worked_cases, one_cases}
use Rattle.worked.proofs.worked_cases.Goals as goal

pub returns : goal.returns
returns c = record { value = refl; cases = worked_cases; ones = one_cases }
