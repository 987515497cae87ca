use Rattle.std.proofs.Common.{sym}
use Rattle.units.proofs.Passing.{stays}
use Rattle.quota.proofs.quota.QuotaUnit.multiply.Goals as goal

pub returns-in_err-check_multiply-clause-after : goal.returns-in_err-check_multiply-clause-after
returns-in_err-check_multiply-clause-after g c = sym (stays _ _ _ _ c.in_err-check_multiply.ensures.value)

pub returns-in_err-check_multiply-clause-below : goal.returns-in_err-check_multiply-clause-below
returns-in_err-check_multiply-clause-below g c = sym (stays _ _ _ _ c.in_err-check_multiply.ensures.value)

pub returns-in_err-check_multiply-clause-used : goal.returns-in_err-check_multiply-clause-used
returns-in_err-check_multiply-clause-used g c = sym (stays _ _ _ _ c.in_err-check_multiply.ensures.value)
