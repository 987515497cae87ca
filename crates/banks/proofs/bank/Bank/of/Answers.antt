use Rattle.std.proofs.Common.{refl}
use Rattle.banks.proofs.Natives.{none_native}
use Rattle.banks.proofs.bank.Bank.of.Goals as goal

pub invariant_of-result : goal.invariant_of-result
invariant_of-result g c = record { full = refl; native = none_native (g.K.Kind.kind c.args.rule) 32 }
