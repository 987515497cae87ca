use Rattle.std.proofs.Common.{sym}
use Rattle.units.proofs.Passing.{stays}
use Rattle.banks.proofs.Natives.{both_native, set_native}
use Rattle.banks.proofs.bank.BankUnit.multiply.Goals as goal

pub returns-in_err-check_multiply-clause-after : goal.returns-in_err-check_multiply-clause-after
returns-in_err-check_multiply-clause-after g c = sym (stays _ _ _ _ c.in_err-check_multiply.ensures.value)

pub invariant_of-self-clause-native : goal.invariant_of-self-clause-native
invariant_of-self-clause-native g c =
    let bank = c.args.self.now in
    let m = g.K.Kind.kind bank.rule in
    rw c.product_of_cells.ensures (set_native m bank.places c.from.result _ (both_native m (g.met.K.Kind.closed bank.rule) _ _ (bank.native c.args.a) (bank.native c.args.b)) bank.native)
