use Rattle.std.proofs.Common.{sym, rules}
use Rattle.units.proofs.Passing.{stays}
use Rattle.window.specs.WindowsLemmas.{multiply_through}
use Rattle.window.proofs.window.WindowUnit.multiply.Goals as goal

pub returns-in_err-check_multiply-clause-after : goal.returns-in_err-check_multiply-clause-after
returns-in_err-check_multiply-clause-after g c = sym (stays _ _ _ _ c.in_err-check_multiply.ensures.value)

pub returns-in_err-check_multiply-clause-below : goal.returns-in_err-check_multiply-clause-below
returns-in_err-check_multiply-clause-below g c = sym (stays _ _ _ _ c.in_err-check_multiply.ensures.value)

pub returns-clause-value : goal.returns-clause-value
returns-clause-value g c =
    let q = c.args.self.now in
    let t = multiply_through (g.U.Unit.state q.below) q.from q.size (g.U.Kind.kind q.below) c.args.to c.args.a c.args.b c.in_ok-check_multiply.ensures.value in
    search rules

pub returns-clause-after : goal.returns-clause-after
returns-clause-after g c =
    let q = c.args.self.now in
    let t = multiply_through (g.U.Unit.state q.below) q.from q.size (g.U.Kind.kind q.below) c.args.to c.args.a c.args.b c.in_ok-check_multiply.ensures.value in
    search rules

pub returns-clause-below : goal.returns-clause-below
returns-clause-below g c =
    let q = c.args.self.now in
    let t = multiply_through (g.U.Unit.state q.below) q.from q.size (g.U.Kind.kind q.below) c.args.to c.args.a c.args.b c.in_ok-check_multiply.ensures.value in
    search rules
