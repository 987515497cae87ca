use Rattle.std.proofs.Common.{sym, rules}
use Rattle.units.proofs.Passing.{stays}
use Rattle.window.specs.WindowsLemmas.{load_through}
use Rattle.window.proofs.window.WindowUnit.load.Goals as goal

pub returns-in_err-check_load-clause-after : goal.returns-in_err-check_load-clause-after
returns-in_err-check_load-clause-after g c = sym (stays _ _ _ _ c.in_err-check_load.ensures.value)

pub returns-in_err-check_load-clause-below : goal.returns-in_err-check_load-clause-below
returns-in_err-check_load-clause-below g c = sym (stays _ _ _ _ c.in_err-check_load.ensures.value)

pub returns-clause-value : goal.returns-clause-value
returns-clause-value g c =
    let q = c.args.self.now in
    let t = load_through (g.U.Unit.state q.below) q.from q.size (g.U.Kind.kind q.below) c.args.cell c.args.v c.in_ok-check_load.ensures.value in
    search rules

pub returns-clause-after : goal.returns-clause-after
returns-clause-after g c =
    let q = c.args.self.now in
    let t = load_through (g.U.Unit.state q.below) q.from q.size (g.U.Kind.kind q.below) c.args.cell c.args.v c.in_ok-check_load.ensures.value in
    search rules

pub returns-clause-below : goal.returns-clause-below
returns-clause-below g c =
    let q = c.args.self.now in
    let t = load_through (g.U.Unit.state q.below) q.from q.size (g.U.Kind.kind q.below) c.args.cell c.args.v c.in_ok-check_load.ensures.value in
    search rules
