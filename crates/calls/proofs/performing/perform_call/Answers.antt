use Rattle.std.proofs.Common.{List, length, refl, rules}
use Rattle.plans.specs.declared.step.Step.{Step}
use Rattle.calls.specs.declared.act.Answer.TheVariants.{Loaded, Got, Power, Carried}
use Rattle.calls.specs.Lists.{bench, Made}
use Rattle.calls.proofs.Events.{law_of_one}
use Rattle.calls.proofs.performing.perform_call.Goals as goal

pub returns-in-Load : goal.returns-in-Load
returns-in-Load g c =
    let m = g.U.Kind.kind c.args.unit.now in
    let s = g.U.Unit.state c.args.unit.now in
    let table : List Step = c.args.table.now in
    let before = bench s table in
    let after = bench (g.U.Unit.state c.load.new.self) table in
    let done : Made m (length table) c.args.call.now before (Loaded c.load.result) after = search rules in
    record { made = done; law = law_of_one m (length table) before c.args.call.now (Loaded c.load.result) after done; refused = c.load.ensures.refused; same = c.load.ensures.same }

pub returns-in-Read : goal.returns-in-Read
returns-in-Read g c =
    let m = g.U.Kind.kind c.args.unit.now in
    let s = g.U.Unit.state c.args.unit.now in
    let table : List Step = c.args.table.now in
    let before = bench s table in
    let after = bench s table in
    let done : Made m (length table) c.args.call.now before (Got c.read.result) after = search rules in
    record { made = done; law = law_of_one m (length table) before c.args.call.now (Got c.read.result) after done; refused = refl; same = refl }

pub returns-in-Run : goal.returns-in-Run
returns-in-Run g c =
    let m = g.U.Kind.kind c.args.unit.now in
    let s = g.U.Unit.state c.args.unit.now in
    let table : List Step = c.args.table.now in
    let before = bench s table in
    let after = bench (g.U.Unit.state c.run.new.unit) table in
    let done : Made m (length table) c.args.call.now before (Power c.run.result) after = search rules in
    record { made = done; law = law_of_one m (length table) before c.args.call.now (Power c.run.result) after done; refused = c.run.ensures.refused; same = c.run.ensures.same }

pub returns-in-Job : goal.returns-in-Job
returns-in-Job g c =
    let m = g.U.Kind.kind c.args.unit.now in
    let s = g.U.Unit.state c.args.unit.now in
    let table : List Step = c.args.table.now in
    let before = bench s table in
    let after = bench (g.U.Unit.state c.job.new.unit) c.job.new.table in
    let done : Made m (length table) c.args.call.now before (Carried c.job.result) after = search rules in
    record { made = done; law = law_of_one m (length table) before c.args.call.now (Carried c.job.result) after done; refused = c.job.ensures.refused; same = c.job.ensures.same }
