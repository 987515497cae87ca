use Rattle.std.proofs.Common.{◌≡◌, length, take, drop}
use Rattle.calls.specs.Lists.{bench, turns, Performed}
use Rattle.calls.proofs.performing.perform.Given as goal

abbrev pub invariant-loop-i : goal.invariant-loop-i
invariant-loop-i g l =
    let kind = g.U.Kind.kind in
    let state = g.U.Unit.state in
    Performed (kind l.initial.unit) (length l.initial.table) (bench (state l.initial.unit) l.initial.table) (turns (take l.i l.calls) l.answers) (bench (state l.unit) l.table)
    × (drop l.i l.answers ≡ drop l.i l.initial.answers)
    × (kind l.unit ≡ kind l.initial.unit)
