use Rattle.std.proofs.Common.{◌≡◌, ℕ, ◌<◌, List, length, take, drop, refl, ◌∙◌, subst, arith, take_all, rules}
use Rattle.calls.specs.declared.call.Call.{Call}
use Rattle.calls.specs.Lists.{bench, Performed, turns}
use Rattle.calls.proofs.Events.{list_short, list_made, performed_more, drop_more, law_of}
use Rattle.calls.proofs.performing.perform.Goals as goal

pub returns-then-answers-calls : goal.returns-then-answers-calls
returns-then-answers-calls g c = record {
  answer = list_short (length c.args.calls.now) (length c.args.answers.now) (omega arith);
  each = tt;
  law = tt;
  rest = refl;
  refused = (refl, refl, refl);
  same = refl;
}

pub offset_bounds-answers-i : goal.offset_bounds-answers-i
offset_bounds-answers-i g c = let h : c.loop-i.i < length c.args.answers.now = omega arith in search rules

pub loop-i-preserved : goal.loop-i-preserved
loop-i-preserved g c =
    let i = c.loop-i.i in
    let u = c.args.unit.now in
    let inv = c.loop-i.invariant in (
      performed_more (g.U.Kind.kind u) (g.U.Kind.kind c.loop-i.unit) (length c.args.table.now) (length c.loop-i.table)
          (bench (g.U.Unit.state u) c.args.table.now) (bench (g.U.Unit.state c.loop-i.unit) c.loop-i.table) (bench (g.U.Unit.state c.perform_call.new.unit) c.perform_call.new.table)
          c.args.calls.now c.loop-i.answers i c.index-calls-i.result c.perform_call.result
          inv.2 (omega arith) (omega arith) (omega arith) c.index-calls-i.is inv.0 c.perform_call.ensures.made,
      drop_more c.loop-i.answers c.args.answers.now i c.perform_call.result inv.1,
      c.perform_call.ensures.same ∙ inv.2,
    )

pub returns : goal.returns
returns g c =
    let inv = c.loop-i.invariant in
    let u = c.args.unit.now in
    let m = g.U.Kind.kind u in
    let calls = c.args.calls.now in
    let room = length c.args.table.now in
    let first = bench (g.U.Unit.state u) c.args.table.now in
    let last = bench (g.U.Unit.state c.loop-i.unit) c.loop-i.table in
    let end : c.loop-i.i ≡ length calls = omega arith in
    let all : take c.loop-i.i calls ≡ calls = take_all c.loop-i.i calls (omega arith) in
    let done : Performed m room first (turns calls c.loop-i.answers) last =
    subst (λ (z : List (Call g.row.U-Value.Denot)). Performed m room first (turns z c.loop-i.answers) last) all inv.0 in
    record {
      answer = list_made (length calls) (length c.args.answers.now) (omega arith);
      each = done;
      law = law_of m room first (turns calls c.loop-i.answers) last done;
      rest = subst (λ (n : ℕ). drop n c.loop-i.answers ≡ drop n c.args.answers.now) end inv.1;
      refused = (tt, tt, tt);
      same = inv.2;
    }
