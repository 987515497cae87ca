use Rattle.std.proofs.Common.{◌≡◌, length, set, is_some, sym, ap, ◌∙◌, arith}
use Rattle.std.proofs.lemmas.List.{length-set}
use Rattle.kinds.proofs.Powers.{Laws, powers_add}
use Rattle.straight_runs.proofs.Straight.{holds_base, turn_some, turn_next, run_done, fault_foreign, fault_short, fault_none, answer_by, after_by}
use Rattle.straight_runs.proofs.run.straight_run.Given as given
use Rattle.straight_runs.proofs.run.straight_run.Goals as goal

laws_of : (g : given.Over) (k : g.row.K.Denot) → Laws (g.K.Kind.kind k)
laws_of g k = record { closed = g.met.K.Kind.closed k; assoc = g.met.K.Kind.assoc k }

pub returns-then-not-is_native : goal.returns-then-not-is_native
returns-then-not-is_native g c =
    let m = g.K.Kind.kind c.args.kind.now in
    let was = c.args.powers.now in
    let s = c.args.plan.now.steps.now in
    let f = fault_foreign m s c.args.base (length was) (sym c.if-not-is_native.ensures.value) in
    record {
      answer = answer_by m s c.args.base (length was) _ f;
      after = after_by m s c.args.base was _ f;
      powers = powers_add m (laws_of g c.args.kind.now);
    }

pub returns-then-powers-wanted : goal.returns-then-powers-wanted
returns-then-powers-wanted g c =
    let m = g.K.Kind.kind c.args.kind.now in
    let was = c.args.powers.now in
    let s = c.steps-steps.result.now in
    let f = fault_short m s c.args.base (length was) (sym c.if-not-is_native.ensures.value) c.if-powers-wanted.true in
    simp (← c.steps-steps.ensures.steps)
    (record {
      answer = answer_by m s c.args.base (length was) _ f;
      after = after_by m s c.args.base was _ f;
      powers = powers_add m (laws_of g c.args.kind.now);
    })

pub loop-i-init : goal.loop-i-init
loop-i-init g c = holds_base (g.K.Kind.kind c.args.kind.now) c.steps-steps.result.now c.args.base c.args.powers.now (omega arith)

pub unwrap-requires : goal.unwrap-requires
unwrap-requires g c =
    let k = c.args.kind.now in
    let m = g.K.Kind.kind k in
    let s = c.steps-steps.result.now in
    let x = c.args.base in
    let was = c.args.powers.now in
    let now = c.loop-i.powers in
    ap is_some (c.product.ensures.value
    ∙ turn_some m (laws_of g k) x (sym c.if-not-is_native.ensures.value) _ s c.steps-steps.ensures.chain (set was 0 x) now c.loop-i.i _ _
    c.loop-i-test.true c.loop-i.invariant (rw c.from.ensures at c.index-powers-from.is) (rw c.from-in-loop-i.ensures at c.index-powers-from-in-loop-i.is))

pub loop-i-preserved : goal.loop-i-preserved
loop-i-preserved g c =
    let k = c.args.kind.now in
    let m = g.K.Kind.kind k in
    let s = c.steps-steps.result.now in
    let x = c.args.base in
    let was = c.args.powers.now in
    let now = c.loop-i.powers in
    let i = c.loop-i.i in
    let v = c.unwrap.result in
    turn_next m (laws_of g k) x (sym c.if-not-is_native.ensures.value) _ s c.steps-steps.ensures.chain (set was 0 x) now i _ _ v
    c.loop-i-test.true (omega (arith, length-set was 0 x)) c.loop-i.invariant (rw c.from.ensures at c.index-powers-from.is) (rw c.from-in-loop-i.ensures at c.index-powers-from-in-loop-i.is) (sym c.product.ensures.value ∙ c.unwrap.ensures)

pub returns : goal.returns
returns g c =
    let k = c.args.kind.now in
    let m = g.K.Kind.kind k in
    let s = c.steps-steps.result.now in
    let x = c.args.base in
    let was = c.args.powers.now in
    let now = c.loop-i.powers in
    let end : c.loop-i.i ≡ length s = omega arith in
    let native = sym c.if-not-is_native.ensures.value in
    let none = fault_none m s x (length was) native c.if-powers-wanted.false in
    simp (← c.steps-steps.ensures.steps)
    (record {
      answer = answer_by m s x (length was) _ none;
      after = run_done m (laws_of g k) x native _ s c.steps-steps.ensures.chain was now c.loop-i.i end c.loop-i.invariant
          ∙ after_by m s x was _ none;
      powers = powers_add m (laws_of g k);
    })
