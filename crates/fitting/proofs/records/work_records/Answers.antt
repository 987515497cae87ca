use Rattle.std.proofs.Common.{◌≡◌, ℕ, ◌+◌, ◌<◌, List, length, get_or, set, ap, ◌∙◌, arith, length-set}
use Rattle.units.specs.declared.record.Record.{Record}
use Rattle.run_laws.specs.Traces.{sums, one_in, sum_of}
use Rattle.fitting.proofs.Working.{no_record, sum_at, worked_one, worked_all}
use Rattle.fitting.proofs.records.work_records.Goals as goal

pub overflow_add-sum : goal.overflow_add-sum
overflow_add-sum c =
    let all : List Record = c.args.records.now in
    let whole : List ℕ = sums (one_in 32 c.args.start) all in
    let room : c.loop-i.i < length c.loop-i.out = omega (arith, c.loop-i.invariant.1, c.requires.few) in
    let at = sum_at all whole c.args.out.now c.loop-i.out c.loop-i.cells c.loop-i.i c.loop-i-test.true room c.loop-i.invariant.2 in
    omega (arith, at, c.requires.small c.loop-i.i, c.number_in.ensures.value, c.number_in-in-loop-i.ensures.value)

pub loop-i-preserved : goal.loop-i-preserved
loop-i-preserved c =
    let all : List Record = c.args.records.now in
    let i : ℕ = c.loop-i.i in
    let out : List ℕ = c.loop-i.out in
    let cells : List ℕ = c.loop-i.cells in
    let r : Record = get_or all i no_record in
    let whole : List ℕ = sums (one_in 32 c.args.start) all in
    let room : i < length out = omega (arith, c.loop-i.invariant.1, c.requires.few) in
    let one = worked_one all whole c.args.out.now out cells i c.loop-i-test.true room c.loop-i.invariant.2 in
    let sum : ℕ = c.number_in.result + c.number_in-in-loop-i.result in
    let sum_is : sum ≡ sum_of cells r =
    ap (λ (z : ℕ). z + c.number_in-in-loop-i.result) c.number_in.ensures.value ∙ ap (λ (z : ℕ). get_or cells r.a 0 + z) c.number_in-in-loop-i.ensures.value in
    let put : c.put_number-in-loop-i.new.cells ≡ set cells r.to (sum_of cells r) =
    c.put_number-in-loop-i.ensures.after ∙ ap (λ (z : ℕ). set cells r.to z) sum_is in (
      ap length put ∙ length-set cells r.to (sum_of cells r) ∙ c.loop-i.invariant.0,
      length-set out i sum ∙ c.loop-i.invariant.1,
      rw (put, sum_is) one,
    )

pub returns : goal.returns
returns c = record {
  after = worked_all c.args.records.now (sums (one_in 32 c.args.start) c.args.records.now) c.args.out.now c.loop-i.out c.loop-i.cells c.loop-i.i (omega arith) c.loop-i.invariant.2;
}
