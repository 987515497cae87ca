use Rattle.std.proofs.Common.{◌≡◌, ℕ, ◌+◌, ◌-◌, List, ◌++◌, length, take, drop, replicate, None, Ok, Err, Option, Result, refl, sym, ap, ◌∙◌, arith}
use native.Mathlib.Nat.{sub-zero}
use Rattle.refusals.specs.declared.refusal.Refusal.{Refusal}
use Rattle.refusals.specs.Faults.{answer}
use Rattle.refusals.proofs.Firsts.{verdict_none}
use Rattle.plans.specs.declared.step.Step.{Step}
use Rattle.plans.proofs.Admitted.{chain_of_lem}
use Rattle.placing.specs.Supply.{supplied_cells}
use Rattle.placing.proofs.Supply.{front_supplied}
use Rattle.kinds.specs.Powers.{power}
use Rattle.kinds.proofs.Powers.{Laws}
use Rattle.run_laws.specs.Runs.{run_fault}
use Rattle.run_laws.proofs.Passed.{load_passes, begun, handed, ended, success}
use Rattle.runs.specs.declared.raised.Raised.{Raised}
use Rattle.runs.proofs.running.run.Given as given
use Rattle.runs.proofs.running.run.Goals as goal

-- a run that was not refused answers the power
answered : {V : Type 0} (f : Option Refusal) (v w : V) → f ≡ None → v ≡ w
    → ◌≡◌ {A = Result (Raised V) Refusal} (Ok (record { value = v })) (answer f (record { value = w }))
answered {V} f v w e h =
    let given : V → Result (Raised V) Refusal = λ z. Ok (record { value = z }) in
    ap given h ∙ sym (ap (λ (z : Option Refusal). answer {X = Raised V} z (record { value = w })) e)

-- no refusal is an answer
refused_is_answer : {V X : Type 0} (e : Refusal) (v : V) → ◌≡◌ {A = Result V Refusal} (Err e) (Ok v) → X
refused_is_answer e v h = absurd (let z : ◌≡◌ {A = ℕ} 0 1 = cc in omega arith)

laws_of : (g : given.Over) (u : g.row.U.Denot) → Laws (g.U.Kind.kind u)
laws_of g u = record { closed = g.met.U.Kind.closed u; assoc = g.met.U.Kind.assoc u }

-- the part of the table that is handed on has the supplied cells
supplied_by : (steps : List Step) (table : List ℕ) (k : ℕ) → k ≡ length steps → table ≡ supplied_cells steps ++ drop (length steps + 1) (replicate 129 0)
    → take (k + 1 - 0) table ≡ supplied_cells steps
supplied_by steps table k e h = simp (sub-zero, e) (front_supplied steps table (drop (length steps + 1) (replicate 129 0)) h)

pub returns-in_err-load : goal.returns-in_err-load
returns-in_err-load g c =
    let u = c.args.unit.now in
    let p = c.args.plan.now in
    let told = c.in_ok-check_run.ensures in
    absurd (load_passes (g.U.Kind.kind u) (g.U.Unit.state u) p.steps.now c.args.base p.exponent (take (c.len.result + 1 - 0) c.check_run.new.places)
    (chain_of_lem p) (supplied_by p.steps.now c.check_run.new.places c.len.result c.len.ensures.count told.named) (verdict_none (run_fault (g.U.Kind.kind u) (g.U.Unit.state u) p.steps.now c.args.base) told.answer)
    c.in_err-load.field-0.0 c.in_err-load.ensures.value)

pub multiply_out-requires : goal.multiply_out-requires
multiply_out-requires g c =
    let u = c.args.unit.now in
    let p = c.args.plan.now in
    let told = c.in_ok-check_run.ensures in
    begun (g.U.Kind.kind u) (g.U.Unit.state u) p.steps.now c.args.base p.exponent (take (c.len.result + 1 - 0) c.check_run.new.places)
    (chain_of_lem p) (supplied_by p.steps.now c.check_run.new.places c.len.result c.len.ensures.count told.named) (verdict_none (run_fault (g.U.Kind.kind u) (g.U.Unit.state u) p.steps.now c.args.base) told.answer)
    (g.U.Kind.kind c.load.new.self) (g.U.Unit.state c.load.new.self) p.steps.now
    c.load.ensures.same c.load.ensures.after refl

pub returns-in_err-value : goal.returns-in_err-value
returns-in_err-value g c =
    let u = c.args.unit.now in
    let p = c.args.plan.now in
    let told = c.in_ok-check_run.ensures in
    refused_is_answer c.in_err-value.field-0.0 (power (g.U.Kind.kind u) c.args.base p.exponent)
    (handed (g.U.Kind.kind u) (g.U.Unit.state u) p.steps.now c.args.base p.exponent (take (c.len.result + 1 - 0) c.check_run.new.places)
    (chain_of_lem p) (supplied_by p.steps.now c.check_run.new.places c.len.result c.len.ensures.count told.named) (verdict_none (run_fault (g.U.Kind.kind u) (g.U.Unit.state u) p.steps.now c.args.base) told.answer)
    (g.U.Kind.kind c.load.new.self) (g.U.Unit.state c.load.new.self) p.steps.now
    c.load.ensures.same c.load.ensures.after refl (Err c.in_err-value.field-0.0) c.in_err-value.ensures.value)

pub returns : goal.returns
returns g c =
    let u = c.args.unit.now in
    let m = g.U.Kind.kind u in
    let s = g.U.Unit.state u in
    let p = c.args.plan.now in
    let x = c.args.base in
    let told = c.in_ok-check_run.ensures in
    let places : List ℕ = take (c.len.result + 1 - 0) c.check_run.new.places in
    let on : places ≡ supplied_cells p.steps.now = supplied_by p.steps.now c.check_run.new.places c.len.result c.len.ensures.count told.named in
    let fine : run_fault m s p.steps.now x ≡ None = verdict_none (run_fault (g.U.Kind.kind u) (g.U.Unit.state u) p.steps.now c.args.base) told.answer in
    let ends = c.in_ok-value.ensures in
    let out : Ok c.in_ok-value.value ≡ Ok (power m x p.exponent) =
    handed m s p.steps.now x p.exponent places (chain_of_lem p) on fine (g.U.Kind.kind c.load.new.self) (g.U.Unit.state c.load.new.self) p.steps.now
    c.load.ensures.same c.load.ensures.after refl (Ok c.in_ok-value.value) ends.value in
    let value : c.in_ok-value.value ≡ power m x p.exponent = cc in
    record {
      answer = answered (run_fault m s p.steps.now x) c.in_ok-value.value (power m x p.exponent) fine value;
      after = success m s p.steps.now x p.exponent places (chain_of_lem p) on fine (laws_of g u) c.in_ok-value.value (g.U.Unit.state c.multiply_out.new.unit) value
          (ended m s p.steps.now x p.exponent places (chain_of_lem p) on fine (g.U.Kind.kind c.load.new.self) (g.U.Unit.state c.load.new.self) p.steps.now
          c.load.ensures.same c.load.ensures.after refl (g.U.Unit.state c.multiply_out.new.unit) ends.after);
      refused = tt;
      same = ends.same ∙ c.load.ensures.same;
    }
