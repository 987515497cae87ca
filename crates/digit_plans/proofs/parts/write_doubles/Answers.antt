use Rattle.std.proofs.Common.{ap, ◌∙◌, arith}
use Rattle.planning.specs.declared.steps.StepWriter.{StepWriter}
use Rattle.planning.proofs.Writing.{table_of, len_of, number_of, value_of}
use Rattle.digit_plans.proofs.Doubling.{doubling_low, doubling_high, doubling_done}
use Rattle.digit_plans.proofs.parts.write_doubles.Goals as goal
use Rattle.digit_plans.proofs.parts.write_doubles.Goals.{then-twice-m, else-twice-m}

pub loop-bit-preserved : goal.loop-bit-preserved
loop-bit-preserved c =
    let g = c.loop-bit.invariant in
    let more = c.loop-bit-test.true in
    let m = c.digit_count-m.ensures in
    elim c.if-twice-m.branch [
      | then-twice-m w ↦
          let e = w.listed-source.ensures in (
            ap (λ (x : StepWriter). x.table.ghost_name) w.steps-is ∙ g.0,
            doubling_low more g.1 _ _ _ _ (ap table_of w.steps-is) (ap len_of w.steps-is) (ap number_of w.source-is ∙ e.number) (ap value_of w.source-is ∙ e.value) (omega (arith, w.if-twice-m.true, m.is)),
          )
      | else-twice-m w ↦
          let e = w.write_value-source.ensures in (
            ap (λ (x : StepWriter). x.table.ghost_name) w.steps-is ∙ e.same_table ∙ g.0,
            doubling_high more g.1 _ _ _ _ (ap table_of w.steps-is ∙ e.written.table) (ap len_of w.steps-is ∙ e.written.len) (ap number_of w.source-is ∙ e.number ∙ e.written.len) (ap value_of w.source-is ∙ e.value) (omega (arith, w.if-twice-m.false, m.is)),
          )
    ]

pub returns : goal.returns
returns c =
    let g = c.loop-bit.invariant in
    let d = doubling_done c.args.width.low c.requires.positive c.loop-bit-test.false g.1 in
    record { same_table = g.0; count = d.count; within = omega (arith, g.1.most); after = d.after; number = d.number; value = d.made }
