use Rattle.std.proofs.Common.{◌≡◌, ◌+◌, length, ap, ◌∙◌, arith}
use Rattle.plans.specs.Chain.{no_step}
use Rattle.sheets.specs.Lines.{line_bytes}
use Rattle.sheets.proofs.Writes.{wrote_more}
use Rattle.sheets.proofs.Reread.{length_line, chain_writable, sheet_done}
use Rattle.sheets.proofs.write.write_sheet.Goals as goal

pub loop-i-preserved : goal.loop-i-preserved
loop-i-preserved c =
    let e = c.copy_from_slice.ensures.after ∙ c.write_line.ensures in
    let long : length c.copy_from_slice.new.self ≡ line_bytes = ap length e ∙ length_line (c.loop-i.i + 1) _ (omega (arith, c.steps-steps.ensures.chain.short)) (chain_writable _ _ c.steps-steps.ensures.chain c.loop-i.i c.loop-i-test.true) in
    wrote_more c.steps-steps.result.now c.loop-i.i c.args.out.now c.loop-i.out c.copy_from_slice.new.self no_step c.loop-i-test.true c.loop-i.invariant.0 c.loop-i.invariant.1 e long

pub returns : goal.returns
returns c =
    let d = sheet_done _ c.loop-i.i c.steps-steps.result.now _ c.args.out.now c.loop-i.out c.steps-steps.ensures.steps c.steps-steps.ensures.chain (omega arith) c.if-size-out.false c.loop-i.invariant.1 in
    record { answer = d.0; after = d.1; back = d.2 }
