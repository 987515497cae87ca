use Rattle.std.proofs.Common.{◌≡◌, ◌+◌, ◌*◌, ◌^◌, ◌∙◌, arith}
use Rattle.digit_plans.proofs.DigitLoop.{digit_none, digit_some}
use Rattle.digit_plans.proofs.parts.write_digit.Goals as goal

pub returns-then-digit-eq0 : goal.returns-then-digit-eq0
returns-then-digit-eq0 c =
    let d = c.write_doubles-shifted.ensures in
    let r = digit_none _ c.args.digit _ _ _ _ d.count d.after c.if-digit-eq0.true in
    record { same_table = d.same_table; count = r.0; after = r.1; number = d.number; value = omega (arith, d.value, c.if-digit-eq0.true) }

pub returns : goal.returns
returns c =
    let d = c.write_doubles-shifted.ensures in
    let e = c.write_value.ensures in
    let sum : c.write_doubles-shifted.result.value + c.args.digit ≡ c.args.from.value * 2 ^ c.args.width.bits + c.args.digit = omega (arith, d.value) in
    let r = digit_some _ c.args.digit _ _ _ _ d.count d.after c.if-digit-eq0.false _ sum in
    record { same_table = e.same_table ∙ d.same_table; count = e.written.len ∙ r.0; after = e.written.table ∙ rw (d.number, c.listed.ensures.number) r.1; number = e.number; value = e.value ∙ sum }
