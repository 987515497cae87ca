use Rattle.std.proofs.Common.{◌≡◌, ◌*◌, ◌%◌, ◌^◌, ◌≤◌, arith, pow_mono}
use Rattle.std.proofs.lemmas.Nat.{one_shl}
use Rattle.digit_plans.proofs.widths.Width.digit_count.Goals as goal

pub returns : goal.returns
returns c =
    let w = c.args.self in
    let m : 1 * 2 ^ w.bits % 2 ^ 64 ≡ 2 ^ w.bits = one_shl w.bits 64 (omega (arith, w.high)) in
    let a : 2 ^ 1 ≤ 2 ^ w.bits = pow_mono w.low in
    let b : 2 ^ w.bits ≤ 2 ^ 5 = pow_mono w.high in
    record { is = m; low = omega arith; high = omega arith }
