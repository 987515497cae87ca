use Rattle.std.proofs.Common.{◌≡◌, ℕ, suc, ◌*◌, ◌%◌, ◌^◌, ◌<◌, sym, arith, pow_mono}
use Rattle.polynomial_ring.proofs.Remainders.{reduce_small, reduce_large}
use Rattle.plain_numbers.proofs.rule.shifted.Goals as goal

-- twice a number below so high a power fits, and so does that power
doubled : (n x : ℕ) → n < 64 → x < 2 ^ n → x * 2 % 2 ^ 64 ≡ x * 2
doubled n x h k = omega (arith, pow_mono {i = suc n} {j = 64} h)

limited : (n : ℕ) → n < 64 → 1 * 2 ^ n % 2 ^ 64 ≡ 2 ^ n
limited n h = omega (arith, pow_mono {i = suc n} {j = 64} h)

pub returns-then-y-degree : goal.returns-then-y-degree
returns-then-y-degree c two is small =
    let k : c.args.x < 2 ^ c.args.degree = rw is small in
    let e = doubled c.args.degree c.args.x c.requires k in
    let l = limited c.args.degree c.requires in
    rw e (rw (← is) (sym (reduce_small c.args.degree c.args.f (c.args.x * 2) (omega arith))))

pub returns-else-y-degree : goal.returns-else-y-degree
returns-else-y-degree c two is small =
    let k : c.args.x < 2 ^ c.args.degree = rw is small in
    let e = doubled c.args.degree c.args.x c.requires k in
    let l = limited c.args.degree c.requires in
    rw e (rw (← is) (sym (reduce_large c.args.degree c.args.f (c.args.x * 2) (omega arith))))
