use Rattle.std.proofs.Common.{◌≡◌, ◌+◌, ◌-◌, ◌<◌, ◌≤◌, sym, ◌∙◌, arith}
use Rattle.digit_plans.proofs.Counting.{count_turn, count_done}
use Rattle.digit_plans.proofs.parts.write_list.Goals as goal

pub loop-value-preserved : goal.loop-value-preserved
loop-value-preserved c =
    let g = c.loop-value.invariant in
    let len = c.loop-value.steps.len in
    let e = c.write_value.ensures in
    let more : len < c.args.last - 1 = omega (arith, g.1, c.loop-value-test.true) in
    let number : c.loop-value.value - 1 ≡ len = omega (arith, g.1) in
    let sum : c.loop-value.value + 1 ≡ len + 2 = omega (arith, g.1) in (
      e.same_table ∙ g.0,
      omega (arith, e.written.len, g.1),
      rw (e.written.table, e.written.len, number, sum) (sym (count_turn _ _ _ more) ∙ g.2),
    )

pub returns-clause-after : goal.returns-clause-after
returns-clause-after c =
    let g = c.loop-value.invariant in
    let done : c.args.last - 1 ≤ c.loop-value.steps.len = omega (arith, g.1, c.loop-value-test.false) in
    sym (count_done _ _ _ done) ∙ g.2
