use Rattle.std.proofs.Common.{◌≡◌, ℕ, ◌+◌, ◌-◌, ◌<◌, ◌≢◌, length, arith, ap, sym, ◌∙◌, below_more, get_or-set_other, get_or-set_same, length-set}
use Rattle.kinds.specs.Powers.{power}
use Rattle.plain_numbers.specs.Plain.{limit, times, numbers}
use Rattle.plain_numbers.proofs.Powers.{power_native, power_next, power_first}
use Rattle.plain_numbers.proofs.rule.Rule.powers.Goals as goal
use Rattle.plain_numbers.proofs.rule.Rule.powers.Goals.{then-n-gt1, else-n-gt1}

pub loop-n-preserved : goal.loop-n-preserved
loop-n-preserved g c =
    let lt : c.loop-n.n < length c.loop-n.power-items = omega arith in (
      simp length-set c.loop-n.invariant.0,
      λ is h.
          let i = c.loop-n.invariant.1 is h in
          let r = c.args.self in
          let b : ℕ = c.args.base in
          let n : ℕ = c.loop-n.n in
          let native : c.loop-n.last < limit r = rw i.0 (power_native r b (n - 1) is h) in
          let now : c.if-n-gt1.last ≡ power (numbers r) b n =
          elim c.if-n-gt1.branch [
            | then-n-gt1 w ↦ w.last-is ∙ w.product-last.ensures is native h ∙ ap (λ (x : ℕ). times r x b) i.0 ∙ power_next r b n (omega arith)
            | else-n-gt1 w ↦ w.last-is ∙ i.0 ∙ power_first r b (n - 1) (omega arith) ∙ sym (power_first r b n (omega arith))
          ] in
          let e : n + 1 - 1 ≡ n = omega arith in
          (rw e now, below_more _ _ (λ k j. let ne : k ≢ n = omega arith in rw get_or-set_other (i.1 k j)) (rw get_or-set_same now)),
    )
