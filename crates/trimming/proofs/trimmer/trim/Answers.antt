use Rattle.std.proofs.Common.{◌≡◌, ℕ, ◌<◌, List, length, sym, refl, ap, ◌∙◌, subst, arith}
use Rattle.plans.specs.declared.step.Step.{Step}
use Rattle.plans.specs.Chain.{step_at, Chain}
use Rattle.trimming.specs.Needed.{needed_of}
use Rattle.trimming.specs.Trim.{rank}
use Rattle.trimming.proofs.Needing.{needed_law}
use Rattle.trimming.proofs.Marks.{writing_yes, writing_no, writing_all, rises, stays, length_of, trim_short, trim_fits}
use Rattle.trimming.proofs.Again.{trimmed_chain, trimmed_again}
use Rattle.trimming.proofs.trimmer.trim.Goals as goal
use Rattle.trimming.proofs.trimmer.trim.Goals.{then-at-numbers, else-at-numbers}

pub returns-then-table-len : goal.returns-then-table-len
returns-then-table-len c =
    let s : List Step = c.args.plan.now.steps.now in
    let same = c.steps-steps.ensures.steps in
    let len = length_of c.as_slice-numbers.result.now (needed_of s) s _ _ (rw (← c.as_slice-numbers.ensures.value) at c.new_numbers-all.ensures.numbered) same c.from-len.ensures in
    let k = subst (Chain c.args.plan.now.exponent) same c.steps-steps.ensures.chain in
    record { answer = trim_short s (length c.args.table.now) c.from-len.result len c.if-table-len.true; after = refl; needed = needed_law s k.cites; chain = tt; again = trimmed_again _ _ k }

pub bounds-table-from : goal.bounds-table-from
bounds-table-from c =
    let s : List Step = c.args.plan.now.steps.now in
    let same = c.steps-steps.ensures.steps in
    let len = length_of c.as_slice-numbers.result.now (needed_of s) s _ _ (rw (← c.as_slice-numbers.ensures.value) at c.new_numbers-all.ensures.numbered) same c.from-len.ensures in
    let h : c.loop-i.i < length s = omega (arith, ap length same) in
    let n = (rw (← c.as_slice-numbers.ensures.value) at c.new_numbers-all.ensures.numbered) in
    let r = rises c.as_slice-numbers.result.now (needed_of s) s n c.loop-i.i h c.if-at-numbers.true in
    omega (arith, n c.loop-i.i (omega arith), c.from-then-at-numbers-2.ensures)

pub loop-i-preserved : goal.loop-i-preserved
loop-i-preserved c =
    let s : List Step = c.args.plan.now.steps.now in
    let kept : List ℕ = needed_of s in
    let i : ℕ = c.loop-i.i in
    let same = c.steps-steps.ensures.steps in
    let h : i < length s = omega (arith, ap length same) in
    let n = (rw (← c.as_slice-numbers.ensures.value) at c.new_numbers-all.ensures.numbered) in
    let x : step_at c.steps-steps.result.now i ≡ step_at s i = ap (λ (y : List Step). step_at y i) same in
    let len = length_of c.as_slice-numbers.result.now kept s _ _ n same c.from-len.ensures in
    let q = c.args.plan.now.cites i h in
    elim c.if-at-numbers.branch [
      | then-at-numbers w ↦
          let r = rises c.as_slice-numbers.result.now kept s n i h w.if-at-numbers.true in
          let at = w.from-then-at-numbers-2.ensures ∙ n i (omega arith) in
          let room : w.from-then-at-numbers-2.result < length c.loop-i.table = omega (arith, at, r.1, len) in
          let j = n w.from.result (omega (arith, w.from.ensures, ap (λ (y : Step). y.j) x)) ∙ ap (rank kept) w.from.ensures in
          let k = n w.from-then-at-numbers.result (omega (arith, w.from-then-at-numbers.ensures, ap (λ (y : Step). y.k) x)) ∙ ap (rank kept) w.from-then-at-numbers.ensures in
          rw w.table-is (writing_yes kept s c.args.table.now c.loop-i.table i c.loop-i.invariant h (step_at c.steps-steps.result.now i) w.from-then-at-numbers-2.result _ _ x at r.0 room j k)
      | else-at-numbers w ↦
          let still = stays c.as_slice-numbers.result.now kept s n i h w.if-at-numbers.false in
          rw w.table-is (writing_no kept s c.args.table.now c.loop-i.table i c.loop-i.invariant h still)
    ]

pub returns : goal.returns
returns c =
    let s : List Step = c.args.plan.now.steps.now in
    let same = c.steps-steps.ensures.steps in
    let len = length_of c.as_slice-numbers.result.now (needed_of s) s _ _ (rw (← c.as_slice-numbers.ensures.value) at c.new_numbers-all.ensures.numbered) same c.from-len.ensures in
    let all : c.loop-i.i ≡ length s = omega (arith, ap length same) in
    let g = writing_all (needed_of s) s c.args.table.now c.loop-i.table c.loop-i.i c.from-len.result c.loop-i.invariant all len (omega arith) in
    let k = subst (Chain c.args.plan.now.exponent) same c.steps-steps.ensures.chain in
    record {
      answer = trim_fits s (length c.args.table.now) c.from-len.result len (omega arith);
      after = g.0;
      needed = needed_law s k.cites;
      chain = subst (Chain c.args.plan.now.exponent) (sym g.1) (trimmed_chain _ _ k);
      again = trimmed_again _ _ k;
    }
