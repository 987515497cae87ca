use Rattle.std.proofs.Common.{◌≡◌, ℕ, ◌+◌, ◌*◌, ◌<◌, List, length, get_or, set, ◌∙◌, inl, inr, sym, arith, of_calls}
use Rattle.std.proofs.lemmas.List.{get_or_default, get_or-set_same, get_or-set_other, length-set}
use Rattle.std.proofs.lemmas.Bool.{cases_eq}
use Rattle.polynomials.proofs.rows.row.Goals as goal

pub loop-h-preserved : goal.loop-h-preserved
loop-h-preserved g c =
    let h : ℕ = c.loop-h.h in
    let row : List g.row.T.Denot = c.loop-h.row in
    let d : g.row.T.Denot = c.args.none in
    let one : List g.row.T.Denot = set row (2 * h) c.twice-even.result in
    let two : List g.row.T.Denot = set one (2 * h + 1) c.bitxor.result in
    let long : length row ≡ 16 = c.loop-h.invariant.0 in
    let long_one : length one ≡ 16 = length-set row (2 * h) c.twice-even.result ∙ long in
    let kept : (m : ℕ) → m < 2 * h → get_or two m d ≡ get_or row m d =
    λ m l. get_or-set_other one (2 * h + 1) m c.bitxor.result d (omega arith) ∙ get_or-set_other row (2 * h) m c.twice-even.result d (omega arith) in
    let even : get_or two (2 * h) d ≡ c.twice-even.result =
    get_or-set_other one (2 * h + 1) (2 * h) c.bitxor.result d (omega arith) ∙ get_or-set_same row (2 * h) c.twice-even.result d (omega arith) in
    let odd : get_or two (2 * h + 1) d ≡ c.bitxor.result = get_or-set_same one (2 * h + 1) c.bitxor.result d (omega arith) in
    let at : get_or row h c.index-row-h.result ≡ get_or row h d = get_or_default row h _ d (omega arith) in
    let doubled : goal.F-post g c.args.twice (get_or row h d) c.twice-even.result = rw (sym at) (search of_calls) in
    let next = c.requires.further _ _ _ (c.loop-h.invariant.4 h (omega arith, omega arith)) doubled c.bitxor.ensures in (
      length-set one (2 * h + 1) c.bitxor.result ∙ long_one,
      kept 0 (omega arith) ∙ c.loop-h.invariant.1,
      kept 1 (omega arith) ∙ c.loop-h.invariant.2,
      λ j b. elim (cases_eq j h) [
        | inl same ↦ rw (same, kept h (omega arith), even, odd) (doubled, c.bitxor.ensures)
        | inr other ↦ rw (kept j (omega arith), kept (2 * j) (omega arith), kept (2 * j + 1) (omega arith)) (c.loop-h.invariant.3 j (b.0, omega arith))
      ],
      λ j b. elim (cases_eq j (2 * h)) [
        | inl same ↦ rw (same, even) next.0
        | inr other ↦ elim (cases_eq j (2 * h + 1)) [
          | inl last ↦ rw (last, odd) next.1
          | inr low ↦ rw (kept j (omega arith)) (c.loop-h.invariant.4 j (b.0, omega arith))
        ]
      ],
    )
