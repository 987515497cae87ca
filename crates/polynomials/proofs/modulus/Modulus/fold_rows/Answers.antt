use Rattle.std.proofs.Common.{◌≡◌, ℕ, ◌+◌, ◌*◌, ◌^◌, ◌<◌, List, [], length, get_or, set, sym, refl, ap, ◌∙◌, subst, inl, inr, arith}
use lib.Bits.{bit_xor}
use Rattle.std.proofs.lemmas.List.{get_or-set_same, get_or-set_other, length-set}
use Rattle.std.proofs.lemmas.Bool.{cases_eq}
use Rattle.bits.specs.Bits.{top}
use Rattle.polynomial_ring.specs.Polynomials.{rem}
use Rattle.polynomial_ring.proofs.Remainders.{rem_lt}
use Rattle.polynomial_ring.proofs.Windows.{entry, unit_first, unit_next}
use Rattle.polynomials.proofs.modulus.Modulus.fold_rows.Goals as goal

pub loop-row-init : goal.loop-row-init
loop-row-init c =
    let f : ℕ = c.args.self.now.value in
    let e : top f ≡ top f + 0 = omega arith in
    (refl, ap (λ (x : ℕ). bit_xor x f) c.limit.ensures ∙ unit_first f (omega (arith, c.args.self.now.least)) ∙ ap (λ (x : ℕ). rem f (2 ^ x)) e, λ j h l m. absurd (omega arith))

native_of : (f x y : ℕ) → 0 < f → x ≡ rem f y → x < 2 ^ top f
native_of f x y pos e = subst (λ (z : ℕ). z < 2 ^ top f) (sym e) (rem_lt f pos y)

pub fold_row-requires : goal.fold_row-requires
fold_row-requires c = native_of c.args.self.now.value _ _ (omega (arith, c.args.self.now.least)) c.loop-row.invariant.1

pub shifted-unit-requires : goal.shifted-unit-requires
shifted-unit-requires c = native_of c.args.self.now.value _ _ (omega (arith, c.args.self.now.least)) (c.fold_row.ensures 8 (omega arith))

pub loop-row-preserved : goal.loop-row-preserved
loop-row-preserved c =
    let f : ℕ = c.args.self.now.value in
    let pos : 0 < f = omega (arith, c.args.self.now.least) in
    let k : ℕ = c.loop-row.row-index in
    let rows : List (List ℕ) = c.loop-row.row-items in
    let row : List ℕ = c.fold_row.result in
    let u : ℕ = c.loop-row.unit in
    let n : ℕ = top f + 4 * k in
    let e : n + 4 ≡ top f + 4 * (k + 1) = omega arith in
    let long : length rows ≡ 16 = c.loop-row.invariant.0 in (
      length-set rows k row ∙ long,
      unit_next f pos n u (get_or row 8 0) c.shifted-unit.result c.loop-row.invariant.1 (c.fold_row.ensures 8 (omega arith)) c.shifted-unit.ensures
          ∙ ap (λ (x : ℕ). rem f (2 ^ x)) e,
      λ j h l m. elim (cases_eq j k) [
        | inl same ↦
            ap (λ (x : ℕ). get_or (get_or (set rows k row) x []) h 0) same
            ∙ ap (λ (r : List ℕ). get_or r h 0) (get_or-set_same rows k row [] (omega arith))
            ∙ c.fold_row.ensures h m ∙ entry f pos n u h c.loop-row.invariant.1
            ∙ ap (λ (x : ℕ). rem f (h * 2 ^ (top f + 4 * x))) (sym same)
        | inr other ↦ ap (λ (r : List ℕ). get_or r h 0) (get_or-set_other rows k j row [] other) ∙ c.loop-row.invariant.2 j h (omega arith) m
      ],
    )

pub returns : goal.returns
returns c = λ k h l. c.loop-row.invariant.2 k h (omega (arith, l.0)) l.1
