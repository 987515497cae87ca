use Rattle.std.proofs.Common.{◌≡◌, ◌-◌, ◌<◌, ◌≢◌, length, take, drop, sym, ap, refl, ◌∙◌, ⊎_elim, arith, lit<, rules}
use Rattle.std.specs.List.{AllWithin, HoldsAt}
use Rattle.std.proofs.lemmas.Iterator.{IsFirst-from_position, YieldsList-from_slice}
use Rattle.std.proofs.lemmas.Slice.{between_to_end}
use Rattle.std.proofs.lemmas.List.{length-drop, length-take}
use borrow.Author.Tests.{tests}
use Rattle.fields.specs.Field.{numeral_value, field_value}
use Rattle.fields.proofs.Digits.{blanks_only, blanks_end, begins, leading, turn, stops, ends, room, below, narrow}
use Rattle.fields.proofs.Inverse.{write_field}
use Rattle.fields.proofs.parse.parse_field.Goals as goal
use Rattle.fields.proofs.parse.parse_field.Goals.{In_ok-start, After-loop-c}

-- the numeral stands after the blanks
numeral_at : (c : In_ok-start) → (0 < length (take (length c.args.b.now - c.in_ok-start.start) (drop c.in_ok-start.start c.args.b.now))) × (field_value c.args.b.now ≡ numeral_value (take (length c.args.b.now - c.in_ok-start.start) (drop c.in_ok-start.start c.args.b.now)))
numeral_at c =
    let f : (c.in_ok-start.start < length c.args.b.now) × HoldsAt (λ x. x ≢ 32) c.args.b.now c.in_ok-start.start × AllWithin (λ x. x ≡ 32) c.args.b.now 0 c.in_ok-start.start =
    IsFirst-from_position _ _ _ (λ x. x ≢ 32) (λ x. x ≡ 32) c.in_ok-start.ensures.ran (YieldsList-from_slice c.args.b.now cc) (λ x q k. search (rules, tests)) (λ x q k. search (rules, tests)) in
    let p : c.in_ok-start.start < length c.args.b.now = f.0 in
    (simp (length-take, length-drop) (omega arith), narrow c.args.b.now (omega arith) ∙ ap numeral_value (blanks_end c.args.b.now c.in_ok-start.start f.0 (f.1 0) f.2 ∙ sym (between_to_end c.args.b.now c.in_ok-start.start (length c.args.b.now) (omega arith))))

pub returns-in_err-start-clause-value : goal.returns-in_err-start-clause-value
returns-in_err-start-clause-value c =
    let f : AllWithin (λ x. x ≡ 32) c.args.b.now 0 (length c.args.b.now) =
    IsFirst-from_position _ _ _ (λ x. x ≢ 32) (λ x. x ≡ 32) c.in_err-start.ensures.ran (YieldsList-from_slice c.args.b.now cc) (λ x q k. search (rules, tests)) (λ x q k. search (rules, tests)) in
    c.from_residual.ensures ∙ sym (narrow c.args.b.now (omega arith) ∙ ap numeral_value (blanks_only c.args.b.now f))

pub returns-then-numeral-gt1-clause-value : goal.returns-then-numeral-gt1-clause-value
returns-then-numeral-gt1-clause-value c =
    let e = numeral_at (goal.at.returns-then-numeral-gt1-clause-value c).In_ok-start in
    sym (e.1 ∙ leading _ c.if-numeral-eq48.true c.if-numeral-gt1.true)

pub loop-c-init : goal.loop-c-init
loop-c-init c =
    let e = numeral_at (goal.at.loop-c-init c).In_ok-start in
    record {
      narrow = simp (length-take, length-drop) (omega arith);
      bound = lit< tt;
      so_far = e.1 ∙ begins _ e.0 (λ z. ⊎_elim (λ b. omega arith) (λ b. omega arith) c.else-numeral-eq48.either);
    }

pub overflow_mul-v : goal.overflow_mul-v
overflow_mul-v c = omega (arith, room c.loop-c.v c.loop-c.c-index c.loop-c.invariant.bound, below c.loop-c.c-index (omega arith))

pub overflow_add-v : goal.overflow_add-v
overflow_add-v c = omega (arith, room c.loop-c.v c.loop-c.c-index c.loop-c.invariant.bound, below c.loop-c.c-index (omega arith))

pub returns : goal.returns
returns c =
    let e = c.loop-c.invariant.so_far ∙ ends _ c.loop-c.v c.loop-c.c-index (omega arith) in
    record { value = sym e; back = (write_field c.args.b.now c.loop-c.v e).0 }
