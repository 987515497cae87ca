-- The rule of the method from the highest bit down. Assumes nothing.
use Rattle.std.proofs.Common.{◌≡◌, ℕ, zero, suc, ◌+◌, ◌*◌, ◌/◌, ◌%◌, ◌^◌, ◌<◌, ◌≤◌, List, [], ◌∷◌, ◌++◌, length, sym, ap, ◌∙◌, ⊎_elim, div-one, add-one, one-add, arith, shr-shr}
use Rattle.std.proofs.lemmas.Bool.{cases_eq}
use Rattle.plans.specs.declared.step.Step.{Step}
use Rattle.bits.specs.Bits.{top, bit_at}
use Rattle.planning.specs.Planning.{step}
use Rattle.bits.proofs.Tops.{top_is}
use Rattle.planning.proofs.Powers.{halves, top_one, top_shifted}
use Rattle.binary_plans.specs.LeftToRight.{left_from, left_to_right, LeftToRightRule}
use Rattle.binary_plans.proofs.BothPlans.{bit_small}
use Rattle.binary_plans.proofs.LeftPlans.{left_one, left_none}

-- n is half of m, so that m has the bits of n one place up, and one more
module _ (m n : ℕ) (half : m / 2 ≡ n) where
  bit_up : (b : ℕ) → bit_at m (suc b) ≡ bit_at n b
  bit_up b = ap (λ (x : ℕ). m / 2 ^ x % 2) (sym (one-add b)) ∙ sym (ap (λ (x : ℕ). x % 2) (shr-shr m 1 b)) ∙ ap (λ (x : ℕ). x / 2 ^ b % 2) half

  -- the steps for the bits of m are those for the bits of n, and then those for bit 0, from the value n
  left_split : (b at v r : ℕ) → v ≡ n / 2 ^ b → r ≡ at + length (left_from n b at v) → left_from m (suc b) at v ≡ left_from n b at v ++ left_from m 1 r n
  left_split zero at v r q e =
      let a : at ≡ r = omega arith in
      let w : v ≡ n = q ∙ div-one n in
      ap (λ (x : ℕ). left_from m 1 x v) a ∙ ap (left_from m 1 r) w
  left_split (suc b) at v r q e =
      let hv = halves n b in
      let up = bit_up b in
      let x : Step = step at at (v + v) in
      ⊎_elim
      (λ (t : bit_at n b ≡ 1).
      let y : Step = step (at + 1) 0 (v + v + 1) in
      let o = left_one n b at v t in
      let i = left_split b (at + 1 + 1) (v + v + 1) r (omega arith) (omega (arith, ap length o)) in
      left_one m (suc b) at v (omega arith) ∙ ap (λ (s : List Step). x ∷ y ∷ s) i ∙ sym (ap (λ (s : List Step). s ++ left_from m 1 r n) o))
      (λ (t : bit_at n b ≡ 1 → ⊥).
      let o = left_none n b at v t in
      let i = left_split b (at + 1) (v + v) r (omega (arith, bit_small n b)) (omega (arith, ap length o)) in
      left_none m (suc b) at v (λ (z : bit_at m (suc b) ≡ 1). t (omega arith)) ∙ ap (λ (s : List Step). x ∷ s) i ∙ sym (ap (λ (s : List Step). s ++ left_from m 1 r n) o))
      (cases_eq (bit_at n b) 1)

  left_half : (r : ℕ) → 1 ≤ n → m < 2 ^ 63 → r ≡ length (left_to_right n) → left_to_right m ≡ left_to_right n ++ left_from m 1 r n
  left_half r l h e =
      let t : top m ≡ suc (top n) = top_shifted 1 half l h ∙ add-one (top n) in
      ap (λ (x : ℕ). left_from m x 0 1) t ∙ left_split (top n) 0 1 r (sym (top_one n l (omega arith))) (omega arith)

pub left_to_right_rule : LeftToRightRule
left_to_right_rule =
    record {
      one = ap (λ (x : ℕ). left_from 1 x 0 1) (top_is 0 1 (omega arith) (omega arith));
      even = λ n r l h e.
          let m : ℕ = 2 * n in
          let o = left_none m 0 r n (λ (z : bit_at m 0 ≡ 1). omega (arith, div-one m)) in
          let v : n + n ≡ 2 * n = omega arith in
          left_half m n (omega arith) r l (omega arith) e ∙ ap (λ (s : List Step). left_to_right n ++ s) (o ∙ ap (λ (x : ℕ). step r r x ∷ []) v);
      odd = λ n r l h e.
          let m : ℕ = 2 * n + 1 in
          let o = left_one m 0 r n (omega (arith, div-one m)) in
          let v : n + n ≡ 2 * n = omega arith in
          left_half m n (omega arith) r l (omega arith) e ∙ ap (λ (s : List Step). left_to_right n ++ s) (o ∙ ap (λ (x : ℕ). step r r x ∷ step (r + 1) 0 (x + 1) ∷ []) v);
    }
