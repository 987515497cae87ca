-- The plan from the highest bit down: its turns, its length, and that it is a chain. Assumes nothing.
use Rattle.std.proofs.Common.{◌≡◌, ℕ, zero, suc, ◌+◌, ◌-◌, ◌*◌, ◌/◌, ◌^◌, ◌<◌, ◌≤◌, true, false, eqb, List, [], ◌∷◌, ◌++◌, length, drop, set, sym, refl, ap, ◌∙◌, subst, ⊎_elim, div-one, arith}
use lib.Count.{ones, ones_step, ones-ones}
use lib.Pow.{shr_le}
use Rattle.std.proofs.lemmas.List.{length-set}
use Rattle.std.proofs.lemmas.Bool.{eq-eqb, ne_eqb, cases_eq}
use Rattle.plans.specs.declared.step.Step.{Step}
use Rattle.plans.specs.Chain.{value_at, Chain}
use Rattle.bits.specs.Bits.{top, bit_at}
use Rattle.planning.specs.Planning.{step}
use Rattle.planning.proofs.Filling.{Filled, filled_none, filled_more, filled_all}
use Rattle.planning.proofs.Powers.{halves}
use Rattle.planning.proofs.Pushing.{Grown, Ends, grown_none, push, ends_push, ends_here, chain_from_ends}
use Rattle.binary_plans.specs.LeftToRight.{left_from, left_to_right}
use Rattle.binary_plans.proofs.BothPlans.{bit_small, Highest}

-- a turn at a bit that is 1, and at one that is 0
pub left_one : (n b at v : ℕ) → bit_at n b ≡ 1 → left_from n (suc b) at v ≡ step at at (v + v) ∷ step (at + 1) 0 (v + v + 1) ∷ left_from n b (at + 1 + 1) (v + v + 1)
left_one n b at v e = let t : eqb (bit_at n b) 1 ≡ true = eq-eqb _ _ e in rw t refl

pub left_none : (n b at v : ℕ) → (bit_at n b ≡ 1 → ⊥) → left_from n (suc b) at v ≡ step at at (v + v) ∷ left_from n b (at + 1) (v + v)
left_none n b at v e = let t : eqb (bit_at n b) 1 ≡ false = ne_eqb _ _ e in rw t refl

-- a step for each bit, and one more for each one bit
left_length : (n b at v : ℕ) → length (left_from n b at v) + ones (n / 2 ^ b) ≡ b + ones n
left_length n zero at v = omega (arith, ap ones (div-one n))
left_length n (suc b) at v =
    let s = ones_step (n / 2 ^ b) in
    let d : n / 2 ^ b / 2 ≡ n / 2 ^ suc b = omega (arith, halves n b, bit_small n b) in
    let o = ap ones d in
    ⊎_elim
    (λ (e : bit_at n b ≡ 1). omega (arith, ap length (left_one n b at v e), left_length n b (at + 1 + 1) (v + v + 1)))
    (λ (e : bit_at n b ≡ 1 → ⊥). omega (arith, ap length (left_none n b at v e), left_length n b (at + 1) (v + v), bit_small n b))
    (cases_eq (bit_at n b) 1)

pub left_all_length : (n : ℕ) → n / 2 ^ top n ≡ 1 → length (left_to_right n) ≡ top n + ones n - 1
left_all_length n e =
    let o : ones (n / 2 ^ top n) ≡ ones 1 = ap ones e in
    let one : ones 1 ≡ 1 = ones-ones 1 in
    omega (arith, left_length n (top n) 0 1)

-- steps p stand, the last value being the bits of n from b on; with those for the other bits they end at n
left_ends : (n b at v : ℕ) (p : List Step) → Grown n p at → value_at p at ≡ v → 1 ≤ v → v ≡ n / 2 ^ b → Ends n (p ++ left_from n b at v)
left_ends n zero at v p g e l q = ends_here n p at g (e ∙ q ∙ div-one n)
left_ends n (suc b) at v p g e l q =
    let x : Step = step at at (v + v) in
    let p1 : List Step = p ++ x ∷ [] in
    let hv = halves n b in
    let le : n / 2 ^ b ≤ n = shr_le n b in
    let d = push n p at at at (v + v) g (omega arith) (omega arith) (omega arith) (omega arith) (omega arith) in
    ⊎_elim
    (λ (t : bit_at n b ≡ 1).
    let y : Step = step (at + 1) 0 (v + v + 1) in
    let a = push n p1 (at + 1) (at + 1) 0 (v + v + 1) d.grown (omega arith) (omega arith) (omega (arith, d.here)) (omega (arith, d.here)) (omega arith) in
    subst (λ (r : List Step). Ends n (p ++ r)) (sym (left_one n b at v t))
    (ends_push n p x _ (ends_push n p1 y _ (left_ends n b (at + 1 + 1) (v + v + 1) (p1 ++ y ∷ []) a.grown a.here (omega arith) (omega arith)))))
    (λ (t : bit_at n b ≡ 1 → ⊥).
    subst (λ (r : List Step). Ends n (p ++ r)) (sym (left_none n b at v t))
    (ends_push n p x _ (left_ends n b (at + 1) (v + v) p1 d.grown d.here (omega arith) (omega (arith, bit_small n b)))))
    (cases_eq (bit_at n b) 1)

pub left_all_chain : (n : ℕ) → 1 ≤ n → n < 2 ^ 63 → n / 2 ^ top n ≡ 1 → length (left_to_right n) ≤ 128 → Chain n (left_to_right n)
left_all_chain n a b e d = chain_from_ends n (left_to_right n) a b d (left_ends n (top n) 0 1 [] (grown_none n) refl (omega arith) (sym e))

-- What the loop keeps, where the bits below b are left.
pub record LeftLoop (n : ℕ) (was : List Step) (b : ℕ) (t : List Step) (at v : ℕ) : Type 0 where
  pub filled : Filled (left_to_right n) was t at (left_from n b at v)
  pub long : length t ≡ 128
  pub room : at + 2 * b ≤ 124
  pub value : v ≡ n / 2 ^ b

pub left_first : {n high : ℕ} {was : List Step} → length was ≡ 128 → Highest n high → LeftLoop n was high was 0 1
left_first {n} {high} {was} l h =
    record {
      filled = subst (λ (x : ℕ). Filled (left_to_right n) was was 0 (left_from n x 0 1)) h.is (filled_none (left_to_right n) was);
      long = l;
      room = omega (arith, h.small);
      value = sym (subst (λ (x : ℕ). n / 2 ^ x ≡ 1) h.is h.one);
    }

-- a turn of the loop, at a bit that is 0 and at one that is 1
module _ {n : ℕ} {was : List Step} {b : ℕ} {t : List Step} {at v : ℕ} (g : LeftLoop n was b t at v) (more : 0 < b) where
  down : b ≡ suc (b - 1)
  down = omega arith

  filled_here : (rest : List Step) → left_from n (suc (b - 1)) at v ≡ rest → Filled (left_to_right n) was t at rest
  filled_here rest e = subst (Filled (left_to_right n) was t at) (ap (λ (x : ℕ). left_from n x at v) down ∙ e) g.filled

  value_is : n / 2 ^ (b - 1) ≡ v + v + bit_at n (b - 1)
  value_is = omega (arith, halves n (b - 1), ap (λ (x : ℕ). n / 2 ^ x) down, g.value)

  pub left_turn_none : (bit_at n (b - 1) ≡ 1 → ⊥) → LeftLoop n was (b - 1) (set t at (step at at (v + v))) (at + 1) (v + v)
  left_turn_none e =
      record {
        filled = filled_more (left_to_right n) was t at _ _ (omega (arith, g.long, g.room)) (filled_here _ (left_none n (b - 1) at v e));
        long = omega (arith, g.long, length-set t at (step at at (v + v)));
        room = omega (arith, g.room);
        value = omega (arith, value_is, bit_small n (b - 1));
      }

  pub left_turn_one : bit_at n (b - 1) ≡ 1 → LeftLoop n was (b - 1) (set (set t at (step at at (v + v))) (at + 1) (step (at + 1) 0 (v + v + 1))) (at + 1 + 1) (v + v + 1)
  left_turn_one e =
      let x : Step = step at at (v + v) in
      let l = length-set t at x in
      record {
        filled =
            filled_more (left_to_right n) was (set t at x) (at + 1) _ _ (omega (arith, g.long, g.room))
            (filled_more (left_to_right n) was t at x _ (omega (arith, g.long, g.room)) (filled_here _ (left_one n (b - 1) at v e)));
        long = omega (arith, g.long, length-set (set t at x) (at + 1) (step (at + 1) 0 (v + v + 1)));
        room = omega (arith, g.room);
        value = omega (arith, value_is);
      }

-- after the last bit
pub left_done : {n : ℕ} {was : List Step} {b : ℕ} {t : List Step} {at v : ℕ} → LeftLoop n was b t at v → b ≡ 0 → (at ≡ length (left_to_right n)) × (t ≡ left_to_right n ++ drop (length (left_to_right n)) was)
left_done {n} {was} {b} {t} {at} {v} g z =
    let f = filled_all (left_to_right n) was t at (omega (arith, g.room, g.long)) (subst (λ (x : ℕ). Filled (left_to_right n) was t at (left_from n x at v)) z g.filled) in
    (f.0, f.1)
