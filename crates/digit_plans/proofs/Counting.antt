-- The list 1, 2, 3 and on: as the loop writes it, its length, and its values. Assumes nothing.
use Rattle.std.proofs.Common.{◌≡◌, ℕ, zero, suc, ◌+◌, ◌-◌, ◌<◌, ◌≤◌, List, [], ◌∷◌, ◌++◌, length, set, sym, refl, ap, ◌∙◌, subst, ⊎_elim, append_assoc, append-nil, add-one, arith}
use lib.Seq.{sets}
use Rattle.std.proofs.lemmas.Bool.{cases_eq}
use Rattle.plans.specs.declared.step.Step.{Step}
use Rattle.plans.specs.Chain.{value_at}
use Rattle.planning.specs.Planning.{step}
use Rattle.planning.proofs.Pushing.{Grown, grown_none, push}
use Rattle.digit_plans.specs.Digits.{count_from}

count_here : (left at : ℕ) → count_from (suc left) at ≡ step at 0 (at + 2) ∷ count_from left (at + 1)
unfolding count_from
count_here left at = refl

count_end : (at : ℕ) → count_from 0 at ≡ []
unfolding count_from
count_end at = refl

-- one more step of the list is written
pub count_turn : (t : List Step) (len i : ℕ) → i < len → sets t i (count_from (len - i) i) ≡ sets (set t i (step i 0 (i + 2))) (i + 1) (count_from (len - (i + 1)) (i + 1))
count_turn t len i h =
    let e : len - i ≡ suc (len - (i + 1)) = omega arith in
    ap (λ (x : ℕ). sets t i (count_from x i)) e
    ∙ ap (sets t i) (count_here (len - (i + 1)) i)
    ∙ ap (λ (x : ℕ). sets (set t i (step i 0 (i + 2))) x (count_from (len - (i + 1)) (i + 1))) (sym (add-one i))

pub count_done : (t : List Step) (len i : ℕ) → len ≤ i → sets t i (count_from (len - i) i) ≡ t
count_done t len i h =
    let e : len - i ≡ 0 = omega arith in
    ap (λ (x : ℕ). sets t i (count_from x i)) e ∙ ap (sets t i) (count_end i)

pub count_length : (left at : ℕ) → length (count_from left at) ≡ left
count_length zero at = ap length (count_end at)
count_length (suc left) at = omega (arith, ap length (count_here left at), count_length left (at + 1))

-- `at` steps stand, and value number e is e + 1
pub record Counted (n : ℕ) (p : List Step) (at : ℕ) : Type 0 where
  pub grown : Grown n p at
  pub list : (e : ℕ) → e ≤ at → value_at p e ≡ e + 1

counted_none : (n : ℕ) → Counted n [] 0
counted_none n = record { grown = grown_none n; list = λ e h. let z : e ≡ 0 = omega arith in ap (λ (x : ℕ). value_at [] x) z ∙ (let y : 1 ≡ e + 1 = omega arith in y) }

counted_more : (n left at : ℕ) (p : List Step) → Counted n p at → at + left < n → Counted n (p ++ count_from left at) (at + left)
counted_more n zero at p c h =
    let e : p ≡ p ++ count_from 0 at = sym (append-nil p) ∙ ap (λ (r : List Step). p ++ r) (sym (count_end at)) in
    let a : at ≡ at + 0 = omega arith in
    subst (λ (q : List Step). Counted n q (at + 0)) e (subst (Counted n p) a c)
counted_more n (suc left) at p c h =
    let x : Step = step at 0 (at + 2) in
    let q = push n p at at 0 (at + 2) c.grown (omega arith) (omega arith) (omega (arith, c.list at (omega arith), c.list 0 (omega arith))) (omega (arith, c.list at (omega arith))) (omega arith) in
    let d : Counted n (p ++ x ∷ []) (at + 1) =
    record {
      grown = q.grown;
      list = λ e k. ⊎_elim
          (λ (l : e ≡ at + 1). ap (value_at (p ++ x ∷ [])) l ∙ q.here ∙ (let y : at + 2 ≡ e + 1 = omega arith in y))
          (λ (l : e ≡ at + 1 → ⊥). let b : e ≤ at = omega arith in q.kept e b ∙ c.list e b)
          (cases_eq e (at + 1));
    } in
    let r = counted_more n left (at + 1) (p ++ x ∷ []) d (omega arith) in
    let e : (p ++ x ∷ []) ++ count_from left (at + 1) ≡ p ++ count_from (suc left) at = append_assoc p (x ∷ []) (count_from left (at + 1)) ∙ ap (λ (r : List Step). p ++ r) (sym (count_here left at)) in
    let a : at + 1 + left ≡ at + suc left = omega arith in
    subst (λ (q : List Step). Counted n q (at + suc left)) e (subst (Counted n ((p ++ x ∷ []) ++ count_from left (at + 1))) a r)

pub counted_all : (n left : ℕ) → left < n → Counted n (count_from left 0) left
counted_all n left h =
    let a : 0 + left ≡ left = omega arith in
    subst (Counted n (count_from left 0)) a (counted_more n left 0 [] (counted_none n) (omega arith))
