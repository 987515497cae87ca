-- A table that is filled from its front with the steps of a plan.
use Rattle.std.proofs.Common.{◌≡◌, ℕ, suc, ◌+◌, ◌-◌, ◌<◌, ◌≤◌, List, [], ◌∷◌, ◌++◌, length, take, drop, set, sym, refl, ap, ◌∙◌, subst, append_assoc, append-nil, add-zero, add-one, arith, take-append-drop, length-take-le}
use lib.Seq.{sets}
use Rattle.std.proofs.lemmas.List.{length-set, take_more_set, drop-set-lt, drop-drop}
use Rattle.plans.specs.declared.step.Step.{Step}

-- The first `len` places of `now` hold the plan but for what is left of it; the others are as they were.
pub record Filled (plan was now : List Step) (len : ℕ) (rest : List Step) : Type 0 where
  pub front : take len now ++ rest ≡ plan
  pub back : drop len now ≡ drop len was

pub filled_none : (plan was : List Step) → Filled plan was was 0 plan
filled_none plan was = record { front = refl; back = refl }

pub filled_more : (plan was now : List Step) (len : ℕ) (x : Step) (rest : List Step) → len < length now → Filled plan was now len (x ∷ rest) → Filled plan was (set now len x) (len + 1) rest
filled_more plan was now len x rest h f =
    record {
      front = rw (take_more_set now len x h, append_assoc (take len now) (x ∷ []) rest) f.front;
      back = rw (drop-set-lt (len + 1) now len x (omega arith)) (sym (drop-drop 1 len now) ∙ ap (drop 1) f.back ∙ drop-drop 1 len was);
    }

-- where nothing is left, the table holds the plan and then what it held
pub filled_all : (plan was now : List Step) (len : ℕ) → len ≤ length now → Filled plan was now len [] → (len ≡ length plan) × (now ≡ plan ++ drop (length plan) was) × (take len now ≡ plan)
filled_all plan was now len h f =
    let t : take len now ≡ plan = sym (append-nil (take len now)) ∙ f.front in
    let n : len ≡ length plan = sym (length-take-le len now h) ∙ ap length t in
    (n, sym (take-append-drop len now) ∙ (rw (t, f.back, n) refl), t)

-- several steps at once
pub filled_many : (plan was now : List Step) (len : ℕ) (xs rest : List Step) → len + length xs ≤ length now → Filled plan was now len (xs ++ rest) → Filled plan was (sets now len xs) (len + length xs) rest
filled_many plan was now len [] rest h f = subst (λ (k : ℕ). Filled plan was now k rest) (sym (add-zero len)) f
filled_many plan was now len (x ∷ xs) rest h f =
    let l : len < length now = omega arith in
    let e : len + 1 ≡ suc len = add-one len in
    let g = subst (λ (k : ℕ). Filled plan was (set now len x) k (xs ++ rest)) e (filled_more plan was now len x (xs ++ rest) l f) in
    let k : suc len + length xs ≡ len + suc (length xs) = omega arith in
    subst (λ (y : ℕ). Filled plan was (sets (set now len x) (suc len) xs) y rest) k
    (filled_many plan was (set now len x) (suc len) xs rest (omega (arith, length-set now len x)) g)
