-- The new numbers of kept values, and the kept steps. Assumes nothing.
use Rattle.std.proofs.Common.{◌≡◌, ℕ, zero, suc, ◌+◌, ◌-◌, ◌<◌, ◌≤◌, Bool, true, false, cond, List, [], ◌∷◌, length, drop, refl, ap, ◌∙◌, ⊎_elim, add-one, arith, drop-cons}
use lib.Seq.{drop-length}
use Rattle.std.proofs.lemmas.Bool.{cases_Bool}
use Rattle.plans.specs.declared.step.Step.{Step}
use Rattle.plans.specs.Chain.{no_step, step_at}
use Rattle.trimming.specs.Needed.{has}
use Rattle.trimming.specs.Trim.{rank, renumbered, kept_from, keep}

module _ (kept : List ℕ) where
  pub rank_next : (i : ℕ) → rank kept (i + 1) ≡ rank kept i + cond (has kept (i + 1)) 1 0
  rank_next i = rw (add-one i) refl

  pub rank_one : (i : ℕ) → has kept (i + 1) ≡ true → rank kept (i + 1) ≡ rank kept i + 1
  rank_one i e = rank_next i ∙ ap (λ (v : Bool). rank kept i + cond v 1 0) e

  pub rank_none : (i : ℕ) → has kept (i + 1) ≡ false → rank kept (i + 1) ≡ rank kept i
  rank_none i e = rank_next i ∙ ap (λ (v : Bool). rank kept i + cond v 1 0) e ∙ omega arith

  -- a step up by one or none
  rank_step : (i : ℕ) → (rank kept i ≤ rank kept (i + 1)) × (rank kept (i + 1) ≤ rank kept i + 1)
  rank_step i =
      ⊎_elim
      (λ (e : has kept (i + 1) ≡ true). let r = rank_one i e in (omega arith, omega arith))
      (λ (e : has kept (i + 1) ≡ false). let r = rank_none i e in (omega arith, omega arith))
      (cases_Bool (has kept (i + 1)))

  -- a value is kept exactly if its number is above that of the value before it
  pub rank_rises : (i : ℕ) → rank kept i < rank kept (i + 1) → has kept (i + 1) ≡ true
  rank_rises i h = ⊎_elim (λ (e : has kept (i + 1) ≡ true). e) (λ (e : has kept (i + 1) ≡ false). let r = rank_none i e in absurd (omega arith)) (cases_Bool (has kept (i + 1)))

  pub rank_stays : (i : ℕ) → rank kept (i + 1) ≤ rank kept i → has kept (i + 1) ≡ false
  rank_stays i h = ⊎_elim (λ (e : has kept (i + 1) ≡ true). let r = rank_one i e in absurd (omega arith)) (λ (e : has kept (i + 1) ≡ false). e) (cases_Bool (has kept (i + 1)))

  pub rank_le : (i : ℕ) → rank kept i ≤ i
  rank_le zero = omega arith
  rank_le (suc i) = let e : suc i ≡ i + 1 = omega arith in omega (arith, rank_le i, (rank_step i).1, ap (rank kept) e)

  rank_mono : (d i : ℕ) → rank kept i ≤ rank kept (d + i)
  rank_mono zero i = let e : i ≡ 0 + i = omega arith in omega (arith, ap (rank kept) e)
  rank_mono (suc d) i = let e : suc d + i ≡ (d + i) + 1 = omega arith in omega (arith, rank_mono d i, ap (rank kept) e, (rank_step (d + i)).0)

  pub rank_up : (i j : ℕ) → i ≤ j → rank kept i ≤ rank kept j
  rank_up i j h = let e : (j - i) + i ≡ j = omega arith in omega (arith, rank_mono (j - i) i, ap (rank kept) e)

module _ (kept : List ℕ) (s : List Step) where
  -- the kept ones of the steps after number i
  abbrev pub left : ℕ → List Step
  left i = kept_from kept i (drop i s)

  left_here : (i : ℕ) → i < length s → left i ≡ cond (has kept (i + 1)) (renumbered kept (step_at s i) ∷ left (i + 1)) (left (i + 1))
  left_here i h = rw (drop-cons s i no_step h, add-one i) refl

  pub left_one : (i : ℕ) → i < length s → has kept (i + 1) ≡ true → left i ≡ renumbered kept (step_at s i) ∷ left (i + 1)
  left_one i h e = left_here i h ∙ ap (λ (v : Bool). cond v (renumbered kept (step_at s i) ∷ left (i + 1)) (left (i + 1))) e

  pub left_none : (i : ℕ) → i < length s → has kept (i + 1) ≡ false → left i ≡ left (i + 1)
  left_none i h e = left_here i h ∙ ap (λ (v : Bool). cond v (renumbered kept (step_at s i) ∷ left (i + 1)) (left (i + 1))) e

  pub left_end : left (length s) ≡ []
  left_end = rw (drop-length s) refl

  left_length : (d i : ℕ) → i + d ≡ length s → rank kept i + length (left i) ≡ rank kept (length s)
  left_length zero i q =
      let e : i ≡ length s = omega arith in
      omega (arith, ap length left_end, ap (rank kept) e, ap (λ (x : ℕ). length (left x)) e)
  left_length (suc d) i q =
      let n = left_length d (i + 1) (omega arith) in
      ⊎_elim
      (λ (e : has kept (i + 1) ≡ true). omega (arith, rank_one kept i e, ap length (left_one i (omega arith) e)))
      (λ (e : has kept (i + 1) ≡ false). omega (arith, rank_none kept i e, ap length (left_none i (omega arith) e)))
      (cases_Bool (has kept (i + 1)))

  pub keep_length : length (keep kept s) ≡ rank kept (length s)
  keep_length = omega (arith, left_length (length s) 0 (omega arith))

  pub rank_room : (i : ℕ) → i < length s → has kept (i + 1) ≡ true → rank kept i + 1 ≤ rank kept (length s)
  rank_room i h e = omega (arith, rank_one kept i e, rank_up kept (i + 1) (length s) (omega arith))
