-- The trimmed plan is a chain for the same exponent, and is trimmed already. Assumes nothing.
use Rattle.std.proofs.Common.{◌≡◌, ℕ, zero, suc, ◌+◌, ◌<◌, ◌≤◌, true, false, List, [], ◌∷◌, length, drop, sym, refl, ap, ◌∙◌, subst, inl, inr, ⊎_elim, add-one, arith, drop-cons}
use lib.Seq.{drop-length}
use Rattle.std.proofs.lemmas.Bool.{cases_lt, cases_Bool}
use Rattle.plans.specs.declared.step.Step.{Step}
use Rattle.plans.specs.Chain.{no_step, step_at, Chain}
use Rattle.planning.specs.Planning.{step}
use Rattle.trimming.specs.Needed.{has, needed_of, needed, Cited}
use Rattle.trimming.specs.Trim.{rank, renumbered, keep, trimmed}
use Rattle.trimming.proofs.Needing.{Citing, needed_last, needed_cases, cited_needed, has_one}
use Rattle.trimming.proofs.Ranks.{rank_one, rank_none, rank_room, left, left_one, left_end, keep_length}
use Rattle.trimming.proofs.Kept.{Closed, held, keep_chain}

-- a plan all of whose values past a_0 are kept stays as it is
module _ (n : ℕ) (kept : List ℕ) (t : List Step) (chain : Chain n t) (all : (c : ℕ) → 1 ≤ c → c ≤ length t → has kept c ≡ true) where
  same_rank : (c : ℕ) → c ≤ length t → rank kept c ≡ c
  same_rank zero h = refl
  same_rank (suc c) h =
      let e : suc c ≡ c + 1 = omega arith in
      omega (arith, ap (rank kept) e, rank_one kept c (all (c + 1) (omega arith) (omega arith)), same_rank c (omega arith))

  same_left : (d i : ℕ) → i + d ≡ length t → left kept t i ≡ drop i t
  same_left zero i e =
      let k : i ≡ length t = omega arith in
      ap (left kept t) k ∙ left_end kept t ∙ sym (ap (λ (x : ℕ). drop x t) k ∙ drop-length t)
  same_left (suc d) i e =
      let h : i < length t = omega arith in
      let q = chain.cites i h in
      let ej : rank kept (step_at t i).j ≡ (step_at t i).j = same_rank (step_at t i).j (omega arith) in
      let ek : rank kept (step_at t i).k ≡ (step_at t i).k = same_rank (step_at t i).k (omega arith) in
      let x : renumbered kept (step_at t i) ≡ step_at t i = ap (λ (y : ℕ). step y (rank kept (step_at t i).k) (step_at t i).value) ej ∙ ap (λ (y : ℕ). step (step_at t i).j y (step_at t i).value) ek in
      left_one kept t i h (all (i + 1) (omega arith) (omega arith))
      ∙ ap (λ (r : List Step). renumbered kept (step_at t i) ∷ r) (same_left d (i + 1) (omega arith))
      ∙ ap (λ (y : Step). y ∷ drop (i + 1) t) x
      ∙ ap (λ (y : ℕ). step_at t i ∷ drop y t) (add-one i)
      ∙ sym (drop-cons t i no_step h)

  keep_same : keep kept t ≡ t
  keep_same = same_left (length t) 0 (omega arith)

module _ (n : ℕ) (s : List Step) (chain : Chain n s) where
  abbrev kept : List ℕ
  kept = needed_of s

  closed : Closed kept s
  closed a m h e c = cited_needed (length s ∷ []) s a m chain.cites h e c

  pub trimmed_chain : Chain n (trimmed s)
  trimmed_chain = keep_chain n kept s chain closed (needed_last s)

  -- a needed step that cites m is before no value that it cites, and cites its new number
  cites_again : (a m : ℕ) → a < length s → Cited (step_at s a) m → (m ≤ a) × Cited (renumbered kept (step_at s a)) (rank kept m)
  cites_again a m h e =
      let q = chain.cites a h in
      ⊎_elim
      (λ (w : m ≡ (step_at s a).j). (omega arith, inl (ap (rank kept) w)))
      (λ (w : m ≡ (step_at s a).k). (omega arith, inr (ap (rank kept) w)))
      e

  last_again : (m : ℕ) → m ≡ length s → needed (trimmed s) (rank kept m) ≡ true
  last_again m q = ap (needed (trimmed s)) (ap (rank kept) q ∙ sym (keep_length kept s)) ∙ needed_last (trimmed s)

  -- a value that is needed is needed under its new number
  again_needed : (f m : ℕ) → length s ≤ m + f → m ≤ length s → needed s m ≡ true → needed (trimmed s) (rank kept m) ≡ true
  again_needed zero m b h e = last_again m (omega arith)
  again_needed (suc f) m b h e =
      ⊎_elim
      (λ (q : has (length s ∷ []) m ≡ true). last_again m (has_one (length s) m q))
      (λ (q : Citing (length s ∷ []) s m).
      let a : ℕ = q.0 in
      let al : a < length s = q.1 in
      let t : needed s (a + 1) ≡ true = q.2 in
      let c = cites_again a m al q.3 in
      let le : m ≤ a = c.0 in
      let w : needed (trimmed s) (rank kept a + 1) ≡ true = sym (ap (needed (trimmed s)) (rank_one kept a t)) ∙ again_needed f (a + 1) (omega arith) (omega arith) t in
      let k : rank kept a < length (trimmed s) = omega (arith, rank_room kept s a al t, keep_length kept s) in
      let x = (held n kept s chain closed).steps a al t in
      cited_needed (length (trimmed s) ∷ []) (trimmed s) (rank kept a) (rank kept m) trimmed_chain.cites k w (subst (λ (y : Step). Cited y (rank kept m)) (sym x) c.1))
      (needed_cases (length s ∷ []) s m e)

  -- each new number is that of a needed value
  onto : (i c : ℕ) → 1 ≤ c → c ≤ rank kept i → (m : ℕ) × (m ≤ i) × (needed s m ≡ true) × (rank kept m ≡ c)
  onto zero c l h = let no : ⊥ = omega arith in absurd no
  onto (suc i) c l h =
      let e : suc i ≡ i + 1 = omega arith in
      let re = ap (rank kept) e in
      ⊎_elim
      (λ (k : rank kept i < c).
      ⊎_elim
      (λ (t : has kept (i + 1) ≡ true). (suc i, omega arith, ap (has kept) e ∙ t, omega (arith, rank_one kept i t)))
      (λ (t : has kept (i + 1) ≡ false). let no : ⊥ = omega (arith, rank_none kept i t) in absurd no)
      (cases_Bool (has kept (i + 1))))
      (λ (k : c ≤ rank kept i). let r = onto i c l k in (r.0, omega (arith, r.1), r.2, r.3))
      (cases_lt (rank kept i) c)

  all_needed : (c : ℕ) → 1 ≤ c → c ≤ length (trimmed s) → needed (trimmed s) c ≡ true
  all_needed c l h =
      let r = onto (length s) c l (omega (arith, keep_length kept s)) in
      sym (ap (needed (trimmed s)) r.3) ∙ again_needed (length s) r.0 (omega arith) r.1 r.2

  pub trimmed_again : trimmed (trimmed s) ≡ trimmed s
  trimmed_again = keep_same n (needed_of (trimmed s)) (trimmed s) trimmed_chain all_needed
