-- What the needed values are. Assumes nothing.
use Rattle.std.proofs.Common.{◌≡◌, ℕ, zero, suc, ◌+◌, ◌<◌, ◌≤◌, Bool, true, false, cond, ◌||◌, eqb, ◌⊎◌, List, [], ◌∷◌, length, drop, sym, refl, ap, ◌∙◌, inl, inr, ⊎_elim, add-one, arith, drop-cons}
use lib.Seq.{drop-length}
use Rattle.std.proofs.lemmas.Bool.{eq-eqb, eqb-true, cases_Bool, or_cases, or_left, or_right, true≢false}
use Rattle.plans.specs.declared.step.Step.{Step}
use Rattle.plans.specs.Chain.{no_step, step_at, Cites}
use Rattle.trimming.specs.Needed.{has, with_cited, needed_after, needed_for, needed, Cited, NeededLaw}

-- the values that are needed for the roots by the steps after number i
abbrev pub after : List ℕ → List Step → ℕ → List ℕ
after roots s i = needed_after roots i (drop i s)

pub after_here : (roots : List ℕ) (s : List Step) (i : ℕ) → i < length s → after roots s i ≡ with_cited (i + 1) (step_at s i) (after roots s (i + 1))
after_here roots s i h = rw (drop-cons s i no_step h, add-one i) refl

pub after_end : (roots : List ℕ) (s : List Step) → after roots s (length s) ≡ roots
after_end roots s = rw (drop-length s) refl

pub after_all : (roots : List ℕ) (s : List Step) → after roots s 0 ≡ needed_for roots s
unfolding needed_for
after_all roots s = refl

-- ---- one step

module _ (i : ℕ) (x : Step) (l : List ℕ) where
  pub with_yes : has l i ≡ true → with_cited i x l ≡ x.k ∷ x.j ∷ l
  with_yes e = ap (λ (b : Bool). cond b (x.k ∷ x.j ∷ l) l) e

  pub with_no : has l i ≡ false → with_cited i x l ≡ l
  with_no e = ap (λ (b : Bool). cond b (x.k ∷ x.j ∷ l) l) e

  with_more : (m : ℕ) → has l m ≡ true → has (with_cited i x l) m ≡ true
  with_more m e =
      ⊎_elim
      (λ (t : has l i ≡ true). ap (λ (r : List ℕ). has r m) (with_yes t) ∙ or_right (eqb m x.k) (eqb m x.j || has l m) (or_right (eqb m x.j) (has l m) e))
      (λ (t : has l i ≡ false). ap (λ (r : List ℕ). has r m) (with_no t) ∙ e)
      (cases_Bool (has l i))

  with_cited_lem : (m : ℕ) → has l i ≡ true → Cited x m → has (with_cited i x l) m ≡ true
  with_cited_lem m t c =
      ap (λ (r : List ℕ). has r m) (with_yes t)
      ∙ ⊎_elim
      (λ (e : m ≡ x.j). or_right (eqb m x.k) (eqb m x.j || has l m) (or_left (eqb m x.j) (has l m) (eq-eqb m x.j e)))
      (λ (e : m ≡ x.k). or_left (eqb m x.k) (eqb m x.j || has l m) (eq-eqb m x.k e))
      c

  with_cases : (m : ℕ) → has (with_cited i x l) m ≡ true → (has l m ≡ true) ⊎ ((has l i ≡ true) × Cited x m)
  with_cases m e =
      ⊎_elim
      (λ (t : has l i ≡ true).
      ⊎_elim
      (λ (k : eqb m x.k ≡ true). inr (t, inr (eqb-true m x.k k)))
      (λ (r : (eqb m x.j || has l m) ≡ true). ⊎_elim (λ (j : eqb m x.j ≡ true). inr (t, inl (eqb-true m x.j j))) (λ (q : has l m ≡ true). inl q) (or_cases (eqb m x.j) (has l m) r))
      (or_cases (eqb m x.k) (eqb m x.j || has l m) (sym (ap (λ (r : List ℕ). has r m) (with_yes t)) ∙ e)))
      (λ (t : has l i ≡ false). inl (sym (ap (λ (r : List ℕ). has r m) (with_no t)) ∙ e))
      (cases_Bool (has l i))

-- ---- all steps

module _ (roots : List ℕ) (s : List Step) where
  -- what later steps need is needed
  up : (i m : ℕ) → i ≤ length s → has (after roots s i) m ≡ true → has (needed_for roots s) m ≡ true
  up zero m h e = sym (ap (λ (l : List ℕ). has l m) (after_all roots s)) ∙ e
  up (suc i) m h e =
      let k : i + 1 ≡ suc i = omega arith in
      up i m (omega arith)
      (ap (λ (l : List ℕ). has l m) (after_here roots s i (omega arith)) ∙ with_more (i + 1) (step_at s i) (after roots s (i + 1)) m (ap (λ (y : ℕ). has (after roots s y) m) k ∙ e))

  pub root_needed : (m : ℕ) → has roots m ≡ true → has (needed_for roots s) m ≡ true
  root_needed m e = up (length s) m (omega arith) (ap (λ (l : List ℕ). has l m) (after_end roots s) ∙ e)

  -- no step up to number m cites value m
  late : (d i m : ℕ) → Cites s → i + d ≡ m → m ≤ length s → has (after roots s i) m ≡ true → has (after roots s m) m ≡ true
  late zero i m c q h e = let k : i ≡ m = omega arith in sym (ap (λ (y : ℕ). has (after roots s y) m) k) ∙ e
  late (suc d) i m c q h e =
      let l : i < length s = omega arith in
      let b = c i l in
      ⊎_elim
      (λ (t : has (after roots s (i + 1)) m ≡ true). late d (i + 1) m c (omega arith) h t)
      (λ (t : (has (after roots s (i + 1)) (i + 1) ≡ true) × Cited (step_at s i) m).
      let no : ⊥ = ⊎_elim (λ (z : m ≡ (step_at s i).j). omega arith) (λ (z : m ≡ (step_at s i).k). omega arith) t.1 in
      absurd no)
      (with_cases (i + 1) (step_at s i) (after roots s (i + 1)) m (sym (ap (λ (r : List ℕ). has r m) (after_here roots s i l)) ∙ e))

  -- what a needed step cites is needed
  pub cited_needed : (i m : ℕ) → Cites s → i < length s → has (needed_for roots s) (i + 1) ≡ true → Cited (step_at s i) m → has (needed_for roots s) m ≡ true
  cited_needed i m c h e q =
      let f = late (i + 1) 0 (i + 1) c (omega arith) (omega arith) (ap (λ (l : List ℕ). has l (i + 1)) (after_all roots s) ∙ e) in
      up i m (omega arith) (ap (λ (l : List ℕ). has l m) (after_here roots s i h) ∙ with_cited_lem (i + 1) (step_at s i) (after roots s (i + 1)) m f q)

  -- a needed step cites value m
  abbrev pub Citing : ℕ → Type 0
  Citing m = (a : ℕ) × (a < length s) × (has (needed_for roots s) (a + 1) ≡ true) × Cited (step_at s a) m

  -- a needed value is a root, or a needed step cites it
  down : (d i m : ℕ) → i + d ≡ length s → has (after roots s i) m ≡ true → (has roots m ≡ true) ⊎ Citing m
  down zero i m q e =
      let k : i ≡ length s = omega arith in
      inl (sym (ap (λ (l : List ℕ). has l m) (ap (after roots s) k ∙ after_end roots s)) ∙ e)
  down (suc d) i m q e =
      ⊎_elim
      (λ (t : has (after roots s (i + 1)) m ≡ true). down d (i + 1) m (omega arith) t)
      (λ (t : (has (after roots s (i + 1)) (i + 1) ≡ true) × Cited (step_at s i) m). inr (i, omega arith, up (i + 1) (i + 1) (omega arith) t.0, t.1))
      (with_cases (i + 1) (step_at s i) (after roots s (i + 1)) m (sym (ap (λ (r : List ℕ). has r m) (after_here roots s i (omega arith))) ∙ e))

  pub needed_cases : (m : ℕ) → has (needed_for roots s) m ≡ true → (has roots m ≡ true) ⊎ Citing m
  needed_cases m e = down (length s) 0 m (omega arith) (ap (λ (l : List ℕ). has l m) (after_all roots s) ∙ e)

-- ---- the last value as the root

pub has_one : (n m : ℕ) → has (n ∷ []) m ≡ true → m ≡ n
has_one n m e = ⊎_elim (λ (t : eqb m n ≡ true). eqb-true m n t) (λ (t : false ≡ true). absurd (true≢false (sym t))) (or_cases (eqb m n) false e)

pub needed_last : (s : List Step) → needed s (length s) ≡ true
needed_last s = root_needed (length s ∷ []) s (length s) (or_left (eqb (length s) (length s)) false (eq-eqb (length s) (length s) refl))

pub needed_law : (s : List Step) → Cites s → NeededLaw s
needed_law s c i = (
  λ e. ⊎_elim (λ (t : has (length s ∷ []) i ≡ true). inl (has_one (length s) i t)) (λ (t : Citing (length s ∷ []) s i). inr t) (needed_cases (length s ∷ []) s i e),
  λ q. ⊎_elim (λ (t : i ≡ length s). ap (needed s) t ∙ needed_last s) (λ (t : Citing (length s ∷ []) s i). cited_needed (length s ∷ []) s t.0 i c t.1 t.2 t.3) q,
)
