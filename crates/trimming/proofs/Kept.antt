-- Kept steps of a chain are a chain, where what a kept step cites is kept. Assumes nothing.
use Rattle.std.proofs.Common.{◌≡◌, ℕ, zero, suc, ◌+◌, ◌<◌, ◌≤◌, true, false, List, [], ◌∷◌, ◌++◌, length, sym, refl, ap, ◌∙◌, subst, inl, inr, ⊎_elim, append_assoc, append-nil, arith}
use lib.ListN.{get_or-append}
use lib.Seq.{get_or-append_seam}
use Rattle.std.proofs.lemmas.List.{length_push}
use Rattle.std.proofs.lemmas.Bool.{cases_lt, cases_Bool, true≢false}
use Rattle.plans.specs.declared.step.Step.{Step}
use Rattle.plans.specs.Chain.{no_step, step_at, value_at, Chain}
use Rattle.plans.proofs.Values.{value_next}
use Rattle.plans.proofs.Admissions.{Fits}
use Rattle.planning.proofs.Growing.{Grows, last_value, value_append, grows_none, grows_push, last_push, chain_from_grows}
use Rattle.trimming.specs.Needed.{has, Cited}
use Rattle.trimming.specs.Trim.{rank, renumbered, keep}
use Rattle.trimming.proofs.Ranks.{rank_one, rank_none, rank_up, rank_le, left, left_one, left_none, left_end}

-- what a kept step cites is kept
abbrev pub Closed : List ℕ → List Step → Type 0
Closed kept s = (a m : ℕ) → a < length s → has kept (a + 1) ≡ true → Cited (step_at s a) m → has kept m ≡ true

-- what holds of the kept steps p of the first i steps
pub record Held (n : ℕ) (kept : List ℕ) (s : List Step) (i : ℕ) (p : List Step) : Type 0 where
  pub long : length p ≡ rank kept i
  pub grows : Grows n p
  pub values : (m : ℕ) → m ≤ i → has kept m ≡ true → value_at p (rank kept m) ≡ value_at s m
  pub steps : (a : ℕ) → a < i → has kept (a + 1) ≡ true → step_at p (rank kept a) ≡ renumbered kept (step_at s a)
  pub last : last_value p ≤ value_at s i

module _ (n : ℕ) (kept : List ℕ) (s : List Step) (chain : Chain n s) (closed : Closed kept s) where
  held_yes : (i : ℕ) (p : List Step) → i < length s → has kept (i + 1) ≡ true → Held n kept s i p → Held n kept s (i + 1) (p ++ renumbered kept (step_at s i) ∷ [])
  held_yes i p h e f =
      let x : Step = renumbered kept (step_at s i) in
      let c = chain.cites i h in
      let r = chain.rises i h in
      let long : length p ≡ rank kept i = f.long in
      let one = rank_one kept i e in
      let push = length_push p x in
      let vj = f.values (step_at s i).j c.1 (closed i (step_at s i).j h e (inl refl)) in
      let vk = f.values (step_at s i).k (omega arith) (closed i (step_at s i).k h e (inr refl)) in
      let fx : Fits n (value_at p) (length p) x =
      record {
        ordered = rank_up kept (step_at s i).k (step_at s i).j c.0;
        earlier = omega (arith, rank_up kept (step_at s i).j i c.1);
        sum = omega (arith, chain.sums i h);
        rises = omega (arith, f.last);
        within = r.1;
      } in
      let lastIs : last_value (p ++ x ∷ []) ≡ value_at s (i + 1) = last_push p x ∙ sym (value_next s i) in
      record {
        long = omega arith;
        grows = grows_push n p x f.grows fx;
        values = λ m l t.
            ⊎_elim
            (λ (k : m < i + 1). value_append p (x ∷ []) (rank kept m) (omega (arith, rank_up kept m i (omega arith))) ∙ f.values m (omega arith) t)
            (λ (k : i + 1 ≤ m).
            let q : m ≡ i + 1 = omega arith in
            let w : rank kept m ≡ length (p ++ x ∷ []) = omega (arith, ap (rank kept) q) in
            ap (value_at (p ++ x ∷ [])) w ∙ lastIs ∙ sym (ap (value_at s) q))
            (cases_lt m (i + 1));
        steps = λ a l t.
            ⊎_elim
            (λ (k : a < i). get_or-append p (x ∷ []) no_step (rank kept a) (omega (arith, rank_up kept (a + 1) i (omega arith), rank_one kept a t)) ∙ f.steps a k t)
            (λ (k : i ≤ a).
            let q : a ≡ i = omega arith in
            let w : rank kept a ≡ length p = ap (rank kept) q ∙ sym long in
            ap (step_at (p ++ x ∷ [])) w ∙ get_or-append_seam p x [] no_step ∙ sym (ap (λ (y : ℕ). renumbered kept (step_at s y)) q))
            (cases_lt a i);
        last = omega arith;
      }

  held_no : (i : ℕ) (p : List Step) → i < length s → has kept (i + 1) ≡ false → Held n kept s i p → Held n kept s (i + 1) p
  held_no i p h e f =
      let r = chain.rises i h in
      let other : (m : ℕ) → m ≡ i + 1 → has kept m ≡ true → ⊥ = λ m q t. true≢false (sym t ∙ ap (has kept) q ∙ e) in
      record {
        long = f.long ∙ sym (rank_none kept i e);
        grows = f.grows;
        values = λ m l t. ⊎_elim (λ (k : m < i + 1). f.values m (omega arith) t) (λ (k : i + 1 ≤ m). absurd (other m (omega arith) t)) (cases_lt m (i + 1));
        steps = λ a l t. ⊎_elim (λ (k : a < i). f.steps a k t) (λ (k : i ≤ a). absurd (other (a + 1) (omega arith) t)) (cases_lt a i);
        last = omega (arith, f.last, value_next s i);
      }

  held_all : (d i : ℕ) (p : List Step) → i + d ≡ length s → Held n kept s i p → Held n kept s (length s) (p ++ left kept s i)
  held_all zero i p e f =
      let k : i ≡ length s = omega arith in
      let w : p ++ left kept s i ≡ p = ap (λ (r : List Step). p ++ r) (ap (left kept s) k ∙ left_end kept s) ∙ append-nil p in
      subst (Held n kept s (length s)) (sym w) (subst (λ (x : ℕ). Held n kept s x p) k f)
  held_all (suc d) i p e f =
      ⊎_elim
      (λ (t : has kept (i + 1) ≡ true).
      let x : Step = renumbered kept (step_at s i) in
      let w : (p ++ x ∷ []) ++ left kept s (i + 1) ≡ p ++ left kept s i = append_assoc p (x ∷ []) (left kept s (i + 1)) ∙ ap (λ (r : List Step). p ++ r) (sym (left_one kept s i (omega arith) t)) in
      subst (Held n kept s (length s)) w (held_all d (i + 1) (p ++ x ∷ []) (omega arith) (held_yes i p (omega arith) t f)))
      (λ (t : has kept (i + 1) ≡ false).
      subst (Held n kept s (length s)) (ap (λ (r : List Step). p ++ r) (sym (left_none kept s i (omega arith) t)))
      (held_all d (i + 1) p (omega arith) (held_no i p (omega arith) t f)))
      (cases_Bool (has kept (i + 1)))

  pub held : Held n kept s (length s) (keep kept s)
  held =
      held_all (length s) 0 [] (omega arith)
      (record {
        long = refl;
        grows = grows_none n;
        values = λ m l t. let z : m ≡ 0 = omega arith in ap (λ (x : ℕ). value_at [] (rank kept x)) z ∙ sym (ap (value_at s) z);
        steps = λ a l t. let no : ⊥ = omega arith in absurd no;
        last = omega arith;
      })

  pub keep_chain : has kept (length s) ≡ true → Chain n (keep kept s)
  keep_chain e =
      let f = held in
      let l : length (keep kept s) ≡ rank kept (length s) = f.long in
      chain_from_grows n (keep kept s) chain.positive chain.bounded (omega (arith, rank_le kept (length s), chain.short)) f.grows
      (ap (value_at (keep kept s)) l ∙ f.values (length s) (omega arith) e ∙ chain.reaches)
