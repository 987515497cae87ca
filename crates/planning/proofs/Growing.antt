-- Chains that grow step by step.
use Rattle.std.proofs.Common.{◌≡◌, ℕ, zero, suc, ◌^◌, ◌<◌, ◌≤◌, List, [], ◌∷◌, ◌++◌, length, sym, refl, ap, ◌∙◌, subst, ⊎_elim, arith}
use lib.ListN.{get_or-append}
use lib.Seq.{get_or-append_seam}
use Rattle.std.proofs.lemmas.List.{length_push}
use Rattle.std.proofs.lemmas.Bool.{cases_lt}
use Rattle.plans.specs.declared.step.Step.{Step}
use Rattle.plans.specs.Chain.{no_step, step_at, value_at, Chain}
use Rattle.plans.proofs.Values.{value_suc}
use Rattle.plans.proofs.Admissions.{Fits}

-- every step keeps the rules
abbrev pub Grows : ℕ → List Step → Type 0
Grows n s = (i : ℕ) → i < length s → Fits n (value_at s) i (step_at s i)

pub grows_none : (n : ℕ) → Grows n []
grows_none n i h = let no : ⊥ = omega arith in absurd no

-- a_r
abbrev pub last_value : List Step → ℕ
last_value s = value_at s (length s)

pub value_append : (p q : List Step) (m : ℕ) → m ≤ length p → value_at (p ++ q) m ≡ value_at p m
value_append p q zero h = refl
value_append p q (suc m) h = value_suc (p ++ q) m ∙ ap (λ (x : Step). x.value) (get_or-append p q no_step m (omega arith)) ∙ sym (value_suc p m)

-- a step keeps the rules under other values that agree up to it
pub fits_under : {n i : ℕ} {x : Step} (a b : ℕ → ℕ) → ((m : ℕ) → m ≤ i → a m ≡ b m) → Fits n a i x → Fits n b i x
fits_under {n} {i} {x} a b e f =
    let o = f.ordered in
    let l = f.earlier in
    record {
      ordered = o;
      earlier = l;
      sum = omega (arith, f.sum, e x.j l, e x.k (omega arith));
      rises = omega (arith, f.rises, e i (omega arith));
      within = f.within;
    }

-- the value of a step is the one after those before it
pub value_pushed : (p : List Step) (x : Step) (q : List Step) → value_at (p ++ x ∷ q) (suc (length p)) ≡ x.value
value_pushed p x q = value_suc (p ++ x ∷ q) (length p) ∙ ap (λ (y : Step). y.value) (get_or-append_seam p x q no_step)

pub last_push : (p : List Step) (x : Step) → last_value (p ++ x ∷ []) ≡ x.value
last_push p x =
    let e : length (p ++ x ∷ []) ≡ suc (length p) = omega (arith, length_push p x) in
    ap (value_at (p ++ x ∷ [])) e ∙ value_pushed p x []

pub grows_push : (n : ℕ) (p : List Step) (x : Step) → Grows n p → Fits n (value_at p) (length p) x → Grows n (p ++ x ∷ [])
grows_push n p x g f i h =
    ⊎_elim
    (λ (l : i < length p).
    subst (Fits n (value_at (p ++ x ∷ [])) i) (sym (get_or-append p (x ∷ []) no_step i l))
    (fits_under (value_at p) (value_at (p ++ x ∷ [])) (λ m k. sym (value_append p (x ∷ []) m (omega arith))) (g i l)))
    (λ (l : length p ≤ i).
    let e : length p ≡ i = omega (arith, length_push p x) in
    subst (λ (y : ℕ). Fits n (value_at (p ++ x ∷ [])) y (step_at (p ++ x ∷ []) y)) e
    (subst (Fits n (value_at (p ++ x ∷ [])) (length p)) (sym (get_or-append_seam p x [] no_step))
    (fits_under (value_at p) (value_at (p ++ x ∷ [])) (λ m k. sym (value_append p (x ∷ []) m k)) f)))
    (cases_lt i (length p))

pub chain_from_grows : (n : ℕ) (s : List Step) → 1 ≤ n → n < 2 ^ 63 → length s ≤ 128 → Grows n s → last_value s ≡ n → Chain n s
chain_from_grows n s a b d g e =
    record {
      positive = a;
      bounded = b;
      short = d;
      cites = λ i h. ((g i h).ordered, (g i h).earlier);
      sums = λ i h. (g i h).sum;
      rises = λ i h. ((g i h).rises, (g i h).within);
      reaches = e;
    }
