-- Counting, and the pigeonhole. Assumes nothing.
use Rattle.std.proofs.Common.{◌≡◌, ℕ, zero, suc, ◌+◌, ◌<◌, ◌≤◌, Bool, true, false, cond, not, ◌&&◌, eqb, sym, refl, ap, ◌∙◌, subst, inl, inr, arith}
use mathlib.Core.Bool.{and-true}
use Rattle.std.proofs.lemmas.Bool.{cases_Bool, cond-true, cond-false, and_from, cases_eq, ne_eqb, eq-eqb, not_from_false, not_from_true, and_right}
use Rattle.placing.specs.Placing.{count}

pub count_le : (p : ℕ → Bool) (n : ℕ) → count p n ≤ n
count_le p zero = omega arith
count_le p (suc n) =
    elim (cases_Bool (p n)) [ inl e ↦ rw e (omega (arith, count_le p n)) | inr e ↦ rw e (omega (arith, count_le p n)) ]

-- the same count where the tests agree below n
pub count_same : (p q : ℕ → Bool) (n : ℕ) → ((i : ℕ) → i < n → p i ≡ q i) → count p n ≡ count q n
count_same p q zero h = refl
count_same p q (suc n) h =
    let a : p n ≡ q n = h n (omega arith) in
    let b : count p n ≡ count q n = count_same p q n (λ i l. h i (omega arith)) in rw (a, b)

-- q without x
abbrev pub less : (ℕ → Bool) → ℕ → ℕ → Bool
less q x c = q c && not (eqb c x)

pub less_other : (q : ℕ → Bool) (x c : ℕ) → q c ≡ true → (c ≡ x → ⊥) → less q x c ≡ true
less_other q x c e ne = and_from (q c) (not (eqb c x)) e (not_from_false (eqb c x) (ne_eqb c x ne))

pub less_at : (q : ℕ → Bool) (x : ℕ) → less q x x ≡ false
less_at q x = and_right (q x) (not (eqb x x)) (not_from_true (eqb x x) (eq-eqb x x refl))

pub less_same : (q : ℕ → Bool) (x c : ℕ) → (c ≡ x → ⊥) → q c ≡ less q x c
less_same q x c ne =
    let e : not (eqb c x) ≡ true = not_from_false (eqb c x) (ne_eqb c x ne) in sym (ap (λ (b : Bool). q c && b) e ∙ and-true (q c))

pub count_less : (q : ℕ → Bool) (x m : ℕ) → x < m → q x ≡ true → count q m ≡ 1 + count (less q x) m
count_less q x zero h e = omega arith
count_less q x (suc m) h e =
    elim (cases_eq m x) [
      | inl same ↦
          let a : q m ≡ true = ap q same ∙ e in
          let b : less q x m ≡ false = ap (less q x) same ∙ less_at q x in
          let d : count q m ≡ count (less q x) m = count_same q (less q x) m (λ i l. less_same q x i (λ z. omega arith)) in
          omega (arith, cond-true {A = ℕ} (q m) 1 0 a, cond-false {A = ℕ} (less q x m) 1 0 b)
      | inr other ↦
          let a : q m ≡ less q x m = less_same q x m other in
          let d : count q m ≡ 1 + count (less q x) m = count_less q x m (omega arith) e in
          omega (arith, ap (λ (t : Bool). cond {A = ℕ} t 1 0) a)
    ]

-- pigeonhole: where R gives each i that passes p a partner that passes q, and no two have the same, p passes no more than q
pub pigeon : (R : ℕ → ℕ → Type 0) (p q : ℕ → Bool) (n m : ℕ)
    → ((i j c : ℕ) → R i c → R j c → i ≡ j)
    → ((i : ℕ) → i < n → p i ≡ true → (c : ℕ) × (c < m) × (q c ≡ true) × R i c)
    → count p n ≤ count q m
pigeon R p q zero m one has = omega arith
pigeon R p q (suc n) m one has =
    elim (cases_Bool (p n)) [
      | inl e ↦
          let h = has n (omega arith) e in
          let less-has : (i : ℕ) → i < n → p i ≡ true → (c : ℕ) × (c < m) × (less q h.0 c ≡ true) × R i c =
          λ i l t. let k = has i (omega arith) t in
          let ne : k.0 ≡ h.0 → ⊥ = λ z. let w : i ≡ n = one i n h.0 (subst (R i) z k.3) h.3 in omega arith in
          (k.0, k.1, less_other q h.0 k.0 k.2 ne, k.3) in
          let ih : count p n ≤ count (less q h.0) m = pigeon R p (less q h.0) n m one less-has in
          omega (arith, cond-true {A = ℕ} (p n) 1 0 e, count_less q h.0 m h.1 h.2)
      | inr e ↦
          let ih : count p n ≤ count q m = pigeon R p q n m one (λ i l t. has i (omega arith) t) in
          omega (arith, cond-false {A = ℕ} (p n) 1 0 e)
    ]
