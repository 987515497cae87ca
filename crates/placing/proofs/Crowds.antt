-- Cells and values by the pigeonhole: a placing has a cell for each value that is live, and cells that are all taken are no more than the values held. Assumes nothing.
use Rattle.std.proofs.Common.{◌≡◌, ℕ, zero, suc, ◌<◌, ◌≤◌, Bool, true, List, length, get_or, sym, refl, ◌∙◌, inl, inr, arith}
use Rattle.std.proofs.lemmas.Bool.{cases_order, cases_eq, both_ways}
use Rattle.plans.specs.declared.step.Step.{Step}
use Rattle.placing.specs.Placing.{held, count, live, most, need, Placing}
use Rattle.placing.proofs.Pigeon.{less, less_other, count_less, pigeon}
use Rattle.placing.proofs.Held.{held_before, held_from}

-- the largest of f 0 to f n is at least each, and at most any bound of all
pub most_ge : (f : ℕ → ℕ) (n i : ℕ) → i ≤ n → f i ≤ most f n
most_ge f zero i h = let e : i ≡ 0 = omega arith in rw e (omega arith)
most_ge f (suc n) i h =
    elim (cases_eq i (suc n)) [
      | inl e ↦ rw e (omega arith)
      | inr ne ↦ let ih : f i ≤ most f n = most_ge f n i (omega arith) in omega arith
    ]

pub most_le : (f : ℕ → ℕ) (n c : ℕ) → ((i : ℕ) → i ≤ n → f i ≤ c) → most f n ≤ c
most_le f zero c h = h 0 (omega arith)
most_le f (suc n) c h =
    let a : most f n ≤ c = most_le f n c (λ i l. h i (omega arith)) in let b : f (suc n) ≤ c = h (suc n) (omega arith) in omega arith

-- every number
abbrev pub any : ℕ → Bool
any n = true

pub count_any : (n : ℕ) → count any n ≡ n
count_any zero = refl
count_any (suc n) = omega (arith, count_any n)

-- in a placing the values held at s and value s have cells of their own
pub live_fits : (c : ℕ) (steps : List Step) (cells : List ℕ) → Placing c steps cells → (s : ℕ) → s ≤ length steps → live steps s ≤ c
live_fits c steps cells p s h =
    let R : ℕ → ℕ → Type 0 = λ i x. (i < s) × (held steps s i ≡ true) × (get_or cells i 0 ≡ x) in
    let clash : (i j : ℕ) → i < j → j ≤ s → held steps s i ≡ true → get_or cells i 0 ≡ get_or cells j 0 → ⊥ =
    λ i j l m t e. both_ways (held steps j i) (held_from steps j i (p.apart i j l (omega arith) e)) (held_before steps j s i m t) in
    let one : (i j x : ℕ) → R i x → R j x → i ≡ j =
    λ i j x a b. elim (cases_order i j) [
      | inl e ↦ e
      | inr o ↦ elim o [
        | inl l ↦ absurd (clash i j l (omega arith) a.1 (a.2 ∙ sym b.2))
        | inr l ↦ absurd (clash j i l (omega arith) b.1 (b.2 ∙ sym a.2))
      ]
    ] in
    let own : ℕ = get_or cells s 0 in
    let has : (i : ℕ) → i < s → held steps s i ≡ true → (x : ℕ) × (x < c) × (less any own x ≡ true) × R i x =
    λ i l t. (get_or cells i 0, p.below i (omega arith), less_other any own (get_or cells i 0) refl (λ e. clash i s l (omega arith) t e), (l, t, refl)) in
    omega (arith, pigeon R (held steps s) (less any own) s c one has, count_less any own c (p.below s h) refl, count_any c)

pub fits_only : (c : ℕ) (steps : List Step) (cells : List ℕ) → Placing c steps cells → need steps ≤ c
fits_only c steps cells p = most_le (live steps) (length steps) c (λ s h. live_fits c steps cells p s h)

-- a value before s that is held at s has cell x
abbrev pub Taken : List Step → List ℕ → ℕ → ℕ → Type 0
Taken steps cells s x = (i : ℕ) × (i < s) × (held steps s i ≡ true) × (get_or cells i 0 ≡ x)

-- cells that are all taken at s are no more than the values held there
pub crowd : (steps : List Step) (cells : List ℕ) (s m : ℕ) → ((x : ℕ) → x < m → Taken steps cells s x) → m ≤ count (held steps s) s
crowd steps cells s m all =
    let R : ℕ → ℕ → Type 0 = λ x i. get_or cells i 0 ≡ x in
    omega (arith, pigeon R any (held steps s) m s (λ x y i a b. sym a ∙ b) (λ x l t. all x l), count_any m)
