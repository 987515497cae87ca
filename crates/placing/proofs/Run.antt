-- What a run asks of a placing. Assumes nothing.
use Rattle.std.proofs.Common.{◌≡◌, ℕ, ◌+◌, ◌<◌, ◌≤◌, true, ◌⊎◌, List, length, get_or, set, sym, ◌∙◌, subst, inl, inr, arith}
use Rattle.std.proofs.lemmas.List.{get_or-set_same, get_or-set_other}
use Rattle.std.proofs.lemmas.Bool.{cases_eq, both_ways}
use Rattle.plans.specs.declared.step.Step.{Step}
use Rattle.placing.specs.Placing.{cites, held, step_number, Placing}
use Rattle.placing.proofs.Held.{held_before, held_from, held_cited}

-- after step s the store holds value s and each value that is held at s, at their cells
abbrev pub Stored : {X : Type 0} → (ℕ → X) → List Step → List ℕ → ℕ → List X → Type 0
Stored {X} a steps cells s store =
    (i : ℕ) (d : X) → i ≤ s → (i ≡ s) ⊎ (held steps s i ≡ true) → get_or store (get_or cells i 0) d ≡ a i

-- step s + 1 finds what it cites
pub stored_read : {X : Type 0} (a : ℕ → X) (steps : List Step) (cells : List ℕ) (s : ℕ) (store : List X) →
    Stored a steps cells s store → s < length steps → (i : ℕ) (d : X) → i ≤ s → cites (step_number steps (s + 1)) i ≡ true →
    get_or store (get_or cells i 0) d ≡ a i
stored_read a steps cells s store h l i d m e = h i d m (inr (held_cited steps s (s + 1) i (omega arith) (omega arith) e))

-- and writes its value over nothing that is still held
pub stored_more : {X : Type 0} (a : ℕ → X) (c : ℕ) (steps : List Step) (cells : List ℕ) (s : ℕ) (store : List X) →
    Placing c steps cells → c ≤ length store → s < length steps →
    Stored a steps cells s store → Stored a steps cells (s + 1) (set store (get_or cells (s + 1) 0) (a (s + 1)))
stored_more a c steps cells s store p long l h i d m live =
    let to : ℕ = get_or cells (s + 1) 0 in
    let within : to < length store = omega (arith, p.below (s + 1) (omega arith)) in
    let here : get_or (set store to (a (s + 1))) to d ≡ a (s + 1) = get_or-set_same store to (a (s + 1)) d within in
    let last : i ≡ s + 1 → get_or (set store to (a (s + 1))) (get_or cells i 0) d ≡ a i =
    λ e. subst (λ n. get_or (set store to (a (s + 1))) (get_or cells n 0) d ≡ a n) (sym e) here in
    elim live [
      | inl e ↦ last e
      | inr y ↦ elim (cases_eq i (s + 1)) [
        | inl e ↦ last e
        | inr ne ↦
            let lt : i < s + 1 = omega arith in
            let other : get_or cells i 0 ≡ to → ⊥ =
            λ e. both_ways (held steps (s + 1) i) (held_from steps (s + 1) i (p.apart i (s + 1) lt (omega arith) e)) y in
            get_or-set_other store to (get_or cells i 0) (a (s + 1)) d other ∙
            h i d (omega arith) (inr (held_before steps s (s + 1) i (omega arith) y))
      ]
    ]
