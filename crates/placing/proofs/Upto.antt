-- Values put into free cells, one after the other. Assumes nothing.
use Rattle.std.proofs.Common.{◌≡◌, ℕ, suc, ◌+◌, ◌<◌, ◌≤◌, true, false, List, [], ◌∷◌, ◌++◌, length, get_or, sym, ap, ◌∙◌, subst, inl, inr, arith}
use Rattle.std.proofs.lemmas.List.{get_or_push, get_or_append_left}
use Rattle.std.proofs.lemmas.Bool.{cases_Bool, cases_eq}
use Rattle.plans.specs.declared.step.Step.{Step}
use Rattle.placing.specs.Placing.{held, live, need, Supplied}
use Rattle.placing.proofs.Pigeon.{count_le}
use Rattle.placing.proofs.Held.{unused_from}
use Rattle.placing.proofs.Crowds.{most_ge, Taken}

-- the values below n are placed, within the need and a_0 in cell 0
pub record Upto (steps : List Step) (n : ℕ) (cells : List ℕ) : Type 0 where
  pub below : (i : ℕ) → i < n → get_or cells i 0 < need steps
  pub apart : (i s : ℕ) → i < s → s < n → get_or cells i 0 ≡ get_or cells s 0 → held steps s i ≡ false
  pub first : 0 < n → get_or cells 0 0 ≡ 0

pub upto_none : (steps : List Step) (cells : List ℕ) → Upto steps 0 cells
upto_none steps cells = record { below = λ i l. omega arith; apart = λ i s l m e. let z : ⊥ = omega arith in absurd z; first = λ l. omega arith }

-- one value more, in a cell that is not taken
pub upto_more : (steps : List Step) (n : ℕ) (cells : List ℕ) (x : ℕ) → n ≤ length steps → length cells ≡ n →
    x < live steps n → (Taken steps cells n x → ⊥) → Upto steps n cells → Upto steps (suc n) (cells ++ (x ∷ []))
upto_more steps n cells x h k l free u =
    let more : List ℕ = cells ++ (x ∷ []) in
    let here : get_or more n 0 ≡ x = get_or_push cells x 0 n k in
    let old : (i : ℕ) → i < n → get_or more i 0 ≡ get_or cells i 0 = λ i m. get_or_append_left cells (x ∷ []) 0 i (omega arith) in
    record {
      below = λ i m. elim (cases_eq i n) [
        | inl e ↦ rw e (omega (arith, here, most_ge (live steps) (length steps) n h))
        | inr ne ↦ let lt : i < n = omega arith in omega (arith, old i lt, u.below i lt)
      ];
      apart = λ i s m o e. elim (cases_eq s n) [
        | inl z ↦ elim (cases_Bool (held steps s i)) [
          | inl t ↦ let li : i < n = omega arith in
              let same : get_or cells i 0 ≡ x = sym (old i li) ∙ e ∙ ap (λ m. get_or more m 0) z ∙ here in
              absurd (free (i, li, subst (λ v. held steps v i ≡ true) z t, same))
          | inr f ↦ f
        ]
        | inr ne ↦ let ls : s < n = omega arith in let li : i < n = omega arith in
            u.apart i s m ls (sym (old i li) ∙ e ∙ old s ls)
      ];
      first = λ m. elim (cases_eq n 0) [
        | inl z ↦ let none : x ≡ 0 = omega (arith, count_le (held steps n) n) in
            ap (λ m. get_or more m 0) (sym z) ∙ here ∙ none
        | inr ne ↦ let lt : 0 < n = omega arith in old 0 lt ∙ u.first lt
      ];
    }

-- at the end it is a placing within the need
pub upto_supplied : (steps : List Step) (cells : List ℕ) → length cells ≡ length steps + 1 →
    Upto steps (length steps + 1) cells → Supplied steps cells
upto_supplied steps cells h u =
    record {
      placing = record {
        whole = h;
        below = λ i l. u.below i (omega arith);
        apart = λ i s l m e. unused_from steps s i (u.apart i s l (omega arith) e);
      };
      start = u.first (omega arith);
    }
