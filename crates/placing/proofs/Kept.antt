-- The cells in use, and until when each is kept. Assumes nothing.
use Rattle.std.proofs.Common.{◌≡◌, ℕ, suc, ◌+◌, ◌<◌, ◌≤◌, max, true, List, [], ◌∷◌, ◌++◌, length, get_or, take, drop, set, sym, refl, ap, ◌∙◌, subst, inl, inr, add-one, arith}
use Rattle.std.proofs.lemmas.List.{get_or-set_same, get_or-set_other, length-set, get_or_past, length_push, drop_all, take_at, get_or_push, get_or_append_left}
use Rattle.std.specs.List.{refill}
use Rattle.std.proofs.lemmas.Bool.{cases_eq, cases_lt}
use Rattle.plans.specs.declared.step.Step.{Step}
use Rattle.placing.specs.Placing.{held, past, count, live, need, Placing}
use Rattle.placing.specs.Supply.{first_cells, supplied_cells}
use Rattle.placing.specs.Last.{LastOf}
use Rattle.placing.proofs.Held.{held_before}
use Rattle.placing.proofs.Pigeon.{count_le}
use Rattle.placing.proofs.Crowds.{most_ge, fits_only, Taken, crowd}
use Rattle.placing.proofs.Supply.{lowest_one, first_length, supplied_cells_lem}
use Rattle.placing.proofs.Lasts.{held_lasts, lasts_held}

-- cell x is kept until step `until x`: from s on, exactly as long as a value below s that has it is held
pub record Keeps (steps : List Step) (s : ℕ) (cells until : List ℕ) : Type 0 where
  pub some : (x t : ℕ) → s ≤ t → past t < get_or until x 0 → (i : ℕ) × (i < s) × (held steps t i ≡ true) × (get_or cells i 0 ≡ x)
  pub each : (i t : ℕ) → i < s → s ≤ t → held steps t i ≡ true → past t < get_or until (get_or cells i 0) 0

pub keeps_free : (steps : List Step) (s : ℕ) (cells until : List ℕ) (x : ℕ) → Keeps steps s cells until →
    get_or until x 0 ≤ past s → Taken steps cells s x → ⊥
keeps_free steps s cells until x k h t =
    omega (arith, k.each t.0 s t.1 (omega arith) t.2, ap (λ y. get_or until y 0) t.3)

-- cell x, one of those in use or the next, is now kept until step n
pub record Put (until now : List ℕ) (x n : ℕ) : Type 0 where
  pub at : get_or now x 0 ≡ n
  pub other : (y : ℕ) → (y ≡ x → ⊥) → get_or now y 0 ≡ get_or until y 0
  pub long : length now ≡ max (length until) (x + 1)

put_set : (until : List ℕ) (x n : ℕ) → x < length until → Put until (set until x n) x n
put_set until x n h = record { at = get_or-set_same until x n 0 h; other = λ y ne. get_or-set_other until x y n 0 ne; long = length-set until x n ∙ omega arith }

-- the same where the cells were written as a slice
pub put_written : (until ws : List ℕ) (x n : ℕ) → ws ≡ until → x < length until → Put until (refill (length until) until (set ws x n)) x n
put_written until ws x n e h =
    let same : refill (length until) until (set until x n) ≡ set until x n =
    ap (λ k. take (length until) (set until x n ++ drop k until)) (length-set until x n)
    ∙ ap (λ xs. take (length until) (set until x n ++ xs)) (drop_all (length until) until (omega arith))
    ∙ take_at (set until x n) [] (length until) (length-set until x n) in
    rw e (rw same (put_set until x n h))

pub put_push : (until : List ℕ) (x n : ℕ) → x ≡ length until → Put until (until ++ (n ∷ [])) x n
put_push until x n h = record {
  at = get_or_push until n 0 x (omega arith);
  other = λ y ne. elim (cases_lt y x) [
    | inl l ↦ get_or_append_left until (n ∷ []) 0 y (omega arith)
    | inr l ↦ get_or_past (until ++ (n ∷ [])) y 0 (omega (arith, length_push until n)) ∙ sym (get_or_past until y 0 (omega arith))
  ];
  long = length_push until n ∙ omega arith;
}

pub keeps_more : (steps : List Step) (s : ℕ) (cells until now : List ℕ) (x n : ℕ) → length cells ≡ s → Put until now x n →
    LastOf steps s n → get_or until x 0 ≤ past s →
    Keeps steps s cells until → Keeps steps (suc s) (cells ++ (x ∷ [])) now
keeps_more steps s cells until now x n hs put l free k =
    let more : List ℕ = cells ++ (x ∷ []) in
    let here : get_or more s 0 ≡ x = get_or_push cells x 0 s hs in
    let old : (i : ℕ) → i < s → get_or more i 0 ≡ get_or cells i 0 = λ i m. get_or_append_left cells (x ∷ []) 0 i (omega arith) in
    record {
      some = λ y t m h. elim (cases_eq y x) [
        | inl e ↦
            let p : past t < n = subst (λ v. past t < v) (ap (λ z. get_or now z 0) e ∙ put.at) h in
            (s, omega arith, held_lasts steps t s n l p, here ∙ sym e)
        | inr ne ↦
            let p : past t < get_or until y 0 = subst (λ v. past t < v) (put.other y ne) h in
            let w = k.some y t (omega arith) p in
            (w.0, omega (arith, w.1), w.2, old w.0 w.1 ∙ w.3)
      ];
      each = λ i t m o e. elim (cases_eq i s) [
        | inl z ↦
            let c : get_or more i 0 ≡ x = ap (λ v. get_or more v 0) z ∙ here in
            let p : past t < n = lasts_held steps t s n l (subst (λ v. held steps t v ≡ true) z e) in
            subst (λ v. past t < v) (sym (ap (λ v. get_or now v 0) c ∙ put.at)) p
        | inr nz ↦
            let li : i < s = omega arith in
            let ne : get_or cells i 0 ≡ x → ⊥ =
            λ q. omega (arith, k.each i s li (omega arith) (held_before steps s t i (omega arith) e), ap (λ y. get_or until y 0) q) in
            let p : past t < get_or until (get_or cells i 0) 0 = k.each i t li (omega arith) e in
            subst (λ v. past t < v)
            (sym (ap (λ v. get_or now v 0) (old i li) ∙ put.other (get_or cells i 0) ne)) p
      ];
    }

-- the first s values have their cells, and each cell in use is kept as long as it must be
pub record Filled (steps : List Step) (s : ℕ) (cells until : List ℕ) : Type 0 where
  pub named : cells ≡ first_cells steps s
  pub keeps : Keeps steps s (first_cells steps s) until
  pub most : length until ≤ need steps
  pub below : (i : ℕ) → i < s → get_or (first_cells steps s) i 0 < length until
  pub few : length until ≤ s

pub filled_none : (steps : List Step) → Filled steps 0 [] []
filled_none steps = record {
  named = refl;
  keeps = record { some = λ x t h k. let z : ⊥ = omega arith in absurd z; each = λ i t h k e. omega arith };
  most = omega arith;
  below = λ i h. omega arith;
  few = omega arith;
}

-- the next value, in the lowest cell that is not kept: all below x are taken, and x is free or the next
pub filled_next : (steps : List Step) (s : ℕ) (cells until now : List ℕ) (x n : ℕ) → s ≤ length steps → LastOf steps s n →
    x ≤ length until → ((y : ℕ) → y < x → past s < get_or until y 0) → (x < length until → get_or until x 0 ≤ past s) → Put until now x n →
    Filled steps s cells until → Filled steps (s + 1) (cells ++ (x ∷ [])) now
filled_next steps s cells until now x n hs l within all free put f =
    let firsts : List ℕ = first_cells steps s in
    let here : get_or until x 0 ≤ past s =
    elim (cases_lt x (length until)) [ inl h ↦ free h | inr h ↦ omega (arith, get_or_past until x 0 h) ] in
    let kept : (y : ℕ) → y < x → Taken steps firsts s y = λ y h. f.keeps.some y s (omega arith) (all y h) in
    let few : x ≤ count (held steps s) s = crowd steps firsts s x kept in
    let size : length firsts ≡ s = first_length steps s in
    let next : firsts ++ (x ∷ []) ≡ first_cells steps (s + 1) =
    ap (λ y. firsts ++ (y ∷ [])) (sym (lowest_one steps firsts s x kept (keeps_free steps s firsts until x f.keeps here))) ∙ ap (first_cells steps) (sym (add-one s)) in
    record {
      named = ap (λ (c : List ℕ). c ++ (x ∷ [])) f.named ∙ next;
      keeps = subst (λ c. Keeps steps (s + 1) c now) next (rw add-one (keeps_more steps s firsts until now x n size put l here f.keeps));
      most = omega (arith, f.most, put.long, most_ge (live steps) (length steps) s hs);
      below = λ i h. subst (λ c. get_or c i 0 < length now) next (elim (cases_eq i s) [
        | inl e ↦ omega (arith, put.long, get_or_push firsts x 0 i (omega arith))
        | inr ne ↦ let lt : i < s = omega arith in omega (arith, put.long, get_or_append_left firsts (x ∷ []) 0 i (omega arith), f.below i lt)
      ]);
      few = omega (arith, f.few, put.long, count_le (held steps s) s);
    }

-- at the end they are the supplied cells, and the cells in use are as many as the need
pub filled_supplied : (steps : List Step) (cells until : List ℕ) → Filled steps (length steps + 1) cells until → cells ≡ supplied_cells steps
unfolding supplied_cells
filled_supplied steps cells until f = f.named

pub filled_need : (steps : List Step) (cells until : List ℕ) → Filled steps (length steps + 1) cells until → length until ≡ need steps
unfolding supplied_cells
filled_need steps cells until f =
    let p : Placing (need steps) steps (supplied_cells steps) = (supplied_cells_lem steps).placing in
    let q : Placing (length until) steps (supplied_cells steps) =
    record { whole = p.whole; below = λ i l. f.below i (omega arith); apart = p.apart } in
    omega (arith, f.most, fits_only (length until) steps (supplied_cells steps) q)
