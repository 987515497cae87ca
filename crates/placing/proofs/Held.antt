-- When a value is held: the test and the rule say the same. Assumes nothing.
use Rattle.std.proofs.Common.{◌≡◌, ℕ, zero, suc, ◌+◌, ◌-◌, ◌<◌, ◌≤◌, true, false, ◌||◌, List, [], ◌∷◌, length, get_or, drop, sym, refl, ap, ◌∙◌, subst, inl, inr, arith}
use Rattle.std.proofs.lemmas.List.{at_drop_more, drop-drop, get_or-drop, length-drop}
use Rattle.std.proofs.lemmas.Bool.{or_left, or_right, or_cases, cases_Bool, both_ways}
use Rattle.plans.specs.declared.step.Step.{Step}
use Rattle.plans.specs.Chain.{no_step}
use Rattle.placing.specs.Placing.{cites, cited, held, past, step_number, Unused}

-- a citation by the first step of a rest, or by a later one
pub cited_more : (steps : List Step) (t i : ℕ) (d : Step) → t < length steps →
    cited (drop t steps) i ≡ (cites (get_or steps t d) i || cited (drop (t + 1) steps) i)
cited_more steps t i d h = at_drop_more (λ l. cited l i) steps t d h

pub cited_here : (steps : List Step) (t i : ℕ) (d : Step) → t < length steps → true ≡ cites (get_or steps t d) i → cited (drop t steps) i ≡ true
cited_here steps t i d h e =
    cited_more steps t i d h ∙ or_left (cites (get_or steps t d) i) (cited (drop (t + 1) steps) i) (sym e)

pub cited_rest : (n : ℕ) (steps : List Step) (i : ℕ) → cited (drop n steps) i ≡ true → cited steps i ≡ true
cited_rest zero steps i e = e
cited_rest (suc n) [] i e = e
cited_rest (suc n) (t ∷ ts) i e = or_right (cites t i) (cited ts i) (cited_rest n ts i e)

-- what is held later is held before: all that the pigeonhole argument asks of the rule
pub held_before : (steps : List Step) (s t i : ℕ) → s ≤ t → held steps t i ≡ true → held steps s i ≡ true
unfolding held
held_before steps s t i h e =
    let n : ℕ = past t - past s in
    let m : past s + n ≡ past t = omega arith in
    let same : drop n (drop (past s) steps) ≡ drop (past t) steps = drop-drop n (past s) steps ∙ ap (λ k. drop k steps) m in
    cited_rest n (drop (past s) steps) i (ap (λ l. cited l i) same ∙ e)

-- a value is held at s exactly if some step that is not over at s cites it
cited_some : (steps : List Step) (i : ℕ) (d : Step) → cited steps i ≡ true → (t : ℕ) × (t < length steps) × (cites (get_or steps t d) i ≡ true)
cited_some [] i d e = absurd (both_ways false refl e)
cited_some (x ∷ xs) i d e =
    elim (or_cases (cites x i) (cited xs i) e) [
      | inl h ↦ (0, omega arith, h)
      | inr h ↦ let w = cited_some xs i d h in (suc w.0, omega (arith, w.1), w.2)
    ]

pub held_cited : (steps : List Step) (s t i : ℕ) → past s < t → t ≤ length steps → cites (step_number steps t) i ≡ true → held steps s i ≡ true
unfolding held
held_cited steps s t i l h e =
    let n : ℕ = (t - 1) - past s in
    let m : past s + n ≡ t - 1 = omega arith in
    let same : drop n (drop (past s) steps) ≡ drop (t - 1) steps = drop-drop n (past s) steps ∙ ap (λ k. drop k steps) m in
    let here : cited (drop (t - 1) steps) i ≡ true = cited_here steps (t - 1) i no_step (omega arith) (sym e) in
    cited_rest n (drop (past s) steps) i (ap (λ l. cited l i) same ∙ here)

pub unused_from : (steps : List Step) (s i : ℕ) → held steps s i ≡ false → Unused steps s i
unused_from steps s i f t l h e = both_ways (held steps s i) f (held_cited steps s t i l h e)

pub held_from : (steps : List Step) (s i : ℕ) → Unused steps s i → held steps s i ≡ false
unfolding held
held_from steps s i u =
    elim (cases_Bool (held steps s i)) [
      | inl y ↦
          let d : Step = no_step in
          let w = cited_some (drop (past s) steps) i d y in
          let lt : w.0 < length steps - past s = subst (λ n. w.0 < n) (length-drop (past s) steps) w.1 in
          let t : ℕ = past s + w.0 + 1 in
          let back : t - 1 ≡ past s + w.0 = omega arith in
          let e : cites (step_number steps t) i ≡ true =
          ap (λ n. cites (get_or steps n d) i) back ∙ ap (λ x. cites x i) (sym (get_or-drop (past s) steps w.0 d)) ∙ w.2 in
          absurd (u t (omega arith) (omega arith) e)
      | inr n ↦ n
    ]
