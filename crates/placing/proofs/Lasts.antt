-- The last citation of each value, and how long it is held. Assumes nothing.
use Rattle.std.proofs.Common.{◌≡◌, ℕ, ◌+◌, ◌-◌, ◌<◌, ◌≤◌, true, eqb, List, length, get_or, set, replicate, sym, ap, ◌∙◌, subst, inl, inr, arith}
use Rattle.std.proofs.lemmas.List.{get_or-set_same, get_or-set_other, length-set, get_or-replicate, length-replicate}
use Rattle.std.proofs.lemmas.Bool.{cases_eq, cases_lt, both_ways, or_left, or_right, or_cases, eq-eqb, eqb-true}
use Rattle.plans.specs.declared.step.Step.{Step}
use Rattle.plans.specs.Chain.{step_at}
use Rattle.placing.specs.Placing.{cites, held, past, step_number}
use Rattle.placing.specs.Last.{LastIn, LastOf}
use Rattle.placing.proofs.Held.{held_cited, held_from}

pub last_none : (steps : List Step) (i : ℕ) → LastIn steps 0 i 0
last_none steps i = record { within = omega arith; here = λ h. absurd (omega arith); after = λ t h k e. omega arith }

-- a step more that cites the value, and one that does not
pub last_here : (steps : List Step) (m i : ℕ) → cites (step_number steps (m + 1)) i ≡ true → LastIn steps (m + 1) i (m + 1)
last_here steps m i e = record { within = omega arith; here = λ h. e; after = λ t h k z. omega arith }

pub last_on : (steps : List Step) (m i n : ℕ) → (cites (step_number steps (m + 1)) i ≡ true → ⊥) → LastIn steps m i n → LastIn steps (m + 1) i n
last_on steps m i n ne l =
    record {
      within = omega (arith, l.within);
      here = l.here;
      after = λ t h k e. elim (cases_eq t (m + 1)) [
        | inl z ↦ ne (subst (λ v. cites (step_number steps v) i ≡ true) z e)
        | inr nz ↦ l.after t h (omega arith) e
      ];
    }

pub last_step : (steps : List Step) (m i : ℕ) (last : List ℕ) → i < length last →
    LastIn steps m i (get_or last i 0) →
    LastIn steps (m + 1) i (get_or (set (set last (step_number steps (m + 1)).j (m + 1)) (step_number steps (m + 1)).k (m + 1)) i 0)
last_step steps m i last h l =
    let j : ℕ = (step_number steps (m + 1)).j in
    let k : ℕ = (step_number steps (m + 1)).k in
    let one : List ℕ = set last j (m + 1) in
    let in1 : i < length one = omega (arith, length-set last j (m + 1)) in
    elim (cases_eq i k) [
      | inl e ↦
          let y : cites (step_number steps (m + 1)) i ≡ true = or_right (eqb j i) (eqb k i) (eq-eqb k i (sym e)) in
          let v : get_or (set one k (m + 1)) i 0 ≡ m + 1 = ap (λ x. get_or (set one x (m + 1)) i 0) (sym e) ∙ get_or-set_same one i (m + 1) 0 in1 in
          subst (LastIn steps (m + 1) i) (sym v) (last_here steps m i y)
      | inr nk ↦ elim (cases_eq i j) [
        | inl e ↦
            let y : cites (step_number steps (m + 1)) i ≡ true = or_left (eqb j i) (eqb k i) (eq-eqb j i (sym e)) in
            let v : get_or (set one k (m + 1)) i 0 ≡ m + 1 =
            get_or-set_other one k i (m + 1) 0 nk ∙ ap (λ x. get_or (set last x (m + 1)) i 0) (sym e) ∙ get_or-set_same last i (m + 1) 0 h in
            subst (LastIn steps (m + 1) i) (sym v) (last_here steps m i y)
        | inr nj ↦
            let v : get_or (set one k (m + 1)) i 0 ≡ get_or last i 0 =
            get_or-set_other one k i (m + 1) 0 nk ∙ get_or-set_other last j i (m + 1) 0 nj in
            let ne : cites (step_number steps (m + 1)) i ≡ true → ⊥ =
            λ y. elim (or_cases (eqb j i) (eqb k i) y) [ inl a ↦ nj (sym (eqb-true j i a)) | inr a ↦ nk (sym (eqb-true k i a)) ] in
            subst (LastIn steps (m + 1) i) (sym v) (last_on steps m i (get_or last i 0) ne l)
      ]
    ]

-- the table has the last of the first t steps that cites each value
pub record Noted (steps : List Step) (t : ℕ) (last : List ℕ) : Type 0 where
  pub long : length last ≡ 129
  pub each : (i : ℕ) → i < 129 → LastIn steps t i (get_or last i 0)

pub noted_none : (steps : List Step) → Noted steps 0 (replicate 129 0)
noted_none steps =
    record {
      long = length-replicate {A = ℕ} 129 0;
      each = λ i h. subst (LastIn steps 0 i) (sym (get_or-replicate 129 i 0 0 h)) (last_none steps i);
    }

-- the next step's number goes to the two values that it cites
pub noted_more : (steps : List Step) (t : ℕ) (last : List ℕ) → Noted steps t last →
    Noted steps (t + 1) (set (set last (step_at steps t).j (t + 1)) (step_at steps t).k (t + 1))
noted_more steps t last n =
    let at : (t + 1) - 1 ≡ t = omega arith in
    record {
      long = length-set (set last (step_at steps t).j (t + 1)) (step_at steps t).k (t + 1) ∙ length-set last (step_at steps t).j (t + 1) ∙ n.long;
      each = λ i h. subst (λ m. LastIn steps (t + 1) i (get_or (set (set last (step_at steps m).j (t + 1)) (step_at steps m).k (t + 1)) i 0)) at
          (last_step steps t i last (omega (arith, n.long)) (n.each i h));
    }

-- at the end it has the last citation of each value
pub noted_all : (steps : List Step) (t : ℕ) (last : List ℕ) → length steps ≤ 128 → t ≡ length steps → Noted steps t last →
    (i : ℕ) → i ≤ length steps → LastOf steps i (get_or last i 0)
noted_all steps t last short end n i h = subst (λ m. LastIn steps m i (get_or last i 0)) end (n.each i (omega arith))

-- a value is held at s exactly if its last citation is not over
pub held_lasts : (steps : List Step) (s i n : ℕ) → LastOf steps i n → past s < n → held steps s i ≡ true
held_lasts steps s i n l h = held_cited steps s n i h l.within (l.here (omega arith))

pub lasts_held : (steps : List Step) (s i n : ℕ) → LastOf steps i n → held steps s i ≡ true → past s < n
lasts_held steps s i n l e =
    elim (cases_lt (past s) n) [
      | inl h ↦ h
      | inr h ↦ absurd (both_ways (held steps s i) (held_from steps s i (λ t a b z. l.after t (omega arith) b z)) e)
    ]
