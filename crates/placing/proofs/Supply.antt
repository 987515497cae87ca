-- The supplied cells are a placing within the need, and first fit finds them. Assumes nothing.
use Rattle.std.proofs.Common.{◌≡◌, ℕ, zero, suc, ◌+◌, ◌<◌, ◌≤◌, Bool, true, false, ◌&&◌, eqb, List, [], ◌++◌, length, get_or, take, sym, refl, subst, inl, inr, arith}
use Rattle.std.proofs.lemmas.List.{length_push, take_at}
use Rattle.std.proofs.lemmas.Bool.{cases_Bool, cases_eq, cases_lt, cases_order, both_ways, cond_both, cond-false, and_parts, and_from, ltb-true, lt-ltb, eqb-true, eq-eqb}
use Rattle.plans.specs.declared.step.Step.{Step}
use Rattle.placing.specs.Placing.{held, count, live, Supplied}
use Rattle.placing.specs.Supply.{taken, lowest, first_cells, supplied_cells}
use Rattle.placing.proofs.Pigeon.{count_le, count_less}
use Rattle.placing.proofs.Crowds.{Taken, crowd}
use Rattle.placing.proofs.Upto.{Upto, upto_none, upto_more, upto_supplied}

-- a count above 0 has a number that passes
count_some : (p : ℕ → Bool) (n : ℕ) → 0 < count p n → (i : ℕ) × (i < n) × (p i ≡ true)
count_some p zero h = absurd (omega arith)
count_some p (suc n) h =
    elim (cases_Bool (p n)) [
      | inl e ↦ (n, omega arith, e)
      | inr e ↦ let w = count_some p n (omega (arith, cond-false {A = ℕ} (p n) 1 0 e)) in (w.0, omega (arith, w.1), w.2)
    ]

-- the lowest number that fails p, or n: all below it pass
pub record Lowest (p : ℕ → Bool) (n x : ℕ) : Type 0 where
  pub within : x ≤ n
  pub passed : (y : ℕ) → y < x → p y ≡ true
  pub fails : x < n → p x ≡ false

passed_more : (p : ℕ → Bool) (x : ℕ) → p 0 ≡ true → ((y : ℕ) → y < x → p (suc y) ≡ true) → (y : ℕ) → y < suc x → p y ≡ true
passed_more p x e h zero l = e
passed_more p x e h (suc y) l = h y (omega arith)

pub lowest_is : (p : ℕ → Bool) (n : ℕ) → Lowest p n (lowest p n)
lowest_is p zero = record { within = omega arith; passed = λ y h. absurd (omega arith); fails = λ h. absurd (omega arith) }
lowest_is p (suc n) =
    let w = lowest_is (λ x. p (suc x)) n in
    cond_both (p 0) (suc (lowest (λ x. p (suc x)) n)) 0 (Lowest p (suc n))
    (λ e. record { within = omega (arith, w.within); passed = passed_more p _ e w.passed; fails = λ h. w.fails (omega arith) })
    (λ e. record { within = omega arith; passed = λ y h. absurd (omega arith); fails = λ h. e })

module _ (steps : List Step) (cells : List ℕ) (s : ℕ) where
  -- the test of a cell and the rule say the same
  taken_true : (x : ℕ) → taken steps cells s x ≡ true → Taken steps cells s x
  taken_true x e =
      let w = count_some _ s (ltb-true _ _ e) in
      let a = and_parts (held steps s w.0) _ w.2 in (w.0, w.1, a.0, eqb-true _ _ a.1)

  true_taken : (x : ℕ) → Taken steps cells s x → taken steps cells s x ≡ true
  true_taken x t =
      let has : ℕ → Bool = λ i. held steps s i && eqb (get_or cells i 0) x in
      let e = and_from (held steps s t.0) (eqb (get_or cells t.0 0) x) t.2 (eq-eqb _ _ t.3) in
      lt-ltb _ _ (omega (arith, count_less has t.0 s t.1 e))

  -- the lowest cell that is not taken
  abbrev pub lowest_free : ℕ
  lowest_free = lowest (taken steps cells s) s

  pub below_taken : (y : ℕ) → y < lowest_free → Taken steps cells s y
  below_taken y h = taken_true y ((lowest_is (taken steps cells s) s).passed y h)

  pub lowest_free_lem : Taken steps cells s lowest_free → ⊥
  lowest_free_lem t =
      elim (cases_lt lowest_free s) [
        | inl h ↦ both_ways _ ((lowest_is (taken steps cells s) s).fails h) (true_taken _ t)
        | inr h ↦
            let all : (y : ℕ) → y < suc lowest_free → Taken steps cells s y =
            λ y l. elim (cases_eq y lowest_free) [ inl e ↦ subst (Taken steps cells s) (sym e) t | inr ne ↦ below_taken y (omega arith) ] in
            omega (arith, crowd steps cells s (suc lowest_free) all, count_le (held steps s) s)
      ]

  pub lowest_live : lowest_free < live steps s
  lowest_live = omega (arith, crowd steps cells s lowest_free below_taken)

  -- no other cell is free with all below it taken
  pub lowest_one : (x : ℕ) → ((y : ℕ) → y < x → Taken steps cells s y) → (Taken steps cells s x → ⊥) → lowest_free ≡ x
  lowest_one x all free =
      elim (cases_order lowest_free x) [
        | inl e ↦ e
        | inr o ↦ elim o [ inl l ↦ absurd (lowest_free_lem (all lowest_free l)) | inr l ↦ absurd (free (below_taken x l)) ]
      ]

pub first_length : (steps : List Step) (n : ℕ) → length (first_cells steps n) ≡ n
first_length steps zero = refl
first_length steps (suc n) = omega (arith, length_push (first_cells steps n) (lowest_free steps (first_cells steps n) n), first_length steps n)

pub first_upto : (steps : List Step) (n : ℕ) → n ≤ length steps + 1 → Upto steps n (first_cells steps n)
first_upto steps zero h = upto_none steps []
first_upto steps (suc n) h =
    let cells : List ℕ = first_cells steps n in
    upto_more steps n cells (lowest_free steps cells n) (omega arith) (first_length steps n) (lowest_live steps cells n) (lowest_free_lem steps cells n)
    (first_upto steps n (omega arith))

-- one for each value, and the supplied placing
pub length_supplied : (steps : List Step) → length (supplied_cells steps) ≡ length steps + 1
unfolding supplied_cells
length_supplied steps = first_length steps (length steps + 1)

pub supplied_cells_lem : (steps : List Step) → Supplied steps (supplied_cells steps)
unfolding supplied_cells
supplied_cells_lem steps =
    upto_supplied steps (first_cells steps (length steps + 1)) (first_length steps (length steps + 1)) (first_upto steps (length steps + 1) (omega arith))

-- a table that begins with them
pub front_supplied : (steps : List Step) (table rest : List ℕ) → table ≡ supplied_cells steps ++ rest → take (length steps + 1) table ≡ supplied_cells steps
front_supplied steps table rest e = rw e (take_at (supplied_cells steps) rest (length steps + 1) (length_supplied steps))
