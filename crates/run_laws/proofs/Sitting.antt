-- Where the powers lie while the steps of a plan are made, on any placing. Assumes nothing.
use Rattle.std.proofs.Common.{◌≡◌, ℕ, zero, suc, ◌+◌, ◌-◌, ◌<◌, ◌≤◌, true, eqb, List, [], ◌∷◌, length, get_or, set, Some, None, Ok, Option, sym, refl, ap, ◌∙◌, subst, inl, le_of_suc-le-suc, not-suc-le-zero, add-one, arith, length-set, lt-ltb, eq-eqb}
use Rattle.std.proofs.lemmas.Bool.{or_left, or_right}
use Rattle.plans.specs.declared.step.Step.{Step}
use Rattle.plans.specs.Chain.{no_step, step_at, value_at, Chain}
use Rattle.plans.proofs.Values.{value_suc}
use Rattle.placing.specs.Placing.{cites}
use Rattle.placing.proofs.Run.{Stored, stored_read, stored_more}
use Rattle.kinds.specs.Kinds.{Meaning}
use Rattle.kinds.specs.Powers.{power}
use Rattle.kinds.proofs.Powers.{Laws, power_add}
use Rattle.units.specs.Units.{State, reading, multiply_fault, both}
use Rattle.run_laws.specs.Runs.{cell_of, stepped, after_steps, Ready}

pub cites_first : (x : Step) → cites x x.j ≡ true
cites_first x = or_left (eqb x.j x.j) (eqb x.k x.j) (eq-eqb x.j x.j refl)

pub cites_second : (x : Step) → cites x x.k ≡ true
cites_second x = or_right (eqb x.j x.k) (eqb x.k x.k) (eq-eqb x.k x.k refl)

-- every value of a chain is at least 1
pub value_positive : (n : ℕ) (steps : List Step) → Chain n steps → (v : ℕ) → v ≤ length steps → 1 ≤ value_at steps v
value_positive n steps c zero h = omega arith
value_positive n steps c (suc v) h =
    let r = (c.rises v (omega arith)).0 in
    let e = value_suc steps v in
    omega arith

-- a place within a list is read alike at every default
pub any_default : {A : Type 0} (l : List A) (i : ℕ) (d e : A) → i < length l → get_or l i e ≡ get_or l i d
any_default [] i d e h = absurd (not-suc-le-zero h)
any_default (y ∷ l) zero d e h = refl
any_default (y ∷ l) (suc i) d e h = any_default l i d e (le_of_suc-le-suc h)

multiply_fine : {V : Type 0} (t : State V) (to a b : ℕ) (x y : V) → to < length t.cells → a < length t.cells → b < length t.cells
    → get_or t.cells a None ≡ Some x → get_or t.cells b None ≡ Some y → 0 < t.left → multiply_fault t to a b ≡ None
multiply_fine t to a b x y p q r e f l =
    simp (lt-ltb to (length t.cells) p, lt-ltb a (length t.cells) q, lt-ltb b (length t.cells) r, e, f, lt-ltb 0 t.left l) refl

module _ {V : Type 0} (m : Meaning V) (s : State V) (n : ℕ) (steps : List Step) (places : List ℕ) (x : V) where
  -- value v as a power of the base
  abbrev powered : ℕ → Option V
  powered v = Some (power m x (value_at steps v))

  -- after i steps each value that is last or still cited lies in its cell
  pub record Sits (i : ℕ) (t : State V) : Type 0 where
    pub cells : length t.cells ≡ length s.cells
    pub left : t.left + i ≡ s.left
    pub stored : Stored powered steps places i t.cells

  module _ (laws : Laws m) (r : Ready m s n steps places x) where
    pub sits_first : Sits 0 s
    sits_first = record {
      cells = refl;
      left = omega arith;
      stored = λ v d h k.
          let z : 0 ≡ v = omega arith in
          subst (λ (u : ℕ). get_or s.cells (cell_of places u) d ≡ powered u) z
          (any_default s.cells (cell_of places 0) None d (r.placing.below 0 (omega arith)) ∙ r.start);
    }

    module _ (i : ℕ) (t : State V) (more : i < length steps) (sits : Sits i t) where
      abbrev st : Step
      st = step_at steps i

      within : (v : ℕ) → v ≤ length steps → cell_of places v < length t.cells
      within v h = let a = r.placing.below v h in let b = sits.cells in omega arith

      below_j : st.j ≤ i
      below_j = (r.chain.cites i more).1

      below_k : st.k ≤ i
      below_k = let a = below_j in let b = (r.chain.cites i more).0 in omega arith

      lies : (v : ℕ) → v ≤ i → cites st v ≡ true → get_or t.cells (cell_of places v) None ≡ powered v
      lies v h e =
          let same : i + 1 - 1 ≡ i = omega arith in
          stored_read powered steps places i t.cells sits.stored more v None h (ap (λ (u : ℕ). cites (get_or steps u no_step) v) same ∙ e)

      at_j : get_or t.cells (cell_of places st.j) None ≡ powered st.j
      at_j = lies st.j below_j (cites_first st)

      at_k : get_or t.cells (cell_of places st.k) None ≡ powered st.k
      at_k = lies st.k below_k (cites_second st)

      has_left : 0 < t.left
      has_left = let a = sits.left in let b = r.enough in omega arith

      pub next_fine : multiply_fault t (cell_of places (i + 1)) (cell_of places st.j) (cell_of places st.k) ≡ None
      next_fine =
          multiply_fine t (cell_of places (i + 1)) (cell_of places st.j) (cell_of places st.k) _ _
          (within (i + 1) (omega arith)) (within st.j (let a = below_j in omega arith)) (within st.k (let a = below_k in omega arith)) at_j at_k has_left

      -- what is put is the next power
      made_is : both m.times (get_or t.cells (cell_of places st.j) None) (get_or t.cells (cell_of places st.k) None) ≡ powered (i + 1)
      made_is =
          let sum : value_at steps (i + 1) ≡ value_at steps st.j + value_at steps st.k =
          ap (value_at steps) (add-one i) ∙ value_suc steps i ∙ r.chain.sums i more in
          let p = power_add m laws x r.native (value_at steps st.j) (value_at steps st.k)
          (value_positive n steps r.chain st.j (let a = below_j in omega arith))
          (value_positive n steps r.chain st.k (let a = below_k in omega arith)) in
          rw (at_j, at_k) (ap Some (sym p ∙ ap (power m x) (sym sum)))

      pub sits_next : Sits (i + 1) (stepped m t places (i + 1) st)
      sits_next = record {
        cells = length-set t.cells (cell_of places (i + 1)) _ ∙ sits.cells;
        left = let a = sits.left in let b = has_left in omega arith;
        stored = subst (λ (z : Option V). Stored powered steps places (i + 1) (set t.cells (cell_of places (i + 1)) z)) (sym made_is)
            (stored_more powered (length s.cells) steps places i t.cells r.placing (let a = sits.cells in omega arith) more sits.stored);
      }

    pub sits_at : (i : ℕ) → i ≤ length steps → Sits i (after_steps m s places steps i)
    sits_at zero h = sits_first
    sits_at (suc i) h =
        let t = after_steps m s places steps i in
        subst (λ (z : ℕ). Sits z (stepped m t places z (step_at steps i))) (add-one i) (sits_next i t (omega arith) (sits_at i (omega arith)))

    pub sits_end : Sits (length steps) (after_steps m s places steps (length steps))
    sits_end = sits_at (length steps) (omega arith)

    pub read_fine : reading (after_steps m s places steps (length steps)) (cell_of places (length steps)) ≡ Ok (power m x n)
    read_fine =
        let t = after_steps m s places steps (length steps) in
        let here = sits_end.stored (length steps) None (omega arith) (inl refl) in
        let inside : cell_of places (length steps) < length t.cells = (let a = r.placing.below (length steps) (omega arith) in let b = sits_end.cells in omega arith) in
        simp (lt-ltb (cell_of places (length steps)) (length t.cells) inside, here) (ap (λ (z : ℕ). Ok (power m x z)) r.chain.reaches)
