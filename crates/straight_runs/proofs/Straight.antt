-- A straight run, step by step: after i steps the first i + 1 places hold powers, and the others are as they were. Assumes nothing.
use Rattle.std.proofs.Common.{◌≡◌, ℕ, zero, suc, ◌+◌, ◌<◌, ◌≤◌, true, false, List, [], ◌∷◌, ◌++◌, length, get_or, take, drop, set, Some, None, Option, sym, refl, ap, ◌∙◌, subst, ap₂, add-one, arith, take-append-drop}
use lib.ListN.{length-map}
use Rattle.std.proofs.lemmas.List.{get_or-take, get_or-map, take_more, take_more_set, drop-set-lt, drop-drop, take_all}
use Rattle.std.proofs.lemmas.Bool.{lt-leb, le-leb}
use Rattle.refusals.specs.declared.refusal.Refusal.{Refusal}
use Rattle.refusals.specs.declared.refusal.Refusal.TheVariants.{NotNative, TableShort}
use Rattle.refusals.specs.Faults.{verdict, settle}
use Rattle.plans.specs.declared.step.Step.{Step}
use Rattle.plans.specs.Chain.{values, value_at, step_at, Chain}
use Rattle.plans.proofs.Values.{value_suc, value_next}
use Rattle.kinds.specs.Kinds.{Meaning, product_of}
use Rattle.kinds.specs.Powers.{power}
use Rattle.kinds.proofs.Powers.{Laws, power_native, power_add}
use Rattle.straight_runs.specs.Straight.{powers_of, straight_fault, straightened, straight_answer, straight_after}

-- The first `count` places of `now` hold those of `all`, and the others what they held.
pub record Holds {V : Type 0} (all was now : List V) (count : ℕ) : Type 0 where
  pub front : take count now ≡ take count all
  pub back : drop count now ≡ drop count was

-- one place more
pub holds_more : {V : Type 0} (all was now : List V) (count : ℕ) (v : V) → count < length now → count < length all → v ≡ get_or all count v
    → Holds all was now count → Holds all was (set now count v) (count + 1)
holds_more all was now count v h k e f =
    record {
      front = take_more_set now count v h ∙ ap₂ (λ (xs : List _) (y : _). xs ++ y ∷ []) f.front e ∙ sym (take_more all count v k);
      back = drop-set-lt (count + 1) now count v (omega arith) ∙ sym (drop-drop 1 count now) ∙ ap (drop 1) f.back ∙ drop-drop 1 count was;
    }

pub holds_all : {V : Type 0} (all was now : List V) (count : ℕ) → count ≡ length all → Holds all was now count → now ≡ all ++ drop count was
holds_all all was now count e f =
    sym (take-append-drop count now) ∙ ap₂ (λ (xs ys : List _). xs ++ ys) (f.front ∙ take_all count all (omega arith)) f.back

pub holds_at : {V : Type 0} (all was now : List V) (count i : ℕ) (d : V) → i < count → Holds all was now count → get_or now i d ≡ get_or all i d
holds_at all was now count i d h f = sym (get_or-take count now i d h) ∙ ap (λ (xs : List _). get_or xs i d) f.front ∙ get_or-take count all i d h

-- at first the base stands in the first place
pub holds_base : {V : Type 0} (m : Meaning V) (s : List Step) (x : V) (was : List V) → 0 < length was → Holds (powers_of m s x) (set was 0 x) (set was 0 x) 1
holds_base m s x [] h = absurd (omega arith)
holds_base m s x (y ∷ ys) h = record { front = refl; back = refl }

pub values_length : (s : List Step) → length (values s) ≡ length s + 1
values_length s = ap suc (length-map s (λ x. x.value)) ∙ sym (add-one (length s))

pub powers_length : {V : Type 0} (m : Meaning V) (s : List Step) (x : V) → length (powers_of m s x) ≡ length s + 1
powers_length m s x = length-map (values s) (power m x) ∙ values_length s

-- every value of a chain is at least 1
pub value_positive : (n : ℕ) (s : List Step) → Chain n s → (i : ℕ) → i ≤ length s → 1 ≤ value_at s i
value_positive n s chain zero h = omega arith
value_positive n s chain (suc i) h = let r = (chain.rises i h).0 in subst (λ (z : ℕ). 1 ≤ z) (sym (value_suc s i)) (omega arith)

module _ {V : Type 0} (m : Meaning V) (laws : Laws m) (x : V) (base : m.native x ≡ true) (n : ℕ) (s : List Step) (chain : Chain n s) where
  power_at : (i : ℕ) (d : V) → i ≤ length s → get_or (powers_of m s x) i d ≡ power m x (value_at s i)
  power_at i d h = get_or-map (power m x) (values s) i 0 d (omega (arith, values_length s))

  -- what step i + 1 reads is a power
  read_power : (was now : List V) (i j : ℕ) (v : V) → i < length s → j ≤ i → Holds (powers_of m s x) was now (i + 1) → v ≡ get_or now j v → v ≡ power m x (value_at s j)
  read_power was now i j v h k f e = e ∙ holds_at (powers_of m s x) was now (i + 1) j v (omega arith) f ∙ power_at j v (omega arith)

  -- its two factors are native, so that their product is there
  pub turn_some : (was now : List V) (i : ℕ) (a b : V) → i < length s → Holds (powers_of m s x) was now (i + 1)
      → a ≡ get_or now (step_at s i).j a → b ≡ get_or now (step_at s i).k b → product_of m a b ≡ Some (m.times a b)
  turn_some was now i a b h f ea eb =
      let c = chain.cites i h in
      let pa = read_power was now i (step_at s i).j a h c.1 f ea in
      let pb = read_power was now i (step_at s i).k b h (omega arith) f eb in
      let na : m.native a ≡ true = ap m.native pa ∙ power_native m laws x base (value_at s (step_at s i).j) in
      let nb : m.native b ≡ true = ap m.native pb ∙ power_native m laws x base (value_at s (step_at s i).k) in
      rw (na, nb) refl

  -- and it is the next power
  turn_power : (was now : List V) (i : ℕ) (a b v : V) → i < length s → Holds (powers_of m s x) was now (i + 1)
      → a ≡ get_or now (step_at s i).j a → b ≡ get_or now (step_at s i).k b → m.times a b ≡ get_or (powers_of m s x) (i + 1) v
  turn_power was now i a b v h f ea eb =
      let j : ℕ = (step_at s i).j in
      let k : ℕ = (step_at s i).k in
      let c = chain.cites i h in
      ap₂ m.times (read_power was now i j a h c.1 f ea) (read_power was now i k b h (omega arith) f eb)
      ∙ sym (power_add m laws x base (value_at s j) (value_at s k) (value_positive n s chain j (omega arith)) (value_positive n s chain k (omega arith)))
      ∙ ap (power m x) (sym (chain.sums i h) ∙ sym (value_next s i))
      ∙ sym (power_at (i + 1) v (omega arith))

  pub turn_next : (was now : List V) (i : ℕ) (a b v : V) → i < length s → i + 1 < length now → Holds (powers_of m s x) was now (i + 1)
      → a ≡ get_or now (step_at s i).j a → b ≡ get_or now (step_at s i).k b → product_of m a b ≡ Some v
      → Holds (powers_of m s x) was (set now (i + 1) v) (i + 1 + 1)
  turn_next was now i a b v h l f ea eb e =
      let t = turn_some was now i a b h f ea eb in
      let p : v ≡ m.times a b = cc in
      holds_more (powers_of m s x) was now (i + 1) v l (omega (arith, powers_length m s x)) (p ∙ turn_power was now i a b v h f ea eb) f

  -- after the last step
  pub run_done : (was now : List V) (i : ℕ) → i ≡ length s → Holds (powers_of m s x) (set was 0 x) now (i + 1) → now ≡ straightened m s x was
  run_done was now i e f =
      let k : i + 1 ≡ length (powers_of m s x) = omega (arith, powers_length m s x) in
      holds_all (powers_of m s x) (set was 0 x) now (i + 1) k f
      ∙ ap (λ (xs : List V). powers_of m s x ++ xs) (drop-set-lt (i + 1) was 0 x (omega arith) ∙ ap (λ (z : ℕ). drop (z + 1) was) e)

-- ---- the fault

pub fault_foreign : {V : Type 0} (m : Meaning V) (s : List Step) (x : V) (places : ℕ) → m.native x ≡ false → straight_fault m s x places ≡ Some NotNative
fault_foreign m s x places h = rw h refl

pub fault_short : {V : Type 0} (m : Meaning V) (s : List Step) (x : V) (places : ℕ) → m.native x ≡ true → places < length s + 1
    → straight_fault m s x places ≡ Some (TableShort (length s + 1))
fault_short m s x places h k = rw (h, lt-leb (length s + 1) places k) refl

pub fault_none : {V : Type 0} (m : Meaning V) (s : List Step) (x : V) (places : ℕ) → m.native x ≡ true → length s + 1 ≤ places → straight_fault m s x places ≡ None
fault_none m s x places h k = rw (h, le-leb (length s + 1) places k) refl

-- what a fault, or none, makes of the answer and of the places
pub answer_by : {V : Type 0} (m : Meaning V) (s : List Step) (x : V) (places : ℕ) (f : Option Refusal) → straight_fault m s x places ≡ f → verdict f ≡ straight_answer m s x places
answer_by m s x places f h = sym (ap verdict h)

pub after_by : {V : Type 0} (m : Meaning V) (s : List Step) (x : V) (was : List V) (f : Option Refusal) → straight_fault m s x (length was) ≡ f
    → settle f was (straightened m s x was) ≡ straight_after m s x was
after_by m s x was f h = sym (ap (λ (z : Option Refusal). settle z was (straightened m s x was)) h)
