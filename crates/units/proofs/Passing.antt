-- What an accepted call says of the state, and a refused one of its answer. Assumes nothing.
use Rattle.std.proofs.Common.{◌≡◌, ℕ, ◌<◌, true, ltb, length, get_or, is_some, IsErrAnd, None, Ok, Err, Option, Result, sym, refl, ap, ◌∙◌, ltb-true, lt-ltb}
use Rattle.refusals.specs.declared.refusal.Refusal.{Refusal}
use Rattle.refusals.specs.declared.refusal.Refusal.TheVariants.{NotNative, NoSuchCell, CellEmpty, AllowanceSpent}
use Rattle.refusals.specs.Faults.{verdict, settle, Unchanged}
use Rattle.refusals.proofs.Firsts.{verdict_none, verdict_some, unless_true, first_none}
use Rattle.refusals.proofs.Answered.{not_both}
use Rattle.kinds.specs.Kinds.{Meaning}
use Rattle.units.specs.Units.{State, no_cell, no_value, cells_fault, load_fault, load_answer, multiply_fault, multiply_answer}

cell_there : {V : Type 0} (s : State V) (c : ℕ) → no_cell s c ≡ None → c < length s.cells
cell_there s c h = ltb-true c (length s.cells) (unless_true (ltb c (length s.cells)) (NoSuchCell c) h)

-- a load that is accepted has its cell, and its value is native
pub record Loads {V : Type 0} (m : Meaning V) (s : State V) (c : ℕ) (v : V) : Type 0 where
  pub cell : c < length s.cells
  pub native : m.native v ≡ true

pub loads : {V : Type 0} (m : Meaning V) (s : State V) (c : ℕ) (v : V) → load_answer m s c v ≡ Ok tt → Loads m s c v
loads m s c v h =
    let f = first_none _ _ (verdict_none (load_fault m s c v) (sym h)) in
    record { cell = cell_there s c f.0; native = unless_true (m.native v) NotNative f.1 }

pub load_accepted : {V : Type 0} (m : Meaning V) (s : State V) (c : ℕ) (v : V) → Loads m s c v → load_answer m s c v ≡ Ok tt
load_accepted m s c v l =
    let p = lt-ltb c (length s.cells) l.cell in
    let q = l.native in
    simp (p, q)

-- a multiplication that is accepted has its three cells, two of them filled, and an allowance
pub record Multiplies {V : Type 0} (s : State V) (to a b : ℕ) : Type 0 where
  pub to_there : to < length s.cells
  pub a_there : a < length s.cells
  pub b_there : b < length s.cells
  pub a_filled : is_some (get_or s.cells a None) ≡ true
  pub b_filled : is_some (get_or s.cells b None) ≡ true
  pub some : 0 < s.left

pub multiplies : {V : Type 0} (s : State V) (to a b : ℕ) → multiply_answer s to a b ≡ Ok tt → Multiplies s to a b
multiplies s to a b h =
    let f = first_none (cells_fault s to a b) _ (verdict_none (multiply_fault s to a b) (sym h)) in
    let f0 = first_none (no_cell s to) _ f.0 in
    let f1 = first_none (no_cell s a) _ f0.1 in
    let f2 = first_none (no_cell s b) _ f1.1 in
    let f3 = first_none (no_value s a) _ f2.1 in
    record {
      to_there = cell_there s to f0.0;
      a_there = cell_there s a f1.0;
      b_there = cell_there s b f2.0;
      a_filled = unless_true (is_some (get_or s.cells a None)) (CellEmpty a) f3.0;
      b_filled = unless_true (is_some (get_or s.cells b None)) (CellEmpty b) f3.1;
      some = ltb-true 0 s.left (unless_true (ltb 0 s.left) AllowanceSpent f.1);
    }

pub multiply_accepted : {V : Type 0} (s : State V) (to a b : ℕ) → Multiplies s to a b → multiply_answer s to a b ≡ Ok tt
multiply_accepted s to a b m =
    let p = lt-ltb to (length s.cells) m.to_there in
    let p' = lt-ltb a (length s.cells) m.a_there in
    let p'' = lt-ltb b (length s.cells) m.b_there in
    let f = m.a_filled in
    let f' = m.b_filled in
    let q = lt-ltb 0 s.left m.some in
    simp (p, p', p'', f, f', q)

-- a call hands on the refusal of its check
pub handed_on : (f : Option Refusal) (e : Refusal) (r : Result (Unit {0}) Refusal) → IsErrAnd r (λ y. y ≡ e) → Err e ≡ verdict f → r ≡ verdict f
handed_on f e (Ok x) h told = absurd h
handed_on f e (Err y) h told = ap (λ (z : Refusal). Err z) h ∙ told

-- an accepted call is not refused
pub no_refusal : {P : Type 0} (e : Refusal) (r : Result (Unit {0}) Refusal) → Err e ≡ r → r ≡ Ok tt → P
no_refusal e r told p = not_both tt e (sym (told ∙ p))

-- a call that touched nothing changed nothing, however it answers
pub untouched : {X E A : Type 0} (r : Result X E) (u : A) → Unchanged r u u
untouched (Ok x) u = tt
untouched (Err e) u = refl

-- an accepted call may change all
pub may_change : {A : Type 0} (r : Result (Unit {0}) Refusal) (old new : A) → r ≡ Ok tt → Unchanged r old new
may_change (Ok x) old new p = tt
may_change (Err e) old new p = not_both tt e (sym p)

-- what an accepted call leaves
pub settles : {X : Type 0} (f : Option Refusal) (s t : X) → verdict f ≡ Ok tt → settle f s t ≡ t
settles f s t h = ap (λ (z : Option Refusal). settle z s t) (verdict_none f (sym h))

-- what a refused call leaves
pub stays : {X : Type 0} (f : Option Refusal) (e : Refusal) (s t : X) → Err e ≡ verdict f → settle f s t ≡ s
stays f e s t told = ap (λ (z : Option Refusal). settle z s t) (verdict_some f e told)
