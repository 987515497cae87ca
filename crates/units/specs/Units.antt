-- What a unit means: its cells, the allowance left, the records it keeps; and what each call does to them. Assumes nothing.
use Rattle.std.specs.Prelude.{◌≡◌, ℕ, ◌-◌, true, cond, List, [], ◌∷◌, ◌++◌, length, is_some, Some, None, Ok, Err, Option, Result, nat_lt, slice_index_or, slice_set}
use Rattle.std.specs.Option.{option_map}
use Rattle.refusals.specs.declared.refusal.Refusal.{Refusal}
use Rattle.refusals.specs.declared.refusal.Refusal.TheVariants.{NotNative, NoSuchCell, CellEmpty, AllowanceSpent}
use Rattle.refusals.specs.Faults.{first, unless, verdict, settle}
use Rattle.kinds.specs.Kinds.{Meaning}
use Rattle.units.specs.declared.record.Record.{Record}

-- the cells and what each holds, the allowance left, and the records if any are kept
pub record State (V : Type 0) : Type 0 where
  pub cells : List (Option V)
  pub left : ℕ
  pub log : Option (List Record)

-- what two cells give together, if both hold a value
abbrev pub both : {V : Type 0} → (V → V → V) → Option V → Option V → Option V
both f None y = None
both f (Some v) None = None
both f (Some v) (Some w) = Some (f v w)

-- the fault that none of so many cells has number c, if none has
abbrev pub outside : ℕ → ℕ → Option Refusal
outside cells c = unless (nat_lt c cells) (NoSuchCell c)

-- the fault that no cell has number c, if none has
abbrev pub no_cell : {V : Type 0} → State V → ℕ → Option Refusal
no_cell s c = outside (length s.cells) c

-- the fault that cell c is empty, if it is
abbrev pub no_value : {V : Type 0} → State V → ℕ → Option Refusal
no_value s c = unless (is_some (slice_index_or s.cells c None)) (CellEmpty c)

-- why a value v cannot be put into cell c
abbrev pub load_fault : {V : Type 0} → Meaning V → State V → ℕ → V → Option Refusal
load_fault m s c v = first (no_cell s c) (unless (m.native v) NotNative)

-- cell c holds v, and all else is as it was
abbrev pub loaded : {V : Type 0} → State V → ℕ → V → State V
loaded s c v = record { cells = slice_set s.cells c (Some v); left = s.left; log = s.log }

-- what a load answers, and what it leaves
abbrev pub load_answer : {V : Type 0} → Meaning V → State V → ℕ → V → Result (Unit {0}) Refusal
load_answer m s c v = verdict (load_fault m s c v)

abbrev pub load_after : {V : Type 0} → Meaning V → State V → ℕ → V → State V
load_after m s c v = settle (load_fault m s c v) s (loaded s c v)

-- what cell c is read as, being there
abbrev pub content : {V : Type 0} → Option V → ℕ → Result V Refusal
content None c = Err (CellEmpty c)
content (Some v) c = Ok v

-- what a reading answers; it changes nothing
abbrev pub reading : {V : Type 0} → State V → ℕ → Result V Refusal
reading s c = cond (nat_lt c (length s.cells)) (content (slice_index_or s.cells c None) c) (Err (NoSuchCell c))

-- what the cells alone refuse of a multiplication
abbrev pub cells_fault : {V : Type 0} → State V → ℕ → ℕ → ℕ → Option Refusal
cells_fault s to a b =
    first (no_cell s to) (first (no_cell s a) (first (no_cell s b) (first (no_value s a) (no_value s b))))

-- why the product of cells a and b cannot be put into cell to
abbrev pub multiply_fault : {V : Type 0} → State V → ℕ → ℕ → ℕ → Option Refusal
multiply_fault s to a b = first (cells_fault s to a b) (unless (nat_lt 0 s.left) AllowanceSpent)

-- cell to holds the product of cells a and b, a and b being filled, the allowance is one less, and the record is added where records are kept
abbrev pub multiplied : {V : Type 0} → Meaning V → State V → ℕ → ℕ → ℕ → State V
multiplied m s to a b = record {
  cells = slice_set s.cells to (both m.times (slice_index_or s.cells a None) (slice_index_or s.cells b None));
  left = s.left - 1;
  log = option_map (λ l. l ++ (record { to = to; a = a; b = b }) ∷ []) s.log;
}

-- what a multiplication answers, and what it leaves
abbrev pub multiply_answer : {V : Type 0} → State V → ℕ → ℕ → ℕ → Result (Unit {0}) Refusal
multiply_answer s to a b = verdict (multiply_fault s to a b)

abbrev pub multiply_after : {V : Type 0} → Meaning V → State V → ℕ → ℕ → ℕ → State V
multiply_after m s to a b = settle (multiply_fault s to a b) s (multiplied m s to a b)

-- as many cells in t as in s, and records kept in t exactly if in s
abbrev pub SameShape : {V : Type 0} → State V → State V → Type 0
SameShape s t = (length t.cells ≡ length s.cells) × (is_some t.log ≡ is_some s.log)

-- what a cell holds, if anything, is native
abbrev pub Native : {V : Type 0} → Meaning V → Option V → Type 0
Native {V} m held = (v : V) → held ≡ Some v → m.native v ≡ true

-- what each cell holds is native
abbrev pub AllNative : {V : Type 0} → Meaning V → List (Option V) → Type 0
AllNative m cells = (i : ℕ) → Native m (slice_index_or cells i None)
