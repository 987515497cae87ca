-- What a call means through a run sheet, and what its records are. Assumes nothing.
use Rattle.std.proofs.Common.{◌≡◌, ℕ, zero, suc, ◌+◌, ◌-◌, ◌<◌, ◌≤◌, min, List, [], ◌∷◌, ◌++◌, length, get_or, take, Some, None, Ok, Err, Result, sym, refl, ap, ◌∙◌, arith, length-take, get_or-take, length-append}
use Rattle.std.proofs.lemmas.Option.{slice_get_past, slice_get-get_or}
use Rattle.refusals.specs.Faults.{Unchanged}
use Rattle.kinds.specs.Kinds.{Meaning}
use Rattle.units.specs.declared.record.Record.{Record}
use Rattle.units.specs.Units.{State, multiplied}
use Rattle.units.proofs.Passing.{Multiplies}
use Rattle.run_sheet.specs.declared.run_sheet.RunSheet.{RunSheet}
use Rattle.run_sheet.specs.Sheets.{sheeted, numbered}

-- a multiplication that the run sheet accepts is accepted below
pub multiplies_below : {V : Type 0} (s : State V) (records : List Record) (to a b : ℕ) → Multiplies (sheeted records s) to a b → Multiplies s to a b
multiplies_below s records to a b l =
    record { to_there = l.to_there; a_there = l.a_there; b_there = l.b_there; a_filled = l.a_filled; b_filled = l.b_filled; some = omega (arith, l.some) }

-- a record stored and a multiplication made below are one multiplication through the run sheet
pub one_more : {V : Type 0} (m : Meaning V) (s : State V) (records : List Record) (to a b : ℕ) →
    sheeted (records ++ (record { to = to; a = a; b = b } ∷ [])) (multiplied m s to a b) ≡ multiplied m (sheeted records s) to a b
one_more m s records to a b =
    let r : Record = record { to = to; a = a; b = b } in
    let l : length (records ++ (r ∷ [])) ≡ length records + 1 = length-append records (r ∷ []) in
    let e : min (s.left - 1) (1024 - length (records ++ (r ∷ []))) ≡ min s.left (1024 - length records) - 1 = omega (arith, l) in
    rw e

-- a run sheet whose unit below alone was called is unchanged if that is
pub refused_below : {X E U V : Type 0} (q : RunSheet U V) (below : U) (r : Result X E)
    → Unchanged r q.below below → Unchanged r q (record { below = below; records = q.records })
refused_below q below (Ok x) h = tt
refused_below q below (Err e) h = λ i. record { below = h i; records = q.records }

pub no_number : (rs : List Record) (n : ℕ) → n ≡ 0 → None ≡ numbered rs n
no_number rs zero h = refl
no_number rs (suc i) h = absurd (omega arith)

pub past_number : (rs : List Record) (n : ℕ) → length rs < n → None ≡ numbered rs n
past_number rs zero h = absurd (omega arith)
past_number rs (suc i) h = sym (slice_get_past rs i (omega arith))

pub at_number : (rs : List Record) (len n : ℕ) (d : Record) → (n ≡ 0 → ⊥) → n ≤ len → len ≤ length rs → Some (get_or rs (n - 1) d) ≡ numbered (take len rs) n
at_number rs len zero d h k l = absurd (h refl)
at_number rs len (suc i) d h k l =
    let e : suc i - 1 ≡ i = omega arith in
    let within : i < length (take len rs) = simp length-take (omega arith) in
    rw e
    (ap (λ (r : Record). Some r) (sym (get_or-take len rs i d (omega arith))) ∙ sym (slice_get-get_or (take len rs) i d within))
