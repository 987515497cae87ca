-- The steps that were read are written as the same text.
use Rattle.std.proofs.Common.{◌≡◌, ℕ, zero, suc, ◌+◌, ◌*◌, ◌^◌, ◌<◌, ◌≤◌, Bool, true, false, cond, eqb, List, [], ◌∷◌, ◌++◌, length, get_or, take, drop, is_ok, IfOk, Some, None, Ok, Err, Decides, Option, Result, sym, refl, ap, ◌∙◌, subst, arith}
use Rattle.refusals.specs.declared.refusal.Refusal.{Refusal}
use Rattle.refusals.specs.Faults.{and_then}
use Rattle.fields.specs.Field.{field, field_value}
use Rattle.fields.proofs.Inverse.{write_field}
use Rattle.plans.specs.declared.step.Step.{Step}
use Rattle.sheets.specs.declared.fault.Fault.{Fault}
use Rattle.sheets.specs.declared.fault.Found.{Found}
use Rattle.sheets.specs.declared.fault.Place.{Place}
use Rattle.sheets.specs.declared.column.Column.{Column}
use Rattle.sheets.specs.declared.column.Column.TheVariants.{Number, First, Second, Value}
use Rattle.sheets.specs.Columns.{width, cell}
use Rattle.sheets.specs.Lines.{line, line_bytes, newline, Writable}
use Rattle.sheets.specs.Sheets.{sheet, sheet_from, AllWritable, IsSheet}
use Rattle.sheets.specs.Reading.{number_in, read_line, line_at, line_in, or_next, first_fault, step_of, steps_from, text_lines, room_for, read_lines, read_sheet, counted, filled, unless_found}
use Rattle.sheets.specs.Places.{at, place_in, outset, stand, standing, stand_in}
use Rattle.std.proofs.lemmas.Bool.{false≢true, eqb-true}
use Rattle.std.proofs.lemmas.List.{take_at, length-drop, length-take-le, drop-drop, drop_all, drop_more, take-append-drop}
use Rattle.sheets.proofs.Lines.{number_held, length_cell, cell_bound}
use Rattle.sheets.proofs.Reread.{all_cons, read_back}
use Rattle.sheets.proofs.Readings.{length_steps}

-- ---- a line that was read
never : {X : Type 0} → ◌≡◌ {A = ℕ} 0 1 → X
never z = let f : ⊥ = omega arith in elim f [ ]

then_ok : {X Y : Type 0} (r : Result X Fault) (go : X → Result Y Fault) (y : Y) → and_then r go ≡ Ok y → (x : X) × (r ≡ Ok x) × (go x ≡ Ok y)
then_ok (Ok x) go y e = (x, refl, e)
then_ok (Err f) go y e = never (let z : ◌≡◌ {A = ℕ} 0 1 = cc in z)

cond_ok : {X E : Type 0} (b : Bool) (r : Result X E) (f : E) (y : X) → cond b r (Err f) ≡ Ok y → (b ≡ true) × (r ≡ Ok y)
cond_ok true r f y e = (refl, e)
cond_ok false r f y e = never (let z : ◌≡◌ {A = ℕ} 0 1 = cc in z)

ok_same : {X E : Type 0} (x y : X) → ◌≡◌ {A = Result X E} (Ok x) (Ok y) → x ≡ y
ok_same x y e = cc

-- the number that was read in a column is written as the column's bytes
column_back : (i : ℕ) (c : Column) (b : List ℕ) (v : ℕ) → length b ≡ line_bytes → number_in i c (field_value (cell c b)) ≡ Ok v → (field (width c) v ≡ cell c b) × (v < 10 ^ width c)
column_back i c b v l e =
    let h = number_held i c (field_value (cell c b)) v (sym e) in
    (sym ((write_field (cell c b) v h).0 ∙ ap (λ k. field k v) (length_cell c b l)), cell_bound c b v l h)

split_at : (w : ℕ) (b : List ℕ) (i j : ℕ) → i + w ≡ j → drop i b ≡ take w (drop i b) ++ drop j b
split_at w b i j e = sym (take-append-drop w (drop i b)) ∙ ap (λ xs. take w (drop i b) ++ xs) (drop-drop w i b ∙ ap (λ k. drop k b) e)

-- a line is its columns and its newline
parts : (b : List ℕ) → length b ≡ line_bytes → get_or b 31 0 ≡ newline → cell Number b ++ (cell First b ++ (cell Second b ++ (cell Value b ++ (newline ∷ [])))) ≡ b
parts b l e =
    let last : drop 31 b ≡ newline ∷ [] = drop_more b 31 0 (omega arith) ∙ ap (λ c. c ∷ drop 32 b) e ∙ ap (λ xs. newline ∷ xs) (drop_all 32 b (omega arith)) in
    sym (split_at 4 b 0 4 refl ∙ ap (λ xs. cell Number b ++ xs)
    (split_at 4 b 4 8 refl ∙ ap (λ xs. cell First b ++ xs)
    (split_at 4 b 8 12 refl ∙ ap (λ xs. cell Second b ++ xs)
    (split_at 19 b 12 31 refl ∙ ap (λ xs. cell Value b ++ xs) last))))

line_back : (i : ℕ) (b : List ℕ) (s : Step) → length b ≡ line_bytes → read_line i b ≡ Ok s → (line i s ≡ b) × Writable s
line_back i b s l e =
    let c0 = cond_ok (eqb (get_or b 31 0) newline) _ _ s e in
    let a1 = then_ok (number_in i Number (field_value (cell Number b))) _ s c0.1 in
    let a2 = then_ok (number_in i First (field_value (cell First b))) _ s a1.2 in
    let a3 = then_ok (number_in i Second (field_value (cell Second b))) _ s a2.2 in
    let a4 = then_ok (number_in i Value (field_value (cell Value b))) _ s a3.2 in
    let c5 = cond_ok (eqb a1.0 i) _ _ s a4.2 in
    let r : Step = record { j = a2.0; k = a3.0; value = a4.0 } in
    let s-is : r ≡ s = ok_same r s c5.1 in
    let n-is : a1.0 ≡ i = eqb-true a1.0 i c5.0 in
    let w1 = column_back i Number b a1.0 l a1.1 in
    let w2 = column_back i First b a2.0 l a2.1 in
    let w3 = column_back i Second b a3.0 l a3.1 in
    let w4 = column_back i Value b a4.0 l a4.1 in (
      sym (ap (λ n. line n r) n-is ∙ ap (line i) s-is)
          ∙ ap (λ xs. xs ++ (field 4 a2.0 ++ (field 4 a3.0 ++ (field 19 a4.0 ++ (newline ∷ []))))) w1.0
          ∙ ap (λ xs. cell Number b ++ (xs ++ (field 4 a3.0 ++ (field 19 a4.0 ++ (newline ∷ []))))) w2.0
          ∙ ap (λ xs. cell Number b ++ (cell First b ++ (xs ++ (field 19 a4.0 ++ (newline ∷ []))))) w3.0
          ∙ ap (λ xs. cell Number b ++ (cell First b ++ (cell Second b ++ (xs ++ (newline ∷ []))))) w4.0
          ∙ parts b l (eqb-true (get_or b 31 0) newline c0.0),
      subst Writable s-is (w2.1, w3.1, w4.1),
    )

-- ---- a text that was read
next_ok : (i : ℕ) (r : Result Step Fault) (next : Option Found) → or_next i r next ≡ None → (r ≡ Ok (step_of r)) × (next ≡ None)
next_ok i (Ok s) next e = (refl, e)
next_ok i (Err x) next e = never (let z : ◌≡◌ {A = ℕ} 0 1 = cc in z)

-- the steps of lines with no fault are written as those lines
sheet_back : (n i : ℕ) (t : List ℕ) → line_bytes * (i + n) ≡ length t → first_fault n i t ≡ None → (sheet_from i (steps_from n i t) ≡ drop (line_bytes * i) t) × AllWritable (steps_from n i t)
sheet_back zero i t l e = (sym (drop_all (line_bytes * i) t (omega arith)), λ k h. let f : ⊥ = omega arith in elim f [ ])
sheet_back (suc n) i t l e =
    let o = next_ok i (line_in i t) (first_fault n (i + 1) t) e in
    let long : length (line_at i t) ≡ line_bytes = length-take-le line_bytes (drop (line_bytes * i) t) (simp length-drop (omega arith)) in
    let b = line_back (i + 1) (line_at i t) (step_of (line_in i t)) long o.0 in
    let r = sheet_back n (i + 1) t (omega arith) o.1 in (
      ap (λ xs. xs ++ sheet_from (i + 1) (steps_from n (i + 1) t)) b.0
          ∙ ap (λ xs. line_at i t ++ xs) r.0
          ∙ sym (split_at line_bytes t (line_bytes * i) (line_bytes * (i + 1)) (omega arith)),
      all_cons (step_of (line_in i t)) (steps_from n (i + 1) t) b.1 r.1,
    )

-- ---- what reading comes to
-- n lines have their bytes, and are no more than allowed
whole_lines : (bytes n m : ℕ) → room_for m (text_lines bytes) ≡ Ok n → (line_bytes * (0 + n) ≡ bytes) × (n ≤ 128) × (n ≤ m)
whole_lines bytes n m e = (grind (arith), grind (arith), grind (arith))

-- a text that is read is a sheet
is_sheet : (t : List ℕ) (m n : ℕ) → room_for m (text_lines (length t)) ≡ Ok n → first_fault n 0 t ≡ None → IsSheet m t
is_sheet t m n room clean =
    let b = sheet_back n 0 t (whole_lines (length t) n m room).0 clean in
    let l = length_steps n 0 t in
    let w = whole_lines (length t) n m room in
    record { steps = steps_from n 0 t; writes = b.0; room = b.1; short = omega (arith, w.1); placed = omega (arith, w.2) }

-- a sheet is not refused
never_sheet : (t : List ℕ) (m : ℕ) (e : Refusal) → read_sheet t m ≡ Err e → IsSheet m t → ⊥
never_sheet t m e r s =
    let q : Ok s.steps ≡ Err e = sym (read_back s.steps m s.short s.room s.placed) ∙ ap (λ x. read_sheet x m) s.writes ∙ r in
    let z : ◌≡◌ {A = ℕ} 0 1 = cc in
    omega arith

-- what a reading answers, how it leaves the table and the reader, and that just the sheets are read
pub record Outcome (t : List ℕ) (m : ℕ) (was : List Step) (r : Result ℕ Refusal) (table : List Step) (p : Place) : Type 0 where
  pub answer : r ≡ counted (read_sheet t m)
  pub after : table ≡ filled (read_sheet t m) was
  pub place : p ≡ standing t m
  pub exactly : Decides (is_ok r) (IsSheet m t)
  pub back : IfOk r (λ n. sheet (take n table) ≡ t)

refused : (t : List ℕ) (m : ℕ) (was : List Step) (e : Refusal) (p : Place) → read_sheet t m ≡ Err e → p ≡ standing t m → Outcome t m was (Err e) was p
refused t m was e p r q =
    record {
      answer = sym (ap counted r);
      after = sym (ap (λ x. filled x was) r);
      place = q;
      back = tt;
      exactly = ((λ h. absurd (false≢true h)), λ s. absurd (never_sheet t m e r s));
    }

-- refused for its length, or for the table
pub outcome_short : (t : List ℕ) (m : ℕ) (was : List Step) (e : Refusal) → room_for m (text_lines (length t)) ≡ Err e → Outcome t m was (Err e) was outset
outcome_short t m was e h = refused t m was e outset (ap (λ r. read_lines r t) h) (sym (ap (λ r. stand_in r t) h))

-- refused for a line
pub outcome_fault : (t : List ℕ) (m n : ℕ) (was : List Step) (f : Found) → room_for m (text_lines (length t)) ≡ Ok n → first_fault n 0 t ≡ Some f → Outcome t m was (Err f.fault.refusal) was (place_in f)
outcome_fault t m n was f room h =
    refused t m was f.fault.refusal (place_in f)
    (ap (λ r. read_lines r t) room ∙ ap (λ o. unless_found o (steps_from n 0 t)) h)
    (sym (ap (λ r. stand_in r t) room ∙ ap (stand n) h))

-- read
pub outcome_read : (t : List ℕ) (m n : ℕ) (was table : List Step) → room_for m (text_lines (length t)) ≡ Ok n → first_fault n 0 t ≡ None → table ≡ steps_from n 0 t ++ drop n was → Outcome t m was (Ok n) table (at n None)
outcome_read t m n was table room clean fills =
    let l = length_steps n 0 t in
    let s = is_sheet t m n room clean in
    let e : read_sheet t m ≡ Ok (steps_from n 0 t) = ap (λ r. read_lines r t) room ∙ ap (λ o. unless_found o (steps_from n 0 t)) clean in
    record {
      answer = ap Ok (sym l) ∙ sym (ap counted e);
      after = fills ∙ ap (λ k. steps_from n 0 t ++ drop k was) (sym l) ∙ sym (ap (λ r. filled r was) e);
      place = sym (ap (λ r. stand_in r t) room ∙ ap (stand n) clean);
      exactly = ((λ _. s), λ _. refl);
      back = ap (λ xs. sheet (take n xs)) fills ∙ ap sheet (take_at (steps_from n 0 t) (drop n was) n l) ∙ (sheet_back n 0 t (whole_lines (length t) n m room).0 clean).0;
    }
