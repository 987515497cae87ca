-- A sheet that was written reads as the same steps.
use Rattle.std.proofs.Common.{◌≡◌, ℕ, zero, suc, ◌+◌, ◌*◌, ◌/◌, ◌%◌, ◌^◌, ◌<◌, ◌≤◌, cond, leb, List, [], ◌∷◌, ◌++◌, length, get_or, take, drop, Some, None, Ok, Err, decimal, sym, refl, ap, ◌∙◌, subst, arith, lit<, lit≤}
use Rattle.refusals.specs.declared.refusal.Refusal.TheVariants.{TooLong, SheetLine, TableShort}
use Rattle.fields.specs.Field.{field, field_value}
use Rattle.fields.proofs.Inverse.{length_field, digits_within, read_field}
use Rattle.plans.specs.declared.step.Step.{Step}
use Rattle.plans.specs.Chain.{Chain}
use Rattle.sheets.specs.declared.column.Column.TheVariants.{Number, First, Second, Value}
use Rattle.sheets.specs.Columns.{cell}
use Rattle.sheets.specs.Lines.{line, line_bytes, Writable}
use Rattle.sheets.specs.Sheets.{sheet, sheet_from, sheet_bytes, AllWritable, wrote, written}
use Rattle.sheets.specs.Reading.{read_line, line_at, line_in, or_next, first_fault, step_of, steps_from, text_lines, room_for, unless_found, read_lines, read_sheet}
use Rattle.std.proofs.lemmas.List.{append_assoc, take_at, drop_at, get_or_at, length-append, drop-drop, get_or-drop}
use Rattle.std.proofs.lemmas.Bool.{le-leb, eq-eqb}
use Rattle.sheets.proofs.Lines.{line_ok}
use Rattle.sheets.proofs.Writes.{all_written}

-- ---- a line that was written
narrow_digits : (v : ℕ) → v < 10 ^ 4 → length (decimal v) ≤ 4
narrow_digits v h = digits_within 4 v (lit< tt) h (omega arith)

value_digits : (v : ℕ) → v < 10 ^ 19 → length (decimal v) ≤ 19
value_digits v h = digits_within 19 v (lit< tt) h (omega arith)

-- a field that holds what was written
narrow_held : (v : ℕ) (b : List ℕ) → b ≡ field 4 v → v < 10 ^ 4 → field_value b ≡ Some v
narrow_held v b e h = ap field_value e ∙ read_field 4 v (lit≤ tt) (omega arith) (narrow_digits v h)

value_held : (v : ℕ) (b : List ℕ) → b ≡ field 19 v → v < 10 ^ 19 → field_value b ≡ Some v
value_held v b e h = ap field_value e ∙ read_field 19 v (lit≤ tt) (omega arith) (value_digits v h)

pub length_line : (i : ℕ) (s : Step) → i < 10 ^ 4 → Writable s → length (line i s) ≡ line_bytes
length_line i s hi hs =
    let a = length_field 4 i (narrow_digits i hi) in
    let b = length_field 4 s.j (narrow_digits s.j hs.0) in
    let c = length_field 4 s.k (narrow_digits s.k hs.1) in
    let d = length_field 19 s.value (value_digits s.value hs.2) in
    length-append (field 4 i) _
    ∙ ap (λ n. length (field 4 i) + n) (length-append (field 4 s.j) _ ∙ ap (λ n. length (field 4 s.j) + n) (length-append (field 4 s.k) _ ∙ ap (λ n. length (field 4 s.k) + n) (length-append (field 19 s.value) (10 ∷ []))))
    ∙ omega arith

module _ (f1 f2 f3 f4 : List ℕ) (l1 : length f1 ≡ 4) (l2 : length f2 ≡ 4) (l3 : length f3 ≡ 4) (l4 : length f4 ≡ 19) where
  abbrev four : List ℕ
  four = f1 ++ (f2 ++ (f3 ++ (f4 ++ (10 ∷ []))))

  four_1 : take 4 four ≡ f1
  four_1 = take_at f1 (f2 ++ (f3 ++ (f4 ++ (10 ∷ [])))) 4 l1

  drop_1 : drop 4 four ≡ f2 ++ (f3 ++ (f4 ++ (10 ∷ [])))
  drop_1 = drop_at f1 (f2 ++ (f3 ++ (f4 ++ (10 ∷ [])))) 4 l1

  four_2 : take 4 (drop 4 four) ≡ f2
  four_2 = ap (take 4) drop_1 ∙ take_at f2 (f3 ++ (f4 ++ (10 ∷ []))) 4 l2

  drop_2 : drop 8 four ≡ f3 ++ (f4 ++ (10 ∷ []))
  drop_2 = sym (drop-drop 4 4 four) ∙ ap (drop 4) drop_1 ∙ drop_at f2 (f3 ++ (f4 ++ (10 ∷ []))) 4 l2

  four_3 : take 4 (drop 8 four) ≡ f3
  four_3 = ap (take 4) drop_2 ∙ take_at f3 (f4 ++ (10 ∷ [])) 4 l3

  drop_3 : drop 12 four ≡ f4 ++ (10 ∷ [])
  drop_3 = sym (drop-drop 4 8 four) ∙ ap (drop 4) drop_2 ∙ drop_at f3 (f4 ++ (10 ∷ [])) 4 l3

  four_4 : take 19 (drop 12 four) ≡ f4
  four_4 = ap (take 19) drop_3 ∙ take_at f4 (10 ∷ []) 19 l4

  four_end : get_or four 31 0 ≡ 10
  four_end = sym (get_or-drop 12 four 19 0) ∙ ap (λ xs. get_or xs 19 0) drop_3 ∙ get_or_at f4 10 [] 0 19 l4

pub line_reads : (i : ℕ) (s : Step) → i < 10 ^ 4 → Writable s → read_line i (line i s) ≡ Ok s
line_reads i s hi hs =
    let a = length_field 4 i (narrow_digits i hi) in
    let b = length_field 4 s.j (narrow_digits s.j hs.0) in
    let c = length_field 4 s.k (narrow_digits s.k hs.1) in
    let d = length_field 19 s.value (value_digits s.value hs.2) in
    line_ok (line i s) i i s.j s.k s.value
    (four_end _ _ _ _ a b c d)
    (record {
      number = narrow_held i (cell Number (line i s)) (four_1 _ _ _ _ a b c d) hi;
      first = narrow_held s.j (cell First (line i s)) (four_2 _ _ _ _ a b c d) hs.0;
      second = narrow_held s.k (cell Second (line i s)) (four_3 _ _ _ _ a b c d) hs.1;
      value = value_held s.value (cell Value (line i s)) (four_4 _ _ _ _ a b c d) hs.2;
    })
    refl

-- ---- a sheet that was written
all_tail : (s : Step) (ss : List Step) → AllWritable (s ∷ ss) → AllWritable ss
all_tail s ss w k h = w (suc k) (omega arith)

pub all_cons : (s : Step) (ss : List Step) → Writable s → AllWritable ss → AllWritable (s ∷ ss)
all_cons s ss w a zero h = w
all_cons s ss w a (suc k) h = a k (omega arith)

pub length_sheet : (ss : List Step) (i : ℕ) → i + length ss ≤ 128 → AllWritable ss → length (sheet_from i ss) ≡ 32 * length ss
length_sheet [] i h w = refl
length_sheet (s ∷ ss) i h w =
    let l = length_line (i + 1) s (omega (arith, h)) (w 0 (omega arith)) in
    let r = length_sheet ss (i + 1) (omega (arith, h)) (all_tail s ss w) in
    length-append (line (i + 1) s) (sheet_from (i + 1) ss) ∙ omega arith

reads_from : (ss : List Step) (i : ℕ) (p : List ℕ) → length p ≡ 32 * i → i + length ss ≤ 128 → AllWritable ss → (first_fault (length ss) i (p ++ sheet_from i ss) ≡ None) × (steps_from (length ss) i (p ++ sheet_from i ss) ≡ ss)
reads_from [] i p lp h w = (refl, refl)
reads_from (s ∷ ss) i p lp h w =
    let b : i + 1 < 10 ^ 4 = omega (arith, h) in
    let ll = length_line (i + 1) s b (w 0 (omega arith)) in
    let t : List ℕ = p ++ (line (i + 1) s ++ sheet_from (i + 1) ss) in
    let la : line_at i t ≡ line (i + 1) s = ap (take 32) (drop_at p (line (i + 1) s ++ sheet_from (i + 1) ss) (32 * i) lp) ∙ take_at (line (i + 1) s) (sheet_from (i + 1) ss) 32 ll in
    let li : line_in i t ≡ Ok s = ap (read_line (i + 1)) la ∙ line_reads (i + 1) s b (w 0 (omega arith)) in
    let lq : length (p ++ line (i + 1) s) ≡ 32 * (i + 1) = length-append p (line (i + 1) s) ∙ omega arith in
    let r = reads_from ss (i + 1) (p ++ line (i + 1) s) lq (omega (arith, h)) (all_tail s ss w) in
    let at : (p ++ line (i + 1) s) ++ sheet_from (i + 1) ss ≡ t = append_assoc p (line (i + 1) s) (sheet_from (i + 1) ss) in (
      ap (λ r. or_next i r (first_fault (length ss) (i + 1) t)) li ∙ ap (first_fault (length ss) (i + 1)) (sym at) ∙ r.0,
      ap (λ r. step_of r ∷ steps_from (length ss) (i + 1) t) li ∙ ap (λ xs. s ∷ xs) (ap (steps_from (length ss) (i + 1)) (sym at) ∙ r.1),
    )

text_ok : (n : ℕ) → n ≤ 128 → text_lines (32 * n) ≡ Ok n
text_ok n h =
    let q : 32 * n / 32 ≡ n = omega arith in
    ap (λ b. cond b (cond (leb (32 * n / 32) 128) (Ok (32 * n / 32)) (Err TooLong)) (Err (SheetLine 0))) (eq-eqb (32 * n % 32) 0 (omega arith))
    ∙ ap (λ k. cond (leb k 128) (Ok k) (Err TooLong)) q
    ∙ ap (λ b. cond b (Ok n) (Err TooLong)) (le-leb n 128 h)

-- reading a sheet that was written gives its steps
pub read_back : (ss : List Step) (m : ℕ) → length ss ≤ 128 → AllWritable ss → length ss ≤ m → read_sheet (sheet ss) m ≡ Ok ss
read_back ss m h w hm =
    let r = reads_from ss 0 [] refl (omega arith) w in
    ap (λ k. read_lines (room_for m (text_lines k)) (sheet ss)) (length_sheet ss 0 (omega arith) w)
    ∙ ap (λ x. read_lines (room_for m x) (sheet ss)) (text_ok (length ss) h)
    ∙ ap (λ b. read_lines (cond b (Ok (length ss)) (Err (TableShort (length ss)))) (sheet ss)) (le-leb (length ss) m hm)
    ∙ ap (λ o. unless_found o (steps_from (length ss) 0 (sheet ss))) r.0
    ∙ ap Ok r.1

-- the bytes after writing, read again into m places
pub written_reads : (ss : List Step) (was : List ℕ) (m : ℕ) → length ss ≤ 128 → AllWritable ss → sheet_bytes ss ≤ length was → length ss ≤ m → read_sheet (take (sheet_bytes ss) (written ss was)) m ≡ Ok ss
written_reads ss was m h w r hm =
    ap (λ b. read_sheet (take (sheet_bytes ss) (cond b (sheet ss ++ drop (sheet_bytes ss) was) was)) m) (le-leb (sheet_bytes ss) (length was) r)
    ∙ ap (λ xs. read_sheet xs m) (take_at (sheet ss) (drop (sheet_bytes ss) was) (sheet_bytes ss) (length_sheet ss 0 (omega arith) w))
    ∙ read_back ss m h w hm

-- the numbers of an admitted plan have room in their fields
pub chain_writable : (n : ℕ) (ss : List Step) → Chain n ss → AllWritable ss
chain_writable n ss c i h =
    let p = c.cites i h in
    let q = c.rises i h in
    let l : n < 2 ^ 63 = c.bounded in
    let s : length ss ≤ 128 = c.short in
    (omega arith, omega arith, omega arith)

-- what writing every line comes to, for the steps ss of a plan under another name
pub sheet_done : (n i : ℕ) (ss steps : List Step) (o out : List ℕ) → ss ≡ steps → Chain n ss → i ≡ length ss → sheet_bytes ss ≤ length o → out ≡ sheet (take i ss) ++ drop (line_bytes * i) o → (Ok (sheet_bytes ss) ≡ wrote steps (length o)) × (out ≡ written steps o) × ((m : ℕ) → length steps ≤ m → read_sheet (take (sheet_bytes ss) out) m ≡ Ok steps)
sheet_done n i ss steps o out same c e h q =
    subst (λ (xs : List Step). (Ok (sheet_bytes ss) ≡ wrote xs (length o)) × (out ≡ written xs o) × ((m : ℕ) → length xs ≤ m → read_sheet (take (sheet_bytes ss) out) m ≡ Ok xs)) same
    (let w = all_written ss o out i e h q in
    (w.0, w.1, λ m hm. ap (λ xs. read_sheet (take (sheet_bytes ss) xs) m) w.1 ∙ written_reads ss o m c.short (chain_writable n ss c) h hm))
