-- A line, from its fields and back.
use Rattle.std.proofs.Common.{◌≡◌, ℕ, ◌+◌, ◌-◌, ◌^◌, ◌<◌, cond, List, [], ◌∷◌, ◌++◌, length, get_or, take, drop, set, IfOk, Some, None, Ok, Err, Option, Result, sym, refl, ap, ◌∙◌, subst, arith, lit<, eq-eqb}
use Rattle.refusals.specs.declared.refusal.Refusal.TheVariants.{SheetLine, Field, StepNumber}
use Rattle.fields.specs.Field.{field, field_value, put}
use Rattle.fields.proofs.Inverse.{length_field, digits_within, write_field, put_field}
use Rattle.plans.specs.declared.step.Step.{Step}
use Rattle.sheets.specs.declared.fault.Fault.{Fault}
use Rattle.sheets.specs.declared.column.Column.{Column}
use Rattle.sheets.specs.declared.column.Column.TheVariants.{Number, First, Second, Value}
use Rattle.sheets.specs.Columns.{start, width, cell, put_cell}
use Rattle.sheets.specs.Lines.{line, line_bytes, newline, Writable}
use Rattle.refusals.specs.Faults.{and_then}
use Rattle.sheets.specs.Reading.{fault, number_in, numbers, numbered, read_line}
use borrow.Rule.Slice.PartMut.{put_mid}
use Rattle.std.specs.Option.{ok_or}
use Rattle.std.specs.declared.ops.Range.{Range}
use Rattle.std.proofs.lemmas.Bool.{ne_eqb}
use Rattle.std.proofs.lemmas.List.{append_assoc, take_at, drop_at, drop-drop, set_at, length-append, length-drop, length-take-le}

-- ---- reading
-- the four fields of a line hold n, j, k and v
pub record Holds (b : List ℕ) (n j k v : ℕ) : Type 0 where
  pub number : field_value (cell Number b) ≡ Some n
  pub first : field_value (cell First b) ≡ Some j
  pub second : field_value (cell Second b) ≡ Some k
  pub value : field_value (cell Value b) ≡ Some v

-- the bytes of a column's span
pub span_cell : (c : Column) (b : List ℕ) (r : Range ℕ) → r ≡ record { start = start c; end = start c + width c } → take (r.end - r.start) (drop r.start b) ≡ cell c b
span_cell c b r e = rw e (ap (λ k. take k (drop (start c) b)) {x = start c + width c - start c} {y = width c} (omega arith))

-- a column lies before the newline
pub column_end : (c : Column) → start c + width c < line_bytes
column_end Number = lit< tt
column_end First = lit< tt
column_end Second = lit< tt
column_end Value = lit< tt

pub length_cell : (c : Column) (b : List ℕ) → length b ≡ line_bytes → length (cell c b) ≡ width c
length_cell c b l = length-take-le (width c) (drop (start c) b) (simp length-drop (omega (arith, column_end c)))

-- a number in a column is below what its width has room for
pub cell_bound : (c : Column) (b : List ℕ) (v : ℕ) → length b ≡ line_bytes → field_value (cell c b) ≡ Some v → v < 10 ^ width c
cell_bound c b v l e = subst (λ (k : ℕ). v < 10 ^ k) (length_cell c b l) (write_field (cell c b) v e).1

-- a number that was read stands in its field
pub number_held : (i : ℕ) (f : Column) (o : Option ℕ) (v : ℕ) → Ok v ≡ number_in i f o → o ≡ Some v
number_held i f None v e = cc
number_held i f (Some x) v e = cc

-- the number that a field holds, or its fault
pub number_by : (i : ℕ) (c : Column) (o : Option ℕ) → ok_or o (fault (Field i) (Some c)) ≡ number_in i c o
number_by i c None = refl
number_by i c (Some v) = refl

pub number_bound : (i : ℕ) (c : Column) (b : List ℕ) (r : Result ℕ Fault) → length b ≡ line_bytes → r ≡ number_in i c (field_value (cell c b)) → IfOk r (λ v. v < 10 ^ width c)
number_bound i c b (Ok v) l e = cell_bound c b v l (number_held i c (field_value (cell c b)) v e)
number_bound i c b (Err f) l e = tt

numbers_held : (i : ℕ) (b : List ℕ) (n j k v : ℕ) (go : ℕ → ℕ → ℕ → ℕ → Result Step Fault) → Holds b n j k v → numbers i b go ≡ go n j k v
numbers_held i b n j k v go h =
    ap (λ o. and_then (number_in i Number o) (λ n. and_then (number_in i First (field_value (cell First b))) (λ j. and_then (number_in i Second (field_value (cell Second b))) (λ k. and_then (number_in i Value (field_value (cell Value b))) (λ v. go n j k v))))) h.number
    ∙ ap (λ o. and_then (number_in i First o) (λ j. and_then (number_in i Second (field_value (cell Second b))) (λ k. and_then (number_in i Value (field_value (cell Value b))) (λ v. go n j k v)))) h.first
    ∙ ap (λ o. and_then (number_in i Second o) (λ k. and_then (number_in i Value (field_value (cell Value b))) (λ v. go n j k v))) h.second
    ∙ ap (λ o. and_then (number_in i Value o) (λ v. go n j k v)) h.value

line_held : (b : List ℕ) (i n j k v : ℕ) → get_or b 31 0 ≡ newline → Holds b n j k v → read_line i b ≡ numbered i n j k v
line_held b i n j k v e h =
    ap (λ t. cond t (numbers i b (numbered i)) (Err (fault (SheetLine i) None))) (eq-eqb (get_or b 31 0) newline e)
    ∙ numbers_held i b n j k v (numbered i) h

pub line_ok : (b : List ℕ) (i n j k v : ℕ) → get_or b 31 0 ≡ newline → Holds b n j k v → n ≡ i → read_line i b ≡ Ok (record { j = j; k = k; value = v })
line_ok b i n j k v e h q =
    line_held b i n j k v e h ∙ ap (λ t. cond t (Ok (record { j = j; k = k; value = v })) (Err (fault (StepNumber i) (Some Number)))) (eq-eqb n i q)

pub line_misnumbered : (b : List ℕ) (i n j k v : ℕ) → get_or b 31 0 ≡ newline → Holds b n j k v → (n ≡ i → ⊥) → read_line i b ≡ Err (fault (StepNumber i) (Some Number))
line_misnumbered b i n j k v e h q =
    line_held b i n j k v e h ∙ ap (λ t. cond t (Ok (record { j = j; k = k; value = v })) (Err (fault (StepNumber i) (Some Number)))) (ne_eqb n i q)

-- ---- writing
pub put_next : (p q ys : List ℕ) (a k : ℕ) → length p ≡ a → put_mid a k (p ++ q) ys ≡ p ++ (ys ++ drop k q)
put_next p q ys a k e =
    ap (λ xs. xs ++ (ys ++ drop k (drop a (p ++ q)))) (take_at p q a e)
    ∙ ap (λ xs. p ++ (ys ++ drop k xs)) (drop_at p q a e)

set_last : (p q : List ℕ) (n x : ℕ) → length p ≡ n → length q ≡ 1 → set (p ++ q) n x ≡ p ++ (x ∷ [])
set_last p [] n x e h = let f : ⊥ = omega (arith, h) in elim f [ ]
set_last p (y ∷ []) n x e h = set_at p y [] x n e
set_last p (y ∷ (z ∷ zs)) n x e h = let f : ⊥ = omega (arith, h) in elim f [ ]

-- the columns before c are written, and then v in c
column_next : (c : Column) (o p out : List ℕ) (v : ℕ) → length p ≡ start c → out ≡ p ++ drop (start c) o → length o ≡ line_bytes → 0 < width c → v < 10 ^ width c → v < 2 ^ 64 → (length (p ++ field (width c) v) ≡ start c + width c) × (put_cell c v out ≡ (p ++ field (width c) v) ++ drop (start c + width c) o)
column_next c o p out v l e lo z b b64 =
    let front : take (start c) out ≡ p = ap (take (start c)) e ∙ take_at p (drop (start c) o) (start c) l in
    let was : drop (start c) out ≡ drop (start c) o = ap (drop (start c)) e ∙ drop_at p (drop (start c) o) (start c) l in
    let end : drop (start c + width c) out ≡ drop (start c + width c) o = sym (drop-drop (width c) (start c) out) ∙ ap (drop (width c)) was ∙ drop-drop (width c) (start c) o in
    let long : length (cell c out) ≡ width c = length-take-le (width c) (drop (start c) out) (rw was (simp length-drop (omega (arith, column_end c)))) in (
      length-append p (field (width c) v) ∙ omega (arith, length_field (width c) v (digits_within (width c) v z b b64)),
      ap (λ xs. xs ++ (put v (cell c out) ++ drop (start c + width c) out)) front
          ∙ ap (λ xs. p ++ (xs ++ drop (start c + width c) out)) (put_field (width c) v (cell c out) long z b b64)
          ∙ ap (λ xs. p ++ (field (width c) v ++ xs)) end
          ∙ sym (append_assoc p (field (width c) v) (drop (start c + width c) o)),
    )

-- a line, when each of its columns is written and then its newline
pub line_wrote : (o o1 o2 o3 o4 : List ℕ) (i : ℕ) (s : Step) → length o ≡ line_bytes → i < 10 ^ 4 → Writable s → o1 ≡ put_cell Number i o → o2 ≡ put_cell First s.j o1 → o3 ≡ put_cell Second s.k o2 → o4 ≡ put_cell Value s.value o3 → set o4 31 newline ≡ line i s
line_wrote o o1 o2 o3 o4 i s lo hi hs e1 e2 e3 e4 =
    let r1 = column_next Number o [] o i refl refl lo (lit< tt) hi (omega arith) in
    let r2 = column_next First o _ o1 s.j r1.0 (e1 ∙ r1.1) lo (lit< tt) hs.0 (omega arith) in
    let r3 = column_next Second o _ o2 s.k r2.0 (e2 ∙ r2.1) lo (lit< tt) hs.1 (omega arith) in
    let r4 = column_next Value o _ o3 s.value r3.0 (e3 ∙ r3.1) lo (lit< tt) hs.2 (omega arith) in
    ap (λ xs. set xs 31 newline) (e4 ∙ r4.1)
    ∙ set_last _ (drop 31 o) 31 newline r4.0 (simp length-drop (omega arith))
    ∙ simp append_assoc
