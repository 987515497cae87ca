-- Reading a field gives the number that was written, and the number that was read is written as the same bytes.
use Rattle.std.proofs.Common.{◌≡◌, ℕ, zero, suc, ◌+◌, ◌-◌, ◌^◌, ◌<◌, ◌≤◌, Bool, true, false, cond, leb, List, [], ◌∷◌, ◌++◌, length, get_or, replicate, Some, None, decimal, Option, sym, refl, ap, ◌∙◌, inl, inr, arith, lit<, rules}
use Rattle.std.proofs.lemmas.Bool.{cases_eq, le-leb, leb-true}
use native.Mathlib.Nat.{pow-le-pow_right}
use Rattle.std.specs.Str.{all_ascii_digits}
use Rattle.std.proofs.lemmas.List.{length-append, length-replicate}
use Rattle.std.proofs.lemmas.Str.Parse.{IsNumeralModel, numerals_by_fold, tells_all_ascii_digits, digits_value_short}
use Rattle.std.proofs.lemmas.Fmt.{digits_decimal, digits_value-decimal, decimal-digits_value, first_decimal, decimal_nonempty, decimal_digit, length-decimal-le}
use Rattle.fields.proofs.Digits.{narrow}
use Rattle.fields.specs.Field.{field, fits, put, field_value, numeral_value, justified, numeral, unblank, read_on, most_columns}

own : IsNumeralModel (λ ds. all_ascii_digits ds ≡ true) (read_on 0)
own = numerals_by_fold _ tells_all_ascii_digits read_on (search rules)

unblank_blanks : (n : ℕ) (ds : List ℕ) → unblank (replicate n 32 ++ ds) ≡ unblank ds
unblank_blanks zero ds = refl
unblank_blanks (suc n) ds = unblank_blanks n ds

-- a numeral holds no blank in front
numeral_unblank : (ds : List ℕ) → numeral ds ≡ true → unblank ds ≡ ds
numeral_unblank [] e = refl
numeral_unblank (c ∷ cs) e = grind (arith)

-- digits with no leading zero
numeral_from : (ds : List ℕ) → all_ascii_digits ds ≡ true → 0 < length ds → (get_or ds 0 0 ≡ 48 → length ds ≡ 1) → numeral ds ≡ true
numeral_from [] d p z = let f : ⊥ = omega arith in elim f [ ]
numeral_from (c ∷ cs) d p z = grind (arith)

numeral_digits : (ds : List ℕ) → numeral ds ≡ true → (all_ascii_digits ds ≡ true) × (0 < length ds) × (get_or ds 0 0 ≡ 48 → length ds ≡ 1)
numeral_digits [] e = grind (arith)
numeral_digits (c ∷ cs) e = (grind (arith), grind (arith), λ z. grind (arith))

pub numeral_decimal : (v : ℕ) → v < 2 ^ 64 → numeral (decimal v) ≡ true
numeral_decimal zero h = ap numeral (decimal_digit 0 (lit< tt))
numeral_decimal (suc v) h = numeral_from (decimal (suc v)) (digits_decimal own (suc v) h) (decimal_nonempty (suc v) h) (λ e. let f = first_decimal (suc v) (omega arith) h in omega arith)

justified_field : (w v : ℕ) → v < 2 ^ 64 → justified (field w v) ≡ Some v
justified_field w v h =
    let n = numeral_decimal v h in
    ap numeral_value (unblank_blanks (w - length (decimal v)) (decimal v) ∙ numeral_unblank (decimal v) n)
    ∙ ap (λ t. cond t (Some (read_on 0 (decimal v))) None) n
    ∙ ap Some (digits_value-decimal own v h)

pub length_field : (w v : ℕ) → length (decimal v) ≤ w → length (field w v) ≡ w
length_field w v d =
    length-append (replicate (w - length (decimal v)) 32) (decimal v) ∙ ap (λ k. k + length (decimal v)) (length-replicate (w - length (decimal v)) 32) ∙ omega arith

-- a number below 10 ^ w has room in w columns
pub digits_within : (w v : ℕ) → 0 < w → v < 10 ^ w → v < 2 ^ 64 → length (decimal v) ≤ w
digits_within w v p l h = length-decimal-le w v p l h

pub fits_within : (w v : ℕ) → 0 < w → v < 10 ^ w → v < 2 ^ 64 → fits w v ≡ true
fits_within w v p l h = le-leb (length (decimal v)) w (digits_within w v p l h)

-- the number that was written is read
pub read_field : (w v : ℕ) → w ≤ most_columns → v < 2 ^ 64 → length (decimal v) ≤ w → field_value (field w v) ≡ Some v
read_field w v m h d =
    let l : length (field w v) ≤ most_columns = omega (arith, length_field w v d) in
    narrow (field w v) l ∙ justified_field w v h

blank_front : (c : ℕ) (cs : List ℕ) → c ≡ 32 → unblank (c ∷ cs) ≡ unblank cs
blank_front c cs e = rw e

other_front : (c : ℕ) (cs : List ℕ) → (c ≡ 32 → ⊥) → unblank (c ∷ cs) ≡ c ∷ cs
other_front c cs e = grind (arith)

split_blanks : (b : List ℕ) → (n : ℕ) × (b ≡ replicate n 32 ++ unblank b)
split_blanks [] = (0, refl)
split_blanks (c ∷ cs) =
    let r = split_blanks cs in
    elim (cases_eq c 32) [
      | inl e ↦ (suc r.0, ap (λ x. x ∷ cs) e ∙ ap (λ xs. 32 ∷ xs) r.1 ∙ ap (λ xs. replicate (suc r.0) 32 ++ xs) (sym (blank_front c cs e)))
      | inr e ↦ (0, sym (other_front c cs e))
    ]

cond_some : (t : Bool) (x v : ℕ) → ◌≡◌ {A = Option ℕ} (cond t (Some x) None) (Some v) → (t ≡ true) × (x ≡ v)
cond_some true x v e = (refl, cc)
cond_some false x v e = let z : ◌≡◌ {A = ℕ} 0 1 = cc in (let f : ⊥ = omega arith in elim f [ ], let f : ⊥ = omega arith in elim f [ ])

cond_option : (t : Bool) (o : Option ℕ) (v : ℕ) → cond t o None ≡ Some v → (t ≡ true) × (o ≡ Some v)
cond_option true o v e = (refl, e)
cond_option false o v e = let z : ◌≡◌ {A = ℕ} 0 1 = cc in (let f : ⊥ = omega arith in elim f [ ], let f : ⊥ = omega arith in elim f [ ])

-- the bytes that were read are written
pub write_field : (b : List ℕ) (v : ℕ) → field_value b ≡ Some v → (b ≡ field (length b) v) × (v < 10 ^ length b) × (length b ≤ most_columns)
write_field b v e' =
    let wide = cond_option (leb (length b) most_columns) (justified b) v e' in
    let short : length b ≤ most_columns = leb-true (length b) most_columns wide.0 in
    let s = split_blanks b in
    let f = cond_some (numeral (unblank b)) (read_on 0 (unblank b)) v wide.1 in
    let d = numeral_digits (unblank b) f.0 in
    let lb : length b ≡ s.0 + length (unblank b) = ap length s.1 ∙ length-append (replicate s.0 32) (unblank b) ∙ ap (λ k. k + length (unblank b)) (length-replicate s.0 32) in
    let lt : read_on 0 (unblank b) < 10 ^ length b = digits_value_short own (unblank b) (length b) d.0 (omega arith) in
    let big : 10 ^ length b ≤ 10 ^ 19 = pow-le-pow_right {n = 10} (lit< tt) short in
    let w : decimal (read_on 0 (unblank b)) ≡ unblank b = decimal-digits_value own (unblank b) d.0 d.1 d.2 (omega arith) in
    let w2 : decimal v ≡ unblank b = ap decimal (sym f.1) ∙ w in
    let k : s.0 ≡ length b - length (decimal v) = (let g : length (decimal v) ≡ length (unblank b) = ap length w2 in omega arith) in
    (s.1 ∙ ap (λ n. replicate n 32 ++ unblank b) k ∙ ap (λ xs. replicate (length b - length (decimal v)) 32 ++ xs) (sym w2), omega (arith, f.1), short)

-- what stands in w columns after v, below 10 ^ w, is written to them
pub put_field : (w v : ℕ) (was : List ℕ) → length was ≡ w → 0 < w → v < 10 ^ w → v < 2 ^ 64 → put v was ≡ field w v
put_field w v was e p l h =
    ap (λ k. cond (fits k v) (field k v) was) e ∙ ap (λ t. cond t (field w v) was) (fits_within w v p l h)
