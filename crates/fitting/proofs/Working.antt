-- Records worked in sums, one at a time. Assumes nothing.
use Rattle.std.proofs.Common.{◌≡◌, ℕ, ◌+◌, ◌<◌, List, [], ◌∷◌, ◌++◌, length, get_or, take, drop, set, sym, ap, ◌∙◌, subst, append_assoc, append-nil, add-one, arith, take-append-drop, length-take, drop-cons, drop-drop, take-suc-set, drop-set-lt}
use lib.Seq.{drop-length, get_or-append_seam}
use Rattle.units.specs.declared.record.Record.{Record}
use Rattle.run_laws.specs.Traces.{sum_of, sums}

-- the sums made so far stand in front of the table, and those of the records that are left are still to come; the rest of the table is as it was
pub record Worked (whole : List ℕ) (all : List Record) (was out cells : List ℕ) (i : ℕ) : Type 0 where
  pub sums_are : whole ≡ take i out ++ sums cells (drop i all)
  pub rest : drop i out ≡ drop i was

drop_more : (xs ys : List ℕ) (i : ℕ) → drop i xs ≡ drop i ys → drop (i + 1) xs ≡ drop (i + 1) ys
drop_more xs ys i e = sym (drop-drop 1 i xs) ∙ ap (drop 1) e ∙ drop-drop 1 i ys

abbrev pub no_record : Record
no_record = record { to = 0; a = 0; b = 0 }

-- one record more
module _ (all : List Record) (whole was out cells : List ℕ) (i : ℕ) (h : i < length all) (room : i < length out) (w : Worked whole all was out cells i) where
  abbrev r : Record
  r = get_or all i no_record

  -- it stands first among those that are left
  next_is : drop i all ≡ r ∷ drop (i + 1) all
  next_is = drop-cons all i no_record h ∙ ap (λ (z : ℕ). r ∷ drop z all) (sym (add-one i))

  abbrev sum : ℕ
  sum = sum_of cells r

  abbrev cells' : List ℕ
  cells' = set cells r.to sum

  before : whole ≡ take i out ++ (sum ∷ sums cells' (drop (i + 1) all))
  before = w.sums_are ∙ ap (λ (z : List Record). take i out ++ sums cells z) next_is

  -- its sum is one of the whole
  pub sum_at : get_or whole i 0 ≡ sum
  sum_at =
      let long : length (take i out) ≡ i = simp length-take (omega arith) in
      ap (λ (z : List ℕ). get_or z i 0) before
      ∙ ap (λ (z : ℕ). get_or (take i out ++ (sum ∷ sums cells' (drop (i + 1) all))) z 0) (sym long)
      ∙ get_or-append_seam (take i out) sum (sums cells' (drop (i + 1) all)) 0

  pub worked_one : Worked whole all was (set out i sum) cells' (i + 1)
  worked_one =
      let front : take (i + 1) (set out i sum) ≡ take i out ++ (sum ∷ []) = rw add-one (take-suc-set out i sum room) in
      let lt : i < i + 1 = omega arith in
      record {
        sums_are = before ∙ sym (append_assoc (take i out) (sum ∷ []) (sums cells' (drop (i + 1) all))) ∙ ap (λ (z : List ℕ). z ++ sums cells' (drop (i + 1) all)) (sym front);
        rest = drop-set-lt (i + 1) out i sum lt ∙ drop_more out was i w.rest;
      }

-- all records are worked
pub worked_all : (all : List Record) (whole was out cells : List ℕ) (i : ℕ) → i ≡ length all → Worked whole all was out cells i → out ≡ whole ++ drop (length all) was
worked_all all whole was out cells i e w =
    let v : Worked whole all was out cells (length all) = subst (λ (z : ℕ). Worked whole all was out cells z) e w in
    let done : whole ≡ take (length all) out = v.sums_are ∙ ap (λ (z : List Record). take (length all) out ++ sums cells z) (drop-length all) ∙ append-nil (take (length all) out) in
    sym (take-append-drop (length all) out) ∙ ap (λ (z : List ℕ). z ++ drop (length all) out) (sym done) ∙ ap (λ (z : List ℕ). whole ++ z) v.rest
