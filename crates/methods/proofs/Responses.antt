-- What the plan program prints, from the sheet or the refusal that was written.
use Rattle.std.proofs.Common.{◌≡◌, ℕ, ◌+◌, ◌*◌, ◌^◌, ◌<◌, ◌≤◌, Bool, true, false, cond, eqb, leb, List, [], ◌∷◌, ◌++◌, length, get_or, take, drop, set, IfErr, Some, None, Ok, Err, Option, Result, sym, refl, ap, ◌∙◌, subst, arith, lit<, drop-cons}
use borrow.Rule.Slice.PartMut.{put_mid, post_of}
use Rattle.std.proofs.lemmas.List.{append_assoc, length-append, length-drop, length-take-le, drop_at, drop-drop, set_at}
use Rattle.std.proofs.lemmas.Bool.{le-leb}
use Rattle.refusals.specs.declared.refusal.Refusal.{Refusal}
use Rattle.refusals.specs.declared.refusal.Refusal.TheVariants.{Exponent, Method, SheetLine, TableShort}
use Rattle.refusals.specs.Codes.{code}
use Rattle.fields.specs.Field.{field, field_value, put}
use Rattle.plans.specs.declared.step.Step.{Step}
use Rattle.plans.specs.Chain.{Chain}
use Rattle.planning.specs.Planning.{is_exponent}
use Rattle.sheets.specs.Sheets.{sheet, wrote, written}
use Rattle.sheets.proofs.Lines.{put_next}
use Rattle.fields.proofs.Inverse.{length_field, digits_within, put_field}
use Rattle.sheets.proofs.Reread.{length_sheet, chain_writable}
use Rattle.methods.specs.declared.method.Method.{Method as PlanMethod}
use Rattle.methods.specs.declared.request.PlanRequest.{PlanRequest}
use Rattle.methods.specs.Methods.{method_of, plan_of, allows}
use Rattle.refusals.specs.Faults.{and_then}
use Rattle.sheets.specs.Reading.{counted}
use Rattle.methods.specs.Requests.{number_in, columns, fields_of, request_of, plan_by, plan_for, steps_or, asked, sheet_length, sheet_over, refusal_line, printed, response, room_answer, responded}

-- ---- the line of a refusal
-- the columns before a are written, and then v in the next w: they were f, and the rest is as it was
field_next : (o p out f : List ℕ) (a w v : ℕ) → length p ≡ a → out ≡ p ++ drop a o → a + w ≤ length o → 0 < w → v < 10 ^ w → v < 2 ^ 64 → f ≡ put v (take w (drop a out)) → (length (p ++ field w v) ≡ a + w) × (put_mid a w out f ≡ (p ++ field w v) ++ drop (a + w) o)
field_next o p out f a w v l e h z b b64 ef =
    let was : drop a out ≡ drop a o = ap (drop a) e ∙ drop_at p (drop a o) a l in
    let long : length (take w (drop a out)) ≡ w = length-take-le w (drop a out) (rw was (simp length-drop (omega arith))) in
    let is : f ≡ field w v = ef ∙ put_field w v (take w (drop a out)) long z b b64 in (
      length-append p (field w v) ∙ omega (arith, length_field w v (digits_within w v z b b64)),
      ap (λ xs. put_mid a w xs f) e ∙ put_next p (drop a o) f a w l
          ∙ ap (λ xs. p ++ (xs ++ drop w (drop a o))) is
          ∙ ap (λ xs. p ++ (field w v ++ xs)) (drop-drop w a o)
          ∙ sym (append_assoc p (field w v) (drop (a + w) o)),
    )

refusal_wrote : (o f1 f2 : List ℕ) (n p : ℕ) → 9 ≤ length o → n < 10 ^ 4 → p < 10 ^ 4 → f1 ≡ put n (take 4 o) → f2 ≡ put p (take 4 (drop 4 (f1 ++ post_of 0 4 o))) → (9 ≡ length (field 4 n ++ (field 4 p ++ (10 ∷ [])))) × (set (put_mid 4 4 (f1 ++ post_of 0 4 o) f2) 8 10 ≡ (field 4 n ++ (field 4 p ++ (10 ∷ []))) ++ drop 9 o)
refusal_wrote o f1 f2 n p h hn hp e1 e2 =
    let r1 = field_next o [] o f1 0 4 n refl refl (omega arith) (lit< tt) hn (omega arith) e1 in
    let r2 = field_next o (field 4 n) _ f2 4 4 p r1.0 r1.1 (omega arith) (lit< tt) hp (omega arith) e2 in
    let both : List ℕ = field 4 n ++ field 4 p in
    let l : 8 < length o = omega arith in (
      sym (length-append (field 4 n) (field 4 p ++ (10 ∷ [])) ∙ omega (arith, length-append (field 4 p) (10 ∷ []), length-append (field 4 n) (field 4 p), r2.0)),
      ap (λ xs. set xs 8 10) r2.1
          ∙ ap (λ xs. set (both ++ xs) 8 10) (drop-cons o 8 0 l)
          ∙ set_at both (get_or o 8 0) (drop 9 o) 10 8 r2.0
          ∙ simp append_assoc,
    )

pub refusal_written : (o f1 f2 : List ℕ) (e : Refusal) (n p : ℕ) → 9 ≤ length o → (code e).number < 10 ^ 4 → (code e).place < 10 ^ 4 → n ≡ (code e).number → p ≡ (code e).place → f1 ≡ put n (take 4 o) → f2 ≡ put p (take 4 (drop 4 (f1 ++ post_of 0 4 o))) → (9 ≡ length (refusal_line e)) × (set (put_mid 4 4 (f1 ++ post_of 0 4 o) f2) 8 10 ≡ refusal_line e ++ drop (length (refusal_line e)) o)
refusal_written o f1 f2 e n p h hn hp en ep e1 e2 =
    let w = refusal_wrote o f1 f2 (code e).number (code e).place h hn hp (e1 ∙ ap (λ (m : ℕ). put m (take 4 o)) en) (e2 ∙ ap (λ (m : ℕ). put m (take 4 (drop 4 (f1 ++ post_of 0 4 o)))) ep) in
    (w.0, w.1 ∙ ap (λ (k : ℕ). refusal_line e ++ drop k o) w.0)

-- ---- the sheet
-- a line that makes a request asks for that request's plan
asked_is : (line : List ℕ) (q : PlanRequest) → Ok q ≡ request_of line → asked line ≡ plan_for q
asked_is line q e = sym (ap (λ (x : Result PlanRequest Refusal). and_then x plan_for) e)

counted_err : (x : Result (List Step) Refusal) (e : Refusal) → Err e ≡ counted x → x ≡ Err e
counted_err (Ok s) e h = cc
counted_err (Err f) e h = cc

-- the sheet that was written is that of the plan that was asked for
sheet_wrote : (x : Result (List Step) Refusal) (n l : ℕ) (steps : List Step) (o out : List ℕ) (r : Result ℕ Refusal) → Ok l ≡ counted x → steps ≡ steps_or x → Chain n steps → 4096 ≤ length o → r ≡ wrote steps (length o) → out ≡ written steps o → (r ≡ sheet_length x) × (out ≡ sheet_over x o)
sheet_wrote (Err e) n l steps o out r k s c h a w = let z : ◌≡◌ {A = ℕ} 0 1 = cc in let no : ⊥ = omega arith in absurd no
sheet_wrote (Ok t) n l steps o out r k s c h a w =
    let d : Chain n t = subst (Chain n) s c in
    let long : length (sheet t) ≡ 32 * length t = length_sheet t 0 (omega (arith, d.short)) (chain_writable n t d) in
    let room : leb (32 * length t) (length o) ≡ true = le-leb _ _ (omega (arith, d.short)) in (
      a ∙ ap (λ (xs : List Step). wrote xs (length o)) s
          ∙ ap (λ (b : Bool). cond b (Ok (32 * length t)) (Err (TableShort (32 * length t)))) room
          ∙ ap (λ (m : ℕ). Ok m) (sym long),
      w ∙ ap (λ (xs : List Step). written xs o) s
          ∙ ap (λ (b : Bool). cond b (sheet t ++ drop (32 * length t) o) o) room
          ∙ ap (λ (m : ℕ). sheet t ++ drop m o) (sym long),
    )

-- the steps that were admitted are the first of the table
pub sheet_answered : (line : List ℕ) (q : PlanRequest) (n l : ℕ) (table steps : List Step) (o out : List ℕ) (r : Result ℕ Refusal) → Ok q ≡ request_of line → Ok l ≡ counted (plan_for q) → take l table ≡ steps_or (plan_for q) → Chain n (take l table) → steps ≡ take l table → 4096 ≤ length o → r ≡ wrote steps (length o) → out ≡ written steps o → (r ≡ sheet_length (asked line)) × (out ≡ sheet_over (asked line) o)
sheet_answered line q n l table steps o out r eq k f c s h a w =
    let p = sheet_wrote (plan_for q) n l steps o out r k (s ∙ f) (subst (Chain n) (sym s) c) h a w in
    let e = sym (asked_is line q eq) in
    (p.0 ∙ ap sheet_length e, p.1 ∙ ap (λ (x : Result (List Step) Refusal). sheet_over x o) e)

-- what a line is answered whose plan is refused
pub refused_answered : (line : List ℕ) (q : PlanRequest) (e : Refusal) → Ok q ≡ request_of line → Err e ≡ counted (plan_for q) → asked line ≡ Err e
refused_answered line q e eq k = asked_is line q eq ∙ counted_err (plan_for q) e k

-- ---- the refusals of a line have small numbers and places
abbrev Small : {X : Type 0} → Result X Refusal → Type 0
Small r = IfErr r (λ e. ((code e).number < 10 ^ 4) × ((code e).place < 10 ^ 4))

small_cond : {X : Type 0} (b : Bool) (x y : Result X Refusal) → Small x → Small y → Small (cond b x y)
small_cond true x y h k = h
small_cond false x y h k = k

small_then : {X Y : Type 0} (x : Result X Refusal) (go : X → Result Y Refusal) → Small x → ((v : X) → Small (go v)) → Small (and_then x go)
small_then (Ok v) go h k = k v
small_then (Err e) go h k = h

small_number : (o : Option ℕ) → Small (number_in o)
small_number (Some v) = tt
small_number None = (lit< tt, lit< tt)

small_fields : (line : List ℕ) → Small (fields_of line)
small_fields line =
    small_then (number_in (field_value (columns 0 4 line))) _ (small_number (field_value (columns 0 4 line))) (λ m.
    small_then (number_in (field_value (columns 4 4 line))) _ (small_number (field_value (columns 4 4 line))) (λ w.
    small_then (number_in (field_value (columns 8 19 line))) _ (small_number (field_value (columns 8 19 line))) (λ n. tt)))

small_request : (line : List ℕ) → Small (request_of line)
small_request line =
    small_cond (eqb (length line) 28) _ _
    (small_cond (eqb (get_or line 27 0) 10) (fields_of line) (Err (SheetLine 1)) (small_fields line) (lit< tt, lit< tt))
    (lit< tt, lit< tt)

small_by : (m : Option PlanMethod) (n : ℕ) → Small (plan_by m n)
small_by (Some m) n = small_cond (allows m n) (Ok (plan_of m n)) (Err Method) tt (lit< tt, lit< tt)
small_by None n = (lit< tt, lit< tt)

small_plan : (q : PlanRequest) → Small (plan_for q)
small_plan q =
    small_cond (is_exponent q.exponent) (plan_by (method_of q.method q.width) q.exponent) (Err Exponent)
    (small_by (method_of q.method q.width) q.exponent) (lit< tt, lit< tt)

small_asked : (line : List ℕ) → Small (asked line)
small_asked line = small_then (request_of line) plan_for (small_request line) small_plan

small_in : (x : Result (List Step) Refusal) (e : Refusal) → Err e ≡ sheet_length x → Small x → ((code e).number < 10 ^ 4) × ((code e).place < 10 ^ 4)
small_in (Ok s) e h k = let z : ◌≡◌ {A = ℕ} 0 1 = cc in let no : ⊥ = omega arith in absurd no
small_in (Err f) e h k = let same : f ≡ e = cc in subst (λ (y : Refusal). ((code y).number < 10 ^ 4) × ((code y).place < 10 ^ 4)) same k

pub small_refusal : (line : List ℕ) (e : Refusal) → Err e ≡ sheet_length (asked line) → ((code e).number < 10 ^ 4) × ((code e).place < 10 ^ 4)
small_refusal line e h = small_in (asked line) e h (small_asked line)

-- ---- the response
-- the answer and the bytes, where 4,096 are lent
roomy : (line o : List ℕ) → 4096 ≤ length o → (room_answer line (length o) ≡ Ok (length (response line))) × (responded line o ≡ response line ++ drop (length (response line)) o)
roomy line o h =
    let t : leb 4096 (length o) ≡ true = le-leb _ _ h in (
      ap (λ (b : Bool). cond b (Ok (length (response line))) (Err (TableShort 4096))) t,
      ap (λ (b : Bool). cond b (response line ++ drop (length (response line)) o) o) t,
    )

printed_sheet : (x : Result (List Step) Refusal) (l : ℕ) (o out : List ℕ) → Ok l ≡ sheet_length x → out ≡ sheet_over x o → (l ≡ length (printed x)) × (out ≡ printed x ++ drop (length (printed x)) o)
printed_sheet (Ok s) l o out k w = (cc, w)
printed_sheet (Err e) l o out k w = let z : ◌≡◌ {A = ℕ} 0 1 = cc in let no : ⊥ = omega arith in absurd no

printed_refusal : (x : Result (List Step) Refusal) (e : Refusal) (l : ℕ) (o mid out : List ℕ) → Err e ≡ sheet_length x → mid ≡ sheet_over x o → l ≡ length (refusal_line e) → out ≡ refusal_line e ++ drop (length (refusal_line e)) mid → (l ≡ length (printed x)) × (out ≡ printed x ++ drop (length (printed x)) o)
printed_refusal (Ok s) e l o mid out k m n w = let z : ◌≡◌ {A = ℕ} 0 1 = cc in let no : ⊥ = omega arith in absurd no
printed_refusal (Err f) e l o mid out k m n w =
    let same : e ≡ f = cc in (
      n ∙ ap (λ (y : Refusal). length (refusal_line y)) same,
      w ∙ ap (λ (xs : List ℕ). refusal_line e ++ drop (length (refusal_line e)) xs) m ∙ ap (λ (y : Refusal). refusal_line y ++ drop (length (refusal_line y)) o) same,
    )

-- what is printed, where there is room
roomy_printed : (line o out : List ℕ) (l : ℕ) → 4096 ≤ length o → (l ≡ length (response line)) × (out ≡ response line ++ drop (length (response line)) o) → (Ok l ≡ room_answer line (length o)) × (out ≡ responded line o)
roomy_printed line o out l h p =
    let r = roomy line o h in
    (ap (λ (m : ℕ). Ok m) p.0 ∙ sym r.0, p.1 ∙ sym r.1)

pub respond_sheet : (line o out : List ℕ) (l : ℕ) → 4096 ≤ length o → Ok l ≡ sheet_length (asked line) → out ≡ sheet_over (asked line) o → (Ok l ≡ room_answer line (length o)) × (out ≡ responded line o)
respond_sheet line o out l h k w = roomy_printed line o out l h (printed_sheet (asked line) l o out k w)

pub respond_refusal : (line o mid out : List ℕ) (e : Refusal) (l : ℕ) → 4096 ≤ length o → Err e ≡ sheet_length (asked line) → mid ≡ sheet_over (asked line) o → l ≡ length (refusal_line e) → out ≡ refusal_line e ++ drop (length (refusal_line e)) mid → (Ok l ≡ room_answer line (length o)) × (out ≡ responded line o)
respond_refusal line o mid out e l h k m n w = roomy_printed line o out l h (printed_refusal (asked line) e l o mid out k m n w)
