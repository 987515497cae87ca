-- Marks of needed values, numbers of kept ones, and the table that is written. Assumes nothing.
use Rattle.std.proofs.Common.{◌≡◌, ℕ, ◌+◌, ◌<◌, ◌≤◌, Bool, true, false, cond, ◌||◌, leb, List, [], ◌∷◌, ◌++◌, length, get_or, take, drop, set, replicate, Ok, Err, sym, refl, ap, ◌∙◌, subst, ⊎_elim, arith, append_assoc, append-nil, length-set, length-append, get_or-set_other, get_or-set_same, get_or-append-add}
use lib.ListN.{length-replicate, get_or-replicate, get_or-append}
use lib.Seq.{get_or-append_seam}
use mir.Val.{bool_byte}
use Rattle.std.proofs.lemmas.Bool.{le-leb, lt-leb, eq-eqb, ne_eqb, cases_eq}
use Rattle.refusals.specs.declared.refusal.Refusal.TheVariants.{TableShort}
use Rattle.plans.specs.declared.step.Step.{Step}
use Rattle.plans.specs.Chain.{no_step, step_at, Cites}
use Rattle.planning.specs.Planning.{step}
use Rattle.planning.proofs.Filling.{Filled, filled_more, filled_all}
use Rattle.trimming.specs.Needed.{has, needed_of, needed}
use Rattle.trimming.specs.Trim.{rank, renumbered, keep, trimmed, trim_answer}
use Rattle.trimming.proofs.Needing.{after, after_here, after_end, after_all, with_yes, with_no}
use Rattle.trimming.proofs.Ranks.{rank_next, rank_one, rank_none, rank_rises, rank_stays, rank_room, rank_le, left, left_one, left_none, left_end, keep_length}

-- ---- marks

-- the marks say of each value whether the list has it
pub record Marked (marks : List Bool) (l : List ℕ) : Type 0 where
  pub long : length marks ≡ 129
  pub same : (m : ℕ) → m < 129 → get_or marks m false ≡ has l m

marked_none : Marked (replicate 129 false) []
marked_none = record { long = length-replicate 129 false; same = λ m h. get_or-replicate 129 m false false h }

-- one mark more
marked_more : (marks : List Bool) (l : List ℕ) (j : ℕ) → j < 129 → Marked marks l → Marked (set marks j true) (j ∷ l)
marked_more marks l j h f =
    let long : length marks ≡ 129 = f.long in
    record {
      long = length-set marks j true ∙ long;
      same = λ m k.
          ⊎_elim
          (λ (e : m ≡ j). ap (λ (x : ℕ). get_or (set marks j true) x false) e ∙ get_or-set_same marks j true false (omega arith) ∙ sym (ap (λ (b : Bool). b || has l m) (eq-eqb m j e)))
          (λ (e : m ≡ j → ⊥). get_or-set_other marks j m true false e ∙ f.same m k ∙ sym (ap (λ (b : Bool). b || has l m) (ne_eqb m j e)))
          (cases_eq m j);
    }

-- before the first step back, the root alone is marked
pub marked_start : (s : List Step) → length s ≤ 128 → Marked (set (replicate 129 false) (length s) true) (after (length s ∷ []) s (length s))
marked_start s h = subst (Marked (set (replicate 129 false) (length s) true)) (sym (after_end (length s ∷ []) s)) (marked_more (replicate 129 false) [] (length s) (omega arith) marked_none)

-- one step back, to step i + 1
module _ (marks : List Bool) (roots : List ℕ) (s : List Step) (i : ℕ) (h : i < length s) (short : length s ≤ 128) (inv : Marked marks (after roots s (i + 1))) where
  pub marked_yes : (j k : ℕ) → j < 129 → k < 129 → j ≡ (step_at s i).j → k ≡ (step_at s i).k → get_or marks (i + 1) false ≡ true → Marked (set (set marks j true) k true) (after roots s i)
  marked_yes j k jl kl je ke t =
      let later : List ℕ = after roots s (i + 1) in
      let y = with_yes (i + 1) (step_at s i) later (sym (inv.same (i + 1) (omega arith)) ∙ t) in
      let e : k ∷ j ∷ later ≡ after roots s i = ap (λ (x : ℕ). x ∷ j ∷ later) ke ∙ ap (λ (x : ℕ). (step_at s i).k ∷ x ∷ later) je ∙ sym (after_here roots s i h ∙ y) in
      subst (Marked (set (set marks j true) k true)) e (marked_more (set marks j true) (j ∷ later) k kl (marked_more marks later j jl inv))

  pub marked_no : get_or marks (i + 1) false ≡ false → Marked marks (after roots s i)
  marked_no t =
      let n = with_no (i + 1) (step_at s i) (after roots s (i + 1)) (sym (inv.same (i + 1) (omega arith)) ∙ t) in
      subst (Marked marks) (sym (after_here roots s i h ∙ n)) inv

-- the steps that are left, from the first on, and that what the others need is marked
pub record Marking (s left : List Step) (marks : List Bool) : Type 0 where
  pub more : List Step
  pub whole : left ++ more ≡ s
  pub marked : Marked marks (after (length s ∷ []) s (length left))

pub marking_start : (s left : List Step) → left ≡ s → length s ≤ 128 → Marking s left (set (replicate 129 false) (length left) true)
marking_start s left e h =
    let all : left ++ [] ≡ s = append-nil left ∙ e in
    record {
      more = [];
      whole = all;
      marked =
          subst (λ (x : List Step). Marked (set (replicate 129 false) (length x) true) (after (length s ∷ []) s (length x))) (sym e) (marked_start s h);
    }

module _ (s left rest : List Step) (x : Step) (marks : List Bool) (i : ℕ) (short : length s ≤ 128) (e : left ≡ rest ++ x ∷ []) (n : i ≡ length rest) (m : Marking s left marks) where
  rest_whole : rest ++ (x ∷ m.more) ≡ s
  rest_whole = sym (append_assoc rest (x ∷ []) m.more) ∙ ap (λ (y : List Step). y ++ m.more) (sym e) ∙ m.whole

  pub rest_within : i < length s
  rest_within = omega (arith, ap length rest_whole, length-append rest (x ∷ m.more))

  pub rest_step : x ≡ step_at s i
  rest_step =
      let z : i ≡ length rest + 0 = omega arith in
      sym (ap (step_at s) z ∙ ap (λ (y : List Step). step_at y (length rest + 0)) (sym rest_whole) ∙ get_or-append-add rest (x ∷ m.more) 0 no_step)

  rest_marked : Marked marks (after (length s ∷ []) s (i + 1))
  rest_marked =
      let l : length left ≡ i + 1 = omega (arith, ap length e, length-append rest (x ∷ [])) in
      subst (λ (k : ℕ). Marked marks (after (length s ∷ []) s k)) l m.marked

  -- it cites values that there are
  pub rest_cites : Cites s → (x.j < 129) × (x.k < 129)
  rest_cites c =
      let q = c i rest_within in
      let ej : x.j ≡ (step_at s i).j = ap (λ (y : Step). y.j) rest_step in
      let ek : x.k ≡ (step_at s i).k = ap (λ (y : Step). y.k) rest_step in
      let h = rest_within in
      (omega arith, omega arith)

  pub marking_yes : (j k : ℕ) → Cites s → j ≡ x.j → k ≡ x.k → get_or marks (i + 1) false ≡ true → Marking s rest (set (set marks j true) k true)
  marking_yes j k c je ke t =
      let q = rest_cites c in
      let jl : j < 129 = omega arith in
      let kl : k < 129 = omega arith in
      record {
        more = x ∷ m.more;
        whole = rest_whole;
        marked =
            subst (λ (y : ℕ). Marked (set (set marks j true) k true) (after (length s ∷ []) s y)) n
            (marked_yes marks (length s ∷ []) s i rest_within short rest_marked j k jl kl (je ∙ ap (λ (y : Step). y.j) rest_step) (ke ∙ ap (λ (y : Step). y.k) rest_step) t);
      }

  pub marking_no : get_or marks (i + 1) false ≡ false → Marking s rest marks
  marking_no t =
      record {
        more = x ∷ m.more;
        whole = rest_whole;
        marked = subst (λ (y : ℕ). Marked marks (after (length s ∷ []) s y)) n (marked_no marks (length s ∷ []) s i rest_within short rest_marked t);
      }

-- all steps are passed
pub marking_all : (s left : List Step) (marks : List Bool) → length left ≡ 0 → Marking s left marks → (m : ℕ) → m < 129 → get_or marks m false ≡ needed s m
marking_all s left marks z f m h = f.marked.same m h ∙ ap (λ (l : List ℕ). has l m) (ap (after (length s ∷ []) s) z ∙ after_all (length s ∷ []) s)

-- ---- new numbers

-- the numbers of the values up to i
pub record Numbered (numbers kept : List ℕ) (i : ℕ) : Type 0 where
  pub long : length numbers ≡ i + 1
  pub same : (m : ℕ) → m ≤ i → get_or numbers m 0 ≡ rank kept m
  pub small : rank kept i ≤ i

byte_is : (b : Bool) → bool_byte b ≡ cond b 1 0
byte_is true = refl
byte_is false = refl

pub numbered_none : (kept : List ℕ) → Numbered (0 ∷ []) kept 0
numbered_none kept =
    record {
      long = refl;
      same = λ m h. let z : m ≡ 0 = omega arith in ap (λ (y : ℕ). get_or (0 ∷ []) y 0) z ∙ sym (ap (rank kept) z);
      small = omega arith;
    }

pub numbered_more : (numbers kept : List ℕ) (i count : ℕ) → Numbered numbers kept i → count ≡ rank kept (i + 1) → Numbered (numbers ++ count ∷ []) kept (i + 1)
numbered_more numbers kept i count f e =
    let long : length numbers ≡ i + 1 = f.long in
    record {
      long = length-append numbers (count ∷ []) ∙ ap (λ (y : ℕ). y + 1) long;
      same = λ m l.
          ⊎_elim
          (λ (k : m ≡ i + 1). ap (λ (y : ℕ). get_or (numbers ++ count ∷ []) y 0) (k ∙ sym long) ∙ get_or-append_seam numbers count [] 0 ∙ e ∙ sym (ap (rank kept) k))
          (λ (k : m ≡ i + 1 → ⊥). get_or-append numbers (count ∷ []) 0 m (omega arith) ∙ f.same m (omega arith))
          (cases_eq m (i + 1));
      small = rank_le kept (i + 1);
    }

-- the running count after one mark more
pub count_more : (kept : List ℕ) (i count v : ℕ) (b : Bool) → count ≡ rank kept i → v ≡ bool_byte b → b ≡ has kept (i + 1) → count + v ≡ rank kept (i + 1)
count_more kept i count v b c ev eb =
    let e : v ≡ cond {A = ℕ} (has kept (i + 1)) 1 0 = ev ∙ byte_is b ∙ ap (λ (t : Bool). cond {A = ℕ} t 1 0) eb in
    omega (arith, rank_next kept i)

-- ---- the answer

module _ (s : List Step) (places len : ℕ) (e : len ≡ rank (needed_of s) (length s)) where
  length_is : len ≡ length (trimmed s)
  length_is = e ∙ sym (keep_length (needed_of s) s)

  pub trim_short : places < len → Err (TableShort len) ≡ trim_answer s places
  trim_short h =
      let l = length_is in
      let t : leb (length (trimmed s)) places ≡ false = lt-leb _ _ (omega arith) in
      ap (λ (x : ℕ). Err (TableShort x)) l ∙ ap (λ (v : Bool). cond v (Ok (length (trimmed s))) (Err (TableShort (length (trimmed s))))) (sym t)

  pub trim_fits : len ≤ places → Ok len ≡ trim_answer s places
  trim_fits h =
      let l = length_is in
      let t : leb (length (trimmed s)) places ≡ true = le-leb _ _ (omega arith) in
      ap (λ (x : ℕ). Ok x) l ∙ ap (λ (v : Bool). cond v (Ok (length (trimmed s))) (Err (TableShort (length (trimmed s))))) (sym t)

-- ---- the table

-- the kept ones of the first i steps are written
abbrev pub Writing : List ℕ → List Step → List Step → List Step → ℕ → Type 0
Writing kept s was now i = Filled (keep kept s) was now (rank kept i) (left kept s i)

pub writing_none : (kept : List ℕ) (s was : List Step) → Writing kept s was was 0
writing_none kept s was = record { front = refl; back = refl }

module _ (kept : List ℕ) (s was t : List Step) (i : ℕ) (w : Writing kept s was t i) (h : i < length s) where
  pub writing_yes : (x : Step) (at a b : ℕ) → x ≡ step_at s i → at ≡ rank kept i → rank kept i < rank kept (i + 1) → at < length t → a ≡ rank kept x.j → b ≡ rank kept x.k
      → Writing kept s was (set t at (step a b x.value)) (i + 1)
  writing_yes x at a b ex here up room ea eb =
      let n = rank_rises kept i up in
      let y : step a b x.value ≡ renumbered kept (step_at s i) = rw (ea, eb, ex) refl in
      let l : rank kept i < length t = omega arith in
      let g = filled_more (keep kept s) was t (rank kept i) (renumbered kept (step_at s i)) (left kept s (i + 1)) l (subst (Filled (keep kept s) was t (rank kept i)) (left_one kept s i h n) w) in
      rw (y, here, rank_one kept i n) g

  pub writing_no : rank kept (i + 1) ≤ rank kept i → Writing kept s was t (i + 1)
  writing_no stays =
      let n = rank_stays kept i stays in
      subst (λ (k : ℕ). Filled (keep kept s) was t k (left kept s (i + 1))) (sym (rank_none kept i n))
      (subst (Filled (keep kept s) was t (rank kept i)) (left_none kept s i h n) w)

-- all steps are passed
pub writing_all : (kept : List ℕ) (s was now : List Step) (i len : ℕ) → Writing kept s was now i → i ≡ length s → len ≡ rank kept (length s) → len ≤ length now → (now ≡ keep kept s ++ drop (length (keep kept s)) was) × (take len now ≡ keep kept s)
writing_all kept s was now i len w e l h =
    let a : rank kept i ≡ len = ap (rank kept) e ∙ sym l in
    let f = subst (Filled (keep kept s) was now (rank kept i)) (ap (left kept s) e ∙ left_end kept s) w in
    let g = filled_all (keep kept s) was now (rank kept i) (omega arith) f in
    (g.1, ap (λ (x : ℕ). take x now) (sym a) ∙ g.2)

-- the numbers that were written are the new numbers
module _ (numbers kept : List ℕ) (s : List Step) (numbered : (m : ℕ) → m ≤ length s → get_or numbers m 0 ≡ rank kept m) (i : ℕ) (h : i < length s) where
  pub rises : get_or numbers i 0 < get_or numbers (i + 1) 0 → (rank kept i < rank kept (i + 1)) × (rank kept i < rank kept (length s))
  rises up =
      let l : rank kept i < rank kept (i + 1) = omega (arith, numbered i (omega arith), numbered (i + 1) (omega arith)) in
      (l, omega (arith, rank_room kept s i h (rank_rises kept i l)))

  pub stays : get_or numbers (i + 1) 0 ≤ get_or numbers i 0 → rank kept (i + 1) ≤ rank kept i
  stays down = omega (arith, numbered i (omega arith), numbered (i + 1) (omega arith))

-- the last of them is the new length
pub length_of : (numbers kept : List ℕ) (s t : List Step) (len : ℕ) → ((m : ℕ) → m ≤ length s → get_or numbers m 0 ≡ rank kept m) → t ≡ s → len ≡ get_or numbers (length t) 0 → len ≡ rank kept (length s)
length_of numbers kept s t len numbered same e = e ∙ ap (λ (x : List Step). get_or numbers (length x) 0) same ∙ numbered (length s) (omega arith)
