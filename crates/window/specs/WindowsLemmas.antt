-- What a call means through a window. Assumes nothing.
use Rattle.std.specs.Prelude.{◌≡◌, ℕ, zero, suc, ◌+◌, ◌-◌, ◌<◌, ◌≤◌, min, List, [], ◌∷◌, length, get_or, take, drop, set, is_some, Some, None, Ok, Err, Option, slice_index_or, slice_set, refl}
use Rattle.std.proofs.Common.{sym, ap, ◌∙◌, arith, length-take, length-drop, get_or-take, get_or-drop, lt-ltb}
use Rattle.std.proofs.Math.Seq.{take-set-lt}
use Rattle.std.proofs.lemmas.List.{drop-set-add}
use Rattle.refusals.specs.declared.refusal.Refusal.{Refusal}
use Rattle.refusals.specs.declared.refusal.Refusal.TheVariants.{CellEmpty}
use Rattle.kinds.specs.Kinds.{Meaning}
use Rattle.refusals.specs.Faults.{settle}
use Rattle.units.specs.Units.{State, both, load_fault, load_answer, load_after, loaded, content, reading, multiply_fault, multiply_answer, multiply_after, multiplied, SameShape, AllNative}
use Rattle.units.proofs.Passing.{Loads, loads, load_accepted, Multiplies, multiplies, multiply_accepted, settles}
use Rattle.window.specs.Windows.{windowed}

native_take : {V : Type 0} (m : Meaning V) (n : ℕ) (xs : List (Option V)) → AllNative m xs → AllNative m (take n xs)
native_take m zero xs h i v e = cc
native_take m (suc n) [] h i v e = cc
native_take m (suc n) (x ∷ xs) h zero v e = h zero v e
native_take m (suc n) (x ∷ xs) h (suc i) v e = native_take m n xs (λ j. h (suc j)) i v e

content_ok : {V : Type 0} (o : Option V) (k c : ℕ) (v : V) → Ok v ≡ content o k → Ok v ≡ content o c
content_ok (Some x) k c v e = e
content_ok None k c v e = cc

content_err : {V : Type 0} (o : Option V) (k c : ℕ) (f : Refusal) → Err f ≡ content o k → Err (CellEmpty c) ≡ content o c
content_err (Some x) k c f e = cc
content_err None k c f e = refl

pub win_length : {V : Type 0} (s : State V) (w z : ℕ) → length (windowed w z s).cells ≡ min z (length s.cells - w)
win_length s w z = simp (length-take, length-drop)

pub win_shape : {V : Type 0} (s t : State V) (w z : ℕ) → SameShape s t → SameShape (windowed w z s) (windowed w z t)
win_shape s t w z h = (win_length t w z ∙ ap (λ (n : ℕ). min z (n - w)) h.0 ∙ sym (win_length s w z), refl)

-- what a load below, at the cell's number there, is through the window
pub record LoadThrough {V : Type 0} (s : State V) (w z : ℕ) (m : Meaning V) (c : ℕ) (v : V) : Type 0 where
  pub value : load_answer m s (w + c) v ≡ load_answer m (windowed w z s) c v
  pub after : windowed w z (load_after m s (w + c) v) ≡ load_after m (windowed w z s) c v
  pub below : load_after m s (w + c) v ≡ settle (load_fault m (windowed w z s) c v) s (loaded s (w + c) v)

-- what a multiplication below, at the cells' numbers there, is through the window
pub record MultiplyThrough {V : Type 0} (s : State V) (w z : ℕ) (m : Meaning V) (to a b : ℕ) : Type 0 where
  pub value : multiply_answer s (w + to) (w + a) (w + b) ≡ multiply_answer (windowed w z s) to a b
  pub after : windowed w z (multiply_after m s (w + to) (w + a) (w + b)) ≡ multiply_after m (windowed w z s) to a b
  pub below : multiply_after m s (w + to) (w + a) (w + b) ≡ settle (multiply_fault (windowed w z s) to a b) s (multiplied m s (w + to) (w + a) (w + b))

module _ {V : Type 0} (s : State V) (w z : ℕ) where
  pub few : length s.cells ≤ 255 → length (windowed w z s).cells ≤ 255
  few h = let e = win_length s w z in omega arith

  pub win_native : (m : Meaning V) → AllNative m s.cells → AllNative m (windowed w z s).cells
  win_native m h = native_take m z (drop w s.cells) (λ i v e. h (w + i) v (sym (get_or-drop w s.cells i None) ∙ e))

  module _ (c : ℕ) (h : c < length (windowed w z s).cells) where
    inside : w + c < length s.cells
    inside = let e = win_length s w z in omega arith

    pub fits : length s.cells ≤ 255 → w + c < 256
    fits few = let i = inside in omega arith

    win_at : get_or (windowed w z s).cells c None ≡ slice_index_or s.cells (w + c) None
    win_at =
        let e = win_length s w z in
        let k : c < z = omega arith in
        get_or-take z (drop w s.cells) c None k ∙ get_or-drop w s.cells c None

    win_set : (x : Option V) → take z (drop w (slice_set s.cells (w + c) x)) ≡ slice_set (windowed w z s).cells c x
    win_set x =
        let e = win_length s w z in
        let k : c < z = omega arith in
        ap (take z) (drop-set-add w s.cells c x) ∙ take-set-lt z (drop w s.cells) c x k

    read_same : reading (windowed w z s) c ≡ content (slice_index_or s.cells (w + c) None) c
    read_same =
        let p = lt-ltb c (length (windowed w z s).cells) h in
        simp (p, win_at)

    pub read_ok : (v : V) → Ok v ≡ reading s (w + c) → Ok v ≡ reading (windowed w z s) c
    read_ok v e =
        let q = lt-ltb (w + c) (length s.cells) inside in
        content_ok (slice_index_or s.cells (w + c) None) (w + c) c v (simp q at e) ∙ sym read_same

    pub read_err : (f : Refusal) → Err f ≡ reading s (w + c) → Err (CellEmpty c) ≡ reading (windowed w z s) c
    read_err f e =
        let q = lt-ltb (w + c) (length s.cells) inside in
        content_err (slice_index_or s.cells (w + c) None) (w + c) c f (simp q at e) ∙ sym read_same

  module _ (m : Meaning V) (c : ℕ) (v : V) (l : Loads m (windowed w z s) c v) where
    -- a load that the window accepts is accepted below
    pub loads_below : Loads m s (w + c) v
    loads_below = record { cell = inside c l.cell; native = l.native }

    load_under : load_answer m s (w + c) v ≡ Ok tt
    load_under = load_accepted m s (w + c) v loads_below

    pub loaded_below : windowed w z (loaded s (w + c) v) ≡ loaded (windowed w z s) c v
    loaded_below = ap (λ (cells : List (Option V)). record { cells = cells; left = s.left; log = None }) (win_set c l.cell (Some v))

  -- a load that the window accepts is accepted below, at the cell's number there, and the window shows what it leaves
  pub load_through : (m : Meaning V) (c : ℕ) (v : V) → Ok tt ≡ load_answer m (windowed w z s) c v → LoadThrough s w z m c v
  load_through m c v passed =
      let l = loads m (windowed w z s) c v (sym passed) in
      let under = load_under m c v l in
      let went = settles (load_fault m s (w + c) v) s (loaded s (w + c) v) under in
      record {
        value = under ∙ passed;
        after = ap (windowed w z) went ∙ loaded_below m c v l ∙ sym (settles (load_fault m (windowed w z s) c v) (windowed w z s) (loaded (windowed w z s) c v) (sym passed));
        below = went ∙ sym (settles (load_fault m (windowed w z s) c v) s (loaded s (w + c) v) (sym passed));
      }

  module _ (to a b : ℕ) (l : Multiplies (windowed w z s) to a b) where
    -- a multiplication that the window accepts is accepted below
    pub multiplies_below : Multiplies s (w + to) (w + a) (w + b)
    multiplies_below = record {
      to_there = inside to l.to_there;
      a_there = inside a l.a_there;
      b_there = inside b l.b_there;
      a_filled = sym (ap is_some (win_at a l.a_there)) ∙ l.a_filled;
      b_filled = sym (ap is_some (win_at b l.b_there)) ∙ l.b_filled;
      some = l.some;
    }

    multiply_under : multiply_answer s (w + to) (w + a) (w + b) ≡ Ok tt
    multiply_under = multiply_accepted s (w + to) (w + a) (w + b) multiplies_below

    pub multiplied_below : (m : Meaning V) → windowed w z (multiplied m s (w + to) (w + a) (w + b)) ≡ multiplied m (windowed w z s) to a b
    multiplied_below m =
        let held : both m.times (slice_index_or s.cells (w + a) None) (slice_index_or s.cells (w + b) None) ≡ both m.times (slice_index_or (windowed w z s).cells a None) (slice_index_or (windowed w z s).cells b None) =
        rw (win_at a l.a_there, win_at b l.b_there) in
        ap (λ (cells : List (Option V)). record { cells = cells; left = s.left - 1; log = None })
        (win_set to l.to_there (both m.times (slice_index_or s.cells (w + a) None) (slice_index_or s.cells (w + b) None)) ∙ ap (set (windowed w z s).cells to) held)

  -- a multiplication that the window accepts is accepted below, at the cells' numbers there, and the window shows what it leaves
  pub multiply_through : (m : Meaning V) (to a b : ℕ) → Ok tt ≡ multiply_answer (windowed w z s) to a b → MultiplyThrough s w z m to a b
  multiply_through m to a b passed =
      let l = multiplies (windowed w z s) to a b (sym passed) in
      let under = multiply_under to a b l in
      let went = settles (multiply_fault s (w + to) (w + a) (w + b)) s (multiplied m s (w + to) (w + a) (w + b)) under in
      record {
        value = under ∙ passed;
        after = ap (windowed w z) went ∙ multiplied_below to a b l m ∙ sym (settles (multiply_fault (windowed w z s) to a b) (windowed w z s) (multiplied m (windowed w z s) to a b) (sym passed));
        below = went ∙ sym (settles (multiply_fault (windowed w z s) to a b) s (multiplied m s (w + to) (w + a) (w + b)) (sym passed));
      }
