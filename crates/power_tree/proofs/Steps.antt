-- The steps of a path, from 1 on.
use Rattle.std.proofs.Common.{◌≡◌, ℕ, zero, suc, ◌+◌, ◌-◌, ◌<◌, ◌≤◌, true, false, cond, eqb, List, [], ◌∷◌, ◌++◌, length, get_or, drop, set, sym, refl, ap, ◌∙◌, append-nil, zero-add, add-zero, suc-add, add-suc, arith}
use Rattle.std.specs.List.{AllWithin, HoldsAt}
use Rattle.std.proofs.lemmas.Bool.{eq-eqb, ne_eqb}
use Rattle.std.proofs.lemmas.List.{length_push}
use Rattle.std.proofs.lemmas.List.Edits.{sets}
use Rattle.plans.specs.declared.step.Step.{Step}
use Rattle.planning.specs.Planning.{step}
use Rattle.power_tree.specs.Tree.{turned, summand_in, steps_of}

-- turning a list round
pub turned_push : (xs : List ℕ) (y : ℕ) (ys : List ℕ) → turned (xs ++ y ∷ []) ys ≡ y ∷ turned xs ys
turned_push [] y ys = refl
turned_push (x ∷ xs) y ys = turned_push xs y (x ∷ ys)

pub turned_length : (xs ys : List ℕ) → length (turned xs ys) ≡ length xs + length ys
turned_length [] ys = sym (zero-add (length ys))
turned_length (x ∷ xs) ys = omega (arith, turned_length xs (x ∷ ys))

turned_back : (xs ys zs : List ℕ) → turned (turned xs ys) zs ≡ turned ys (xs ++ zs)
turned_back [] ys zs = refl
turned_back (x ∷ xs) ys zs = turned_back xs (x ∷ ys) zs

pub turned_twice : (xs : List ℕ) → turned (turned xs []) [] ≡ xs
turned_twice xs = turned_back xs [] [] ∙ append-nil xs

-- the number that makes the sum, found from the first place on
pub summand_found : (u x : ℕ) (path : List ℕ) (at : ℕ) → at < length path → HoldsAt (λ a. u + a ≡ x) path at → AllWithin (λ a. u + a ≡ x → ⊥) path 0 at
    → summand_in u x path ≡ length path - 1 - at
summand_found u x [] at h y n = absurd (let no : ⊥ = omega arith in no)
summand_found u x (a ∷ rest) zero h y n =
    let e : eqb (u + a) x ≡ true = eq-eqb _ _ (y 0) in
    ap (λ b. cond b (length rest) (summand_in u x rest)) e ∙ omega arith
summand_found u x (a ∷ rest) (suc at) h y n =
    let e : eqb (u + a) x ≡ false = ne_eqb _ _ (n 0 0 (omega arith) (omega arith)) in
    ap (λ b. cond b (length rest) (summand_in u x rest)) e
    ∙ summand_found u x rest at (omega arith) y (λ k d l m. n (suc k) d (omega arith) (omega arith))
    ∙ omega arith

pub summand_absent : (u x : ℕ) (path : List ℕ) → AllWithin (λ a. u + a ≡ x → ⊥) path 0 (length path) → summand_in u x path ≡ 0
summand_absent u x [] n = refl
summand_absent u x (a ∷ rest) n =
    let e : eqb (u + a) x ≡ false = ne_eqb _ _ (n 0 0 (omega arith) (omega arith)) in
    ap (λ b. cond b (length rest) (summand_in u x rest)) e ∙ summand_absent u x rest (λ k d l m. n (suc k) d (omega arith) (omega arith))

-- a path has fewer steps than numbers
pub steps_fewer : (path : List ℕ) → 1 ≤ length path → length (steps_of path) < length path
steps_fewer [] h = absurd (let no : ⊥ = omega arith in no)
steps_fewer (x ∷ []) h = omega arith
steps_fewer (x ∷ u ∷ rest) h = omega (arith, steps_fewer (u ∷ rest) (omega arith), length_push (steps_of (u ∷ rest)) (step (length rest) (summand_in u x (u ∷ rest)) x))

-- one step more written behind others
pub sets_push : (t : List Step) (i : ℕ) (plan : List Step) (x : Step) → sets t i (plan ++ x ∷ []) ≡ set (sets t i plan) (i + length plan) x
sets_push t i [] x = ap (λ (k : ℕ). set t k x) (sym (add-zero i))
sets_push t i (y ∷ plan) x = sets_push (set t i y) (suc i) plan x ∙ ap (λ (k : ℕ). set (sets (set t i y) (suc i) plan) k x) (suc-add i (length plan) ∙ sym (add-suc i (length plan)))

-- the steps of a path, by those of the path below its first number
pub steps_more : (path below : List ℕ) → below ≡ drop 1 path → 1 ≤ length path → 1 ≤ length below
    → steps_of path ≡ steps_of below ++ step (length below - 1) (summand_in (get_or below 0 0) (get_or path 0 0) below) (get_or path 0 0) ∷ []
steps_more [] below e h k = absurd (let no : ⊥ = omega arith in no)
steps_more (x ∷ rest) [] e h k = absurd (let no : ⊥ = omega arith in no)
steps_more (x ∷ rest) (u ∷ below) e h k =
    let n : length (u ∷ below) - 1 ≡ length below = omega arith in
    ap (λ (d : List ℕ). steps_of (x ∷ d)) (sym e) ∙ ap (λ (m : ℕ). steps_of (u ∷ below) ++ step m (summand_in u x (u ∷ below)) x ∷ []) (sym n)

pub steps_one_more : (path below : List ℕ) → below ≡ drop 1 path → 1 ≤ length path → 1 ≤ length below → length (steps_of path) ≡ length (steps_of below) + 1
steps_one_more path below e h k = ap length (steps_more path below e h k) ∙ length_push (steps_of below) _

-- a plan that is written from the front of a table, with its last step
pub sets_more : (t mid plan front : List Step) (len j k v m n w : ℕ) → plan ≡ front ++ step j k v ∷ [] → mid ≡ sets t 0 front → len ≡ length front → m ≡ j → n ≡ k → w ≡ v
    → set mid len (step m n w) ≡ sets t 0 plan
sets_more t mid plan front len j k v m n w p s l ej ek ev =
    let z : len ≡ 0 + length front = omega arith in
    rw (s, z, ej, ek, ev, p, sets_push t 0 front (step j k v)) refl
