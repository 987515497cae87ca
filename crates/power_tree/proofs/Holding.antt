-- A table of parents that holds a tree: which numbers it has, and the paths that can be climbed in it.
use Rattle.std.proofs.Common.{◌≡◌, ℕ, zero, suc, ◌+◌, ◌/◌, ◌%◌, ◌^◌, ◌<◌, ◌≤◌, List, [], ◌∷◌, ◌++◌, length, get_or, set, sym, refl, ap, ◌∙◌, inl, ⊎_elim, arith, get_or-set_other, get_or-set_same}
use Rattle.std.proofs.lemmas.List.{length-set, length_push}
use Rattle.std.proofs.lemmas.Bool.{cases_eq}
use Rattle.power_tree.specs.Tree.{first_of, second_of, turned}
use Rattle.power_tree.specs.Growth.{path_onto}
use Rattle.power_tree.proofs.Bits.{in_same, in_other}
use Rattle.power_tree.proofs.Levels.{Good, good_positive}

-- each number of a path has the next one as its parent, and the last has none
abbrev pub Climbs : List ℕ → List ℕ → Type 0
Climbs ps [] = ⊥
Climbs ps (x ∷ []) = get_or ps x 0 ≡ 0
Climbs ps (x ∷ u ∷ rest) = (get_or ps x 0 ≡ u) × Climbs ps (u ∷ rest)

pub record Stands (ps p : List ℕ) : Type 0 where
  pub good : Good p
  pub climbs : Climbs ps p

pub stands_parent : (ps p : List ℕ) → Stands ps p → get_or ps (first_of p) 0 ≡ second_of p
stands_parent ps [] s = absurd s.good
stands_parent ps (x ∷ []) s = s.climbs
stands_parent ps (x ∷ u ∷ rest) s = s.climbs.0

onto_none : (most : ℕ) (ps onto : List ℕ) → path_onto most ps 0 onto ≡ onto
onto_none zero ps onto = refl
onto_none (suc most) ps onto = refl

onto_more : (most x : ℕ) (ps onto : List ℕ) → 1 ≤ x → path_onto (suc most) ps x onto ≡ path_onto most ps (get_or ps x 0) (x ∷ onto)
onto_more most zero ps onto h = absurd (let no : ⊥ = omega arith in no)
onto_more most (suc x) ps onto h = refl

-- climbing from its first number gives the path
pub stands_path : (most : ℕ) (ps p onto : List ℕ) → Stands ps p → length p ≤ most → path_onto most ps (first_of p) onto ≡ turned p onto
stands_path most ps [] onto s h = absurd s.good
stands_path zero ps (x ∷ rest) onto s h = absurd (let no : ⊥ = omega arith in no)
stands_path (suc most) ps (x ∷ []) onto s h =
    onto_more most x ps onto (good_positive (x ∷ []) x s.good (inl refl))
    ∙ ap (λ (y : ℕ). path_onto most ps y (x ∷ onto)) s.climbs
    ∙ onto_none most ps (x ∷ onto)
stands_path (suc most) ps (x ∷ u ∷ rest) onto s h =
    onto_more most x ps onto (good_positive (x ∷ u ∷ rest) x s.good (inl refl))
    ∙ ap (λ (y : ℕ). path_onto most ps y (x ∷ onto)) s.climbs.0
    ∙ stands_path most ps (u ∷ rest) (x ∷ onto) (record { good = s.good.1; climbs = s.climbs.1 }) (omega arith)

-- a new parent leaves the paths that are there
pub climbs_kept : (ps : List ℕ) (c v : ℕ) (p : List ℕ) → 2 ≤ c → get_or ps c 0 ≡ 0 → Good p → Climbs ps p → Climbs (set ps c v) p
climbs_kept ps c v [] a z g k = absurd g
climbs_kept ps c v (x ∷ []) a z g k = get_or-set_other ps c x v 0 (λ (e : x ≡ c). omega arith) ∙ k
climbs_kept ps c v (x ∷ u ∷ rest) a z g k =
    let one : 1 ≤ u = good_positive (u ∷ rest) u g.1 (inl refl) in
    let ne : x ≡ c → ⊥ = λ (e : x ≡ c). let y : get_or ps x 0 ≡ get_or ps c 0 = ap (λ (i : ℕ). get_or ps i 0) e in omega (arith, k.0) in
    (get_or-set_other ps c x v 0 ne ∙ k.0, climbs_kept ps c v (u ∷ rest) a z g.1 k.1)

-- how many numbers have a parent
abbrev pub filled : List ℕ → ℕ
filled [] = 0
filled (zero ∷ xs) = filled xs
filled (suc x ∷ xs) = suc (filled xs)

filled_set : (xs : List ℕ) (c v : ℕ) → c < length xs → get_or xs c 0 ≡ 0 → 1 ≤ v → filled (set xs c v) ≡ filled xs + 1
filled_set [] c v h z a = absurd (let no : ⊥ = omega arith in no)
filled_set (x ∷ xs) c zero h z a = absurd (let no : ⊥ = omega arith in no)
filled_set (zero ∷ xs) zero (suc v) h z a = omega arith
filled_set (suc x ∷ xs) zero (suc v) h z a = absurd (let no : ⊥ = omega arith in no)
filled_set (zero ∷ xs) (suc c) (suc v) h z a = filled_set xs c (suc v) (omega arith) z a
filled_set (suc x ∷ xs) (suc c) (suc v) h z a = omega (arith, filled_set xs c (suc v) (omega arith) z a)

filled_length : (xs : List ℕ) → filled xs ≤ length xs
filled_length [] = omega arith
filled_length (zero ∷ xs) = omega (arith, filled_length xs)
filled_length (suc x ∷ xs) = omega (arith, filled_length xs)

filled_below : (xs : List ℕ) → 2 ≤ length xs → get_or xs 0 0 ≡ 0 → get_or xs 1 0 ≡ 0 → filled xs + 2 ≤ length xs
filled_below [] h a b = absurd (let no : ⊥ = omega arith in no)
filled_below (x ∷ []) h a b = absurd (let no : ⊥ = omega arith in no)
filled_below (zero ∷ zero ∷ xs) h a b = omega (arith, filled_length xs)
filled_below (zero ∷ suc y ∷ xs) h a b = absurd (let no : ⊥ = omega arith in no)
filled_below (suc x ∷ y ∷ xs) h a b = absurd (let no : ⊥ = omega arith in no)

-- the table and the order hold the tree whose numbers are the bits of `has`
pub record Held (ps order : List ℕ) (has : ℕ) : Type 0 where
  pub size : length ps ≡ 1025
  pub nought : get_or ps 0 0 ≡ 0
  pub root : get_or ps 1 0 ≡ 0
  pub absent : (c : ℕ) → 2 ≤ c → c ≤ 1024 → get_or ps c 0 ≡ 0 → has / 2 ^ c % 2 ≡ 0
  pub orphan : (c : ℕ) → 2 ≤ c → c ≤ 1024 → has / 2 ^ c % 2 ≡ 0 → get_or ps c 0 ≡ 0
  pub count : length order ≡ filled ps + 1

-- the numbers of the tree are not too many
pub held_room : (ps order : List ℕ) (has : ℕ) → Held ps order has → length order ≤ 1024
held_room ps order has h = let s = h.size in let c = h.count in omega (arith, filled_below ps (omega arith) h.nought h.root)

pub held_set : (ps order : List ℕ) (has c u : ℕ) → Held ps order has → 2 ≤ c → c ≤ 1024 → get_or ps c 0 ≡ 0 → 1 ≤ u → Held (set ps c u) (order ++ c ∷ []) (has + 2 ^ c)
held_set ps order has c u h a b z one =
    let s = h.size in
    let n = h.count in
    let bit : has / 2 ^ c % 2 ≡ 0 = h.absent c a b z in
    let here : get_or (set ps c u) c 0 ≡ u = get_or-set_same ps c u 0 (omega arith) in
    let there : (d : ℕ) → (d ≡ c → ⊥) → get_or (set ps c u) d 0 ≡ get_or ps d 0 = λ d ne. get_or-set_other ps c d u 0 ne in
    record {
      size = length-set ps c u ∙ s;
      nought = there 0 (λ (e : 0 ≡ c). omega arith) ∙ h.nought;
      root = there 1 (λ (e : 1 ≡ c). omega arith) ∙ h.root;
      absent = λ d l m k.
          ⊎_elim
          (λ (e : d ≡ c). absurd (let w : get_or (set ps c u) d 0 ≡ u = ap (λ (i : ℕ). get_or (set ps c u) i 0) e ∙ here in let no : ⊥ = omega arith in no))
          (λ (e : d ≡ c → ⊥). in_other has c d bit e ∙ h.absent d l m (sym (there d e) ∙ k))
          (cases_eq d c);
      orphan = λ d l m k.
          ⊎_elim
          (λ (e : d ≡ c). absurd (let w : (has + 2 ^ c) / 2 ^ d % 2 ≡ 1 = ap (λ (i : ℕ). (has + 2 ^ c) / 2 ^ i % 2) e ∙ in_same has c bit in let no : ⊥ = omega arith in no))
          (λ (e : d ≡ c → ⊥). there d e ∙ h.orphan d l m (sym (in_other has c d bit e) ∙ k))
          (cases_eq d c);
      count = omega (arith, length_push order c, filled_set ps c u (omega arith) z one);
    }
