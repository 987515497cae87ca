-- The rule of the power tree in its own words: what a level is, by the levels before it. Assumes nothing.
use Rattle.std.specs.Prelude.{◌≡◌, ℕ, zero, suc, ◌+◌, ◌/◌, ◌%◌, ◌^◌, ◌≤◌, ◌⊎◌, ◌↔◌, List, [], ◌∷◌, ◌++◌}
use Rattle.power_tree.specs.Tree.{Level, first_of, turned, next_level, first_level, tree_path}

-- the levels, from 0 on
unfoldable pub level_at : ℕ → Level
level_at zero = first_level
level_at (suc i) = next_level (level_at i)

-- p is one of the paths
abbrev pub Lies : List ℕ → List (List ℕ) → Type 0
Lies p [] = ⊥
Lies p (q ∷ qs) = (p ≡ q) ⊎ Lies p qs

-- c is the first number of one of the paths
abbrev pub Heads : ℕ → List (List ℕ) → Type 0
Heads c [] = ⊥
Heads c (p ∷ ps) = (first_of p ≡ c) ⊎ Heads c ps

-- c is in the tree of the levels 0 to i
pub record InTree (i c : ℕ) : Type 0 where
  pub at : ℕ
  pub before : at ≤ i
  pub heads : Heads c (level_at at).paths

-- c can come next: it is at most 1,024, and not yet in the tree, neither in the levels 0 to i nor in what is made of the level after them
pub record New (i : ℕ) (made : List (List ℕ)) (c : ℕ) : Type 0 where
  pub within : c ≤ 1024
  pub above : InTree i c → ⊥
  pub beside : Heads c made → ⊥

-- the sums of the first number of p with some numbers, each as the path that it would get
abbrev pub sums : List ℕ → List ℕ → List (List ℕ)
sums p [] = []
sums p (a ∷ rest) = ((first_of p + a) ∷ p) ∷ sums p rest

-- what the paths of a level offer, from the left: of each first number u the sums u + 1, u + a_1, up to 2·u with the numbers of its path
abbrev pub offers : List (List ℕ) → List (List ℕ)
offers [] = []
offers (p ∷ ps) = sums p (turned p []) ++ offers ps

-- of what is offered, in its order, each number that is new comes to what is made, and no other; at the end `next` is made
abbrev pub Grows : ℕ → List (List ℕ) → List (List ℕ) → List (List ℕ) → Type 0
Grows i made [] next = next ≡ made
Grows i made (q ∷ offered) next = (New i made (first_of q) × Grows i (made ++ q ∷ []) offered next) ⊎ ((New i made (first_of q) → ⊥) × Grows i made offered next)

-- no two paths have the same first number
abbrev pub Apart : List (List ℕ) → Type 0
Apart [] = Unit {0}
Apart (p ∷ ps) = (Heads (first_of p) ps → ⊥) × Apart ps

-- tree_path c is the path of c in one of the levels 0 to 18
pub record Standing (c : ℕ) : Type 0 where
  pub at : ℕ
  pub within : at ≤ 18
  pub lies : Lies (tree_path c) (level_at at).paths
  pub first : first_of (tree_path c) ≡ c

pub record TreeRule : Type 0 where
  -- level 0 is 1
  pub root : (level_at 0).paths ≡ (1 ∷ []) ∷ []
  -- the level after level i, and no other list, is what grows from what level i offers
  pub next : (i : ℕ) (ps : List (List ℕ)) → (ps ≡ (level_at (suc i)).paths) ↔ Grows i [] (offers (level_at i).paths) ps
  -- bit c of `has` is 1 exactly if c is in the tree so far
  pub bits : (i c : ℕ) → ((level_at i).has / 2 ^ c % 2 ≡ 1) ↔ InTree i c
  -- no number is in the tree twice: neither in one level, nor in two or by two paths
  pub apart : (i : ℕ) → Apart (level_at i).paths
  pub once : (i j : ℕ) (p q : List ℕ) → Lies p (level_at i).paths → Lies q (level_at j).paths → first_of p ≡ first_of q → (i ≡ j) × (p ≡ q)
  -- each number from 1 to 1,024 is in the tree, by its path
  pub whole : (c : ℕ) → 1 ≤ c → c ≤ 1024 → Standing c
