-- The power tree up to 1,024, level by level, by its rule, and the plans that it gives. Assumes nothing.
use Rattle.std.specs.Prelude.{ℕ, zero, suc, ◌+◌, ◌/◌, ◌%◌, ◌^◌, Bool, false, cond, List, [], ◌∷◌, ◌++◌, length, ◌==◌, nat_le}
use Rattle.plans.specs.declared.step.Step.{Step}
use Rattle.planning.specs.Planning.{step}

-- a level: each of its numbers by its path down to 1; bit c of `has` is 1 if c is in the tree so far
pub record Level : Type 0 where
  pub has : ℕ
  pub paths : List (List ℕ)

abbrev pub level : ℕ → List (List ℕ) → Level
level b ps = record { has = b; paths = ps }

-- c can still come into the tree
abbrev pub is_free : ℕ → ℕ → Bool
is_free b c = cond (nat_le c 1024) (b / 2 ^ c % 2 == 0) false

-- u + a becomes a child of u, the first number of the path, unless it is in the tree; the level that is made has its last number first
abbrev pub hung : ℕ → List ℕ → Level → ℕ → Level
hung u path t a = cond (is_free t.has (u + a)) (level (t.has + 2 ^ (u + a)) (((u + a) ∷ path) ∷ t.paths)) t

abbrev pub hung_all : ℕ → List ℕ → Level → List ℕ → Level
hung_all u path t [] = t
hung_all u path t (a ∷ rest) = hung_all u path (hung u path t a) rest

abbrev pub first_of : List ℕ → ℕ
first_of [] = 0
first_of (x ∷ xs) = x

-- xs backwards, and then ys
abbrev pub turned : {A : Type 0} → List A → List A → List A
turned [] ys = ys
turned (x ∷ xs) ys = turned xs (x ∷ ys)

-- each number of a level, from the left, gets its children: its sums with the numbers of its path, from 1 on
abbrev pub grown_by : Level → List (List ℕ) → Level
grown_by t [] = t
grown_by t (p ∷ ps) = grown_by (hung_all (first_of p) p t (turned p [])) ps

unfoldable pub next_level : Level → Level
next_level s = let t : Level = grown_by (level s.has []) s.paths in level t.has (turned t.paths [])

-- the first level is 1
abbrev pub first_level : Level
first_level = level 2 ((1 ∷ []) ∷ [])

-- the path to n among those of a level, and none
abbrev pub path_in : ℕ → List (List ℕ) → List ℕ
path_in n [] = []
path_in n (p ∷ ps) = cond (first_of p == n) p (path_in n ps)

abbrev pub or_else : List ℕ → List ℕ → List ℕ
or_else [] q = q
or_else (x ∷ p) q = x ∷ p

-- the path to n in so many levels from one on
unfoldable pub path_from : ℕ → ℕ → Level → List ℕ
path_from zero n s = []
path_from (suc left) n s = or_else (path_in n s.paths) (path_from left n (next_level s))

-- the path from n down to 1; no number up to 1,024 needs more levels
unfoldable pub tree_path : ℕ → List ℕ
tree_path n = path_from 19 n first_level

abbrev pub second_of : List ℕ → ℕ
second_of [] = 0
second_of (x ∷ xs) = first_of xs

-- the parent of c in the tree; 0 for 1, which has none, and for a number that is not in the tree
abbrev pub tree_parent : ℕ → ℕ
tree_parent c = second_of (tree_path c)

-- on a path down to u, where the number stands that makes x with u, from 0 at 1
abbrev pub summand_in : ℕ → ℕ → List ℕ → ℕ
summand_in u x [] = 0
summand_in u x (a ∷ rest) = cond (u + a == x) (length rest) (summand_in u x rest)

-- the steps of a path: each adds to the number before it the number of the path that makes the sum
abbrev pub steps_of : List ℕ → List Step
steps_of [] = []
steps_of (x ∷ []) = []
steps_of (x ∷ u ∷ rest) = steps_of (u ∷ rest) ++ step (length rest) (summand_in u x (u ∷ rest)) x ∷ []

-- the plan of n by the tree
abbrev pub tree_plan : ℕ → List Step
tree_plan n = steps_of (tree_path n)
