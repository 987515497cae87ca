-- The power tree as it grows over a table of parents. Assumes nothing.
use Rattle.std.specs.Prelude.{ℕ, zero, suc, ◌+◌, ◌-◌, Bool, false, cond, List, [], ◌∷◌, ◌++◌, length, replicate, ◌==◌, nat_le, slice_index, slice_set}

-- a tree under way: the parents by number, 0 for a number that has none, and the numbers of the tree, level after level
pub record Growth : Type 0 where
  pub parents : List ℕ
  pub order : List ℕ

abbrev pub growth : List ℕ → List ℕ → Growth
growth ps os = record { parents = ps; order = os }

-- the path from 1 to u by the parents, at most so many numbers of it, before the list given
abbrev pub path_onto : ℕ → List ℕ → ℕ → List ℕ → List ℕ
path_onto zero ps u onto = onto
path_onto (suc most) ps zero onto = onto
path_onto (suc most) ps (suc v) onto = path_onto most ps (slice_index ps (suc v)) (suc v ∷ onto)

-- c can still get a parent
abbrev pub is_open : List ℕ → ℕ → Bool
is_open ps c = cond (nat_le c 1024) (slice_index ps c == 0) false

-- u + a becomes a child of u, unless it has a parent
abbrev pub hang : ℕ → Growth → ℕ → Growth
hang u g a = cond (is_open g.parents (u + a)) (growth (slice_set g.parents (u + a) u) (g.order ++ (u + a) ∷ [])) g

abbrev pub hang_all : ℕ → Growth → List ℕ → Growth
hang_all u g [] = g
hang_all u g (a ∷ rest) = hang_all u (hang u g a) rest

-- the number at place k gets its children
abbrev pub turn : ℕ → Growth → Growth
turn k g = hang_all (slice_index g.order k) g (path_onto 19 g.parents (slice_index g.order k) [])

-- so many numbers, from place k on, get their children
unfoldable pub turns : ℕ → ℕ → Growth → Growth
turns zero k g = g
turns (suc left) k g = turns left (k + 1) (turn k g)

-- a tree after a level, whose numbers stand from the place `from` on
pub record Stage : Type 0 where
  pub tree : Growth
  pub from : ℕ

abbrev pub stage : Growth → ℕ → Stage
stage g k = record { tree = g; from = k }

-- the stage after the next level
abbrev pub next_stage : Stage → Stage
next_stage s = stage (turns (length s.tree.order - s.from) s.from s.tree) (length s.tree.order)

-- the stage with so many levels below the first
unfoldable pub stage_at : ℕ → Stage
stage_at zero = stage (growth (replicate 1025 0) (1 ∷ [])) 0
stage_at (suc i) = next_stage (stage_at i)

-- the parents of the whole tree
unfoldable pub grown_parents : List ℕ
grown_parents = (stage_at 18).tree.parents
