-- The tree that grows over a table of parents is the power tree: level by level the two have the same numbers, paths and parents.
use Rattle.std.proofs.Common.{◌≡◌, ℕ, zero, suc, ◌+◌, ◌-◌, ◌/◌, ◌%◌, ◌^◌, ◌<◌, ◌≤◌, true, false, eqb, leb, ◌⊎◌, List, [], ◌∷◌, ◌++◌, length, get_or, drop, set, replicate, sym, refl, ap, ◌∙◌, subst, inl, inr, ⊎_elim, append_assoc, append-nil, add-zero, arith, get_or-set_same}
use lib.ListN.{length-replicate, get_or-replicate}
use Rattle.std.proofs.lemmas.List.{length-drop, length_push, drop-append-le, drop-drop, get_or-drop}
use Rattle.std.proofs.lemmas.Bool.{eq-eqb, ne_eqb, le-leb, lt-leb, cases_eq, cases_lt}
use Rattle.power_tree.specs.Tree.{Level, level, hung, hung_all, first_of, second_of, turned, grown_by, next_level, first_level, path_in, or_else, path_from, tree_path, tree_parent}
use Rattle.power_tree.specs.Growth.{Growth, growth, path_onto, hang, hang_all, turn, turns, Stage, stage, next_stage, stage_at, grown_parents}
use Rattle.power_tree.specs.Rule.{level_at}
use Rattle.power_tree.proofs.Bits.{In}
use Rattle.power_tree.proofs.Levels.{Among, Each, Good, good_positive, good_first, good_child, among_turned, each_turned, each_map, child, hung_cases, bit_one, only_one, Reached, each_level, level_next, level_first}
use Rattle.power_tree.proofs.Plans.{in_level, or_else_lem, tree_path_lem, bound_small}
use Rattle.power_tree.proofs.Holding.{Climbs, Stands, stands_parent, stands_path, climbs_kept, filled, Held, held_room, held_set}

-- the first numbers of paths
abbrev pub firsts : List (List ℕ) → List ℕ
firsts [] = []
firsts (p ∷ ps) = first_of p ∷ firsts ps

firsts_length : (ps : List (List ℕ)) → length (firsts ps) ≡ length ps
firsts_length [] = refl
firsts_length (p ∷ ps) = ap suc (firsts_length ps)

firsts_onto : (ps qs : List (List ℕ)) → firsts (turned ps qs) ≡ firsts (turned ps []) ++ firsts qs
firsts_onto [] qs = refl
firsts_onto (p ∷ ps) qs =
    firsts_onto ps (p ∷ qs)
    ∙ sym (append_assoc (firsts (turned ps [])) (first_of p ∷ []) (firsts qs))
    ∙ ap (λ (x : List ℕ). x ++ firsts qs) (sym (firsts_onto ps (p ∷ [])))

-- the tree and the table, while the paths `todo` of a level wait for their children: the order has them from place k on, and then the new ones
pub record Like (k : ℕ) (todo : List (List ℕ)) (g : Growth) (t : Level) : Type 0 where
  pub held : Held g.parents g.order t.has
  pub within : k ≤ length g.order
  pub ahead : drop k g.order ≡ firsts todo ++ firsts (turned t.paths [])
  pub made : Each (Stands g.parents) t.paths

-- and every path that could be climbed still can
pub record On (k : ℕ) (todo : List (List ℕ)) (g h : Growth) (t : Level) : Type 0 where
  pub like : Like k todo h t
  pub keeps : (p : List ℕ) → Stands g.parents p → Stands h.parents p

on_here : (k : ℕ) (todo : List (List ℕ)) (g : Growth) (t : Level) → Like k todo g t → On k todo g g t
on_here k todo g t l = record { like = l; keeps = λ p s. s }

-- the cases of one child
hang_cases : (u : ℕ) (g : Growth) (a : ℕ)
    → ((u + a ≤ 1024) × (get_or g.parents (u + a) 0 ≡ 0) × (hang u g a ≡ growth (set g.parents (u + a) u) (g.order ++ (u + a) ∷ [])))
    ⊎ ((u + a ≤ 1024 → get_or g.parents (u + a) 0 ≡ 0 → ⊥) × (hang u g a ≡ g))
hang_cases u g a =
    ⊎_elim
    (λ (l : 1024 < u + a). let e : leb (u + a) 1024 ≡ false = lt-leb _ _ l in inr (λ h z. omega arith, rw e refl))
    (λ (l : u + a ≤ 1024).
    let e : leb (u + a) 1024 ≡ true = le-leb _ _ l in
    ⊎_elim
    (λ (z : get_or g.parents (u + a) 0 ≡ 0). let f : eqb (get_or g.parents (u + a) 0) 0 ≡ true = eq-eqb _ _ z in inl (l, z, rw (e, f) refl))
    (λ (z : get_or g.parents (u + a) 0 ≡ 0 → ⊥). let f : eqb (get_or g.parents (u + a) 0) 0 ≡ false = ne_eqb _ _ z in inr (λ _ y. z y, rw (e, f) refl))
    (cases_eq (get_or g.parents (u + a) 0) 0))
    (cases_lt 1024 (u + a))

child_on : (k : ℕ) (todo : List (List ℕ)) (g : Growth) (t : Level) (p : List ℕ) (c : ℕ) → Like k todo g t → Stands g.parents p → Good (c ∷ p) → 1 ≤ first_of p → 2 ≤ c → c ≤ 1024 → get_or g.parents c 0 ≡ 0
    → On k todo g (growth (set g.parents c (first_of p)) (g.order ++ c ∷ [])) (level (t.has + 2 ^ c) ((c ∷ p) ∷ t.paths))
child_on k todo g t p c l s new one a b z =
    let ps = g.parents in
    let size = l.held.size in
    let keeps : (q : List ℕ) → Stands ps q → Stands (set ps c (first_of p)) q = λ q r. record { good = r.good; climbs = climbs_kept ps c (first_of p) q a z r.good r.climbs } in
    let here : get_or (set ps c (first_of p)) c 0 ≡ first_of p = get_or-set_same ps c (first_of p) 0 (omega arith) in
    record {
      like = record {
        held = held_set ps g.order t.has c (first_of p) l.held a b z one;
        within = omega (arith, l.within, length_push g.order c);
        ahead =
            drop-append-le k g.order (c ∷ []) l.within
            ∙ ap (λ (x : List ℕ). x ++ c ∷ []) l.ahead
            ∙ append_assoc (firsts todo) (firsts (turned t.paths [])) (c ∷ [])
            ∙ ap (λ (x : List ℕ). firsts todo ++ x) (sym (firsts_onto t.paths ((c ∷ p) ∷ [])));
        made = (record { good = new; climbs = child_climbs p c (set ps c (first_of p)) here (keeps p s) }, each_map (Stands ps) (Stands (set ps c (first_of p))) keeps t.paths l.made);
      };
      keeps = keeps;
    }
  where
    child_climbs : (p : List ℕ) (c : ℕ) (ps : List ℕ) → get_or ps c 0 ≡ first_of p → Stands ps p → Climbs ps (c ∷ p)
    child_climbs [] c ps e s = absurd s.good
    child_climbs (u ∷ rest) c ps e s = (e, s.climbs)

hang_on : (k : ℕ) (todo : List (List ℕ)) (g : Growth) (t : Level) (p : List ℕ) (a : ℕ) → Like k todo g t → Stands g.parents p → Among a p
    → On k todo g (hang (first_of p) g a) (hung (first_of p) p t a)
hang_on k todo g t p a l s m =
    let u : ℕ = first_of p in
    let c : ℕ = u + a in
    let ua : 1 ≤ u = good_positive p u s.good (good_first p s.good) in
    let aa : 1 ≤ a = good_positive p a s.good m in
    let two : 2 ≤ c = omega arith in
    let h = l.held in
    ⊎_elim
    (λ (x : (c ≤ 1024) × (get_or g.parents c 0 ≡ 0) × (hang u g a ≡ growth (set g.parents c u) (g.order ++ c ∷ []))).
    ⊎_elim
    (λ (y : (c ≤ 1024) × (t.has / 2 ^ c % 2 ≡ 0) × (hung u p t a ≡ child u p t a)).
    subst (λ (i : Growth). On k todo g i (hung u p t a)) (sym x.2)
    (subst (λ (i : Level). On k todo g (growth (set g.parents c u) (g.order ++ c ∷ [])) i) (sym y.2)
    (child_on k todo g t p c l s (good_child p a s.good m) ua two x.0 x.1)))
    (λ (y : (c ≤ 1024 → In t.has c) × (hung u p t a ≡ t)).
    let b : t.has / 2 ^ c % 2 ≡ 1 = y.0 x.0 in
    let d : t.has / 2 ^ c % 2 ≡ 0 = h.absent c two x.0 x.1 in
    absurd (let no : ⊥ = omega arith in no))
    (hung_cases u p t a))
    (λ (x : (c ≤ 1024 → get_or g.parents c 0 ≡ 0 → ⊥) × (hang u g a ≡ g)).
    ⊎_elim
    (λ (y : (c ≤ 1024) × (t.has / 2 ^ c % 2 ≡ 0) × (hung u p t a ≡ child u p t a)). absurd (x.0 y.0 (h.orphan c two y.0 y.1)))
    (λ (y : (c ≤ 1024 → In t.has c) × (hung u p t a ≡ t)).
    subst (λ (i : Growth). On k todo g i (hung u p t a)) (sym x.1) (subst (λ (i : Level). On k todo g g i) (sym y.1) (on_here k todo g t l)))
    (hung_cases u p t a))
    (hang_cases u g a)

on_then : (k n : ℕ) (todo rest : List (List ℕ)) (f g h : Growth) (t s : Level) → On k todo f g t → On n rest g h s → On n rest f h s
on_then k n todo rest f g h t s a b = record { like = b.like; keeps = λ p r. b.keeps p (a.keeps p r) }

all_on : (k : ℕ) (todo : List (List ℕ)) (g : Growth) (t : Level) (p rest : List ℕ) → Like k todo g t → Stands g.parents p → ((a : ℕ) → Among a rest → Among a p)
    → On k todo g (hang_all (first_of p) g rest) (hung_all (first_of p) p t rest)
all_on k todo g t p [] l s m = on_here k todo g t l
all_on k todo g t p (a ∷ rest) l s m =
    let o = hang_on k todo g t p a l s (m a (inl refl)) in
    on_then k k todo todo g (hang (first_of p) g a) (hang_all (first_of p) (hang (first_of p) g a) rest) (hung (first_of p) p t a) (hung_all (first_of p) p (hung (first_of p) p t a) rest) o
    (all_on k todo (hang (first_of p) g a) (hung (first_of p) p t a) p rest o.like (o.keeps p s) (λ b i. m b (inr i)))

-- the next number of the level
next_number : (k : ℕ) (p : List ℕ) (todo : List (List ℕ)) (g : Growth) (t : Level) → Like k (p ∷ todo) g t → get_or g.order k 0 ≡ first_of p
next_number k p todo g t l =
    ap (λ (i : ℕ). get_or g.order i 0) (sym (add-zero k)) ∙ sym (get_or-drop k g.order 0 0) ∙ ap (λ (x : List ℕ). get_or x 0 0) l.ahead

pass_on : (k : ℕ) (p : List ℕ) (todo : List (List ℕ)) (g : Growth) (t : Level) → Like k (p ∷ todo) g t → Like (k + 1) todo g t
pass_on k p todo g t l =
    let n = ap length l.ahead in
    record {
      held = l.held;
      within = omega (arith, length-drop k g.order);
      ahead = sym (drop-drop 1 k g.order) ∙ ap (drop 1) l.ahead;
      made = l.made;
    }

turn_on : (k : ℕ) (p : List ℕ) (todo : List (List ℕ)) (g : Growth) (t : Level) → Like k (p ∷ todo) g t → Stands g.parents p → length p ≤ 19
    → On (k + 1) todo g (turn k g) (hung_all (first_of p) p t (turned p []))
turn_on k p todo g t l s h =
    let e : get_or g.order k 0 ≡ first_of p = next_number k p todo g t l in
    let f : path_onto 19 g.parents (first_of p) [] ≡ turned p [] = stands_path 19 g.parents p [] s h in
    let w : hang_all (first_of p) g (turned p []) ≡ turn k g =
    ap (λ (x : List ℕ). hang_all (first_of p) g x) (sym f) ∙ ap (λ (u : ℕ). hang_all u g (path_onto 19 g.parents u [])) (sym e) in
    let o = all_on k (p ∷ todo) g t p (turned p []) l s (λ a m. ⊎_elim (λ (i : Among a p). i) (λ (i : Among a []). absurd i) (among_turned a p [] m)) in
    subst (λ (i : Growth). On (k + 1) todo g i (hung_all (first_of p) p t (turned p []))) w
    (record { like = pass_on k p todo (hang_all (first_of p) g (turned p [])) (hung_all (first_of p) p t (turned p [])) o.like; keeps = o.keeps })

-- a whole level
turns_on : (todo : List (List ℕ)) (k : ℕ) (g : Growth) (t : Level) → Like k todo g t → Each (Stands g.parents) todo → Each (λ p. length p ≤ 19) todo
    → On (k + length todo) [] g (turns (length todo) k g) (grown_by t todo)
unfolding turns
turns_on [] k g t l s h = subst (λ (i : ℕ). On i [] g g t) (sym (add-zero k)) (on_here k [] g t l)
turns_on (p ∷ todo) k g t l s h =
    let o = turn_on k p todo g t l s.0 h.0 in
    let e : k + 1 + length todo ≡ k + suc (length todo) = omega arith in
    subst (λ (i : ℕ). On i [] g (turns (length todo) (k + 1) (turn k g)) (grown_by (hung_all (first_of p) p t (turned p [])) todo)) e
    (on_then (k + 1) (k + 1 + length todo) todo [] g (turn k g) (turns (length todo) (k + 1) (turn k g)) (hung_all (first_of p) p t (turned p [])) (grown_by (hung_all (first_of p) p t (turned p [])) todo) o
    (turns_on todo (k + 1) (turn k g) (hung_all (first_of p) p t (turned p [])) o.like (each_map (Stands g.parents) (Stands (turn k g).parents) o.keeps todo s.1) h.1))

-- after each level: the order ends with the numbers of the level, and every path so far can be climbed
pub record Matches (i : ℕ) (s : Stage) (l : Level) : Type 0 where
  pub held : Held s.tree.parents s.tree.order l.has
  pub within : s.from ≤ length s.tree.order
  pub ahead : drop s.from s.tree.order ≡ firsts l.paths
  pub paths : (j : ℕ) → j ≤ i → Each (Stands s.tree.parents) (level_at j).paths

filled_none : (n : ℕ) → filled (replicate n 0) ≡ 0
filled_none zero = refl
filled_none (suc n) = filled_none n

abbrev no_parents : List ℕ
no_parents = replicate 1025 0

no_parent : (c : ℕ) → c ≤ 1024 → get_or no_parents c 0 ≡ 0
no_parent c h = get_or-replicate 1025 c 0 0 (omega arith)

first_held : Held no_parents (1 ∷ []) 2
first_held =
    record {
      size = length-replicate {A = ℕ} 1025 0;
      nought = no_parent 0 (omega arith);
      root = no_parent 1 (omega arith);
      absent = λ c a b z.
          ⊎_elim
          (λ (e : 2 / 2 ^ c % 2 ≡ 0). e)
          (λ (e : 2 / 2 ^ c % 2 ≡ 0 → ⊥). let o : 1 ≡ c = only_one c (bit_one 2 c e) in absurd (let no : ⊥ = omega arith in no))
          (cases_eq (2 / 2 ^ c % 2) 0);
      orphan = λ c a b z. no_parent c b;
      count = sym (ap (λ (x : ℕ). x + 1) (filled_none 1025));
    }

first_path : Each (Stands no_parents) first_level.paths
first_path = (record { good = refl; climbs = no_parent 1 (omega arith) }, tt)

matches_first : Matches 0 (stage_at 0) (level_at 0)
unfolding stage_at
matches_first =
    subst (Matches 0 (stage (growth no_parents (1 ∷ [])) 0)) (sym level_first)
    (record {
      held = first_held;
      within = omega arith;
      ahead = refl;
      paths = λ j h. let e : 0 ≡ j = omega arith in subst (λ (x : ℕ). Each (Stands no_parents) (level_at x).paths) e (subst (λ (x : Level). Each (Stands no_parents) x.paths) (sym level_first) first_path);
    })

next_matches : (i : ℕ) (s : Stage) → i ≤ 18 → Matches i s (level_at i) → Matches (suc i) (next_stage s) (next_level (level_at i))
unfolding next_level
next_matches i s h m =
    let l : Level = level_at i in
    let g : Growth = s.tree in
    let n : ℕ = length g.order in
    let turnsLeft : n - s.from ≡ length l.paths = sym (length-drop s.from g.order) ∙ ap length m.ahead ∙ firsts_length l.paths in
    let w = m.within in
    let at : s.from + length l.paths ≡ n = omega arith in
    let start : Like s.from l.paths g (level l.has []) = record { held = m.held; within = w; ahead = m.ahead ∙ sym (append-nil (firsts l.paths)); made = tt } in
    let short : Each (λ p. length p ≤ 19) l.paths = each_map (Reached i) (λ p. length p ≤ 19) (λ p r. omega (arith, r.count)) l.paths (each_level i) in
    let t : Level = grown_by (level l.has []) l.paths in
    let o0 : On (s.from + length l.paths) [] g (turns (length l.paths) s.from g) t = turns_on l.paths s.from g (level l.has []) start (m.paths i (omega arith)) short in
    let o1 : On n [] g (turns (length l.paths) s.from g) t = subst (λ (x : ℕ). On x [] g (turns (length l.paths) s.from g) t) at o0 in
    let o : On n [] g (turns (n - s.from) s.from g) t = subst (λ (x : ℕ). On n [] g (turns x s.from g) t) (sym turnsLeft) o1 in
    let ps : List ℕ = (turns (n - s.from) s.from g).parents in
    record {
      held = o.like.held;
      within = o.like.within;
      ahead = o.like.ahead;
      paths = λ j k.
          ⊎_elim
          (λ (e : j < suc i). each_map (Stands g.parents) (Stands ps) o.keeps (level_at j).paths (m.paths j (omega arith)))
          (λ (e : suc i ≤ j).
          let q : suc i ≡ j = omega arith in
          let y : Each (Stands ps) (turned t.paths []) = each_turned (Stands ps) t.paths [] o.like.made tt in
          subst (λ (x : ℕ). Each (Stands ps) (level_at x).paths) q (subst (λ (x : Level). Each (Stands ps) x.paths) (sym (level_next i)) y))
          (cases_lt j (suc i));
    }

pub matches : (i : ℕ) → i ≤ 18 → Matches i (stage_at i) (level_at i)
unfolding stage_at
matches zero h = matches_first
matches (suc i) h = subst (Matches (suc i) (next_stage (stage_at i))) (sym (level_next i)) (next_matches i (stage_at i) (omega arith) (matches i (omega arith)))

pub stage_next : (i : ℕ) → stage_at (suc i) ≡ next_stage (stage_at i)
unfolding stage_at
stage_next i = refl

-- the order has at most 1,024 numbers
pub stage_room : (i : ℕ) → i ≤ 18 → length (stage_at i).tree.order ≤ 1024
stage_room i h = let m = matches i h in held_room (stage_at i).tree.parents (stage_at i).tree.order (level_at i).has m.held

-- a path that is found can be climbed
stands_found : (ps : List ℕ) (n left i : ℕ) → ((j : ℕ) → i ≤ j → j < i + left → Each (Stands ps) (level_at j).paths)
    → (path_from left n (level_at i) ≡ []) ⊎ (Stands ps (path_from left n (level_at i)) × (first_of (path_from left n (level_at i)) ≡ n))
unfolding path_from
stands_found ps n zero i h = inl refl
stands_found ps n (suc left) i h =
    let p : List ℕ = path_in n (level_at i).paths in
    let q : List ℕ = path_from left n (next_level (level_at i)) in
    let Found : List ℕ → Type 0 = λ x. (x ≡ []) ⊎ (Stands ps x × (first_of x ≡ n)) in
    ⊎_elim
    (λ (r : (p ≡ []) × _).
    subst Found (ap (path_from left n) (level_next i) ∙ sym (ap (λ (x : List ℕ). or_else x q) r.0)) (stands_found ps n left (suc i) (λ j a b. h j (omega arith) (omega arith))))
    (λ (r : Stands ps p × (first_of p ≡ n)). subst Found (sym (or_else_lem p q r.0.good)) (inr r))
    (in_level (Stands ps) n (level_at i).paths (h i (omega arith) (omega arith)))

path_stands : (n : ℕ) → (tree_path n ≡ []) ⊎ (Stands grown_parents (tree_path n) × (first_of (tree_path n) ≡ n))
unfolding grown_parents tree_path
path_stands n =
    let m = matches 18 (omega arith) in
    subst (λ (x : Level). (path_from 19 n x ≡ []) ⊎ (Stands grown_parents (path_from 19 n x) × (first_of (path_from 19 n x) ≡ n))) level_first
    (stands_found grown_parents n 19 0 (λ j a b. m.paths j (omega arith)))

some_path : (n : ℕ) → 1 ≤ n → n ≤ 1024 → Stands grown_parents (tree_path n)
some_path n a b =
    ⊎_elim
    (λ (e : tree_path n ≡ []). absurd (not_none (tree_path n) (tree_path_lem n a b).good e))
    (λ (e : Stands grown_parents (tree_path n) × (first_of (tree_path n) ≡ n)). e.0)
    (path_stands n)
  where
    not_none : (p : List ℕ) → Good p → p ≡ [] → ⊥
    not_none [] g e = g
    not_none (x ∷ p) g e = let z : ◌≡◌ {A = ℕ} 0 1 = cc in omega arith

nought_parent : tree_parent 0 ≡ 0
nought_parent =
    ⊎_elim
    (λ (e : tree_path 0 ≡ []). ap second_of e)
    (λ (e : Stands grown_parents (tree_path 0) × (first_of (tree_path 0) ≡ 0)).
    let g = e.0.good in
    let one : 1 ≤ first_of (tree_path 0) = good_positive (tree_path 0) (first_of (tree_path 0)) g (good_first (tree_path 0) g) in
    let f = e.1 in
    absurd (let no : ⊥ = omega arith in no))
    (path_stands 0)

pub grown_size : length grown_parents ≡ 1025
unfolding grown_parents
grown_size = let m = matches 18 (omega arith) in m.held.size

pub grown_nought : get_or grown_parents 0 0 ≡ 0
unfolding grown_parents
grown_nought = let m = matches 18 (omega arith) in m.held.nought

pub grown_root : get_or grown_parents 1 0 ≡ 0
unfolding grown_parents
grown_root = let m = matches 18 (omega arith) in m.held.root

-- the table that is grown has the parents of the tree
pub grown_parents_lem : (c : ℕ) → c ≤ 1024 → get_or grown_parents c 0 ≡ tree_parent c
grown_parents_lem zero h = grown_nought ∙ sym nought_parent
grown_parents_lem (suc c) h =
    let first = (tree_path_lem (suc c) (omega arith) h).first in
    ap (λ (x : ℕ). get_or grown_parents x 0) (sym first) ∙ stands_parent grown_parents (tree_path (suc c)) (some_path (suc c) (omega arith) h)

-- climbing in it from n gives the path of n
pub grown_path : (n : ℕ) → 1 ≤ n → n ≤ 1024 → path_onto 19 grown_parents n [] ≡ turned (tree_path n) []
grown_path n a b =
    let p = tree_path_lem n a b in
    let first = p.first in
    let short = p.short in
    ap (λ (x : ℕ). path_onto 19 grown_parents x []) (sym first) ∙ stands_path 19 grown_parents (tree_path n) [] (some_path n a b) (omega (arith, bound_small n a b))
