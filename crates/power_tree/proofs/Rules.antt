-- The levels are as the rule of the tree says: each has, in their order, those of the sums that the one before it offers that are not yet in the tree.
use Rattle.std.proofs.Common.{◌≡◌, ℕ, zero, suc, ◌+◌, ◌/◌, ◌%◌, ◌^◌, ◌<◌, ◌≤◌, ◌⊎◌, ◌↔◌, List, [], ◌∷◌, ◌++◌, sym, refl, ap, ◌∙◌, subst, inl, inr, ⊎_elim, append_assoc, arith}
use Rattle.std.proofs.lemmas.Bool.{cases_eq, cases_order}
use Rattle.power_tree.specs.Tree.{Level, level, hung, hung_all, first_of, turned, grown_by, next_level, path_in, or_else, path_from, tree_path}
use Rattle.power_tree.specs.Rule.{level_at, Lies, Heads, InTree, New, sums, offers, Grows, Apart, Standing, TreeRule}
use Rattle.power_tree.proofs.Bits.{In, in_same, in_other}
use Rattle.power_tree.proofs.Levels.{Each, Reached, child, hung_cases, each_level, level_next, level_first, placed}
use Rattle.power_tree.proofs.Plans.{in_level, or_else_lem, tree_path_lem}

-- one path more at the end
turned_onto : (ps qs : List (List ℕ)) → turned ps qs ≡ turned ps [] ++ qs
turned_onto [] qs = refl
turned_onto (p ∷ ps) qs =
    turned_onto ps (p ∷ qs) ∙ sym (append_assoc (turned ps []) (p ∷ []) qs) ∙ ap (λ (x : List (List ℕ)). x ++ qs) (sym (turned_onto ps (p ∷ [])))

heads_front : (c : ℕ) (ps qs : List (List ℕ)) → Heads c ps → Heads c (ps ++ qs)
heads_front c [] qs h = absurd h
heads_front c (p ∷ ps) qs h = ⊎_elim (λ (e : first_of p ≡ c). inl e) (λ (k : Heads c ps). inr (heads_front c ps qs k)) h

heads_last : (c : ℕ) (ps : List (List ℕ)) (q : List ℕ) → first_of q ≡ c → Heads c (ps ++ q ∷ [])
heads_last c [] q e = inl e
heads_last c (p ∷ ps) q e = inr (heads_last c ps q e)

heads_push : (c : ℕ) (ps : List (List ℕ)) (q : List ℕ) → Heads c (ps ++ q ∷ []) → Heads c ps ⊎ (first_of q ≡ c)
heads_push c [] q h = ⊎_elim (λ (e : first_of q ≡ c). inr e) (λ (k : Heads c []). absurd k) h
heads_push c (p ∷ ps) q h =
    ⊎_elim
    (λ (e : first_of p ≡ c). inl (inl e))
    (λ (k : Heads c (ps ++ q ∷ [])). ⊎_elim (λ (l : Heads c ps). inl (inr l)) (λ (l : first_of q ≡ c). inr l) (heads_push c ps q k))
    h

-- the bits of `has` are the numbers of the levels 0 to i and of what is made of the next one
pub record Marks (i has : ℕ) (made : List (List ℕ)) : Type 0 where
  pub seen : (c : ℕ) → In has c → InTree i c ⊎ Heads c made
  pub tree : (c : ℕ) → InTree i c → In has c
  pub heads : (c : ℕ) → Heads c made → In has c

marks_more : (i has c : ℕ) (made : List (List ℕ)) (p : List ℕ) → has / 2 ^ c % 2 ≡ 0 → Marks i has made → Marks i (has + 2 ^ c) (made ++ (c ∷ p) ∷ [])
marks_more i has c made p z m =
    let kept : (d : ℕ) → In has d → In (has + 2 ^ c) d =
    λ d h.
    ⊎_elim
    (λ (e : d ≡ c). absurd (let w : has / 2 ^ d % 2 ≡ 0 = ap (λ (x : ℕ). has / 2 ^ x % 2) e ∙ z in let no : ⊥ = omega arith in no))
    (λ (e : d ≡ c → ⊥). in_other has c d z e ∙ h)
    (cases_eq d c) in
    record {
      seen = λ d h.
          ⊎_elim
          (λ (e : d ≡ c). inr (heads_last d made (c ∷ p) (sym e)))
          (λ (e : d ≡ c → ⊥).
          ⊎_elim (λ (k : InTree i d). inl k) (λ (k : Heads d made). inr (heads_front d made ((c ∷ p) ∷ []) k)) (m.seen d (sym (in_other has c d z e) ∙ h)))
          (cases_eq d c);
      tree = λ d h. kept d (m.tree d h);
      heads = λ d h. ⊎_elim (λ (k : Heads d made). kept d (m.heads d k)) (λ (e : c ≡ d). subst (In (has + 2 ^ c)) e (in_same has c z)) (heads_push d made (c ∷ p) h);
    }

-- from t on to s, which took from what is offered what is new
pub record Ahead (i : ℕ) (offered : List (List ℕ)) (t s : Level) : Type 0 where
  pub marks : Marks i s.has (turned s.paths [])
  pub grows : (more next : List (List ℕ)) → Grows i (turned s.paths []) more next → Grows i (turned t.paths []) (offered ++ more) next

hung_ahead : (i : ℕ) (p : List ℕ) (t : Level) (a : ℕ) → Marks i t.has (turned t.paths []) → Ahead i (((first_of p + a) ∷ p) ∷ []) t (hung (first_of p) p t a)
hung_ahead i p t a m =
    let u : ℕ = first_of p in
    let c : ℕ = u + a in
    let made : List (List ℕ) = turned t.paths [] in
    let last : turned t.paths ((c ∷ p) ∷ []) ≡ made ++ (c ∷ p) ∷ [] = turned_onto t.paths ((c ∷ p) ∷ []) in
    ⊎_elim
    (λ (y : (c ≤ 1024) × (t.has / 2 ^ c % 2 ≡ 0) × (hung u p t a ≡ child u p t a)).
    let zero_bit : In t.has c → ⊥ = λ h. let z = y.1 in omega arith in
    let new : New i made c = record { within = y.0; above = λ h. zero_bit (m.tree c h); beside = λ h. zero_bit (m.heads c h) } in
    subst (Ahead i ((c ∷ p) ∷ []) t) (sym y.2)
    (record {
      marks = subst (Marks i (t.has + 2 ^ c)) (sym last) (marks_more i t.has c made p y.1 m);
      grows = λ more next g. inl (new, subst (λ (x : List (List ℕ)). Grows i x more next) last g);
    }))
    (λ (y : (c ≤ 1024 → In t.has c) × (hung u p t a ≡ t)).
    let old : New i made c → ⊥ = λ n. ⊎_elim (λ (h : InTree i c). n.above h) (λ (h : Heads c made). n.beside h) (m.seen c (y.0 n.within)) in
    subst (Ahead i ((c ∷ p) ∷ []) t) (sym y.1) (record { marks = m; grows = λ more next g. inr (old, g) }))
    (hung_cases u p t a)

all_ahead : (i : ℕ) (p : List ℕ) (t : Level) (rest : List ℕ) → Marks i t.has (turned t.paths []) → Ahead i (sums p rest) t (hung_all (first_of p) p t rest)
all_ahead i p t [] m = record { marks = m; grows = λ more next g. g }
all_ahead i p t (a ∷ rest) m =
    let one = hung_ahead i p t a m in
    let others = all_ahead i p (hung (first_of p) p t a) rest one.marks in
    record { marks = others.marks; grows = λ more next g. one.grows (sums p rest ++ more) next (others.grows more next g) }

-- a whole level
pub record LevelMade (i : ℕ) (ps : List (List ℕ)) (t s : Level) : Type 0 where
  pub marks : Marks i s.has (turned s.paths [])
  pub grows : Grows i (turned t.paths []) (offers ps) (turned s.paths [])

by_made : (i : ℕ) (t : Level) (ps : List (List ℕ)) → Marks i t.has (turned t.paths []) → LevelMade i ps t (grown_by t ps)
by_made i t [] m = record { marks = m; grows = refl }
by_made i t (p ∷ ps) m =
    let one = all_ahead i p t (turned p []) m in
    let others = by_made i (hung_all (first_of p) p t (turned p [])) ps one.marks in
    record { marks = others.marks; grows = one.grows (offers ps) (turned (grown_by (hung_all (first_of p) p t (turned p [])) ps).paths []) others.grows }

-- what holds after level i
pub record After (i : ℕ) : Type 0 where
  pub marks : Marks i (level_at (suc i)).has (level_at (suc i)).paths
  pub grows : Grows i [] (offers (level_at i).paths) (level_at (suc i)).paths

next_made : (i : ℕ) → Marks i (level_at i).has [] → After i
unfolding level_at next_level
next_made i m = let r = by_made i (level (level_at i).has []) (level_at i).paths m in record { marks = r.marks; grows = r.grows }

later : (i c : ℕ) → InTree i c → InTree (suc i) c
later i c h = record { at = h.at; before = omega (arith, h.before); heads = h.heads }

heads_marked : (i c : ℕ) → Heads c (level_at i).paths → InTree i c
heads_marked i c h = record { at = i; before = omega arith; heads = h }

last_or_before : (i c : ℕ) → InTree (suc i) c → InTree i c ⊎ Heads c (level_at (suc i)).paths
last_or_before i c h =
    let b = h.before in
    ⊎_elim
    (λ (e : h.at ≡ suc i). inr (subst (λ (x : ℕ). Heads c (level_at x).paths) e h.heads))
    (λ (e : h.at ≡ suc i → ⊥). inl (record { at = h.at; before = omega (arith, e); heads = h.heads }))
    (cases_eq h.at (suc i))

first_heads : (c : ℕ) → Heads c (level_at 0).paths → In (level_at 0).has c
unfolding level_at
first_heads c h = ⊎_elim (λ (e : ◌≡◌ {A = ℕ} 1 c). subst (In 2) e refl) (λ (k : Heads c []). absurd k) h

first_tree : (c : ℕ) → InTree 0 c → In (level_at 0).has c
first_tree c h = let e : h.at ≡ 0 = omega (arith, h.before) in first_heads c (subst (λ (x : ℕ). Heads c (level_at x).paths) e h.heads)

level_marks : (i : ℕ) → Marks i (level_at i).has []
level_marks zero =
    record { seen = λ c h. inl (placed 0 c h); tree = first_tree; heads = λ c h. absurd h }
level_marks (suc i) =
    let m = (next_made i (level_marks i)).marks in
    record {
      seen = λ c h. inl (⊎_elim (λ (k : InTree i c). later i c k) (λ (k : Heads c (level_at (suc i)).paths). heads_marked (suc i) c k) (m.seen c h));
      tree = λ c h. ⊎_elim (λ (k : InTree i c). m.tree c k) (λ (k : Heads c (level_at (suc i)).paths). m.heads c k) (last_or_before i c h);
      heads = λ c h. absurd h;
    }

level_grows : (i : ℕ) → Grows i [] (offers (level_at i).paths) (level_at (suc i)).paths
level_grows i = (next_made i (level_marks i)).grows

-- and it grows in one way only
grows_one : (i : ℕ) (made offered ps qs : List (List ℕ)) → Grows i made offered ps → Grows i made offered qs → ps ≡ qs
grows_one i made [] ps qs g h = g ∙ sym h
grows_one i made (q ∷ offered) ps qs g h =
    let N : Type 0 = New i made (first_of q) in
    ⊎_elim
    (λ (x : N × Grows i (made ++ q ∷ []) offered ps).
    ⊎_elim
    (λ (y : N × Grows i (made ++ q ∷ []) offered qs). grows_one i (made ++ q ∷ []) offered ps qs x.1 y.1)
    (λ (y : (N → ⊥) × Grows i made offered qs). absurd (y.0 x.0))
    h)
    (λ (x : (N → ⊥) × Grows i made offered ps).
    ⊎_elim
    (λ (y : N × Grows i (made ++ q ∷ []) offered qs). absurd (x.0 y.0))
    (λ (y : (N → ⊥) × Grows i made offered qs). grows_one i made offered ps qs x.1 y.1)
    h)
    g

pub level_exactly : (i : ℕ) (ps : List (List ℕ)) → (ps ≡ (level_at (suc i)).paths) ↔ Grows i [] (offers (level_at i).paths) ps
level_exactly i ps =
    let offered : List (List ℕ) = offers (level_at i).paths in
    (λ e. subst (Grows i [] offered) (sym e) (level_grows i), λ g. grows_one i [] offered ps (level_at (suc i)).paths g (level_grows i))

-- what comes is new
grows_new : (i : ℕ) (made offered next : List (List ℕ)) → Grows i made offered next → ((c : ℕ) → Heads c made → InTree i c → ⊥) → (c : ℕ) → Heads c next → InTree i c → ⊥
grows_new i made [] next g h = λ c k. h c (subst (Heads c) g k)
grows_new i made (q ∷ offered) next g h =
    ⊎_elim
    (λ (r : New i made (first_of q) × Grows i (made ++ q ∷ []) offered next).
    grows_new i (made ++ q ∷ []) offered next r.1
    (λ d l t. ⊎_elim (λ (x : Heads d made). h d x t) (λ (e : first_of q ≡ d). r.0.above (subst (InTree i) (sym e) t)) (heads_push d made q l)))
    (λ (r : (New i made (first_of q) → ⊥) × Grows i made offered next). grows_new i made offered next r.1 h)
    g

-- no two paths of a level have the same first number
apart_push : (ps : List (List ℕ)) (q : List ℕ) → Apart ps → (Heads (first_of q) ps → ⊥) → Apart (ps ++ q ∷ [])
apart_push [] q a n = (λ h. h, tt)
apart_push (p ∷ ps) q a n =
    (λ h. ⊎_elim (λ (k : Heads (first_of p) ps). a.0 k) (λ (e : first_of q ≡ first_of p). n (inl (sym e))) (heads_push (first_of p) ps q h), apart_push ps q a.1 (λ h. n (inr h)))

grows_apart : (i : ℕ) (made offered next : List (List ℕ)) → Grows i made offered next → Apart made → Apart next
grows_apart i made [] next g a = subst Apart (sym g) a
grows_apart i made (q ∷ offered) next g a =
    ⊎_elim
    (λ (r : New i made (first_of q) × Grows i (made ++ q ∷ []) offered next). grows_apart i (made ++ q ∷ []) offered next r.1 (apart_push made q a r.0.beside))
    (λ (r : (New i made (first_of q) → ⊥) × Grows i made offered next). grows_apart i made offered next r.1 a)
    g

level_apart : (i : ℕ) → Apart (level_at i).paths
level_apart zero = subst (λ (x : Level). Apart x.paths) (sym level_first) (λ h. h, tt)
level_apart (suc i) = grows_apart i [] (offers (level_at i).paths) (level_at (suc i)).paths (level_grows i) tt

levels_apart : (i j c : ℕ) → i < j → Heads c (level_at i).paths → Heads c (level_at j).paths → ⊥
levels_apart i zero c l h k = omega arith
levels_apart i (suc j) c l h k =
    grows_new j [] (offers (level_at j).paths) (level_at (suc j)).paths (level_grows j) (λ d x t. x) c k (record { at = i; before = omega arith; heads = h })

same_level : (i j c : ℕ) → Heads c (level_at i).paths → Heads c (level_at j).paths → i ≡ j
same_level i j c h k =
    ⊎_elim
    (λ (e : i ≡ j). e)
    (λ o. ⊎_elim (λ (l : i < j). absurd (levels_apart i j c l h k)) (λ (l : j < i). absurd (levels_apart j i c l k h)) o)
    (cases_order i j)

lies_heads : (p : List ℕ) (ps : List (List ℕ)) → Lies p ps → Heads (first_of p) ps
lies_heads p [] h = absurd h
lies_heads p (q ∷ qs) h = ⊎_elim (λ (e : p ≡ q). inl (ap first_of (sym e))) (λ (k : Lies p qs). inr (lies_heads p qs k)) h

same_path : (ps : List (List ℕ)) (p q : List ℕ) → Apart ps → Lies p ps → Lies q ps → first_of p ≡ first_of q → p ≡ q
same_path [] p q a h k e = absurd h
same_path (r ∷ ps) p q a h k e =
    ⊎_elim
    (λ (x : p ≡ r).
    ⊎_elim
    (λ (y : q ≡ r). x ∙ sym y)
    (λ (y : Lies q ps). absurd (a.0 (subst (λ (n : ℕ). Heads n ps) (sym e ∙ ap first_of x) (lies_heads q ps y))))
    k)
    (λ (x : Lies p ps).
    ⊎_elim
    (λ (y : q ≡ r). absurd (a.0 (subst (λ (n : ℕ). Heads n ps) (e ∙ ap first_of y) (lies_heads p ps x))))
    (λ (y : Lies q ps). same_path ps p q a.1 x y e)
    k)
    h

pub level_once : (i j : ℕ) (p q : List ℕ) → Lies p (level_at i).paths → Lies q (level_at j).paths → first_of p ≡ first_of q → (i ≡ j) × (p ≡ q)
level_once i j p q h k e =
    let s : i ≡ j = same_level i j (first_of q) (subst (λ (n : ℕ). Heads n (level_at i).paths) e (lies_heads p (level_at i).paths h)) (lies_heads q (level_at j).paths k) in
    (s, same_path (level_at j).paths p q (level_apart j) (subst (λ (x : ℕ). Lies p (level_at x).paths) s h) k e)

-- the path that is found is one of the levels'
each_lies : (ps all : List (List ℕ)) → ((p : List ℕ) → Lies p ps → Lies p all) → Each (λ p. Lies p all) ps
each_lies [] all f = tt
each_lies (p ∷ ps) all f = (f p (inl refl), each_lies ps all (λ q h. f q (inr h)))

each_at : (P : List ℕ → Type 0) (ps : List (List ℕ)) (p : List ℕ) → Each P ps → Lies p ps → P p
each_at P [] p e h = absurd h
each_at P (q ∷ ps) p e h = ⊎_elim (λ (k : p ≡ q). subst P (sym k) e.0) (λ (k : Lies p ps). each_at P ps p e.1 k) h

record Found (n to : ℕ) (p : List ℕ) : Type 0 where
  pub at : ℕ
  pub before : at < to
  pub lies : Lies p (level_at at).paths
  pub first : first_of p ≡ n

found : (n left i : ℕ) → (path_from left n (level_at i) ≡ []) ⊎ Found n (i + left) (path_from left n (level_at i))
unfolding path_from
found n zero i = inl refl
found n (suc left) i =
    let ps : List (List ℕ) = (level_at i).paths in
    let p : List ℕ = path_in n ps in
    let q : List ℕ = path_from left n (next_level (level_at i)) in
    let F : List ℕ → Type 0 = λ x. (x ≡ []) ⊎ Found n (i + suc left) x in
    ⊎_elim
    (λ (r : (p ≡ []) × (Heads n ps → ⊥)).
    let e : suc i + left ≡ i + suc left = omega arith in
    subst F (ap (path_from left n) (level_next i) ∙ sym (ap (λ (x : List ℕ). or_else x q) r.0))
    (subst (λ (m : ℕ). (path_from left n (level_at (suc i)) ≡ []) ⊎ Found n m (path_from left n (level_at (suc i)))) e (found n left (suc i))))
    (λ (r : Lies p ps × (first_of p ≡ n)).
    subst F (sym (or_else_lem p q (each_at (Reached i) ps p (each_level i) r.0).good)) (inr (record { at = i; before = omega arith; lies = r.0; first = r.1 })))
    (in_level (λ x. Lies x ps) n ps (each_lies ps ps (λ x h. h)))

tree_found : (n : ℕ) → (tree_path n ≡ []) ⊎ Found n 19 (tree_path n)
unfolding tree_path
tree_found n = subst (λ (x : Level). (path_from 19 n x ≡ []) ⊎ Found n 19 (path_from 19 n x)) level_first (found n 19 0)

pub path_stands : (c : ℕ) → 1 ≤ c → c ≤ 1024 → Standing c
path_stands c a b =
    ⊎_elim
    (λ (e : tree_path c ≡ []). let f : first_of (tree_path c) ≡ 0 = ap first_of e in absurd (let no : ⊥ = omega (arith, (tree_path_lem c a b).first) in no))
    (λ (r : Found c 19 (tree_path c)). record { at = r.at; within = omega (arith, r.before); lies = r.lies; first = r.first })
    (tree_found c)

pub tree_rule : TreeRule
tree_rule =
    record {
      root = ap (λ (x : Level). x.paths) level_first;
      next = level_exactly;
      bits = λ i c. (placed i c, (level_marks i).tree c);
      apart = level_apart;
      once = level_once;
      whole = path_stands;
    }
