-- How the tree grows: what a turn adds, and that every number's successor and double come at most one level further down.
use Rattle.std.proofs.Common.{◌≡◌, ℕ, zero, suc, ◌+◌, ◌-◌, ◌/◌, ◌%◌, ◌^◌, ◌<◌, ◌≤◌, true, false, eqb, leb, ◌⊎◌, List, [], ◌∷◌, length, sym, refl, ap, ◌∙◌, subst, inl, inr, ⊎_elim, arith, pow_mono}
use native.Mathlib.Nat.{div-eq_of_lt}
use Rattle.std.proofs.lemmas.Nat.{mod_below}
use Rattle.std.proofs.lemmas.Bool.{eq-eqb, ne_eqb, le-leb, lt-leb, cases_eq, cases_lt}
use Rattle.power_tree.specs.Tree.{Level, level, hung, hung_all, first_of, turned, grown_by, next_level, first_level}
use Rattle.power_tree.specs.Rule.{level_at, Heads, InTree}
use Rattle.power_tree.proofs.Bits.{In, in_same, in_other}

abbrev pub Among : ℕ → List ℕ → Type 0
Among a [] = ⊥
Among a (x ∷ xs) = (a ≡ x) ⊎ Among a xs

abbrev pub Each : (List ℕ → Type 0) → List (List ℕ) → Type 0
Each P [] = Unit {0}
Each P (p ∷ ps) = P p × Each P ps

-- turning a list round
pub among_turned : (a : ℕ) (xs ys : List ℕ) → Among a (turned xs ys) → Among a xs ⊎ Among a ys
among_turned a [] ys h = inr h
among_turned a (x ∷ xs) ys h = ⊎_elim (λ (l : Among a xs). inl (inr l)) (λ (r : Among a (x ∷ ys)). ⊎_elim (λ (e : a ≡ x). inl (inl e)) (λ (e : Among a ys). inr e) r) (among_turned a xs (x ∷ ys) h)

turned_late : (a : ℕ) (xs ys : List ℕ) → Among a ys → Among a (turned xs ys)
turned_late a [] ys h = h
turned_late a (x ∷ xs) ys h = turned_late a xs (x ∷ ys) (inr h)

turned_among : (a : ℕ) (xs ys : List ℕ) → Among a xs → Among a (turned xs ys)
turned_among a [] ys h = absurd h
turned_among a (x ∷ xs) ys h = ⊎_elim (λ (e : a ≡ x). turned_late a xs (x ∷ ys) (inl e)) (λ (l : Among a xs). turned_among a xs (x ∷ ys) l) h

heads_late : (c : ℕ) (xs ys : List (List ℕ)) → Heads c ys → Heads c (turned xs ys)
heads_late c [] ys h = h
heads_late c (x ∷ xs) ys h = heads_late c xs (x ∷ ys) (inr h)

heads_turned : (c : ℕ) (xs ys : List (List ℕ)) → Heads c xs → Heads c (turned xs ys)
heads_turned c [] ys h = absurd h
heads_turned c (x ∷ xs) ys h = ⊎_elim (λ (e : first_of x ≡ c). heads_late c xs (x ∷ ys) (inl e)) (λ (l : Heads c xs). heads_turned c xs (x ∷ ys) l) h

pub each_turned : (P : List ℕ → Type 0) (xs ys : List (List ℕ)) → Each P xs → Each P ys → Each P (turned xs ys)
each_turned P [] ys h k = k
each_turned P (x ∷ xs) ys h k = each_turned P xs (x ∷ ys) h.1 (h.0, k)

-- what growing keeps: no number is lost, each new one heads a new path, and the new paths have the property P
pub record Onward (P : List ℕ → Type 0) (t s : Level) : Type 0 where
  pub keeps : (c : ℕ) → In t.has c → In s.has c
  pub heads : (c : ℕ) → In s.has c → In t.has c ⊎ Heads c s.paths
  pub kept : (c : ℕ) → Heads c t.paths → Heads c s.paths
  pub each : Each P t.paths → Each P s.paths

onward_none : (P : List ℕ → Type 0) (t : Level) → Onward P t t
onward_none P t = record { keeps = λ c h. h; heads = λ c h. inl h; kept = λ c h. h; each = λ h. h }

onward_then : (P : List ℕ → Type 0) (t s r : Level) → Onward P t s → Onward P s r → Onward P t r
onward_then P t s r f g =
    record {
      keeps = λ c h. g.keeps c (f.keeps c h);
      heads = λ c h. ⊎_elim (λ (k : In s.has c). ⊎_elim (λ (l : In t.has c). inl l) (λ (l : Heads c s.paths). inr (g.kept c l)) (f.heads c k)) (λ (k : Heads c r.paths). inr k) (g.heads c h);
      kept = λ c h. g.kept c (f.kept c h);
      each = λ h. g.each (f.each h);
    }

-- a child, or none
abbrev pub child : ℕ → List ℕ → Level → ℕ → Level
child u path t a = level (t.has + 2 ^ (u + a)) (((u + a) ∷ path) ∷ t.paths)

pub bit_one : (b c : ℕ) → (b / 2 ^ c % 2 ≡ 0 → ⊥) → In b c
bit_one b c h = omega (arith, h, mod_below (b / 2 ^ c) 2 (omega arith))

pub hung_cases : (u : ℕ) (path : List ℕ) (t : Level) (a : ℕ)
    → ((u + a ≤ 1024) × (t.has / 2 ^ (u + a) % 2 ≡ 0) × (hung u path t a ≡ child u path t a)) ⊎ ((u + a ≤ 1024 → In t.has (u + a)) × (hung u path t a ≡ t))
hung_cases u path t a =
    ⊎_elim
    (λ (l : 1024 < u + a). let e : leb (u + a) 1024 ≡ false = lt-leb _ _ l in inr (λ h. absurd (let no : ⊥ = omega arith in no), rw e refl))
    (λ (l : u + a ≤ 1024).
    let e : leb (u + a) 1024 ≡ true = le-leb _ _ l in
    ⊎_elim
    (λ (z : t.has / 2 ^ (u + a) % 2 ≡ 0). let f : eqb (t.has / 2 ^ (u + a) % 2) 0 ≡ true = eq-eqb _ _ z in inl (l, z, rw (e, f) refl))
    (λ (z : t.has / 2 ^ (u + a) % 2 ≡ 0 → ⊥). let f : eqb (t.has / 2 ^ (u + a) % 2) 0 ≡ false = ne_eqb _ _ z in inr (λ _. bit_one t.has (u + a) z, rw (e, f) refl))
    (cases_eq (t.has / 2 ^ (u + a) % 2) 0))
    (cases_lt 1024 (u + a))

child_onward : (P : List ℕ → Type 0) (u : ℕ) (path : List ℕ) (t : Level) (a : ℕ) → t.has / 2 ^ (u + a) % 2 ≡ 0 → P ((u + a) ∷ path) → Onward P t (child u path t a)
child_onward P u path t a z h =
    record {
      keeps = λ c k. ⊎_elim
          (λ (e : c ≡ u + a). absurd (let w : t.has / 2 ^ c % 2 ≡ 0 = ap (λ (x : ℕ). t.has / 2 ^ x % 2) e ∙ z in let no : ⊥ = omega arith in no))
          (λ (e : c ≡ u + a → ⊥). in_other t.has (u + a) c z e ∙ k)
          (cases_eq c (u + a));
      heads = λ c k. ⊎_elim
          (λ (e : c ≡ u + a). inr (inl (sym e)))
          (λ (e : c ≡ u + a → ⊥). inl (sym (in_other t.has (u + a) c z e) ∙ k))
          (cases_eq c (u + a));
      kept = λ c k. inr k;
      each = λ k. (h, k);
    }

hung_onward : (P : List ℕ → Type 0) (u : ℕ) (path : List ℕ) (t : Level) (a : ℕ) → P ((u + a) ∷ path) → Onward P t (hung u path t a)
hung_onward P u path t a h =
    ⊎_elim
    (λ (y : (u + a ≤ 1024) × (t.has / 2 ^ (u + a) % 2 ≡ 0) × (hung u path t a ≡ child u path t a)). subst (Onward P t) (sym y.2) (child_onward P u path t a y.1 h))
    (λ (y : (u + a ≤ 1024 → In t.has (u + a)) × (hung u path t a ≡ t)). subst (Onward P t) (sym y.1) (onward_none P t))
    (hung_cases u path t a)

hung_in : (u : ℕ) (path : List ℕ) (t : Level) (a : ℕ) → u + a ≤ 1024 → In (hung u path t a).has (u + a)
hung_in u path t a h =
    ⊎_elim
    (λ (y : (u + a ≤ 1024) × (t.has / 2 ^ (u + a) % 2 ≡ 0) × (hung u path t a ≡ child u path t a)). subst (λ (s : Level). In s.has (u + a)) (sym y.2) (in_same t.has (u + a) y.1))
    (λ (y : (u + a ≤ 1024 → In t.has (u + a)) × (hung u path t a ≡ t)). subst (λ (s : Level). In s.has (u + a)) (sym y.1) (y.0 h))
    (hung_cases u path t a)

all_onward : (P : List ℕ → Type 0) (u : ℕ) (path : List ℕ) (t : Level) (rest : List ℕ) → ((a : ℕ) → Among a rest → P ((u + a) ∷ path)) → Onward P t (hung_all u path t rest)
all_onward P u path t [] h = onward_none P t
all_onward P u path t (a ∷ rest) h =
    onward_then P t (hung u path t a) (hung_all u path (hung u path t a) rest) (hung_onward P u path t a (h a (inl refl))) (all_onward P u path (hung u path t a) rest (λ b k. h b (inr k)))

abbrev Any : List ℕ → Type 0
Any _ = Unit {0}

all_in : (u : ℕ) (path : List ℕ) (t : Level) (rest : List ℕ) (a : ℕ) → Among a rest → u + a ≤ 1024 → In (hung_all u path t rest).has (u + a)
all_in u path t [] a h l = absurd h
all_in u path t (b ∷ rest) a h l =
    ⊎_elim
    (λ (e : a ≡ b).
    let k = subst (λ (x : ℕ). In (hung u path t x).has (u + a)) e (hung_in u path t a l) in
    (all_onward Any u path (hung u path t b) rest (λ _ _. tt)).keeps (u + a) k)
    (λ (k : Among a rest). all_in u path (hung u path t b) rest a k l)
    h

-- a whole level
by_onward : (P : List ℕ → Type 0) (t : Level) (ps : List (List ℕ)) → Each (λ p. (a : ℕ) → Among a p → P ((first_of p + a) ∷ p)) ps → Onward P t (grown_by t ps)
by_onward P t [] h = onward_none P t
by_onward P t (p ∷ ps) h =
    onward_then P t (hung_all (first_of p) p t (turned p [])) (grown_by (hung_all (first_of p) p t (turned p [])) ps)
    (all_onward P (first_of p) p t (turned p []) (λ a k. ⊎_elim (λ (l : Among a p). h.0 a l) (λ (l : Among a []). absurd l) (among_turned a p [] k)))
    (by_onward P (hung_all (first_of p) p t (turned p [])) ps h.1)

each_any : (ps : List (List ℕ)) → Each (λ p. (a : ℕ) → Among a p → Any ((first_of p + a) ∷ p)) ps
each_any [] = tt
each_any (p ∷ ps) = (λ _ _. tt, each_any ps)

by_in : (f : ℕ → ℕ) (t : Level) (ps : List (List ℕ)) (u : ℕ) → Each (λ p. Among (f (first_of p)) p) ps → Heads u ps → u + f u ≤ 1024 → In (grown_by t ps).has (u + f u)
by_in f t [] u h k l = absurd k
by_in f t (p ∷ ps) u h k l =
    ⊎_elim
    (λ (e : first_of p ≡ u).
    let w : In (hung_all (first_of p) p t (turned p [])).has (first_of p + f (first_of p)) =
    all_in (first_of p) p t (turned p []) (f (first_of p)) (turned_among (f (first_of p)) p [] h.0) (subst (λ (x : ℕ). x + f x ≤ 1024) (sym e) l) in
    (by_onward Any (hung_all (first_of p) p t (turned p [])) ps (each_any ps)).keeps (u + f u)
    (subst (λ (x : ℕ). In (hung_all (first_of p) p t (turned p [])).has (x + f x)) e w))
    (λ (r : Heads u ps). by_in f (hung_all (first_of p) p t (turned p [])) ps u h.1 r l)
    k

-- a path of the tree down to 1: each number is the one before it and a number of its path
pub record Made (x u : ℕ) (path : List ℕ) : Type 0 where
  pub by : ℕ
  pub among : Among by path
  pub positive : 1 ≤ by
  pub sum : x ≡ u + by

abbrev pub Good : List ℕ → Type 0
Good [] = ⊥
Good (x ∷ []) = x ≡ 1
Good (x ∷ u ∷ rest) = Made x u (u ∷ rest) × Good (u ∷ rest)

good_one : (p : List ℕ) → Good p → Among 1 p
good_one [] g = absurd g
good_one (x ∷ []) g = inl (sym g)
good_one (x ∷ u ∷ rest) g = inr (good_one (u ∷ rest) g.1)

pub good_first : (p : List ℕ) → Good p → Among (first_of p) p
good_first [] g = absurd g
good_first (x ∷ rest) g = inl refl

pub good_positive : (p : List ℕ) (a : ℕ) → Good p → Among a p → 1 ≤ a
good_positive [] a g h = absurd g
good_positive (x ∷ []) a g h = ⊎_elim (λ (e : a ≡ x). omega arith) (λ (e : Among a []). absurd e) h
good_positive (x ∷ u ∷ rest) a g h =
    ⊎_elim (λ (e : a ≡ x). omega (arith, g.0.positive, g.0.sum)) (λ (k : Among a (u ∷ rest)). good_positive (u ∷ rest) a g.1 k) h

pub good_child : (p : List ℕ) (a : ℕ) → Good p → Among a p → Good ((first_of p + a) ∷ p)
good_child [] a g h = absurd g
good_child (u ∷ rest) a g h = (record { by = a; among = h; positive = good_positive (u ∷ rest) a g h; sum = refl }, g)

-- a path of level i
pub record Reached (i : ℕ) (p : List ℕ) : Type 0 where
  pub good : Good p
  pub count : length p ≡ i + 1

pub each_map : (P Q : List ℕ → Type 0) → ((p : List ℕ) → P p → Q p) → (ps : List (List ℕ)) → Each P ps → Each Q ps
each_map P Q f [] h = tt
each_map P Q f (p ∷ ps) h = (f p h.0, each_map P Q f ps h.1)

next_onward : (i : ℕ) (s : Level) → Each (Reached i) s.paths → Onward (Reached (i + 1)) (level s.has []) (next_level s)
unfolding next_level
next_onward i s h =
    let t : Level = grown_by (level s.has []) s.paths in
    let o = by_onward (Reached (i + 1)) (level s.has []) s.paths
    (each_map (Reached i) (λ p. (a : ℕ) → Among a p → Reached (i + 1) ((first_of p + a) ∷ p)) (λ p r a k. record { good = good_child p a r.good k; count = omega (arith, r.count) }) s.paths h) in
    record {
      keeps = o.keeps;
      heads = λ c k. ⊎_elim (λ (l : In s.has c). inl l) (λ (l : Heads c t.paths). inr (heads_turned c t.paths [] l)) (o.heads c k);
      kept = λ c k. absurd k;
      each = λ k. each_turned (Reached (i + 1)) t.paths [] (o.each tt) tt;
    }

next_in : (f : ℕ → ℕ) (s : Level) (u : ℕ) → Each (λ p. Among (f (first_of p)) p) s.paths → Heads u s.paths → u + f u ≤ 1024 → In (next_level s).has (u + f u)
unfolding next_level
next_in f s u h k l = by_in f (level s.has []) s.paths u h k l

pub each_level : (i : ℕ) → Each (Reached i) (level_at i).paths
unfolding level_at
each_level zero = (record { good = refl; count = refl }, tt)
each_level (suc i) =
    let e : i + 1 ≡ suc i = omega arith in
    subst (λ (x : ℕ). Each (Reached x) (next_level (level_at i)).paths) e ((next_onward i (level_at i) (each_level i)).each tt)

level_keeps : (i c : ℕ) → In (level_at i).has c → In (level_at (suc i)).has c
unfolding level_at
level_keeps i c h = (next_onward i (level_at i) (each_level i)).keeps c h

pub level_later : (i k c : ℕ) → In (level_at i).has c → In (level_at (k + i)).has c
level_later i zero c h = let e : i ≡ 0 + i = omega arith in subst (λ (x : ℕ). In (level_at x).has c) e h
level_later i (suc k) c h = let e : suc (k + i) ≡ suc k + i = omega arith in subst (λ (x : ℕ). In (level_at x).has c) e (level_keeps (k + i) c (level_later i k c h))

pub only_one : (c : ℕ) → In 2 c → 1 ≡ c
only_one zero h = absurd (let no : ⊥ = omega arith in no)
only_one (suc zero) h = refl
only_one (suc (suc k)) h =
    let p : 2 ^ 2 ≤ 2 ^ suc (suc k) = pow_mono (let l : 2 ≤ suc (suc k) = omega arith in l) in
    let z : 2 / 2 ^ suc (suc k) ≡ 0 = div-eq_of_lt (let l : 2 < 2 ^ suc (suc k) = omega arith in l) in
    let y : 2 / 2 ^ suc (suc k) % 2 ≡ 0 = ap (λ (x : ℕ). x % 2) z in
    absurd (let no : ⊥ = omega arith in no)

-- where a number of the tree was put
pub placed : (i c : ℕ) → In (level_at i).has c → InTree i c
unfolding level_at
placed zero c h = record { at = 0; before = omega arith; heads = inl (only_one c h) }
placed (suc i) c h =
    ⊎_elim
    (λ (k : In (level_at i).has c). let r = placed i c k in record { at = r.at; before = omega (arith, r.before); heads = r.heads })
    (λ (k : Heads c (next_level (level_at i)).paths). record { at = suc i; before = omega arith; heads = k })
    ((next_onward i (level_at i) (each_level i)).heads c h)

-- the rule's consequence: u + 1 and 2·u are at most one level further down than u
further : (f : ℕ → ℕ) → ((p : List ℕ) → Good p → Among (f (first_of p)) p) → (i u : ℕ) → In (level_at i).has u → u + f u ≤ 1024 → In (level_at (i + 1)).has (u + f u)
unfolding level_at
further f m i u h l =
    let r = placed i u h in
    let w : In (level_at (suc r.at)).has (u + f u) = next_in f (level_at r.at) u (each_map (Reached r.at) (λ p. Among (f (first_of p)) p) (λ p q. m p q.good) (level_at r.at).paths (each_level r.at)) r.heads l in
    let b = r.before in
    let e : i - r.at + suc r.at ≡ i + 1 = omega arith in
    subst (λ (x : ℕ). In (level_at x).has (u + f u)) e (level_later (suc r.at) (i - r.at) (u + f u) w)

pub next_further : (i u : ℕ) → In (level_at i).has u → u + 1 ≤ 1024 → In (level_at (i + 1)).has (u + 1)
next_further i u h l = further (λ _. 1) good_one i u h l

pub double_further : (i u : ℕ) → In (level_at i).has u → u + u ≤ 1024 → In (level_at (i + 1)).has (u + u)
double_further i u h l = further (λ x. x) good_first i u h l

pub level_next : (i : ℕ) → level_at (suc i) ≡ next_level (level_at i)
unfolding level_at
level_next i = refl

pub level_first : level_at 0 ≡ first_level
unfolding level_at
level_first = refl

pub first_in : In (level_at 0).has 1
unfolding level_at
first_in = refl
