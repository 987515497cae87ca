-- The plan of the tree method: that it is a chain, and no longer than that of the left to right method.
use Rattle.std.proofs.Common.{◌≡◌, ℕ, zero, suc, ◌+◌, ◌-◌, ◌/◌, ◌^◌, ◌<◌, ◌≤◌, true, false, eqb, ◌⊎◌, List, [], ◌∷◌, length, sym, refl, ap, ◌∙◌, subst, inl, inr, ⊎_elim, div-one, arith}
use lib.Count.{ones, ones_step, ones-ones, ones-le}
use lib.Pow.{shr_le}
use Rattle.std.proofs.lemmas.Nat.{mod_below}
use Rattle.std.proofs.lemmas.List.{length_push}
use Rattle.std.proofs.lemmas.Bool.{eq-eqb, ne_eqb, cases_eq}
use Rattle.plans.specs.Chain.{value_at, Chain}
use Rattle.bits.specs.Bits.{top, bit_at}
use Rattle.planning.specs.Planning.{step}
use Rattle.power_tree.specs.Tree.{Level, first_of, next_level, first_level, path_in, or_else, path_from, tree_path, summand_in, steps_of, tree_plan}
use Rattle.power_tree.specs.Rule.{level_at, Heads}
use Rattle.bits.proofs.Tops.{top_is}
use Rattle.planning.proofs.Powers.{halves, top_mono, top_one}
use Rattle.planning.proofs.Pushing.{Grown, grown_none, push, chain_from_ends}
use Rattle.power_tree.proofs.Bits.{In}
use Rattle.power_tree.proofs.Levels.{Among, Each, Good, Reached, level_next, level_first, first_in, each_level, placed, next_further, double_further}

-- a path's steps: they are a chain under way, which has each number of the path
pub record Climbed (n : ℕ) (p : List ℕ) : Type 0 where
  pub grown : Grown n (steps_of p) (length p - 1)
  pub last : value_at (steps_of p) (length p - 1) ≡ first_of p
  pub place : (u x a : ℕ) → u + a ≡ x → Among a p → summand_in u x p ≤ length p - 1
  pub value : (u x a : ℕ) → u + a ≡ x → Among a p → value_at (steps_of p) (summand_in u x p) ≡ a

summand_here : (u x a : ℕ) (rest : List ℕ) → u + a ≡ x → summand_in u x (a ∷ rest) ≡ length rest
summand_here u x a rest e = let t : eqb (u + a) x ≡ true = eq-eqb _ _ e in rw t refl

summand_there : (u x a : ℕ) (rest : List ℕ) → (u + a ≡ x → ⊥) → summand_in u x (a ∷ rest) ≡ summand_in u x rest
summand_there u x a rest e = let t : eqb (u + a) x ≡ false = ne_eqb _ _ e in rw t refl

still_among : (u x a y : ℕ) (ys : List ℕ) → u + a ≡ x → Among a (y ∷ ys) → (u + y ≡ x → ⊥) → Among a ys
still_among u x a y ys s h e = ⊎_elim (λ (k : a ≡ y). absurd (e (omega arith))) (λ (k : Among a ys). k) h

pub climbed : (n : ℕ) (p : List ℕ) → Good p → first_of p ≤ n → Climbed n p
climbed n [] g h = absurd g
climbed n (y ∷ []) g h =
    record {
      grown = grown_none n;
      last = sym g;
      place = λ u x a s k. ⊎_elim (λ (e : a ≡ y). omega (arith, summand_here u x y [] (omega arith))) (λ (e : Among a []). absurd e) k;
      value = λ u x a s k. ⊎_elim (λ (e : a ≡ y). ap (value_at []) (summand_here u x y [] (omega arith)) ∙ sym (e ∙ g)) (λ (e : Among a []). absurd e) k;
    }
climbed n (y ∷ v ∷ rest) g h =
    let m = g.0 in
    let positive = m.positive in
    let sum = m.sum in
    let c = climbed n (v ∷ rest) g.1 (omega arith) in
    let at : ℕ = length rest in
    let e : length (v ∷ rest) - 1 ≡ at = omega arith in
    let k : ℕ = summand_in v y (v ∷ rest) in
    let kp : k ≤ at = omega (arith, c.place v y m.by (sym sum) m.among) in
    let kv : value_at (steps_of (v ∷ rest)) k ≡ m.by = c.value v y m.by (sym sum) m.among in
    let lv : value_at (steps_of (v ∷ rest)) at ≡ v = ap (value_at (steps_of (v ∷ rest))) (sym e) ∙ c.last in
    let gr : Grown n (steps_of (v ∷ rest)) at = subst (Grown n (steps_of (v ∷ rest))) e c.grown in
    let q = push n (steps_of (v ∷ rest)) at at k y gr kp (omega arith) (omega arith) (omega arith) h in
    let e2 : at + 1 ≡ length (y ∷ v ∷ rest) - 1 = omega arith in
    let up : value_at (steps_of (y ∷ v ∷ rest)) (length (y ∷ v ∷ rest) - 1) ≡ y = ap (value_at (steps_of (y ∷ v ∷ rest))) (sym e2) ∙ q.here in
    record {
      grown = subst (Grown n (steps_of (y ∷ v ∷ rest))) e2 q.grown;
      last = up;
      place = λ u x a s i.
          ⊎_elim
          (λ (w : u + y ≡ x). omega (arith, summand_here u x y (v ∷ rest) w))
          (λ (w : u + y ≡ x → ⊥). omega (arith, summand_there u x y (v ∷ rest) w, c.place u x a s (still_among u x a y (v ∷ rest) s i w)))
          (cases_eq (u + y) x);
      value = λ u x a s i.
          ⊎_elim
          (λ (w : u + y ≡ x).
          let z : summand_in u x (y ∷ v ∷ rest) ≡ length (y ∷ v ∷ rest) - 1 = omega (arith, summand_here u x y (v ∷ rest) w) in
          ap (value_at (steps_of (y ∷ v ∷ rest))) z ∙ up ∙ omega arith)
          (λ (w : u + y ≡ x → ⊥).
          let z = still_among u x a y (v ∷ rest) s i w in
          ap (value_at (steps_of (y ∷ v ∷ rest))) (summand_there u x y (v ∷ rest) w)
          ∙ q.kept (summand_in u x (v ∷ rest)) (omega (arith, c.place u x a s z))
          ∙ c.value u x a s z)
          (cases_eq (u + y) x);
    }

pub steps_length : (p : List ℕ) → length (steps_of p) ≡ length p - 1
steps_length [] = refl
steps_length (x ∷ []) = refl
steps_length (x ∷ u ∷ rest) = omega (arith, length_push (steps_of (u ∷ rest)) (step (length rest) (summand_in u x (u ∷ rest)) x), steps_length (u ∷ rest))

-- the search for a number's path
pub in_level : (P : List ℕ → Type 0) (n : ℕ) (ps : List (List ℕ)) → Each P ps → ((path_in n ps ≡ []) × (Heads n ps → ⊥)) ⊎ (P (path_in n ps) × (first_of (path_in n ps) ≡ n))
in_level P n [] h = inl (refl, λ k. k)
in_level P n (p ∷ ps) h =
    ⊎_elim
    (λ (e : first_of p ≡ n). let t : eqb (first_of p) n ≡ true = eq-eqb _ _ e in inr (rw t (h.0, e)))
    (λ (e : first_of p ≡ n → ⊥).
    let t : eqb (first_of p) n ≡ false = ne_eqb _ _ e in
    ⊎_elim
    (λ (r : (path_in n ps ≡ []) × (Heads n ps → ⊥)). inl (rw t (r.0, λ k. ⊎_elim (λ (w : first_of p ≡ n). e w) (λ (w : Heads n ps). r.1 w) k)))
    (λ (r : P (path_in n ps) × (first_of (path_in n ps) ≡ n)). inr (rw t r))
    (in_level P n ps h.1))
    (cases_eq (first_of p) n)

pub or_else_lem : (p q : List ℕ) → Good p → or_else p q ≡ p
or_else_lem [] q g = absurd g
or_else_lem (x ∷ p) q g = refl

pub record Path (n most : ℕ) (p : List ℕ) : Type 0 where
  pub good : Good p
  pub first : first_of p ≡ n
  pub short : length p ≤ most + 1

path_found : (left i j n : ℕ) → i ≤ j → j < i + left → Heads n (level_at j).paths → Path n j (path_from left n (level_at i))
unfolding path_from
path_found zero i j n a b h = absurd (let no : ⊥ = omega arith in no)
path_found (suc left) i j n a b h =
    ⊎_elim
    (λ (r : (path_in n (level_at i).paths ≡ []) × (Heads n (level_at i).paths → ⊥)).
    let ne : i ≡ j → ⊥ = λ (e : i ≡ j). r.1 (subst (λ (x : ℕ). Heads n (level_at x).paths) (sym e) h) in
    let p = path_found left (suc i) j n (omega (arith, ne)) (omega arith) h in
    subst (Path n j) (ap (path_from left n) (level_next i) ∙ sym (ap (λ (x : List ℕ). or_else x (path_from left n (next_level (level_at i)))) r.0)) p)
    (λ (r : Reached i (path_in n (level_at i).paths) × (first_of (path_in n (level_at i).paths) ≡ n)).
    subst (Path n j) (sym (or_else_lem (path_in n (level_at i).paths) (path_from left n (next_level (level_at i))) r.0.good))
    (record { good = r.0.good; first = r.1; short = omega (arith, r.0.count) }))
    (in_level (Reached i) n (level_at i).paths (each_level i))

-- along the bits of n: its first bits are in the tree at most so far down as there are doublings and ones
pub record Down (n b i : ℕ) : Type 0 where
  pub at : ℕ
  pub count : at + 1 ≡ i + ones (n / 2 ^ b)
  pub there : In (level_at at).has (n / 2 ^ b)

pub down : (n b i : ℕ) → n ≤ 1024 → n / 2 ^ (b + i) ≡ 1 → Down n b i
down n b zero h e =
    let f : n / 2 ^ b ≡ 1 = ap (λ (x : ℕ). n / 2 ^ x) (let y : b ≡ b + 0 = omega arith in y) ∙ e in
    record { at = 0; count = omega (arith, ap ones f, ones-ones 1); there = subst (In (level_at 0).has) (sym f) first_in }
down n b (suc i) h e =
    let m : ℕ = n / 2 ^ suc b in
    let f : n / 2 ^ (suc b + i) ≡ 1 = ap (λ (x : ℕ). n / 2 ^ x) (let y : suc b + i ≡ b + suc i = omega arith in y) ∙ e in
    let r = down n (suc b) i h f in
    let c = r.count in
    let hv = halves n b in
    let le : n / 2 ^ b ≤ n = shr_le n b in
    let small : bit_at n b < 2 = mod_below (n / 2 ^ b) 2 (omega arith) in
    let half : n / 2 ^ b / 2 ≡ m = omega (arith, hv, small) in
    let os : ones (n / 2 ^ b) ≡ bit_at n b + ones m = ones_step (n / 2 ^ b) ∙ ap (λ (x : ℕ). bit_at n b + ones x) half in
    let d : In (level_at (r.at + 1)).has (m + m) = double_further r.at m r.there (omega arith) in
    ⊎_elim
    (λ (z : bit_at n b ≡ 1).
    let v : m + m + 1 ≡ n / 2 ^ b = omega arith in
    record { at = r.at + 1 + 1; count = omega arith; there = subst (In (level_at (r.at + 1 + 1)).has) v (next_further (r.at + 1) (m + m) d (omega arith)) })
    (λ (z : bit_at n b ≡ 1 → ⊥).
    let v : m + m ≡ n / 2 ^ b = omega arith in
    record { at = r.at + 1; count = omega arith; there = subst (In (level_at (r.at + 1)).has) v d })
    (cases_eq (bit_at n b) 1)

-- the bound is at most 18, so 19 levels have every number
pub bound_small : (n : ℕ) → 1 ≤ n → n ≤ 1024 → top n + ones n ≤ 19
unfolding ones
bound_small n a h =
    ⊎_elim
    (λ (e : n ≡ 1024).
    let t : top n ≡ 10 = top_is 10 n (omega arith) (omega arith) in
    let o : ones n ≡ ones 1024 = ap ones e in
    let o2 : ones 1024 ≡ 1 = refl in
    omega arith)
    (λ (e : n ≡ 1024 → ⊥).
    let t : top n ≤ top 1023 = top_mono n 1023 a (omega arith) (omega arith) in
    let t2 : top 1023 ≡ 9 = top_is 9 1023 (omega arith) (omega arith) in
    let o : ones n ≤ 10 = ones-le 10 n (let l : n < 2 ^ 10 = omega arith in l) in
    omega arith)
    (cases_eq n 1024)

pub tree_path_lem : (n : ℕ) → 1 ≤ n → n ≤ 1024 → Path n (top n + ones n - 1) (tree_path n)
unfolding tree_path
tree_path_lem n a h =
    let s : n / 2 ^ (0 + top n) ≡ 1 = ap (λ (x : ℕ). n / 2 ^ x) (let y : 0 + top n ≡ top n = omega arith in y) ∙ top_one n a (omega arith) in
    let d = down n 0 (top n) h s in
    let o : ones (n / 2 ^ 0) ≡ ones n = ap ones (div-one n) in
    let c = d.count in
    let r = placed d.at n (subst (In (level_at d.at).has) (div-one n) d.there) in
    let before = r.before in
    let p = path_found 19 0 r.at n (omega arith) (omega (arith, bound_small n a h)) r.heads in
    let q : Path n r.at (path_from 19 n first_level) = subst (λ (x : Level). Path n r.at (path_from 19 n x)) level_first p in
    record { good = q.good; first = q.first; short = omega (arith, q.short) }

-- the plan of n is a chain, no longer than that of the left to right method
pub record ShortChain (n : ℕ) : Type 0 where
  pub chain : Chain n (tree_plan n)
  pub short : length (tree_plan n) ≤ top n + ones n - 1

pub tree_stands : (n : ℕ) → 1 ≤ n → n ≤ 1024 → ShortChain n
tree_stands n a h =
    let p = tree_path_lem n a h in
    let first = p.first in
    let c = climbed n (tree_path n) p.good (omega arith) in
    let l = steps_length (tree_path n) in
    let b = bound_small n a h in
    let short = p.short in
    let last : value_at (tree_plan n) (length (tree_plan n)) ≡ n = ap (value_at (tree_plan n)) l ∙ c.last ∙ first in
    record {
      chain = chain_from_ends n (tree_plan n) a (omega arith) (omega arith) (record { grows = c.grown.grows; last = last });
      short = omega arith;
    }
