-- The rule of the method from bit 0 up. Assumes nothing.
use Rattle.std.proofs.Common.{◌≡◌, ℕ, zero, suc, ◌+◌, ◌*◌, ◌/◌, ◌%◌, ◌^◌, ◌<◌, ◌≤◌, Bool, true, false, ◌&&◌, eqb, ltb, List, [], ◌∷◌, ◌++◌, map, length, sym, refl, ap, ◌∙◌, ⊎_elim, append_assoc, append-nil, one-mul, pow-suc, zero-mul, add-one, arith}
use lib.Pow.{mod-pow-add}
use Rattle.std.proofs.lemmas.List.{length_push}
use Rattle.std.proofs.lemmas.Bool.{eq-eqb, ne_eqb, lt-ltb, le-ltb, and_from, and_left, and_right, cases_eq}
use Rattle.plans.specs.declared.step.Step.{Step}
use Rattle.plans.specs.Chain.{value_at}
use Rattle.bits.specs.Bits.{top, bit_at}
use Rattle.planning.specs.Planning.{step}
use Rattle.planning.proofs.Growing.{value_pushed}
use Rattle.planning.proofs.Powers.{top_one}
use Rattle.binary_plans.specs.RightToLeft.{right_from, right_to_left, read_out, additions_at, additions_below, RightToLeftRule}
use Rattle.binary_plans.proofs.BothPlans.{bit_small}
use Rattle.binary_plans.proofs.RightPlans.{right_none, right_first, right_more, right_alone, right_last}

-- the number that the bits of n up to b make
mod_next : (n b : ℕ) → n % 2 ^ (b + 1) ≡ bit_at n b * 2 ^ b + n % 2 ^ b
mod_next n b = let e : b + 1 ≡ 1 + b = omega arith in ap (λ (x : ℕ). n % 2 ^ x) e ∙ mod-pow-add n 1 b

mod_none : (n b : ℕ) → (bit_at n b ≡ 1 → ⊥) → n % 2 ^ (b + 1) ≡ n % 2 ^ b
mod_none n b t = let z : bit_at n b ≡ 0 = omega (arith, bit_small n b) in mod_next n b ∙ ap (λ (x : ℕ). x * 2 ^ b + n % 2 ^ b) z ∙ omega (arith, zero-mul (2 ^ b))

mod_one : (n b : ℕ) → bit_at n b ≡ 1 → n % 2 ^ (b + 1) ≡ 2 ^ b + n % 2 ^ b
mod_one n b t = mod_next n b ∙ ap (λ (x : ℕ). x * 2 ^ b + n % 2 ^ b) t ∙ omega (arith, one-mul (2 ^ b))

-- what is added at a bit, by the two tests
abbrev has_sum : ℕ → ℕ → Bool
has_sum n b = eqb (bit_at n b) 1 && ltb 0 (n % 2 ^ b)

sum_not : (n b : ℕ) → (bit_at n b ≡ 1 → ⊥) → has_sum n b ≡ false
sum_not n b t = and_left (eqb (bit_at n b) 1) (ltb 0 (n % 2 ^ b)) (ne_eqb (bit_at n b) 1 t)

sum_first : (n b : ℕ) → n % 2 ^ b ≡ 0 → has_sum n b ≡ false
sum_first n b z = and_right (eqb (bit_at n b) 1) (ltb 0 (n % 2 ^ b)) (le-ltb 0 (n % 2 ^ b) (omega arith))

sum_some : (n b : ℕ) → bit_at n b ≡ 1 → (n % 2 ^ b ≡ 0 → ⊥) → has_sum n b ≡ true
sum_some n b t z = and_from (eqb (bit_at n b) 1) (ltb 0 (n % 2 ^ b)) (eq-eqb (bit_at n b) 1 t) (lt-ltb 0 (n % 2 ^ b) (omega arith))

at_square : (n b : ℕ) → has_sum n b ≡ false → b < top n → additions_at n b ≡ (2 ^ b, 2 ^ b, 2 ^ (b + 1)) ∷ []
unfolding additions_at
at_square n b e h = let t : ltb b (top n) ≡ true = lt-ltb _ _ h in rw (e, t) refl

at_both : (n b : ℕ) → has_sum n b ≡ true → b < top n → additions_at n b ≡ (2 ^ b, n % 2 ^ b, n % 2 ^ (b + 1)) ∷ (2 ^ b, 2 ^ b, 2 ^ (b + 1)) ∷ []
unfolding additions_at
at_both n b e h = let t : ltb b (top n) ≡ true = lt-ltb _ _ h in rw (e, t) refl

at_none : (n b : ℕ) → has_sum n b ≡ false → top n ≤ b → additions_at n b ≡ []
unfolding additions_at
at_none n b e h = let t : ltb b (top n) ≡ false = le-ltb _ _ h in rw (e, t) refl

at_sum : (n b : ℕ) → has_sum n b ≡ true → top n ≤ b → additions_at n b ≡ (2 ^ b, n % 2 ^ b, n % 2 ^ (b + 1)) ∷ []
unfolding additions_at
at_sum n b e h = let t : ltb b (top n) ≡ false = le-ltb _ _ h in rw (e, t) refl

below_none : (n : ℕ) → additions_below n 0 ≡ []
unfolding additions_below
below_none n = refl

below_next : (n b : ℕ) → additions_below n (b + 1) ≡ additions_below n b ++ additions_at n b
unfolding additions_below
below_next n b = ap (additions_below n) (add-one b)

module _ (n : ℕ) (whole : List Step) where
  abbrev read : Step → ℕ × ℕ × ℕ
  read = read_out whole

  -- where steps p stand of the whole plan, and the others are left: the square is the last value, and the sum, unless it is 0, stands where it is said to
  record Reading (b at v s w : ℕ) (p rest : List Step) : Type 0 where
    pub all : whole ≡ p ++ rest
    pub count : at ≡ length p
    pub last : value_at whole at ≡ v
    pub sum : (w ≡ 0 → ⊥) → value_at whole s ≡ w
    pub square : v ≡ 2 ^ b
    pub low : w ≡ n % 2 ^ b

  -- one step more of the whole plan
  record Next (at : ℕ) (p : List Step) (x : Step) (rest : List Step) : Type 0 where
    pub all : whole ≡ (p ++ x ∷ []) ++ rest
    pub count : at + 1 ≡ length (p ++ x ∷ [])
    pub value : value_at whole (at + 1) ≡ x.value

  next : (at : ℕ) (p : List Step) (x : Step) (rest : List Step) → whole ≡ p ++ x ∷ rest → at ≡ length p → Next at p x rest
  next at p x rest e c =
      let s : at + 1 ≡ suc (length p) = omega arith in
      record {
        all = e ∙ sym (append_assoc p (x ∷ []) rest);
        count = omega (arith, length_push p x);
        value = ap (λ (y : List Step). value_at y (at + 1)) e ∙ ap (value_at (p ++ x ∷ rest)) s ∙ value_pushed p x rest;
      }

  square_next : (b v : ℕ) → v ≡ 2 ^ b → v + v ≡ 2 ^ (b + 1)
  square_next b v e = let p : 2 ^ (b + 1) ≡ 2 ^ b * 2 = ap (λ (x : ℕ). 2 ^ x) (add-one b) ∙ pow-suc 2 b in omega arith

  -- what is read out at a bit goes before what is read out after it
  turn : (b : ℕ) (here after end : List (ℕ × ℕ × ℕ)) → additions_at n b ≡ here → additions_below n (b + 1) ++ after ≡ end → additions_below n b ++ (here ++ after) ≡ end
  turn b here after end e f =
      sym (append_assoc (additions_below n b) here after)
      ∙ ap (λ (x : List (ℕ × ℕ × ℕ)). x ++ after) (sym (below_next n b ∙ ap (λ (x : List (ℕ × ℕ × ℕ)). additions_below n b ++ x) e))
      ∙ f

  triple : {a b c x y z : ℕ} → a ≡ x → b ≡ y → c ≡ z → ◌≡◌ {A = ℕ × ℕ × ℕ} (a, b, c) (x, y, z)
  triple p q r = rw (p, q, r) refl

  read_square : (b at v s w : ℕ) (p rest : List Step) → Reading b at v s w p rest → ◌≡◌ {A = ℕ × ℕ × ℕ} (2 ^ b, 2 ^ b, 2 ^ (b + 1)) (read (step at at (v + v)))
  read_square b at v s w p rest i = let a = i.last ∙ i.square in triple (sym a) (sym a) (sym (square_next b v i.square))

  read_sum : (b at v s w : ℕ) (p rest : List Step) → bit_at n b ≡ 1 → (w ≡ 0 → ⊥) → Reading b at v s w p rest → ◌≡◌ {A = ℕ × ℕ × ℕ} (2 ^ b, n % 2 ^ b, n % 2 ^ (b + 1)) (read (step at s (v + w)))
  read_sum b at v s w p rest t z i = triple (sym (i.last ∙ i.square)) (sym (i.sum z ∙ i.low)) (omega (arith, mod_one n b t, i.square, i.low))

  right_read : (left b at v s w : ℕ) (p : List Step) → 1 ≤ n → n < 2 ^ 63 → b + left ≡ top n → Reading b at v s w p (right_from n left b at v s w) → additions_below n b ++ map read (right_from n left b at v s w) ≡ additions_below n (top n + 1)
  right_read zero b at v s w p l h e i =
      let t : b ≡ top n = omega arith in
      let one : bit_at n b ≡ 1 = ap (λ (x : ℕ). n / 2 ^ x % 2) t ∙ ap (λ (x : ℕ). x % 2) (top_one n l (omega arith)) in
      let end : additions_below n (b + 1) ++ [] ≡ additions_below n (top n + 1) = append-nil (additions_below n (b + 1)) ∙ ap (λ (x : ℕ). additions_below n (x + 1)) t in
      let low = i.low in
      ⊎_elim
      (λ (z : w ≡ 0).
      ap (λ (q : List Step). additions_below n b ++ map read q) (right_alone n b at v s w z)
      ∙ turn b [] [] _ (at_none n b (sum_first n b (omega arith)) (omega arith)) end)
      (λ (z : w ≡ 0 → ⊥).
      let y : Step = step at s (v + w) in
      ap (λ (q : List Step). additions_below n b ++ map read q) (right_last n b at v s w z)
      ∙ turn b (read y ∷ []) [] _ (at_sum n b (sum_some n b one (λ k. z (omega arith))) (omega arith) ∙ ap (λ (q : ℕ × ℕ × ℕ). q ∷ []) (read_sum b at v s w p _ one z i)) end)
      (cases_eq w 0)
  right_read (suc left) b at v s w p l h e i =
      let f : b + 1 + left ≡ top n = omega arith in
      let less : b < top n = omega arith in
      let x : Step = step at at (v + v) in
      let square = square_next b v i.square in
      let low = i.low in
      ⊎_elim
      (λ (t : bit_at n b ≡ 1).
      ⊎_elim
      (λ (z : w ≡ 0).
      let rest : List Step = right_from n left (b + 1) (at + 1) (v + v) at v in
      let r = right_first n left b at v s w t z in
      let k = next at p x rest (i.all ∙ ap (λ (q : List Step). p ++ q) r) i.count in
      let j : Reading (b + 1) (at + 1) (v + v) at v (p ++ x ∷ []) rest =
      record { all = k.all; count = k.count; last = k.value; sum = λ _. i.last; square = square; low = omega (arith, mod_one n b t, i.square) } in
      ap (λ (q : List Step). additions_below n b ++ map read q) r
      ∙ turn b (read x ∷ []) (map read rest) _ (at_square n b (sum_first n b (omega arith)) less ∙ ap (λ (q : ℕ × ℕ × ℕ). q ∷ []) (read_square b at v s w p _ i))
      (right_read left (b + 1) (at + 1) (v + v) at v (p ++ x ∷ []) l h f j))
      (λ (z : w ≡ 0 → ⊥).
      let y : Step = step at s (v + w) in
      let rest : List Step = right_from n left (b + 1) (at + 1 + 1) (v + v) (at + 1) (v + w) in
      let r = right_more n left b at v s w t z in
      let k = next at p y (x ∷ rest) (i.all ∙ ap (λ (q : List Step). p ++ q) r) i.count in
      let m = next (at + 1) (p ++ y ∷ []) x rest k.all k.count in
      let j : Reading (b + 1) (at + 1 + 1) (v + v) (at + 1) (v + w) ((p ++ y ∷ []) ++ x ∷ []) rest =
      record { all = m.all; count = m.count; last = m.value; sum = λ _. k.value; square = square; low = omega (arith, mod_one n b t, i.square) } in
      ap (λ (q : List Step). additions_below n b ++ map read q) r
      ∙ turn b (read y ∷ read x ∷ []) (map read rest) _
      (at_both n b (sum_some n b t (λ k. z (omega arith))) less
      ∙ ap (λ (q : ℕ × ℕ × ℕ). q ∷ (2 ^ b, 2 ^ b, 2 ^ (b + 1)) ∷ []) (read_sum b at v s w p _ t z i)
      ∙ ap (λ (q : ℕ × ℕ × ℕ). read y ∷ q ∷ []) (read_square b at v s w p _ i))
      (right_read left (b + 1) (at + 1 + 1) (v + v) (at + 1) (v + w) ((p ++ y ∷ []) ++ x ∷ []) l h f j))
      (cases_eq w 0))
      (λ (t : bit_at n b ≡ 1 → ⊥).
      let rest : List Step = right_from n left (b + 1) (at + 1) (v + v) s w in
      let r = right_none n left b at v s w t in
      let k = next at p x rest (i.all ∙ ap (λ (q : List Step). p ++ q) r) i.count in
      let j : Reading (b + 1) (at + 1) (v + v) s w (p ++ x ∷ []) rest =
      record { all = k.all; count = k.count; last = k.value; sum = i.sum; square = square; low = omega (arith, mod_none n b t) } in
      ap (λ (q : List Step). additions_below n b ++ map read q) r
      ∙ turn b (read x ∷ []) (map read rest) _ (at_square n b (sum_not n b t) less ∙ ap (λ (q : ℕ × ℕ × ℕ). q ∷ []) (read_square b at v s w p _ i))
      (right_read left (b + 1) (at + 1) (v + v) s w (p ++ x ∷ []) l h f j))
      (cases_eq (bit_at n b) 1)

pub right_to_left_rule : RightToLeftRule
right_to_left_rule n l h =
    let plan : List Step = right_to_left n in
    let none : n % 2 ^ 0 ≡ 0 = omega arith in
    let i : Reading n plan 0 0 1 0 0 [] plan =
    record { all = refl; count = refl; last = refl; sum = λ z. absurd (z refl); square = refl; low = sym none } in
    ap (λ (x : List (ℕ × ℕ × ℕ)). x ++ map (read_out plan) plan) (sym (below_none n)) ∙ right_read n plan (top n) 0 0 1 0 0 [] l h (omega arith) i
