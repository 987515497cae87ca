-- The plan from bit 0 up: its turns, its length, and that it is a chain. Assumes nothing.
use Rattle.std.proofs.Common.{◌≡◌, ℕ, zero, suc, ◌+◌, ◌-◌, ◌*◌, ◌/◌, ◌^◌, ◌<◌, ◌≤◌, Option, None, Some, true, false, cond, eqb, List, [], ◌∷◌, ◌++◌, length, drop, set, sym, refl, ap, ◌∙◌, subst, ⊎_elim, mul-le-mul_right, add-mul, one-mul, pow-suc, mul-one, mul-add, div-one, add-one, arith, pow_mono, shr-shr}
use lib.Count.{ones, ones_step, ones-ones}
use lib.Pow.{shr_le}
use Rattle.std.proofs.lemmas.List.{length-set}
use Rattle.std.proofs.lemmas.Bool.{eq-eqb, ne_eqb, cases_eq}
use Rattle.plans.specs.declared.step.Step.{Step}
use Rattle.plans.specs.Chain.{value_at, Chain}
use Rattle.bits.specs.Bits.{top, bit_at}
use Rattle.planning.specs.declared.steps.Reached.{Reached}
use Rattle.planning.specs.Planning.{step}
use Rattle.planning.proofs.Filling.{Filled, filled_none, filled_more, filled_all}
use Rattle.planning.proofs.Powers.{halves}
use Rattle.planning.proofs.Pushing.{Grown, Ends, grown_none, push, ends_push, ends_here, chain_from_ends}
use Rattle.binary_plans.specs.RightToLeft.{right_from, right_to_left}
use Rattle.binary_plans.proofs.BothPlans.{bit_small, Highest}

-- a turn at a bit that is 0, at the first that is 1, and at another
pub right_none : (n left b at v s w : ℕ) → (bit_at n b ≡ 1 → ⊥) → right_from n (suc left) b at v s w ≡ step at at (v + v) ∷ right_from n left (b + 1) (at + 1) (v + v) s w
right_none n left b at v s w e = let t : eqb (bit_at n b) 1 ≡ false = ne_eqb _ _ e in rw t refl

pub right_first : (n left b at v s w : ℕ) → bit_at n b ≡ 1 → w ≡ 0 → right_from n (suc left) b at v s w ≡ step at at (v + v) ∷ right_from n left (b + 1) (at + 1) (v + v) at v
right_first n left b at v s w e z = let t : eqb (bit_at n b) 1 ≡ true = eq-eqb _ _ e in let y : eqb w 0 ≡ true = eq-eqb _ _ z in rw (t, y) refl

pub right_more : (n left b at v s w : ℕ) → bit_at n b ≡ 1 → (w ≡ 0 → ⊥) → right_from n (suc left) b at v s w ≡ step at s (v + w) ∷ step at at (v + v) ∷ right_from n left (b + 1) (at + 1 + 1) (v + v) (at + 1) (v + w)
right_more n left b at v s w e z = let t : eqb (bit_at n b) 1 ≡ true = eq-eqb _ _ e in let y : eqb w 0 ≡ false = ne_eqb _ _ z in rw (t, y) refl

-- the end, at the highest bit
pub right_alone : (n b at v s w : ℕ) → w ≡ 0 → right_from n 0 b at v s w ≡ []
right_alone n b at v s w z = let y : eqb w 0 ≡ true = eq-eqb _ _ z in rw y refl

pub right_last : (n b at v s w : ℕ) → (w ≡ 0 → ⊥) → right_from n 0 b at v s w ≡ step at s (v + w) ∷ []
right_last n b at v s w z = let y : eqb w 0 ≡ false = ne_eqb _ _ z in rw y refl

halves_next : (n b : ℕ) → n / 2 ^ b ≡ n / 2 ^ (b + 1) + n / 2 ^ (b + 1) + bit_at n b
halves_next n b = let f : n / 2 ^ (b + 1) ≡ n / 2 ^ suc b = ap (λ (x : ℕ). n / 2 ^ x) (add-one b) in omega (arith, halves n b)

ones_next : (n b : ℕ) → ones (n / 2 ^ b) ≡ bit_at n b + ones (n / 2 ^ (b + 1))
ones_next n b = ones_step (n / 2 ^ b) ∙ ap (λ (x : ℕ). bit_at n b + ones x) (shr-shr n b 1)

-- how many steps there are: one for each doubling and each one bit, but the one that sets the sum
abbrev unset : ℕ → ℕ
unset w = cond (eqb w 0) 1 0

right_length : (n left b at v s w : ℕ) → 1 ≤ v → n / 2 ^ (b + left) ≡ 1 → length (right_from n left b at v s w) + unset w ≡ left + ones (n / 2 ^ b)
right_length n zero b at v s w l e =
    let one : ones (n / 2 ^ b) ≡ 1 = ap (λ (x : ℕ). ones (n / 2 ^ x)) (omega arith) ∙ ap ones e ∙ ones-ones 1 in
    ⊎_elim
    (λ (z : w ≡ 0). let y : eqb w 0 ≡ true = eq-eqb _ _ z in rw y (omega arith))
    (λ (z : w ≡ 0 → ⊥). let y : eqb w 0 ≡ false = ne_eqb _ _ z in rw y (omega arith))
    (cases_eq w 0)
right_length n (suc left) b at v s w l e =
    let o = ones_next n b in
    let f : n / 2 ^ (b + 1 + left) ≡ 1 = ap (λ (x : ℕ). n / 2 ^ x) (omega arith) ∙ e in
    ⊎_elim
    (λ (t : bit_at n b ≡ 1).
    ⊎_elim
    (λ (z : w ≡ 0).
    let y : unset w ≡ 1 = let q : eqb w 0 ≡ true = eq-eqb _ _ z in rw q refl in
    let y1 : unset v ≡ 0 = let q : eqb v 0 ≡ false = ne_eqb _ _ (omega arith) in rw q refl in
    omega (arith, ap length (right_first n left b at v s w t z), right_length n left (b + 1) (at + 1) (v + v) at v (omega arith) f))
    (λ (z : w ≡ 0 → ⊥).
    let y : unset w ≡ 0 = let q : eqb w 0 ≡ false = ne_eqb _ _ z in rw q refl in
    let y1 : unset (v + w) ≡ 0 = let q : eqb (v + w) 0 ≡ false = ne_eqb _ _ (omega arith) in rw q refl in
    omega (arith, ap length (right_more n left b at v s w t z), right_length n left (b + 1) (at + 1 + 1) (v + v) (at + 1) (v + w) (omega arith) f))
    (cases_eq w 0))
    (λ (t : bit_at n b ≡ 1 → ⊥).
    omega (arith, bit_small n b, ap length (right_none n left b at v s w t), right_length n left (b + 1) (at + 1) (v + v) s w (omega arith) f))
    (cases_eq (bit_at n b) 1)

-- what the turns keep: the square is the last value, the sum stands where it is said to, and n is what is left of it times the square, and the sum
record Halfway (n b at v s w : ℕ) (p : List Step) : Type 0 where
  pub grown : Grown n p at
  pub square : value_at p at ≡ v
  pub positive : 1 ≤ v
  pub below : w < v
  pub before : s ≤ at
  pub sum : 0 < w → value_at p s ≡ w
  pub parts : n ≡ n / 2 ^ b * v + w

at_least_two : (n b left : ℕ) → n / 2 ^ (b + 1 + left) ≡ 1 → 1 ≤ n / 2 ^ (b + 1)
at_least_two n b left e = omega (arith, shr_le (n / 2 ^ (b + 1)) left, shr-shr n (b + 1) left)

-- the parts of n at the next bit
parts_zero : (n m h v w : ℕ) → m ≡ h + h + 0 → n ≡ m * v + w → n ≡ h * (v + v) + w
parts_zero n m h v w e f =
    let a : m * v ≡ h * v + h * v = ap (λ (x : ℕ). x * v) (let y : m ≡ h + h = omega arith in y) ∙ add-mul h h v in
    let c : h * (v + v) ≡ h * v + h * v = mul-add h v v in
    omega arith

parts_one : (n m h v w : ℕ) → m ≡ h + h + 1 → n ≡ m * v + w → n ≡ h * (v + v) + (v + w)
parts_one n m h v w e f =
    let a : m * v ≡ (h + h) * v + 1 * v = ap (λ (x : ℕ). x * v) e ∙ add-mul (h + h) 1 v in
    let a2 : (h + h) * v ≡ h * v + h * v = add-mul h h v in
    let a3 : 1 * v ≡ v = one-mul v in
    let c : h * (v + v) ≡ h * v + h * v = mul-add h v v in
    omega arith

at_least : (h v : ℕ) → 1 ≤ h → v ≤ h * v
at_least h v l = let a : 1 * v ≤ h * v = mul-le-mul_right v l in omega (arith, one-mul v)

right_ends : (n left b at v s w : ℕ) (p : List Step) → n / 2 ^ (b + left) ≡ 1 → Halfway n b at v s w p → Ends n (p ++ right_from n left b at v s w)
right_ends n zero b at v s w p e i =
    let one : n / 2 ^ b ≡ 1 = ap (λ (x : ℕ). n / 2 ^ x) (omega arith) ∙ e in
    let nv : n ≡ v + w = i.parts ∙ ap (λ (x : ℕ). x * v + w) one ∙ ap (λ (x : ℕ). x + w) (one-mul v) in
    ⊎_elim
    (λ (z : w ≡ 0).
    subst (λ (r : List Step). Ends n (p ++ r)) (sym (right_alone n b at v s w z)) (ends_here n p at i.grown (omega arith)))
    (λ (z : w ≡ 0 → ⊥).
    let q = push n p at at s (v + w) i.grown i.before (omega arith) (omega (arith, i.sum (omega arith))) (omega arith) (omega arith) in
    subst (λ (r : List Step). Ends n (p ++ r)) (sym (right_last n b at v s w z))
    (ends_push n p (step at s (v + w)) [] (ends_here n (p ++ step at s (v + w) ∷ []) (at + 1) q.grown (q.here ∙ sym nv))))
    (cases_eq w 0)
right_ends n (suc left) b at v s w p e i =
    let f : n / 2 ^ (b + 1 + left) ≡ 1 = ap (λ (x : ℕ). n / 2 ^ x) (omega arith) ∙ e in
    let h : ℕ = n / 2 ^ (b + 1) in
    let hv : n / 2 ^ b ≡ h + h + bit_at n b = halves_next n b in
    let two = at_least_two n b left f in
    let x : Step = step at at (v + v) in
    let big : v + v ≤ h * (v + v) = at_least h (v + v) two in
    ⊎_elim
    (λ (t : bit_at n b ≡ 1).
    let np : n ≡ h * (v + v) + (v + w) = parts_one n (n / 2 ^ b) h v w (omega arith) i.parts in
    ⊎_elim
    (λ (z : w ≡ 0).
    let q = push n p at at at (v + v) i.grown (omega arith) (omega arith) (omega arith) (omega arith) (omega arith) in
    let k : Halfway n (b + 1) (at + 1) (v + v) at v (p ++ x ∷ []) =
    record { grown = q.grown; square = q.here; positive = omega arith; below = omega arith; before = omega arith; sum = λ _. q.kept at (omega arith) ∙ i.square; parts = omega arith } in
    subst (λ (r : List Step). Ends n (p ++ r)) (sym (right_first n left b at v s w t z))
    (ends_push n p x (right_from n left (b + 1) (at + 1) (v + v) at v)
    (right_ends n left (b + 1) (at + 1) (v + v) at v (p ++ x ∷ []) f k)))
    (λ (z : w ≡ 0 → ⊥).
    let y : Step = step at s (v + w) in
    let q = push n p at at s (v + w) i.grown i.before (omega arith) (omega (arith, i.sum (omega arith))) (omega arith) (omega arith) in
    let p1 : List Step = p ++ y ∷ [] in
    let sq : value_at p1 at ≡ v = q.kept at (omega arith) ∙ i.square in
    let q1 = push n p1 (at + 1) at at (v + v) q.grown (omega arith) (omega arith) (omega arith) (omega (arith, q.here)) (omega arith) in
    let k : Halfway n (b + 1) (at + 1 + 1) (v + v) (at + 1) (v + w) (p1 ++ x ∷ []) =
    record { grown = q1.grown; square = q1.here; positive = omega arith; below = omega arith; before = omega arith; sum = λ _. q1.kept (at + 1) (omega arith) ∙ q.here; parts = np } in
    subst (λ (r : List Step). Ends n (p ++ r)) (sym (right_more n left b at v s w t z))
    (ends_push n p y (x ∷ right_from n left (b + 1) (at + 1 + 1) (v + v) (at + 1) (v + w))
    (ends_push n p1 x (right_from n left (b + 1) (at + 1 + 1) (v + v) (at + 1) (v + w))
    (right_ends n left (b + 1) (at + 1 + 1) (v + v) (at + 1) (v + w) (p1 ++ x ∷ []) f k))))
    (cases_eq w 0))
    (λ (t : bit_at n b ≡ 1 → ⊥).
    let np : n ≡ h * (v + v) + w = parts_zero n (n / 2 ^ b) h v w (omega (arith, bit_small n b)) i.parts in
    let q = push n p at at at (v + v) i.grown (omega arith) (omega arith) (omega arith) (omega arith) (omega arith) in
    let k : Halfway n (b + 1) (at + 1) (v + v) s w (p ++ x ∷ []) =
    record { grown = q.grown; square = q.here; positive = omega arith; below = omega arith; before = omega (arith, i.before); sum = λ l. q.kept s i.before ∙ i.sum l; parts = np } in
    subst (λ (r : List Step). Ends n (p ++ r)) (sym (right_none n left b at v s w t))
    (ends_push n p x (right_from n left (b + 1) (at + 1) (v + v) s w)
    (right_ends n left (b + 1) (at + 1) (v + v) s w (p ++ x ∷ []) f k)))
    (cases_eq (bit_at n b) 1)

pub right_all_length : (n : ℕ) → n / 2 ^ top n ≡ 1 → length (right_to_left n) ≡ top n + ones n - 1
right_all_length n e =
    let o : ones (n / 2 ^ 0) ≡ ones n = ap ones (div-one n) in
    let f : n / 2 ^ (0 + top n) ≡ 1 = ap (λ (x : ℕ). n / 2 ^ x) (omega arith) ∙ e in
    omega (arith, right_length n (top n) 0 0 1 0 0 (omega arith) f)

pub right_all_chain : (n : ℕ) → 1 ≤ n → n < 2 ^ 63 → n / 2 ^ top n ≡ 1 → length (right_to_left n) ≤ 128 → Chain n (right_to_left n)
right_all_chain n a b e d =
    let f : n / 2 ^ (0 + top n) ≡ 1 = ap (λ (x : ℕ). n / 2 ^ x) (omega arith) ∙ e in
    let h : Halfway n 0 0 1 0 0 [] = record { grown = grown_none n; square = refl; positive = omega arith; below = omega arith; before = omega arith; sum = λ z. absurd (let no : ⊥ = omega arith in no); parts = omega (arith, div-one n, mul-one (n / 2 ^ 0)) } in
    chain_from_ends n (right_to_left n) a b d (right_ends n (top n) 0 0 1 0 0 [] f h)

-- the sum so far: its number, its value, and that it is not 0; where there is none, both are 0
abbrev pub sum_number : Option Reached → ℕ
sum_number None = 0
sum_number (Some r) = r.number

abbrev pub sum_value : Option Reached → ℕ
sum_value None = 0
sum_value (Some r) = r.value

abbrev pub SumIsPositive : Option Reached → Type 0
SumIsPositive None = Unit {0}
SumIsPositive (Some r) = 1 ≤ r.value

-- What the loop keeps, where the bits from `bit` up to the highest are left.
pub record RightLoop (n high : ℕ) (was : List Step) (bit : ℕ) (t : List Step) (at v s w : ℕ) : Type 0 where
  pub filled : Filled (right_to_left n) was t at (right_from n (high - bit) bit at v s w)
  pub long : length t ≡ 128
  pub short : high ≤ 62
  pub below : bit ≤ high
  pub room : at ≤ 2 * bit
  pub before : s ≤ at
  pub square : v ≡ 2 ^ bit
  pub sum : w < v

pub right_start : {n high : ℕ} {was : List Step} → length was ≡ 128 → Highest n high → RightLoop n high was 0 was 0 1 0 0
right_start {n} {high} {was} l h =
    let e : top n ≡ high - 0 = omega (arith, h.is) in
    record {
      filled = subst (λ (x : ℕ). Filled (right_to_left n) was was 0 (right_from n x 0 0 1 0 0)) e (filled_none (right_to_left n) was);
      long = l;
      short = h.small;
      below = omega arith;
      room = omega arith;
      before = omega arith;
      square = refl;
      sum = omega arith;
    }

-- a turn of the loop, at a bit that is 0, at the first that is 1, and at another
module _ {n high : ℕ} {was : List Step} {bit : ℕ} {t : List Step} {at v s w : ℕ} (g : RightLoop n high was bit t at v s w) (more : bit < high) where
  left_is : high - bit ≡ suc (high - (bit + 1))
  left_is = omega arith

  square_is : v + v ≡ 2 ^ (bit + 1)
  square_is = let a : 2 ^ (bit + 1) ≡ 2 ^ bit * 2 = ap (λ (x : ℕ). 2 ^ x) (add-one bit) ∙ pow-suc 2 bit in omega (arith, g.square)

  pub square_fits : v + v ≤ 2 ^ 63
  square_fits = let l : bit + 1 ≤ 63 = omega (arith, g.short) in let p : 2 ^ (bit + 1) ≤ 2 ^ 63 = pow_mono l in omega (arith, square_is)

  filled_here : (rest : List Step) → right_from n (suc (high - (bit + 1))) bit at v s w ≡ rest → Filled (right_to_left n) was t at rest
  filled_here rest e = subst (Filled (right_to_left n) was t at) (ap (λ (x : ℕ). right_from n x bit at v s w) left_is ∙ e) g.filled

  -- the square is doubled in any case
  doubled : (t1 : List Step) (at1 s1 w1 : ℕ) → length t1 ≡ length t → at1 ≤ 2 * bit + 1 → s1 ≤ at1 → w1 < v + v → Filled (right_to_left n) was t1 at1 (step at at (v + v) ∷ right_from n (high - (bit + 1)) (bit + 1) (at1 + 1) (v + v) s1 w1) → RightLoop n high was (bit + 1) (set t1 at1 (step at at (v + v))) (at1 + 1) (v + v) s1 w1
  doubled t1 at1 s1 w1 l a b c f =
      record {
        filled = filled_more (right_to_left n) was t1 at1 _ _ (omega (arith, g.long, g.short)) f;
        long = omega (arith, g.long, length-set t1 at1 (step at at (v + v)));
        short = g.short;
        below = omega arith;
        room = omega arith;
        before = omega arith;
        square = square_is;
        sum = c;
      }

  pub right_turn_none : {t1 : List Step} {at1 s1 w1 : ℕ} → t1 ≡ t → at1 ≡ at → s1 ≡ s → w1 ≡ w → (bit_at n bit ≡ 1 → ⊥) → RightLoop n high was (bit + 1) (set t1 at1 (step at at (v + v))) (at1 + 1) (v + v) s1 w1
  right_turn_none et ea es ew b =
      rw (et, ea, es, ew)
      (doubled t at s w refl (omega (arith, g.room)) g.before (omega (arith, g.sum)) (filled_here _ (right_none n (high - (bit + 1)) bit at v s w b)))

  pub right_turn_first : {t1 : List Step} {at1 s1 w1 : ℕ} → t1 ≡ t → at1 ≡ at → s1 ≡ at → w1 ≡ v → bit_at n bit ≡ 1 → w ≡ 0 → RightLoop n high was (bit + 1) (set t1 at1 (step at at (v + v))) (at1 + 1) (v + v) s1 w1
  right_turn_first et ea es ew b z =
      rw (et, ea, es, ew)
      (doubled t at at v refl (omega (arith, g.room)) (omega arith) (omega (arith, g.sum)) (filled_here _ (right_first n (high - (bit + 1)) bit at v s w b z)))

  pub right_turn_more : {t1 : List Step} {at1 s1 w1 : ℕ} → t1 ≡ set t at (step at s (v + w)) → at1 ≡ at + 1 → s1 ≡ at + 1 → w1 ≡ v + w → bit_at n bit ≡ 1 → (w ≡ 0 → ⊥) → RightLoop n high was (bit + 1) (set t1 at1 (step at at (v + v))) (at1 + 1) (v + v) s1 w1
  right_turn_more et ea es ew b z =
      rw (et, ea, es, ew)
      (doubled (set t at (step at s (v + w))) (at + 1) (at + 1) (v + w) (length-set t at (step at s (v + w))) (omega (arith, g.room)) (omega arith) (omega (arith, g.sum))
      (filled_more (right_to_left n) was t at _ _ (omega (arith, g.long, g.room, g.short)) (filled_here _ (right_more n (high - (bit + 1)) bit at v s w b z))))

-- after the last bit below the highest: the square alone is n, or the sum is added to it
module _ {n high : ℕ} {was : List Step} {bit : ℕ} {t : List Step} {at v s w : ℕ} (g : RightLoop n high was bit t at v s w) (end : high ≤ bit) where
  filled_end : (rest : List Step) → right_from n 0 bit at v s w ≡ rest → Filled (right_to_left n) was t at rest
  filled_end rest e = let z : high - bit ≡ 0 = omega arith in subst (Filled (right_to_left n) was t at) (ap (λ (x : ℕ). right_from n x bit at v s w) z ∙ e) g.filled

  pub right_done_alone : w ≡ 0 → (at ≡ length (right_to_left n)) × (t ≡ right_to_left n ++ drop (length (right_to_left n)) was)
  right_done_alone z =
      let a : at ≤ 124 = omega (arith, g.room, g.short, g.below) in
      let f = filled_all (right_to_left n) was t at (omega (arith, g.long)) (filled_end [] (right_alone n bit at v s w z)) in
      (f.0, f.1)

  pub right_done_last : (w ≡ 0 → ⊥) → (at + 1 ≡ length (right_to_left n)) × (set t at (step at s (v + w)) ≡ right_to_left n ++ drop (length (right_to_left n)) was)
  right_done_last z =
      let a : at ≤ 124 = omega (arith, g.room, g.short, g.below) in
      let x : Step = step at s (v + w) in
      let f = filled_all (right_to_left n) was (set t at x) (at + 1) (omega (arith, g.long, length-set t at x))
      (filled_more (right_to_left n) was t at _ _ (omega (arith, g.long)) (filled_end _ (right_last n bit at v s w z))) in
      (f.0, f.1)
