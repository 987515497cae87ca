-- The loop over the digits, and the table after it. Assumes nothing.
use Rattle.std.proofs.Common.{◌≡◌, ℕ, zero, suc, ◌+◌, ◌-◌, ◌*◌, ◌/◌, ◌%◌, ◌^◌, ◌<◌, ◌≤◌, List, [], ◌∷◌, ◌++◌, length, drop, set, sym, refl, ap, ◌∙◌, subst, add-zero, suc-mul, mul-le-mul_left, zero-add, mul-one, mul-suc, arith, length-append, pow_pos}
use lib.Pow.{shr_le}
use lib.Seq.{sets, sets-eq}
use Rattle.std.proofs.lemmas.List.{length_push}
use Rattle.plans.specs.declared.step.Step.{Step}
use Rattle.bits.specs.Bits.{top}
use Rattle.planning.specs.Planning.{step}
use Rattle.bits.proofs.Tops.{top_low, top_is}
use Rattle.planning.proofs.Powers.{top_below}
use Rattle.digit_plans.specs.Digits.{count_from, doubles, digit, one_digit, digits_from, lower, leading, digits_plan}
use Rattle.digit_plans.proofs.Counting.{count_length}
use Rattle.digit_plans.proofs.DigitPlans.{one_none, one_some, digits_end, digits_here, value_digit, digit_below, one_at_most, plan_low, plan_high, the_top}

-- steps that are written in two parts, and from the front
pub sets_append : (t : List Step) (at : ℕ) (xs ys : List Step) → sets t at (xs ++ ys) ≡ sets (sets t at xs) (at + length xs) ys
sets_append t at [] ys = ap (λ (x : ℕ). sets t x ys) (sym (add-zero at))
sets_append t at (x ∷ xs) ys =
    let e : suc at + length xs ≡ at + suc (length xs) = omega arith in
    sets_append (set t at x) (suc at) xs ys ∙ ap (λ (k : ℕ). sets (sets (set t at x) (suc at) xs) k ys) e

pub sets_front : (t xs : List Step) → length xs ≤ length t → sets t 0 xs ≡ xs ++ drop (length xs) t
sets_front t xs h = sets-eq xs t 0 (omega arith) ∙ ap (λ (k : ℕ). xs ++ drop k t) (zero-add (length xs))

-- what the steps for one digit leave, after the doublings: nothing more where the digit is 0, and else its addition
module _ (k e at from v : ℕ) (was : List Step) {t : List Step} {len : ℕ} (count : len ≡ at + length (doubles (2 ^ k) k at from v)) (table : t ≡ sets was at (doubles (2 ^ k) k at from v)) where
  pub digit_none : e ≡ 0 → (len ≡ at + length (one_digit k e at from v)) × (t ≡ sets was at (one_digit k e at from v))
  digit_none z = let o = one_none k e at from v z in (omega (arith, ap length o), table ∙ sym (ap (sets was at) o))

  pub digit_some : (e ≡ 0 → ⊥) → (w : ℕ) → w ≡ v * 2 ^ k + e → (len + 1 ≡ at + length (one_digit k e at from v)) × (set t len (step len (e - 1) w) ≡ sets was at (one_digit k e at from v))
  digit_some z w ew =
      let ds : List Step = doubles (2 ^ k) k at from v in
      let x : Step = step len (e - 1) w in
      let o : one_digit k e at from v ≡ ds ++ x ∷ [] = one_some k e at from v z ∙ rw (count, ew) refl in (
        omega (arith, ap length o, length_push ds x),
        ap (λ (y : List Step). set y len x) table ∙ ap (λ (y : ℕ). set (sets was at ds) y x) count ∙ sym (sets_append was at ds (x ∷ [])) ∙ sym (ap (sets was at) o),
      )

-- what the loop keeps, where the digits below `place` are left: with their steps the table is the whole one, and the steps are so many in all
pub record Turning (k n place : ℕ) (t : List Step) (len from v : ℕ) (whole : List Step) (total : ℕ) : Type 0 where
  pub table : sets t len (digits_from k n place len from v) ≡ whole
  pub count : len + length (digits_from k n place len from v) ≡ total
  pub room : len + (k + 1) * place ≤ 124
  pub positive : 1 ≤ v
  pub value : v ≡ n / 2 ^ (place * k)
  pub shift : place * k ≤ 62

-- a turn, where the number of digits goes by another name
digits_by : (k n m p at from v at1 : ℕ) → m ≡ 2 ^ k → at1 ≡ at + length (one_digit k (n / 2 ^ (p * k) % m) at from v) → digits_from k n (suc p) at from v ≡ one_digit k (n / 2 ^ (p * k) % m) at from v ++ digits_from k n p at1 at1 (v * m + n / 2 ^ (p * k) % m)
digits_by k n m p at from v at1 is =
    subst (λ (x : ℕ). at1 ≡ at + length (one_digit k (n / 2 ^ (p * k) % x) at from v) → digits_from k n (suc p) at from v ≡ one_digit k (n / 2 ^ (p * k) % x) at from v ++ digits_from k n p at1 at1 (v * x + n / 2 ^ (p * k) % x))
    (sym is) (digits_here k n p at from v at1)

-- what a turn can count on, e being its digit
pub record Turn (k n len v e : ℕ) : Type 0 where
  pub digit : e < 2 ^ k
  pub within : v * 2 ^ k + e ≤ n
  pub room : len + k < 124

module _ {k n m place : ℕ} {t : List Step} {len from v : ℕ} {whole : List Step} {total : ℕ} (is : m ≡ 2 ^ k) (more : 0 < place) (g : Turning k n place t len from v whole total) where
  abbrev here : ℕ
  here = n / 2 ^ ((place - 1) * k) % m

  down : place ≡ suc (place - 1)
  down = omega arith

  digit_is : here ≡ digit k n (place - 1)
  digit_is = ap (λ (x : ℕ). n / 2 ^ ((place - 1) * k) % x) is

  value_is : n / 2 ^ ((place - 1) * k) ≡ v * 2 ^ k + here
  value_is =
      value_digit k n (place - 1)
      ∙ ap (λ (x : ℕ). x * 2 ^ k + digit k n (place - 1)) (ap (λ (x : ℕ). n / 2 ^ (x * k)) (sym down) ∙ sym g.value)
      ∙ ap (λ (x : ℕ). v * 2 ^ k + x) (sym digit_is)

  room_is : (k + 1) * place ≡ (k + 1) * (place - 1) + (k + 1)
  room_is = ap (λ (x : ℕ). (k + 1) * x) down ∙ mul-suc (k + 1) (place - 1)

  pub turn : Turn k n len v here
  turn =
      record {
        digit = omega (arith, digit_is, digit_below k n (place - 1));
        within = omega (arith, value_is, shr_le n ((place - 1) * k));
        room = omega (arith, g.room, room_is);
      }

  pub turned : (t1 : List Step) (len1 number1 v1 : ℕ) → t1 ≡ sets t len (one_digit k here len from v) → len1 ≡ len + length (one_digit k here len from v) → number1 ≡ len1 → v1 ≡ v * 2 ^ k + here → Turning k n (place - 1) t1 len1 number1 v1 whole total
  turned t1 len1 number1 v1 et el en ev =
      let one : List Step = one_digit k here len from v in
      let rest : List Step = digits_from k n (place - 1) len1 len1 (v * 2 ^ k + here) in
      let w : v * m + here ≡ v * 2 ^ k + here = ap (λ (x : ℕ). v * x + here) is in
      let e : digits_from k n place len from v ≡ one ++ rest =
      ap (λ (x : ℕ). digits_from k n x len from v) down ∙ digits_by k n m (place - 1) len from v len1 is el ∙ ap (λ (x : ℕ). one ++ digits_from k n (place - 1) len1 len1 x) w in
      let a : length one ≤ k + 1 = one_at_most k here len from v in
      let b : v * 1 ≤ v * 2 ^ k = mul-le-mul_left v (pow_pos k) in
      let c : place * k ≡ (place - 1) * k + k = ap (λ (x : ℕ). x * k) down ∙ suc-mul (place - 1) k in
      rw (en, ev)
      record {
        table = ap (λ (x : List Step). sets x len1 rest) et ∙ ap (λ (x : ℕ). sets (sets t len one) x rest) el ∙ sym (sets_append t len one rest) ∙ sym (ap (sets t len) e) ∙ g.table;
        count = omega (arith, g.count, ap length e, length-append one rest);
        room = omega (arith, g.room, room_is);
        positive = omega (arith, g.positive, mul-one v);
        value = sym value_is;
        shift = omega (arith, g.shift);
      }

-- the room for all the digits
room_all : (k t : ℕ) → 1 ≤ k → k ≤ 5 → t * k ≤ 62 → 2 ^ k - 2 + (k + 1) * t ≤ 124
room_all zero t a b h = absurd (let no : ⊥ = omega arith in no)
room_all (suc zero) t a b h = omega arith
room_all (suc (suc zero)) t a b h = omega arith
room_all (suc (suc (suc zero))) t a b h = omega arith
room_all (suc (suc (suc (suc zero)))) t a b h = omega arith
room_all (suc (suc (suc (suc (suc zero))))) t a b h = omega arith
room_all (suc (suc (suc (suc (suc (suc k)))))) t a b h = absurd (let no : ⊥ = omega arith in no)

-- The loop begins after the list up to m - 1, at the top digit.
pub record Listed (k n m : ℕ) (was t : List Step) (len place : ℕ) : Type 0 where
  pub is : m ≡ 2 ^ k
  pub above : m ≤ n
  pub table : t ≡ sets was 0 (count_from (m - 1 - 1) 0)
  pub count : len ≡ m - 1 - 1
  pub top : place ≡ lower k n

pub listed : {k n m : ℕ} {was t : List Step} {len high : ℕ} → m ≡ 2 ^ k → m ≤ n → t ≡ sets was 0 (count_from (m - 1 - 1) 0) → len ≡ m - 1 - 1 → high < 64 → 2 ^ high ≤ n → n < 2 * 2 ^ high → Listed k n m was t len (high / k)
listed {k} {n} {m} {was} {t} {len} {high} is above table count b l h = record { is = is; above = above; table = table; count = count; top = ap (λ (x : ℕ). x / k) (sym (top_is high n l h)) }

module _ {k n m : ℕ} {was t : List Step} {len place : ℕ} (l : Listed k n m was t len place) where
  abbrev from : ℕ → ℕ → List Step
  from p at = digits_from k n p at (n / 2 ^ (p * k) - 1) (n / 2 ^ (p * k))

  above : 2 ^ k ≤ n
  above = omega (arith, l.is, l.above)

  len_is : len ≡ 2 ^ k - 2
  len_is = omega (arith, l.is, l.count)

  list_is : t ≡ sets was 0 (count_from len 0)
  list_is = l.table ∙ ap (λ (x : ℕ). sets was 0 (count_from x 0)) (sym l.count)

  plan_is : digits_plan k n ≡ count_from len 0 ++ from place len
  plan_is =
      plan_high k n above
      ∙ ap (λ (x : ℕ). count_from x 0 ++ from (lower k n) x) (sym len_is)
      ∙ ap (λ (x : ℕ). count_from len 0 ++ from x len) (sym l.top)

  -- the list and the steps of all the digits are the plan
  pub listed_table : sets t len (from place len) ≡ sets was 0 (digits_plan k n)
  listed_table =
      let e : len ≡ 0 + length (count_from len 0) = omega (arith, count_length len 0) in
      ap (λ (x : List Step). sets x len (from place len)) list_is
      ∙ ap (λ (x : ℕ). sets (sets was 0 (count_from len 0)) x (from place len)) e
      ∙ sym (sets_append was 0 (count_from len 0) (from place len))
      ∙ ap (sets was 0) (sym plan_is)

  pub listed_count : len + length (from place len) ≡ length (digits_plan k n)
  listed_count = omega (arith, ap length plan_is, length-append (count_from len 0) (from place len), count_length len 0)

  pub top_positive : 1 ≤ k → n < 2 ^ 63 → 1 ≤ n / 2 ^ (place * k)
  top_positive a c = subst (λ (x : ℕ). 1 ≤ n / 2 ^ (x * k)) (sym l.top) (the_top k n a above c).positive

  pub top_small : 1 ≤ k → n < 2 ^ 63 → n / 2 ^ (place * k) < 2 ^ k
  top_small a c = subst (λ (x : ℕ). n / 2 ^ (x * k) < 2 ^ k) (sym l.top) (the_top k n a above c).below

  pub turning_first : 1 ≤ k → k ≤ 5 → n < 2 ^ 63 → Turning k n place t len (n / 2 ^ (place * k) - 1) (n / 2 ^ (place * k)) (sets t len (from place len)) (len + length (from place len))
  turning_first a b c =
      let y = the_top k n a above c in
      let tb : top n ≤ 62 = top_below (top n) n (top_low n (omega (arith, above, pow_pos k))) c in
      let p : place * k ≡ lower k n * k = ap (λ (x : ℕ). x * k) l.top in
      let v : n / 2 ^ (place * k) ≡ leading k n = ap (λ (x : ℕ). n / 2 ^ x) p in
      record {
        table = refl;
        count = refl;
        room = omega (arith, len_is, room_all k place a b (omega (arith, y.within)));
        positive = top_positive a c;
        value = refl;
        shift = omega (arith, y.within);
      }

-- after the last turn
pub turning_last : {k n place : ℕ} {t : List Step} {len from v : ℕ} {whole : List Step} {total : ℕ} → place ≡ 0 → Turning k n place t len from v whole total → (t ≡ whole) × (len ≡ total)
turning_last {k} {n} {place} {t} {len} {from} {v} z g =
    let e : digits_from k n place len from v ≡ [] = ap (λ (x : ℕ). digits_from k n x len from v) z ∙ digits_end k n len from v in
    (sym (ap (sets t len) e) ∙ g.table, omega (arith, g.count, ap length e))

-- an exponent below m, whose plan is the list up to it
pub counted_only : (k n : ℕ) (was : List Step) {t : List Step} {len : ℕ} → n < 2 ^ k → len ≡ n - 1 → t ≡ sets was 0 (count_from (n - 1) 0) → (len ≡ length (digits_plan k n)) × (t ≡ sets was 0 (digits_plan k n))
counted_only k n was {t} {len} h c e =
    let p = plan_low k n h in
    (omega (arith, ap length p, count_length (n - 1) 0), e ∙ sym (ap (sets was 0) p))
