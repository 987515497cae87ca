-- The doublings for a digit: as the loop writes them, their number, and the chain that they go on. Assumes nothing.
use Rattle.std.proofs.Common.{◌≡◌, ℕ, zero, suc, ◌+◌, ◌-◌, ◌*◌, ◌^◌, ◌<◌, ◌≤◌, true, false, ltb, List, [], ◌∷◌, ◌++◌, length, set, sym, refl, ap, ◌∙◌, subst, ⊎_elim, append_assoc, append-nil, mul_assoc, add-mul, mul-le-mul_left, mul-le-mul_right, one-mul, pow-suc, mul-one, add-one, arith, pow_pos, pow_mono}
use lib.Seq.{sets}
use Rattle.std.proofs.lemmas.Bool.{lt-ltb, le-ltb, cases_lt}
use Rattle.plans.specs.declared.step.Step.{Step}
use Rattle.plans.specs.Chain.{value_at}
use Rattle.planning.specs.Planning.{step}
use Rattle.planning.proofs.Pushing.{Grown, push}
use Rattle.digit_plans.specs.Digits.{doubles}

pub doubles_end : (m at from v : ℕ) → doubles m 0 at from v ≡ []
unfolding doubles
doubles_end m at from v = refl

pub doubles_low : (m i at from v : ℕ) → v + v < m → doubles m (suc i) at from v ≡ doubles m i at (v + v - 1) (v + v)
unfolding doubles
doubles_low m i at from v h = let t : ltb (v + v) m ≡ true = lt-ltb _ _ h in rw t refl

pub doubles_high : (m i at from v : ℕ) → m ≤ v + v → doubles m (suc i) at from v ≡ step from from (v + v) ∷ doubles m i (at + 1) (at + 1) (v + v)
unfolding doubles
doubles_high m i at from v h = let t : ltb (v + v) m ≡ false = le-ltb _ _ h in rw t refl

pub double_value : (v i : ℕ) → v * 2 ^ suc i ≡ (v + v) * 2 ^ i
double_value v i =
    let a : v * 2 ^ suc i ≡ v * (2 ^ i * 2) = ap (λ (x : ℕ). v * x) (pow-suc 2 i) in
    let b : v * (2 ^ i * 2) ≡ v * 2 ^ i * 2 = sym (mul_assoc v (2 ^ i) 2) in
    omega (arith, add-mul v v (2 ^ i))

-- What the loop keeps: with the doublings that are left the table is the whole one, and the steps are as many.
pub record Doubling (width value from at : ℕ) (was : List Step) (i : ℕ) (t : List Step) (len source v : ℕ) : Type 0 where
  pub table : sets t len (doubles (2 ^ width) (width - i) len source v) ≡ sets was at (doubles (2 ^ width) width at from value)
  pub count : len + length (doubles (2 ^ width) (width - i) len source v) ≡ at + length (doubles (2 ^ width) width at from value)
  pub most : len ≤ at + i
  pub last : 1 ≤ i → 2 ^ width ≤ v → source ≡ len
  pub positive : 1 ≤ v
  pub whole : v * 2 ^ (width - i) ≡ value * 2 ^ width

pub at_most_times : (v i : ℕ) → v ≤ v * 2 ^ i
at_most_times v i = let p = pow_pos i in let a : v * 1 ≤ v * 2 ^ i = mul-le-mul_left v p in omega (arith, mul-one v)

module _ {width value from at : ℕ} {was : List Step} {i : ℕ} {t : List Step} {len source v : ℕ} (more : i < width) (g : Doubling width value from at was i t len source v) where
  left_is : width - i ≡ suc (width - (i + 1))
  left_is = omega arith

  value_is : (v + v) * 2 ^ (width - (i + 1)) ≡ value * 2 ^ width
  value_is = sym (double_value v (width - (i + 1))) ∙ ap (λ (x : ℕ). v * 2 ^ x) (sym left_is) ∙ g.whole

  pub doubling_low : (t1 : List Step) (len1 s1 v1 : ℕ) → t1 ≡ t → len1 ≡ len → s1 ≡ v + v - 1 → v1 ≡ v + v → v + v < 2 ^ width → Doubling width value from at was (i + 1) t1 len1 s1 v1
  doubling_low t1 len1 s1 v1 et el es ev h =
      let d : doubles (2 ^ width) (width - i) len source v ≡ doubles (2 ^ width) (width - (i + 1)) len (v + v - 1) (v + v) =
      ap (λ (x : ℕ). doubles (2 ^ width) x len source v) left_is ∙ doubles_low (2 ^ width) (width - (i + 1)) len source v h in
      rw (et, el, es, ev)
      record {
        table = sym (ap (sets t len) d) ∙ g.table;
        count = omega (arith, ap length d, g.count);
        most = omega (arith, g.most);
        last = λ _ b. absurd (let no : ⊥ = omega arith in no);
        positive = omega (arith, g.positive);
        whole = value_is;
      }

  pub doubling_high : (t1 : List Step) (len1 s1 v1 : ℕ) → t1 ≡ set t len (step source source (v + v)) → len1 ≡ len + 1 → s1 ≡ len + 1 → v1 ≡ v + v → 2 ^ width ≤ v + v → Doubling width value from at was (i + 1) t1 len1 s1 v1
  doubling_high t1 len1 s1 v1 et el es ev h =
      let x : Step = step source source (v + v) in
      let rest : List Step = doubles (2 ^ width) (width - (i + 1)) (len + 1) (len + 1) (v + v) in
      let d : doubles (2 ^ width) (width - i) len source v ≡ x ∷ rest =
      ap (λ (x : ℕ). doubles (2 ^ width) x len source v) left_is ∙ doubles_high (2 ^ width) (width - (i + 1)) len source v h in
      rw (et, el, es, ev)
      record {
        table = ap (λ (k : ℕ). sets (set t len x) k rest) (add-one len) ∙ sym (ap (sets t len) d) ∙ g.table;
        count = omega (arith, ap length d, g.count);
        most = omega (arith, g.most);
        last = λ _ _. refl;
        positive = omega (arith, g.positive);
        whole = value_is;
      }

-- after the last doubling the table holds them all, and the value that they make is the last one
pub record Doubled (width value from at : ℕ) (was t : List Step) (len source v : ℕ) : Type 0 where
  pub count : len ≡ at + length (doubles (2 ^ width) width at from value)
  pub after : t ≡ sets was at (doubles (2 ^ width) width at from value)
  pub number : source ≡ len
  pub made : v ≡ value * 2 ^ width

pub doubling_done : {width value from at : ℕ} {was : List Step} {i : ℕ} {t : List Step} {len source v : ℕ} → 1 ≤ width → 1 ≤ value → width ≤ i → Doubling width value from at was i t len source v → Doubled width value from at was t len source v
doubling_done {width} {value} {from} {at} {was} {i} {t} {len} {source} {v} some positive h g =
    let e : width - i ≡ 0 = omega arith in
    let d : doubles (2 ^ width) (width - i) len source v ≡ [] = ap (λ (x : ℕ). doubles (2 ^ width) x len source v) e ∙ doubles_end (2 ^ width) len source v in
    let w : v ≡ value * 2 ^ width = sym (mul-one v) ∙ ap (λ (x : ℕ). v * 2 ^ x) (sym e) ∙ g.whole in
    let l : 1 * 2 ^ width ≤ value * 2 ^ width = mul-le-mul_right (2 ^ width) positive in
    record {
      count = omega (arith, ap length d, g.count);
      after = sym (ap (sets t len) d) ∙ g.table;
      number = g.last (omega arith) (omega (arith, one-mul (2 ^ width)));
      made = w;
    }

-- how many of the doublings are steps
pub length_all : (m i at from v : ℕ) → m ≤ v + v → length (doubles m i at from v) ≡ i
length_all m zero at from v h = ap length (doubles_end m at from v)
length_all m (suc i) at from v h = omega (arith, ap length (doubles_high m i at from v h), length_all m i (at + 1) (at + 1) (v + v) (omega arith))

pub length_at_most : (m i at from v : ℕ) → length (doubles m i at from v) ≤ i
length_at_most m zero at from v = omega (arith, ap length (doubles_end m at from v))
length_at_most m (suc i) at from v =
    ⊎_elim
    (λ (h : v + v < m). omega (arith, ap length (doubles_low m i at from v h), length_at_most m i at (v + v - 1) (v + v)))
    (λ (h : m ≤ v + v). omega (arith, ap length (doubles_high m i at from v h), length_at_most m i (at + 1) (at + 1) (v + v)))
    (cases_lt (v + v) m)

-- from a value whose top is a, k - 1 - a doublings are no steps
pub length_top : (k i at from v a : ℕ) → 2 ^ a ≤ v → v < 2 * 2 ^ a → a < k → k ≤ a + 1 + i → length (doubles (2 ^ k) i at from v) + (k - 1 - a) ≡ i
length_top k zero at from v a low high s l = omega (arith, ap length (doubles_end (2 ^ k) at from v))
length_top k (suc i) at from v a low high s l =
    let p = pow-suc 2 a in
    ⊎_elim
    (λ (e : suc a < k).
    let q : 2 ^ suc (suc a) ≤ 2 ^ k = pow_mono e in
    let q2 = pow-suc 2 (suc a) in
    let h : v + v < 2 ^ k = omega arith in
    omega (arith, ap length (doubles_low (2 ^ k) i at from v h), length_top k i at (v + v - 1) (v + v) (suc a) (omega arith) (omega arith) e (omega arith)))
    (λ (e : k ≤ suc a).
    let q : 2 ^ k ≤ 2 ^ suc a = pow_mono e in
    omega (arith, length_all (2 ^ k) (suc i) at from v (omega arith)))
    (cases_lt (suc a) k)

-- what the doublings keep: v is the value number `from`, and it is the last one unless it is below m
pub record Ready (n m : ℕ) (p : List Step) (at from v : ℕ) : Type 0 where
  pub grown : Grown n p at
  pub list : (e : ℕ) → e + 2 ≤ m → value_at p e ≡ e + 1
  pub long : m ≤ at + 2
  pub before : from ≤ at
  pub source : value_at p from ≡ v
  pub positive : 1 ≤ v
  pub low : v < m → value_at p at < m
  pub high : m ≤ v → value_at p at ≡ v

pub ready_as : {n m : ℕ} {p q : List Step} {at at1 from from1 v w : ℕ} → p ≡ q → at ≡ at1 → from ≡ from1 → v ≡ w → Ready n m p at from v → Ready n m q at1 from1 w
ready_as {n} {m} {p} {q} {at} {at1} {from} {from1} {v} {w} ep ea ef ev r =
    subst (λ (x : List Step). Ready n m x at1 from1 w) ep
    (subst (λ (x : ℕ). Ready n m p x from1 w) ea
    (subst (λ (x : ℕ). Ready n m p at x w) ef (subst (Ready n m p at from) ev r)))

-- a step from the last value, or to a value of at least m, leaves v last
pub ready_push : (n m : ℕ) (p : List Step) (at from v j k w : ℕ) → Ready n m p at from v → k ≤ j → j ≤ at → w ≡ value_at p j + value_at p k → value_at p at < w → w ≤ n → m ≤ w → Ready n m (p ++ step j k w ∷ []) (at + 1) (at + 1) w
ready_push n m p at from v j k w r o e s u b l =
    let q = push n p at j k w r.grown o e s u b in
    let long = r.long in
    let positive = r.positive in
    record {
      grown = q.grown;
      list = λ e h. q.kept e (omega arith) ∙ r.list e h;
      long = omega arith;
      before = omega arith;
      source = q.here;
      positive = omega arith;
      low = λ h. absurd (let no : ⊥ = omega arith in no);
      high = λ _. q.here;
    }

pub ready_doubles : (n m i at from v : ℕ) (p : List Step) → v * 2 ^ i ≤ n → m ≤ v * 2 ^ i → Ready n m p at from v → Ready n m (p ++ doubles m i at from v) (at + length (doubles m i at from v)) (at + length (doubles m i at from v)) (v * 2 ^ i)
ready_doubles n m zero at from v p h l r =
    let one : v * 2 ^ 0 ≡ v = mul-one v in
    let d = doubles_end m at from v in
    let a : at ≡ at + length (doubles m 0 at from v) = omega (arith, ap length d) in
    let last : value_at p at ≡ v = r.high (omega arith) in
    let s : Ready n m p at at v = record { grown = r.grown; list = r.list; long = r.long; before = omega arith; source = last; positive = r.positive; low = r.low; high = r.high } in
    ready_as (sym (append-nil p) ∙ ap (λ (x : List Step). p ++ x) (sym d)) a a (sym one) s
ready_doubles n m (suc i) at from v p h l r =
    let dv = double_value v i in
    let big = at_most_times (v + v) i in
    let long = r.long in
    let positive = r.positive in
    let before = r.before in
    let source = r.source in
    ⊎_elim
    (λ (k : v + v < m).
    let d = doubles_low m i at from v k in
    let s : Ready n m p at (v + v - 1) (v + v) =
    record {
      grown = r.grown;
      list = r.list;
      long = long;
      before = omega arith;
      source = r.list (v + v - 1) (omega arith) ∙ (let y : v + v - 1 + 1 ≡ v + v = omega arith in y);
      positive = omega arith;
      low = λ _. r.low (omega arith);
      high = λ b. absurd (let no : ⊥ = omega arith in no);
    } in
    let t = ready_doubles n m i at (v + v - 1) (v + v) p (omega arith) (omega arith) s in
    let a : at + length (doubles m i at (v + v - 1) (v + v)) ≡ at + length (doubles m (suc i) at from v) = omega (arith, ap length d) in
    ready_as (ap (λ (x : List Step). p ++ x) (sym d)) a a (sym dv) t)
    (λ (k : m ≤ v + v).
    let d = doubles_high m i at from v k in
    let x : Step = step from from (v + v) in
    let rise : value_at p at < v + v = ⊎_elim (λ (b : v < m). omega (arith, r.low b)) (λ (b : m ≤ v). omega (arith, r.high b)) (cases_lt v m) in
    let s = ready_push n m p at from v from from (v + v) r (omega arith) before (omega arith) rise (omega arith) k in
    let t = ready_doubles n m i (at + 1) (at + 1) (v + v) (p ++ x ∷ []) (omega arith) (omega arith) s in
    let a : at + 1 + length (doubles m i (at + 1) (at + 1) (v + v)) ≡ at + length (doubles m (suc i) at from v) = omega (arith, ap length d) in
    ready_as (append_assoc p (x ∷ []) (doubles m i (at + 1) (at + 1) (v + v)) ∙ ap (λ (x : List Step). p ++ x) (sym d)) a a (sym dv) t)
    (cases_lt (v + v) m)
