-- The fault that admission answers is the first. Assumes nothing.
use Rattle.std.proofs.Common.{◌≡◌, ℕ, zero, suc, ◌+◌, ◌^◌, ◌<◌, ◌≤◌, ◌&&◌, eqb, ltb, leb, List, length, drop, IfErr, Ok, Err, sym, refl, ap, ◌∙◌, subst, inl, inr, ⊎_elim, arith}
use Rattle.std.proofs.lemmas.Bool.Decides.{nat_tests}
use Rattle.std.proofs.lemmas.Bool.{cond_both, cases_lt, eqb-true, eqb-false, leb-true, leb-false}
use Rattle.plans.specs.declared.step.Step.{Step}
use Rattle.plans.specs.Admission.{Answer, step_answer, then, answer_from, admission}
use Rattle.plans.specs.Chain.{step_at, value_at, CitesAt, SumsAt, RisesAt}
use Rattle.plans.specs.FirstFault.{Keeps, KeptBefore, FirstFault}
use Rattle.plans.proofs.Admissions.{kept_from_ok, answer_here, answer_end}

-- an answer that is a fault is the first
abbrev Faulty : ℕ → List Step → Answer → Type 0
Faulty n s r = IfErr r (λ e. FirstFault n s e)

other_faulty : (n : ℕ) (s : List Step) (x y : Answer) → Faulty n s x → (x ≡ Ok tt → Faulty n s y) → Faulty n s (then x y)
other_faulty n s (Ok u) y f g = g refl
other_faulty n s (Err e) y f g = f

keeps : (n : ℕ) (s : List Step) (i : ℕ) → step_answer n s i ≡ Ok tt → Keeps n s i
keeps n s i e =
    let k = kept_from_ok n s i e in
    record { cites = (k.ordered, k.earlier); sums = k.sum; rises = (k.rises, k.within) }

kept_more : (n : ℕ) (s : List Step) (i : ℕ) → KeptBefore n s i → Keeps n s i → KeptBefore n s (i + 1)
kept_more n s i b k = record {
  positive = b.positive;
  bounded = b.bounded;
  short = b.short;
  kept = λ m h. ⊎_elim (λ (l : m < i). b.kept m l) (λ (l : i ≤ m). let q : i ≡ m = omega arith in subst (Keeps n s) q k) (cases_lt m i);
}

-- a fault of step i + 1
step_faulty : (n : ℕ) (s : List Step) (i : ℕ) → KeptBefore n s i → i < length s → Faulty n s (step_answer n s i)
step_faulty n s i b h =
    cond_both (leb (step_at s i).k (step_at s i).j && leb (step_at s i).j i) _ _ (Faulty n s)
    (λ c.
    let cites : CitesAt s i = (grind (arith, nat_tests), grind (arith, nat_tests)) in
    cond_both (eqb (step_at s i).value (value_at s (step_at s i).j + value_at s (step_at s i).k)) _ _ (Faulty n s)
    (λ e.
    let sums : SumsAt s i = eqb-true _ _ e in
    cond_both (ltb (value_at s i) (step_at s i).value && leb (step_at s i).value n) _ _ (Faulty n s)
    (λ r. tt)
    (λ r. record { i = i; place = refl; there = h; before = b; broken = (cites, sums, (λ (k : RisesAt n s i). grind (arith, nat_tests))) }))
    (λ e. record { i = i; place = refl; there = h; before = b; broken = (cites, eqb-false _ _ e) }))
    (λ c. record { i = i; place = refl; there = h; before = b; broken = λ (k : CitesAt s i). grind (arith, nat_tests) })

-- a fault after the first i steps
from_faulty : (n : ℕ) (s : List Step) (d i : ℕ) → i + d ≡ length s → KeptBefore n s i → Faulty n s (answer_from n s i (drop i s))
from_faulty n s zero i q b =
    let w : i ≡ length s = omega arith in
    let all : KeptBefore n s (length s) = subst (KeptBefore n s) w b in
    subst (Faulty n s) (sym (ap (λ (x : ℕ). answer_from n s x (drop x s)) w ∙ answer_end n s))
    (cond_both (eqb (value_at s (length s)) n) _ _ (Faulty n s)
    (λ e. tt)
    (λ e. record { place = refl; before = all; misses = eqb-false _ _ e }))
from_faulty n s (suc d) i q b =
    let h : i < length s = omega arith in
    subst (Faulty n s) (sym (answer_here n s i h))
    (other_faulty n s (step_answer n s i) (answer_from n s (i + 1) (drop (i + 1) s)) (step_faulty n s i b h)
    (λ e. from_faulty n s d (i + 1) (omega arith) (kept_more n s i b (keeps n s i e))))

admission_faulty : (n : ℕ) (s : List Step) → Faulty n s (admission n s)
admission_faulty n s =
    cond_both (leb 1 n && ltb n (2 ^ 63)) _ _ (Faulty n s)
    (λ e.
    let low : 1 ≤ n = grind (arith, nat_tests) in
    let high : n < 2 ^ 63 = grind (arith, nat_tests) in
    cond_both (leb (length s) 128) _ _ (Faulty n s)
    (λ l. from_faulty n s (length s) 0 (omega arith) (record { positive = low; bounded = high; short = leb-true _ _ l; kept = λ m h. absurd (let no : ⊥ = omega arith in no) }))
    (λ l. (low, high, leb-false _ _ l)))
    (λ e. ⊎_elim (λ (l : n < 1). inl (omega arith)) (λ (l : 1 ≤ n). inr (grind (arith, nat_tests))) (cases_lt n 1))

-- an answer that is admission's
pub refused_first : (n : ℕ) (s : List Step) (r : Answer) → r ≡ admission n s → IfErr r (λ e. FirstFault n s e)
refused_first n s r e = subst (Faulty n s) (sym e) (admission_faulty n s)
