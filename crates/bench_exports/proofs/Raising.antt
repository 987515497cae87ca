-- A power by a straight run of a chain. Assumes nothing.
use Rattle.std.proofs.Common.{◌≡◌, ℕ, ◌+◌, ◌^◌, ◌≤◌, Bool, true, false, leb, List, ◌++◌, length, get_or, drop, IsErrAnd, Ok, Err, Result, sym, refl, ap, ◌∙◌, arith}
use Rattle.std.proofs.lemmas.Bool.{le-leb, lt-ltb}
use Rattle.std.proofs.lemmas.List.{get_or_append_left, get_or-map}
use Rattle.refusals.specs.declared.refusal.Refusal.{Refusal}
use Rattle.refusals.specs.declared.refusal.Refusal.TheVariants.{NotNative, TableShort}
use Rattle.refusals.specs.Faults.{first, unless, verdict, settle, answer}
use Rattle.plans.specs.declared.step.Step.{Step}
use Rattle.plans.specs.Chain.{Chain, values}
use Rattle.kinds.specs.Powers.{power}
use Rattle.straight_runs.specs.Straight.{straight_answer, straight_after, straightened, powers_of}
use Rattle.straight_runs.proofs.Straight.{powers_length, values_length}
use Rattle.polynomials.specs.declared.word.Word.{Word}
use Rattle.polynomials.specs.Polynomials.{is_reduced, polynomials}
use Rattle.bench_exports.specs.Powers.{raised}

module _ (f : ℕ) (x : Word) (n : ℕ) (s : List Step) (chain : Chain n s) where
  -- the exponent of a chain passes, so that only the base is in question
  raised_by : raised f x n ≡ answer (unless (is_reduced f x) NotNative) (power (polynomials f) x n)
  raised_by = rw (le-leb 1 n chain.positive, lt-ltb n (2 ^ 63) chain.bounded) refl

  -- and so do 129 places
  answer_by : straight_answer (polynomials f) s x 129 ≡ verdict (unless (is_reduced f x) NotNative)
  answer_by = go (is_reduced f x)
    where
      go : (b : Bool) → verdict (first (unless b NotNative) (unless (leb (length s + 1) 129) (TableShort (length s + 1)))) ≡ verdict (unless b NotNative)
      go true = let h : length s + 1 ≤ 129 = omega (arith, chain.short) in rw (le-leb (length s + 1) 129 h) refl
      go false = refl

  pub raised_refused : (e : Refusal) (r : Result Word Refusal) → Err e ≡ straight_answer (polynomials f) s x 129 → IsErrAnd r (λ d. d ≡ e) → r ≡ raised f x n
  raised_refused e (Ok v) h k = absurd k
  raised_refused e (Err d) h k = ap Err k ∙ go (is_reduced f x) (h ∙ answer_by) ∙ sym raised_by
    where
      go : (b : Bool) → Err e ≡ verdict (unless b NotNative) → Err e ≡ answer (unless b NotNative) (power (polynomials f) x n)
      go true t = cc
      go false t = cc

  last_power : (d : Word) (was : List Word) → get_or (powers_of (polynomials f) s x ++ was) (length s) d ≡ power (polynomials f) x n
  last_power d was =
      get_or_append_left (powers_of (polynomials f) s x) was d (length s) (omega (arith, powers_length (polynomials f) s x))
      ∙ get_or-map (power (polynomials f) x) (values s) (length s) 0 d (omega (arith, values_length s))
      ∙ ap (power (polynomials f) x) chain.reaches

  pub raised_made : (len : ℕ) (d : Word) (was now : List Word) → len ≡ length s → length was ≡ 129 → Ok tt ≡ straight_answer (polynomials f) s x 129
      → now ≡ straight_after (polynomials f) s x was → Ok (get_or now len d) ≡ raised f x n
  raised_made len d was now e l h k = go (is_reduced f x) (h ∙ answer_by) k ∙ sym raised_by
    where
      go : (b : Bool) → Ok tt ≡ verdict (unless b NotNative)
          → now ≡ settle (first (unless b NotNative) (unless (leb (length s + 1) (length was)) (TableShort (length s + 1)))) was (straightened (polynomials f) s x was)
          → Ok (get_or now len d) ≡ answer (unless b NotNative) (power (polynomials f) x n)
      go false t u = cc
      go true t u =
          let h : length s + 1 ≤ length was = omega (arith, chain.short) in
          let v : now ≡ straightened (polynomials f) s x was = rw (le-leb (length s + 1) (length was) h) at u in
          ap Ok (ap (λ (i : ℕ). get_or now i d) e ∙ ap (λ (xs : List Word). get_or xs (length s) d) v ∙ last_power d (drop (length s + 1) was))
