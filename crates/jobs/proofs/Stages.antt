-- A sheet, stage by stage, whatever is done with its steps in the last. Assumes nothing.
use Rattle.std.proofs.Common.{◌≡◌, ℕ, ◌≤◌, List, length, take, drop, Ok, Err, Option, Result, sym, refl, ap, ◌∙◌, subst, arith, length-append, MatchOption, MatchResult}
use lib.Seq.{take-append_seam}
use Rattle.refusals.specs.declared.refusal.Refusal.{Refusal}
use Rattle.refusals.specs.Faults.{and_then, Unchanged}
use Rattle.plans.specs.declared.step.Step.{Step}
use Rattle.plans.specs.Admission.{admission}
use Rattle.sheets.specs.Reading.{counted, filled}
use Rattle.jobs.specs.declared.stage.Stage.{Stage}
use Rattle.jobs.specs.declared.stage.Stage.TheVariants.{Reading, Admission, Running}
use Rattle.jobs.specs.declared.job_refusal.JobRefusal.{JobRefusal}
use Rattle.jobs.specs.Jobs.{staged, through_stages, if_admitted, job_plan}

-- a stage that hands something on was not refused
staged_ok : {X : Type 0} (g : Stage) (r : Result X Refusal) (x : X) → Ok x ≡ staged g r → r ≡ Ok x
staged_ok g (Ok y) x h = cc
staged_ok g (Err e) x h = cc

-- a stage's refusal is the stage's own
staged_err : {X : Type 0} (g : Stage) (r : Result X Refusal) (e : JobRefusal) → Err e ≡ staged g r → (f : Refusal) × (r ≡ Err f) × (e ≡ record { stage = g; refusal = f })
staged_err g (Ok y) e h = absurd (let z : ◌≡◌ {A = ℕ} 0 1 = cc in omega arith)
staged_err g (Err f) e h = (f, refl, cc)

-- what is said of an answer that was handed on
pub on_ok : {X : Type 0} (g : Stage) (r : Result X Refusal) (x : X) (P : X → Type 0) (Q : Refusal → Type 0) → Ok x ≡ staged g r → MatchResult r P Q → P x
on_ok {X} g r x P Q h told = subst (λ (z : Result X Refusal). MatchResult z P Q) (staged_ok g r x h) told

-- what reading left in a table that held `old` before
filled_is : (ss old : List Step) → (take (length ss) (filled (Ok ss) old) ≡ ss) × (length ss ≤ length (filled (Ok ss) old))
filled_is ss old = (take-append_seam ss (drop (length ss) old), simp length-append (omega arith))

-- what was read of a sheet that handed on the number k
read_steps : (sheet : Result (List Step) Refusal) (k : ℕ) → counted sheet ≡ Ok k → (ss : List Step) × (sheet ≡ Ok ss) × (k ≡ length ss)
read_steps (Ok ss) k h = (ss, refl, cc)
read_steps (Err e) k h = absurd (let z : ◌≡◌ {A = ℕ} 0 1 = cc in omega arith)

-- the reading of `own`, which is the sheet: it answered a, handed on the number k, and left the table `new`
module _ (sheet own : Result (List Step) Refusal) (same : own ≡ sheet) (old new : List Step) (a : Result ℕ Refusal) (k : ℕ)
    (said : a ≡ counted own) (on : Ok k ≡ staged Reading a) (after : new ≡ filled own old) where
  found : (ss : List Step) × (sheet ≡ Ok ss) × (k ≡ length ss)
  found = read_steps sheet k (sym (said ∙ ap counted same) ∙ staged_ok Reading a k on)

  pub read_left : new ≡ filled sheet old
  read_left = after ∙ ap (λ (r : Result (List Step) Refusal). filled r old) same

  left_is : new ≡ filled (Ok found.0) old
  left_is = read_left ∙ ap (λ (r : Result (List Step) Refusal). filled r old) found.1

  -- the steps lie in front
  pub read_is : sheet ≡ Ok (take k new)
  read_is =
      let front : take (length found.0) new ≡ found.0 = ap (take (length found.0)) left_is ∙ (filled_is found.0 old).0 in
      found.1 ∙ ap Ok (sym front) ∙ ap (λ (n : ℕ). Ok (take n new)) (sym found.2)

  pub read_fits : k ≤ length new
  read_fits =
      let long : length found.0 ≤ length new = subst (λ (l : List Step). length found.0 ≤ length l) (sym left_is) (filled_is found.0 old).1 in
      omega (arith, found.2)

-- reading answered a, which is a refusal: no plan comes to the third stage
module _ (sheet : Result (List Step) Refusal) (n : ℕ) (a : Result ℕ Refusal) (e : JobRefusal) (said : a ≡ counted sheet) (stopped : Err e ≡ staged Reading a) where
  counted_err : (r : Result (List Step) Refusal) (f : Refusal) → counted r ≡ Err f → r ≡ Err f
  counted_err (Ok ss) f h = absurd (let z : ◌≡◌ {A = ℕ} 0 1 = cc in omega arith)
  counted_err (Err d) f h = cc

  unread : (f : Refusal) × (sheet ≡ Err f) × (e ≡ record { stage = Reading; refusal = f })
  unread = let f = staged_err Reading a e stopped in (f.0, counted_err sheet f.0 (sym said ∙ f.1), f.2)

  pub unread_answer : {Y : Type 0} (work : List Step → Result Y Refusal) → Err e ≡ through_stages sheet n work
  unread_answer {Y} work =
      let own : JobRefusal → Result Y JobRefusal = λ d. Err d in
      ap own unread.2 ∙ sym (ap (λ (r : Result (List Step) Refusal). through_stages r n work) unread.1)

  pub unread_after : (P : Type 0) (Q : List Step → Type 0) → P → MatchOption (job_plan sheet n) P Q
  unread_after P Q h =
      subst (λ (p : Option (List Step)). MatchOption p P Q) (sym (ap (λ (r : Result (List Step) Refusal). job_plan r n) unread.1)) h

-- the steps are read, and v, which is the admission's answer, has what was made of them
module _ {A : Type 0} (sheet : Result (List Step) Refusal) (n : ℕ) (steps : List Step) (is : sheet ≡ Ok steps) (v : Result A Refusal)
    (said : MatchResult v (λ _. admission n steps ≡ Ok tt) (λ e. admission n steps ≡ Err e)) where
  answer_is : {Y : Type 0} (w : Result (Unit {0}) Refusal) → admission n steps ≡ w → (work : List Step → Result Y Refusal)
      → through_stages sheet n work ≡ and_then (staged Admission w) (λ _. staged Running (work steps))
  answer_is w h work =
      ap (λ (r : Result (List Step) Refusal). through_stages r n work) is
      ∙ ap (λ (z : Result (Unit {0}) Refusal). and_then (staged Admission z) (λ _. staged Running (work steps))) h

  plan_is : (w : Result (Unit {0}) Refusal) → admission n steps ≡ w → job_plan sheet n ≡ if_admitted w steps
  plan_is w h = ap (λ (r : Result (List Step) Refusal). job_plan r n) is ∙ ap (λ (z : Result (Unit {0}) Refusal). if_admitted z steps) h

  -- admission refused: no plan comes to the third stage
  module _ (e : JobRefusal) (stopped : Err e ≡ staged Admission v) where
    fault : (f : Refusal) × (admission n steps ≡ Err f) × (e ≡ record { stage = Admission; refusal = f })
    fault =
        let f = staged_err Admission v e stopped in
        (f.0, subst (λ (z : Result A Refusal). MatchResult z (λ _. admission n steps ≡ Ok tt) (λ d. admission n steps ≡ Err d)) f.1 said, f.2)

    pub stopped_answer : {Y : Type 0} (work : List Step → Result Y Refusal) → Err e ≡ through_stages sheet n work
    stopped_answer {Y} work =
        let own : JobRefusal → Result Y JobRefusal = λ d. Err d in
        ap own fault.2 ∙ sym (answer_is (Err fault.0) fault.1 work)

    pub stopped_after : (P : Type 0) (Q : List Step → Type 0) → P → MatchOption (job_plan sheet n) P Q
    stopped_after P Q h = subst (λ (p : Option (List Step)). MatchOption p P Q) (sym (plan_is (Err fault.0) fault.1)) h

  -- admission passed: the plan comes to the third stage, which answered r
  module _ (u : A) (passed : Ok u ≡ staged Admission v) where
    fine : admission n steps ≡ Ok tt
    fine = on_ok Admission v u (λ _. admission n steps ≡ Ok tt) (λ d. admission n steps ≡ Err d) passed said

    pub worked_answer : {Y : Type 0} (work : List Step → Result Y Refusal) (r : Result Y Refusal) (w : Result Y JobRefusal) → r ≡ work steps → w ≡ staged Running r → w ≡ through_stages sheet n work
    worked_answer work r w did told = told ∙ ap (staged Running) did ∙ sym (answer_is (Ok tt) fine work)

    pub worked_after : (P : Type 0) (Q : List Step → Type 0) → Q steps → MatchOption (job_plan sheet n) P Q
    worked_after P Q h = subst (λ (p : Option (List Step)). MatchOption p P Q) (sym (plan_is (Ok tt) fine)) h

-- what a refused run kept, a refused job kept
pub kept_on : {X A : Type 0} (g : Stage) (r : Result X Refusal) (w : Result X JobRefusal) (old new : A) → w ≡ staged g r → Unchanged r old new → Unchanged w old new
kept_on {X} {A} g r w old new told h =
    subst (λ (z : Result X JobRefusal). Unchanged z old new) (sym told)
    (elim r as (λ q. Unchanged q old new → Unchanged (staged g q) old new) [ Ok y ↦ λ p. p | Err e ↦ λ p. p ] h)

-- what holds of the plan that was admitted holds of n and the steps
pub as_asked : (F : ℕ → List Step → Type 0) (k n : ℕ) (part steps : List Step) → k ≡ n → part ≡ steps → F k part → F n steps
as_asked F k n part steps size same h = subst (F n) same (subst (λ (z : ℕ). F z part) size h)
