-- A list of calls: one more, and what each owes to the law. Assumes nothing.
use Rattle.std.proofs.Common.{◌≡◌, ℕ, zero, suc, ◌+◌, ◌<◌, ◌≤◌, List, [], ◌∷◌, ◌++◌, map, length, get_or, take, drop, set, Some, None, Ok, Err, Option, Result, sym, refl, ap, ◌∙◌, subst, le_of_suc-le-suc, not-suc-le-zero, add-one, length-set, le-leb}
use borrow.Author.Tests.{lt-leb}
use Rattle.std.specs.Option.{option_map}
use Rattle.refusals.specs.declared.refusal.Refusal.{Refusal}
use Rattle.refusals.specs.declared.refusal.Refusal.TheVariants.{TableShort}
use Rattle.refusals.specs.Faults.{settle, answer}
use Rattle.plans.specs.declared.step.Step.{Step}
use Rattle.plans.specs.Admission.{admission}
use Rattle.sheets.specs.Reading.{read_sheet}
use Rattle.kinds.specs.Kinds.{Meaning}
use Rattle.kinds.specs.Powers.{power}
use Rattle.units.specs.Units.{State, load_fault, loaded}
use Rattle.run_laws.specs.Runs.{run_fault}
use Rattle.run_laws.specs.Effects.{asked, Effect, InTurn, Law}
use Rattle.run_laws.proofs.Effected.{accepted_effect, refused_effect, plain_effect, still_effect}
use Rattle.run_laws.proofs.Lawful.{lawful}
use Rattle.runs.specs.declared.raised.Raised.{Raised}
use Rattle.runs.specs.Answers.{run_answer, Ran}
use Rattle.jobs.specs.declared.stage.Stage.{Stage}
use Rattle.jobs.specs.declared.stage.Stage.TheVariants.{Running}
use Rattle.calls.specs.declared.call.Call.{Call}
use Rattle.calls.specs.declared.act.Act.{Act}
use Rattle.calls.specs.declared.act.Act.TheVariants.{Load, Read, Run, Job}
use Rattle.calls.specs.declared.act.Answer.{Answer}
use Rattle.jobs.specs.Jobs.{staged, job_answer, if_admitted, job_plan, Jobbed}
use Rattle.calls.specs.Lists.{Bench, MadeBy, Made, Turn, turns, Performed, asks, handed_out, gives, event_of, events, list_answer}

-- the answer of a list of calls
pub list_short : (calls room : ℕ) → room < calls → Err (TableShort calls) ≡ list_answer calls room
list_short calls room h = simp (lt-leb calls room h)

pub list_made : (calls room : ℕ) → calls ≤ room → Ok tt ≡ list_answer calls room
list_made calls room h = simp (le-leb calls room h)

module _ {V : Type 0} where
  turns_suc : (cs : List (Call V)) (ys : List (Answer V)) (i : ℕ) (c : Call V) (a : Answer V) → i < length cs → i < length ys → c ≡ get_or cs i c
      → turns (take (suc i) cs) (set ys i a) ≡ turns (take i cs) ys ++ (record { call = c; answer = a } ∷ [])
  turns_suc [] ys i c a h k e = absurd (not-suc-le-zero h)
  turns_suc (x ∷ cs) [] i c a h k e = absurd (not-suc-le-zero k)
  turns_suc (x ∷ cs) (y ∷ ys) zero c a h k e = ap (λ (z : Call V). record { call = z; answer = a } ∷ []) (sym e)
  turns_suc (x ∷ cs) (y ∷ ys) (suc i) c a h k e = ap (λ (r : List (Turn V)). record { call = x; answer = y } ∷ r) (turns_suc cs ys i c a (le_of_suc-le-suc h) (le_of_suc-le-suc k) e)

  pub turns_more : (cs : List (Call V)) (ys : List (Answer V)) (i : ℕ) (c : Call V) (a : Answer V) → i < length cs → i < length ys → c ≡ get_or cs i c
      → turns (take (i + 1) cs) (set ys i a) ≡ turns (take i cs) ys ++ (record { call = c; answer = a } ∷ [])
  turns_more cs ys i c a h k e = rw add-one (turns_suc cs ys i c a h k e)

  performed_on : (m : Meaning V) (room : ℕ) (b c d : Bench V) (es : List (Turn V)) (e : Turn V) → Performed m room b es c → Made m room e.call c e.answer d → Performed m room b (es ++ (e ∷ [])) d
  performed_on m room b c d [] e p q = (d, subst (λ (z : Bench V). Made m room e.call z e.answer d) p q, refl)
  performed_on m room b c d (x ∷ es) e (n, p, r) q = (n, p, performed_on m room n c d es e r q)

  -- one more call, of the kind k that is still m, with a table whose length is still room
  pub performed_more : (m k : Meaning V) (room long : ℕ) (b c d : Bench V) (cs : List (Call V)) (ys : List (Answer V)) (i : ℕ) (x : Call V) (a : Answer V)
      → k ≡ m → long ≡ room → i < length cs → i < length ys → x ≡ get_or cs i x
      → Performed m room b (turns (take i cs) ys) c → Made k long x c a d → Performed m room b (turns (take (i + 1) cs) (set ys i a)) d
  performed_more m k room long b c d cs ys i x a alike size h l is so_far more =
      subst (λ (z : List (Turn V)). Performed m room b z d) (sym (turns_more cs ys i x a h l is))
      (performed_on m room b c d (turns (take i cs) ys) (record { call = x; answer = a }) so_far
      (subst (λ (z : Meaning V). Made z room x c a d) alike (subst (λ (z : ℕ). Made k z x c a d) size more)))

  drop_set : (ys : List (Answer V)) (i : ℕ) (a : Answer V) → drop (suc i) (set ys i a) ≡ drop (suc i) ys
  drop_set [] i a = refl
  drop_set (y ∷ ys) zero a = refl
  drop_set (y ∷ ys) (suc i) a = drop_set ys i a

  drop_next : (ys : List (Answer V)) (i : ℕ) → drop (suc i) ys ≡ drop 1 (drop i ys)
  drop_next [] zero = refl
  drop_next [] (suc i) = refl
  drop_next (y ∷ ys) zero = refl
  drop_next (y ∷ ys) (suc i) = drop_next ys i

  pub drop_more : (ys zs : List (Answer V)) (i : ℕ) (a : Answer V) → drop i ys ≡ drop i zs → drop (i + 1) (set ys i a) ≡ drop (i + 1) zs
  drop_more ys zs i a e = rw add-one (drop_set ys i a ∙ drop_next ys i ∙ ap (drop 1) e ∙ sym (drop_next zs i))

  -- what each call owes to the law
  load_effect : (m : Meaning V) (s t : State V) (i : ℕ) (v : V) (f : Option Refusal) → t ≡ settle f s (loaded s i v) → Effect m s (record { run = None; given = None }) t
  load_effect m s t i v (Some e) q = still_effect m s t q
  load_effect m s t i v None q =
      subst (λ (z : State V). Effect m s (record { run = None; given = None }) z) (sym q)
      (plain_effect m s (loaded s i v) refl (length-set s.cells i (Some v), refl))

  run_effect : (m : Meaning V) (s t : State V) (n : ℕ) (steps : List Step) (x : V) (f : Option Refusal) → run_fault m s steps x ≡ f
      → Ran m s n steps x (answer f (record { value = power m x n })) t
      → Effect m s (record { run = Some (asked m n steps x); given = handed_out (answer f (record { value = power m x n })) }) t
  run_effect m s t n steps x (Some e) is q = refused_effect m s n steps x e t is q
  run_effect m s t n steps x None is q = accepted_effect m s n steps x (power m x n) t is q

  handed_staged : (g : Stage) (r : Result (Raised V) Refusal) → handed_out (staged g r) ≡ handed_out r
  handed_staged g (Ok y) = refl
  handed_staged g (Err e) = refl

  admitted_effect : (m : Meaning V) (s t : State V) (n : ℕ) (x : V) (steps : List Step) (v : Result (Unit {0}) Refusal) → admission n steps ≡ v
      → Jobbed m s n x (if_admitted v steps) t
      → Effect m s (record { run = option_map (λ z. asked m n z x) (if_admitted v steps); given = handed_out (job_answer m s (Ok steps) n x) }) t
  admitted_effect m s t n x steps (Err e) is q = rw is (still_effect m s t q)
  admitted_effect m s t n x steps (Ok u) is q =
      rw (is, handed_staged Running (run_answer m s n steps x)) (run_effect m s t n steps x (run_fault m s steps x) refl q)

  job_effect : (m : Meaning V) (s t : State V) (n : ℕ) (x : V) (sheet : Result (List Step) Refusal) → Jobbed m s n x (job_plan sheet n) t
      → Effect m s (record { run = option_map (λ z. asked m n z x) (job_plan sheet n); given = handed_out (job_answer m s sheet n x) }) t
  job_effect m s t n x (Err e) q = still_effect m s t q
  job_effect m s t n x (Ok steps) q = admitted_effect m s t n x steps (admission n steps) refl q

  made_effect : (m : Meaning V) (room : ℕ) (act : Act V) (b : Bench V) (a : Answer V) (d : Bench V) → MadeBy m room act b a d
      → Effect m b.unit (record { run = asks m room act; given = gives a }) d.unit
  made_effect m room (Load i v) b a d (e, q, _) =
      subst (λ (z : Answer V). Effect m b.unit (record { run = None; given = gives z }) d.unit) (sym e) (load_effect m b.unit d.unit i v (load_fault m b.unit i v) q)
  made_effect m room (Read i) b a d (e, q, _) =
      subst (λ (z : Answer V). Effect m b.unit (record { run = None; given = gives z }) d.unit) (sym e) (still_effect m b.unit d.unit q)
  made_effect m room (Run p x) b a d (e, q, _) =
      subst (λ (z : Answer V). Effect m b.unit (record { run = asks m room (Run p x); given = gives z }) d.unit) (sym e)
      (run_effect m b.unit d.unit p.exponent p.steps.now x (run_fault m b.unit p.steps.now x) refl q)
  made_effect m room (Job text n x) b a d (e, q, _) =
      subst (λ (z : Answer V). Effect m b.unit (record { run = asks m room (Job text n x); given = gives z }) d.unit) (sym e)
      (job_effect m b.unit d.unit n x (read_sheet text.now room) q)

  effects : (m : Meaning V) (room : ℕ) (b : Bench V) (es : List (Turn V)) (d : Bench V) → Performed m room b es d → InTurn m b.unit (map (event_of m room) es) d.unit
  effects m room b [] d q = ap (λ (z : Bench V). z.unit) q
  effects m room b (e ∷ es) d (c, p, q) = (c.unit, made_effect m room e.call.act b e.answer c p, effects m room c es d q)

  pub law_of : (m : Meaning V) (room : ℕ) (b : Bench V) (es : List (Turn V)) (d : Bench V) → Performed m room b es d → Law m b.unit (map (event_of m room) es) d.unit
  law_of m room b es d done = lawful m b.unit d.unit (map (event_of m room) es) (effects m room b es d done)

  -- the same of one call alone
  pub law_of_one : (m : Meaning V) (room : ℕ) (b : Bench V) (x : Call V) (a : Answer V) (d : Bench V) → Made m room x b a d → Law m b.unit (events m room (x ∷ []) (a ∷ [])) d.unit
  law_of_one m room b x a d done = law_of m room b (record { call = x; answer = a } ∷ []) d (d, done, refl)
