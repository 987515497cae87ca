-- A plan of n fitted: what cannot be refused, and what is answered. Assumes nothing.
use Rattle.std.proofs.Common.{◌≡◌, ℕ, ◌+◌, ◌-◌, ◌<◌, ◌≤◌, Bool, true, false, cond, leb, List, ◌++◌, length, get_or, take, drop, Some, None, Ok, Err, Decides, Option, Result, sym, ap, ◌∙◌, subst, arith, get_or-take, le-leb}
use lib.Seq.{take-append_seam}
use Rattle.refusals.specs.declared.refusal.Refusal.{Refusal}
use Rattle.refusals.specs.declared.refusal.Refusal.TheVariants.{TableShort, NeedAbove}
use Rattle.refusals.specs.Faults.{first, unless, answer}
use Rattle.refusals.proofs.Firsts.{unless_none}
use Rattle.plans.specs.declared.step.Step.{Step}
use Rattle.plans.specs.Chain.{Chain}
use Rattle.placing.specs.Placing.{need, Supplied}
use Rattle.placing.specs.Supply.{supplied_cells}
use Rattle.placing.specs.Answer.{place_fault}
use Rattle.placing.proofs.Supply.{supplied_cells_lem}
use Rattle.trimming.specs.Trim.{trimmed, trim_answer}
use Rattle.trimming.proofs.Again.{trimmed_chain}
use Rattle.kinds.specs.Kinds.{Meaning}
use Rattle.kinds.specs.Powers.{power}
use Rattle.units.specs.Units.{State}
use Rattle.run_laws.specs.Runs.{run_fault}
use Rattle.fitting.specs.declared.fitted.Size.{Size}
use Rattle.fitting.specs.declared.fitted.Fitted.{Fitted}
use Rattle.fitting.specs.Fitting.{size_of, rehearsal_fault, fit_fault, found, fit_answer, PlacedIn, PlacedCells, rehearsed_in, FitsUnit, Lawful}
use Rattle.refusals.proofs.Answered.{not_both, answer_ok, answer_err}

module _ (n : ℕ) (s : List Step) (chain : Chain n s) where
  -- there is always room for the trimmed steps
  trims : (room : ℕ) → room ≡ 128 → trim_answer s room ≡ Ok (length (trimmed s))
  trims room r =
      let short : length (trimmed s) ≤ 128 = (trimmed_chain n s chain).short in
      let fits : leb (length (trimmed s)) room ≡ true = le-leb (length (trimmed s)) room (omega arith) in
      ap (λ (b : Bool). cond b (Ok (length (trimmed s))) (Err (TableShort (length (trimmed s))))) fits

  pub trim_never : {X : Type 0} (room : ℕ) (e : Refusal) → room ≡ 128 → Err e ≡ trim_answer s room → X
  trim_never room e r h = not_both (length (trimmed s)) e (sym (h ∙ trims room r))

  pub trim_length : (room k : ℕ) → room ≡ 128 → Ok k ≡ trim_answer s room → k ≡ length (trimmed s)
  trim_length room k r h = let both : Ok k ≡ Ok (length (trimmed s)) = h ∙ trims room r in cc

  -- they stand in front
  pub front_is : (k : ℕ) (was new : List Step) → k ≡ length (trimmed s) → new ≡ trimmed s ++ drop (length (trimmed s)) was → take k new ≡ trimmed s
  front_is k was new e h =
      ap (λ (z : ℕ). take z new) e ∙ ap (take (length (trimmed s))) h ∙ take-append_seam (trimmed s) (drop (length (trimmed s)) was)

  -- they are always admitted
  pub admit_never : {X : Type 0} (k : ℕ) (part : List Step) → k ≡ n → part ≡ trimmed s → Decides false (Chain k part) → X
  admit_never k part p q h =
      let c : Chain k part = subst (λ (z : List Step). Chain k z) (sym q) (subst (λ (z : ℕ). Chain z (trimmed s)) (sym p) (trimmed_chain n s chain)) in
      let no : false ≡ true = h.1 c in
      absurd (let z : ◌≡◌ {A = ℕ} 0 1 = cc in omega arith)

-- the need is always enough for a placing
pub place_never : {X : Type 0} (p : List Step) (k room : ℕ) (e : Refusal) → k ≡ need p → room ≡ 129 → Err e ≡ answer (place_fault p k room) (need p) → X
place_never p k room e h r told =
    let one : leb 129 room ≡ true = le-leb 129 room (omega arith) in
    let two : leb (need p) k ≡ true = le-leb (need p) k (omega arith) in
    let fine : place_fault p k room ≡ None = ap (λ (z : Option Refusal). first z (unless (leb (need p) k) (NeedAbove (need p)))) (unless_none (leb 129 room) (TableShort 129) one) ∙ unless_none (leb (need p) k) (NeedAbove (need p)) two in
    not_both (need p) e (sym (told ∙ ap (λ (z : Option Refusal). answer z (need p)) fine))

pub start_is : (p : List Step) (cells : List ℕ) → Supplied p (take (length p + 1) cells) → get_or cells 0 0 ≡ 0
start_is p cells h = let lt : 0 < length p + 1 = omega arith in sym (get_or-take (length p + 1) cells 0 0 lt) ∙ h.start

-- what is said of the trimmed plan p of the steps s
module _ (s p : List Step) (is : p ≡ trimmed s) where
  pub placed : (was new : List ℕ) → Supplied p (take (length p + 1) new) × (drop (length p + 1) new ≡ drop (length p + 1) was) → PlacedIn s was new
  placed was new h = subst (λ (z : List Step). Supplied z (take (length z + 1) new) × (drop (length z + 1) new ≡ drop (length z + 1) was)) is h

  pub placed_cells : (was new : List ℕ) → new ≡ supplied_cells p ++ drop (length p + 1) was → PlacedCells s was new
  placed_cells was new h = (h ∙ ap (λ (z : List Step). supplied_cells z ++ drop (length z + 1) was) is, supplied_cells_lem (trimmed s))

  pub rehearsed : (was new : List ℕ) → new ≡ rehearsed_in p was → new ≡ rehearsed_in (trimmed s) was
  rehearsed was new h = h ∙ ap (λ (z : List Step). rehearsed_in z was) is

  module _ {V : Type 0} (m : Meaning V) (u : State V) (n : ℕ) (x : V) where
    pub not_rehearsed : (e : Refusal) → rehearsal_fault p ≡ Some e → Err e ≡ fit_answer m u n s x
    not_rehearsed e h =
        answer_err (fit_fault m u s x) e (found m u n s x)
        (ap (λ (z : Option Refusal). first z (run_fault m u (trimmed s) x)) (sym (ap rehearsal_fault is) ∙ h))

    fault_is : rehearsal_fault p ≡ None → fit_fault m u s x ≡ run_fault m u p x
    fault_is h =
        ap (λ (z : Option Refusal). first z (run_fault m u (trimmed s) x)) (sym (ap rehearsal_fault is) ∙ h)
        ∙ ap (λ (z : List Step). run_fault m u z x) (sym is)

    pub not_run : (e : Refusal) → rehearsal_fault p ≡ None → run_fault m u p x ≡ Some e → Err e ≡ fit_answer m u n s x
    not_run e h k = answer_err (fit_fault m u s x) e (found m u n s x) (fault_is h ∙ k)

    pub fits : (a b : Size) (y : V) (l : ℕ) → rehearsal_fault p ≡ None → run_fault m u p x ≡ None
        → a ≡ size_of s → b ≡ size_of p → y ≡ power m x n → l ≡ u.left - length p
        → Ok (record { plan = a; trimmed = b; power = y; left = l }) ≡ fit_answer m u n s x
    fits a b y l h k ha hb hy hl =
        answer_ok (fit_fault m u s x) (record { plan = a; trimmed = b; power = y; left = l }) (found m u n s x) (fault_is h ∙ k)
        (ap (λ (z : Size). record { plan = z; trimmed = b; power = y; left = l }) ha
        ∙ ap (λ (z : Size). record { plan = size_of s; trimmed = z; power = y; left = l }) (hb ∙ ap size_of is)
        ∙ ap (λ (z : V). record { plan = size_of s; trimmed = size_of (trimmed s); power = z; left = l }) hy
        ∙ ap (λ (z : ℕ). record { plan = size_of s; trimmed = size_of (trimmed s); power = power m x n; left = z }) (hl ∙ ap (λ (z : List Step). u.left - length z) is))

    -- the card is as it was
    pub unit_kept : (r : Result (Fitted V) Refusal) (e : Refusal) (t : State V) → r ≡ Err e → t ≡ u → FitsUnit m u n s x r t
    unit_kept r e t h k = subst (λ (z : Result (Fitted V) Refusal). FitsUnit m u n s x z t) (sym h) k

    -- the card is as the run leaves it
    pub unit_run : (k : ℕ) (y : V) (t : State V) → k ≡ n → Lawful m u k p x y t → Lawful m u n (trimmed s) x y t
    unit_run k y t h l = subst (λ (z : List Step). Lawful m u n z x y t) is (subst (λ (z : ℕ). Lawful m u z p x y t) h l)
