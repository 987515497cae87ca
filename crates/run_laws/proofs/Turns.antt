-- The multiplications of a run, turn by turn, as a unit answers them. Assumes nothing.
use Rattle.std.proofs.Common.{◌≡◌, ℕ, ◌+◌, ◌<◌, ◌≤◌, List, length, Some, None, Ok, Err, Option, Result, sym, ap, ◌∙◌, subst, add-one, arith}
use Rattle.refusals.specs.declared.refusal.Refusal.{Refusal}
use Rattle.refusals.specs.Faults.{verdict, settle}
use Rattle.plans.specs.declared.step.Step.{Step}
use Rattle.plans.specs.Chain.{step_at}
use Rattle.kinds.specs.Kinds.{Meaning}
use Rattle.kinds.specs.Powers.{power}
use Rattle.kinds.proofs.Powers.{Laws}
use Rattle.units.specs.Units.{State, reading, multiply_fault}
use Rattle.run_laws.specs.Runs.{cell_of, stepped, after_steps, last_value, Ready, HandsOut}
use Rattle.run_laws.proofs.Sitting.{Sits, sits_at, next_fine, read_fine}

-- a call whose fault is none is not refused
pub not_refused : (f : Option Refusal) (e : Refusal) → f ≡ None → Err e ≡ verdict f → ⊥
not_refused (Some d) e h q = let z : ◌≡◌ {A = ℕ} 0 1 = cc in omega arith
not_refused None e h q = let z : ◌≡◌ {A = ℕ} 0 1 = cc in omega arith

-- the state t after i turns, whose kind is j
module _ {V : Type 0} (m : Meaning V) (s : State V) (n : ℕ) (steps : List Step) (places : List ℕ) (x : V) (laws : Laws m) (r : Ready m s n steps places x)
    (i : ℕ) (j : Meaning V) (t : State V) (alike : j ≡ m) (so_far : t ≡ after_steps m s places steps i) where
  sits : i ≤ length steps → Sits m s n steps places x i t
  sits h = subst (λ (z : State V). Sits m s n steps places x i z) (sym so_far) (sits_at m s n steps places x laws r i h)

  turn_fine : i < length steps → multiply_fault t (cell_of places (i + 1)) (cell_of places (step_at steps i).j) (cell_of places (step_at steps i).k) ≡ None
  turn_fine h = next_fine m s n steps places x laws r i t h (sits (omega arith))

  pub turn_passes : (e : Refusal) → i < length steps
      → Err e ≡ verdict (multiply_fault t (cell_of places (i + 1)) (cell_of places (step_at steps i).j) (cell_of places (step_at steps i).k)) → ⊥
  turn_passes e h q = not_refused _ e (turn_fine h) q

  pub turn_next : (u : State V) → i < length steps
      → u ≡ settle (multiply_fault t (cell_of places (i + 1)) (cell_of places (step_at steps i).j) (cell_of places (step_at steps i).k)) t (stepped j t places (i + 1) (step_at steps i))
      → u ≡ after_steps m s places steps (i + 1)
  turn_next u h q =
      q ∙ ap (λ (f : Option Refusal). settle f t (stepped j t places (i + 1) (step_at steps i))) (turn_fine h)
      ∙ ap (λ (z : Meaning V). stepped z t places (i + 1) (step_at steps i)) alike
      ∙ ap (λ (z : State V). stepped m z places (i + 1) (step_at steps i)) so_far
      ∙ ap (λ (z : ℕ). stepped m (after_steps m s places steps i) places z (step_at steps i)) (add-one i)
      ∙ ap (after_steps m s places steps) (sym (add-one i))

  pub end_is : i ≡ length steps → t ≡ after_steps m s places steps (length steps)
  end_is e = so_far ∙ ap (after_steps m s places steps) e

  -- what is read at the end
  pub end_hands : i ≡ length steps → n ≡ last_value steps → (y : Result V Refusal) → y ≡ reading t (cell_of places (length steps)) → HandsOut m s steps places y
  end_hands e last y is z holds =
      let same : x ≡ z = (let a = r.start in cc) in
      is ∙ ap (λ (q : State V). reading q (cell_of places (length steps))) (end_is e) ∙ read_fine m s n steps places x laws r
      ∙ ap (λ (w : V). Ok (power m w n)) same ∙ ap (λ (k : ℕ). Ok (power m z k)) last
