-- The law of a list of calls on one unit, over what each call asked for and gave. Assumes nothing.
use Rattle.std.specs.Prelude.{◌≡◌, ℕ, ◌+◌, ◌-◌, ◌<◌, cond, ◌⊎◌, List, [], ◌∷◌, ◌++◌, map, length, Some, None, Option}
use Rattle.plans.specs.declared.step.Step.{Step}
use Rattle.placing.specs.Placing.{NoPlacing, Exactly}
use Rattle.kinds.specs.Kinds.{Meaning}
use Rattle.kinds.specs.Powers.{power}
use Rattle.units.specs.Units.{State, SameShape}

-- a run that was asked for: the native value that it starts from, or nothing; the steps of its plan; the exponents of the powers wanted
pub record Asked (V : Type 0) : Type 0 where
  pub base : Option V
  pub steps : List Step
  pub exponents : List ℕ

-- the value itself where it is native, and nothing where it is foreign
abbrev pub if_native : {V : Type 0} → Meaning V → V → Option V
if_native m x = cond (m.native x) (Some x) None

-- a run to one exponent n, from the base x
abbrev pub asked : {V : Type 0} → Meaning V → ℕ → List Step → V → Asked V
asked m n steps x = record { base = if_native m x; steps = steps; exponents = n ∷ [] }

-- a call: the run that it asked for, if it asked for one, and what that handed out, unless it was refused
pub record Event (V : Type 0) : Type 0 where
  pub run : Option (Asked V)
  pub given : Option (List V)

-- what a call costs: the length of the plan of an accepted run
abbrev pub cost_of : {V : Type 0} → Option (Asked V) → Option (List V) → ℕ
cost_of None g = 0
cost_of (Some r) None = 0
cost_of (Some r) (Some vs) = length r.steps

-- the lengths of the plans of all accepted runs
abbrev pub spent : {V : Type 0} → List (Event V) → ℕ
spent [] = 0
spent (e ∷ es) = cost_of e.run e.given + spent es

-- the values are the powers of the base that were asked for
abbrev pub Powers : {V : Type 0} → Meaning V → Asked V → List V → Type 0
Powers {V} m r vs = (x : V) × (r.base ≡ Some x) × (vs ≡ map (power m x) r.exponents)

-- a cause to refuse a run: it has no native base, or no placing of its plan's values fits the cells, or the allowance left is below its plan's length
abbrev pub Cause : {V : Type 0} → ℕ → ℕ → Asked V → Type 0
Cause cells left r = (r.base ≡ None) ⊎ (NoPlacing cells r.steps ⊎ (left < length r.steps))

-- the call e was made after the calls before it, and others after it
abbrev pub Split : {V : Type 0} → List (Event V) → List (Event V) → Event V → List (Event V) → Type 0
Split h before e after = h ≡ before ++ (e ∷ after)

-- THE LAW of a unit of the kind m that was in the state s when the first of the calls h was made, and is in the state t now
pub record Law {V : Type 0} (m : Meaning V) (s : State V) (h : List (Event V)) (t : State V) : Type 0 where
  -- each accepted run handed out the powers of its base that it was asked for, under the unit's product
  pub powers : (before after : List (Event V)) (e : Event V) → Split h before e after
      → (r : Asked V) (vs : List V) → e.run ≡ Some r → e.given ≡ Some vs → Powers m r vs
  -- the allowance at the start is what is left, and the lengths of the plans of all accepted runs
  pub budget : s.left ≡ t.left + spent h
  -- a run was refused exactly when there was a cause, by the allowance at the start less the lengths of the runs accepted before it
  pub refused : (before after : List (Event V)) (e : Event V) → Split h before e after
      → (r : Asked V) → e.run ≡ Some r → Exactly (e.given ≡ None) (Cause (length s.cells) (s.left - spent before) r)
  -- a call that asked for no run handed out no power
  pub silent : (before after : List (Event V)) (e : Event V) → Split h before e after → e.run ≡ None → e.given ≡ None
  -- there are as many cells as at the start, and records are kept exactly if they were
  pub shape : SameShape s t

-- what one call owes to the law, from the state s before it to the state t after it
pub record Effect {V : Type 0} (m : Meaning V) (s : State V) (e : Event V) (t : State V) : Type 0 where
  pub powers : (r : Asked V) (vs : List V) → e.run ≡ Some r → e.given ≡ Some vs → Powers m r vs
  pub left : s.left ≡ t.left + cost_of e.run e.given
  pub refused : (r : Asked V) → e.run ≡ Some r → Exactly (e.given ≡ None) (Cause (length s.cells) s.left r)
  pub silent : e.run ≡ None → e.given ≡ None
  pub shape : SameShape s t

-- the calls were made in turn, each on the state that the one before had left
abbrev pub InTurn : {V : Type 0} → Meaning V → State V → List (Event V) → State V → Type 0
InTurn m s [] t = t ≡ s
InTurn {V} m s (e ∷ es) t = (u : State V) × Effect m s e u × InTurn m u es t
