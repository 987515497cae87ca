-- What follows for a list of calls from what each of them did. Assumes nothing.
use Rattle.std.proofs.Common.{◌≡◌, ℕ, ◌+◌, ◌-◌, List, [], ◌∷◌, ◌++◌, length, None, sym, refl, ◌∙◌, subst, arith}
use Rattle.placing.specs.Placing.{Exactly}
use Rattle.kinds.specs.Kinds.{Meaning}
use Rattle.units.specs.Units.{State, SameShape}
use Rattle.run_laws.specs.Effects.{Event, spent, Cause, Split, Effect, InTurn, Law}

module _ {V : Type 0} (m : Meaning V) where
  -- what a list of calls keeps, and what it costs
  record Keeps (s : State V) (n : ℕ) (t : State V) : Type 0 where
    pub left : s.left ≡ t.left + n
    pub shape : SameShape s t

  keeps : (s t : State V) (h : List (Event V)) → InTurn m s h t → Keeps s (spent h) t
  keeps s t [] q = subst (λ (z : State V). Keeps s 0 z) (sym q) (record { left = omega arith; shape = (refl, refl) })
  keeps s t (e ∷ es) (u, p, q) =
      let k = keeps u t es q in
      record { left = omega (arith, p.left, k.left); shape = (k.shape.0 ∙ p.shape.0, k.shape.1 ∙ p.shape.1) }

  -- the state before the call that stands after `before`, and that call
  cut : (s t : State V) (before after : List (Event V)) (e : Event V) → InTurn m s (before ++ (e ∷ after)) t
      → (u : State V) × InTurn m s before u × ((w : State V) × Effect m u e w)
  cut s t [] after e (u, p, q) = (s, refl, (u, p))
  cut s t (x ∷ before) after e (u, p, q) =
      let c = cut u t before after e q in
      (c.0, (u, p, c.1), c.2)

  cut_at : (s t : State V) (h before after : List (Event V)) (e : Event V) → InTurn m s h t → Split h before e after
      → (u : State V) × InTurn m s before u × ((w : State V) × Effect m u e w)
  cut_at s t h before after e done is = cut s t before after e (subst (λ (z : List (Event V)). InTurn m s z t) is done)

  pub lawful : (s t : State V) (h : List (Event V)) → InTurn m s h t → Law m s h t
  lawful s t h done = let all = keeps s t h done in record {
    powers = λ before after e is. (cut_at s t h before after e done is).2.1.powers;
    budget = all.left;
    refused = λ before after e is r run.
        let c = cut_at s t h before after e done is in
        let k = keeps s c.0 before c.1 in
        let left : c.0.left ≡ s.left - spent before = omega (arith, k.left) in
        subst (λ (z : ℕ). Exactly (e.given ≡ None) (Cause (length s.cells) z r)) left
        (subst (λ (z : ℕ). Exactly (e.given ≡ None) (Cause z c.0.left r)) k.shape.0 (c.2.1.refused r run));
    silent = λ before after e is. (cut_at s t h before after e done is).2.1.silent;
    shape = all.shape;
  }
