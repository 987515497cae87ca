-- What a call means through a quota, and one that goes to the unit below alone. Assumes nothing.
use Rattle.std.proofs.Common.{◌≡◌, ℕ, ◌+◌, ◌-◌, ◌^◌, ◌<◌, ◌≤◌, min, Ok, Err, Result, arith}
use native.Mathlib.Bridge.{le_prop}
use Rattle.refusals.specs.Faults.{Unchanged}
use Rattle.kinds.specs.Kinds.{Meaning}
use Rattle.kinds.specs.declared.kind.Kind
use Rattle.units.specs.declared.unit.Unit
use Rattle.units.specs.Units.{State, multiplied}
use Rattle.units.proofs.Passing.{Multiplies}
use Rattle.quota.specs.declared.quota.Quota.{Quota}
use Rattle.quota.specs.Quotas.{under_quota}

module _ {V : Type 0} (s : State V) (limit used to a b : ℕ) (l : Multiplies (under_quota limit used s) to a b) where
  -- a multiplication that the quota accepts is accepted below
  pub multiplies_below : Multiplies s to a b
  multiplies_below = record { to_there = l.to_there; a_there = l.a_there; b_there = l.b_there; a_filled = l.a_filled; b_filled = l.b_filled; some = omega (arith, l.some) }

  -- the quota is not used up
  pub some_left : used < limit
  some_left = omega (arith, l.some)

  -- one more used and a multiplication made below are one multiplication through the quota
  pub one_more : (m : Meaning V) → under_quota limit (used + 1) (multiplied m s to a b) ≡ multiplied m (under_quota limit used s) to a b
  one_more m =
      let e : min (s.left - 1) (limit - (used + 1)) ≡ min s.left (limit - used) - 1 = omega arith in
      rw e

-- a quota whose unit below alone was called is unchanged if that is
pub refused_below : {X E U V : Type 0} {gu : Unit.Ghosts U V} {gk : Kind.Ghosts U V} (q : Quota U V gu gk) (below : U) (within : q.used ≤ q.limit) (bounded : q.limit < 2 ^ 64) (r : Result X E)
    → Unchanged r q.below below → Unchanged r q (record { below = below; limit = q.limit; used = q.used; within = within; bounded = bounded })
refused_below q below within bounded (Ok x) h = tt
refused_below q below within bounded (Err e) h =
    λ i. record { below = h i; limit = q.limit; used = q.used; within = le_prop within q.within i; bounded = le_prop bounded q.bounded i }
