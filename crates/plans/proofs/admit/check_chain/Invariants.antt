use Rattle.std.proofs.Common.{◌≡◌, ℕ, ◌≤◌, drop}
use Rattle.plans.specs.Admission.{answer_from}
use Rattle.plans.specs.Chain.{value_at}
use Rattle.plans.proofs.admit.check_chain.Given as goal

abbrev pub invariant-loop-i : goal.invariant-loop-i
invariant-loop-i l =
    (answer_from l.n l.steps 0 l.steps ≡ answer_from l.n l.steps l.i (drop l.i l.steps))
    × ((m : ℕ) → m ≤ l.i → value_at l.steps m ≤ l.n)
