-- The longest plans. Assumes nothing.
use Rattle.std.proofs.Common.{◌≡◌, ℕ, List, Ok, Result, ap, ◌∙◌}
use Rattle.refusals.specs.declared.refusal.Refusal.{Refusal}
use Rattle.refusals.specs.Faults.{and_then, answer}
use Rattle.plans.specs.declared.step.Step.{Step}
use Rattle.plans.specs.Admission.{admission}
use Rattle.placing.specs.Placing.{need}
use Rattle.placing.specs.Answer.{place_fault}
use Rattle.bench_exports.specs.Plans.{longest, placed_longest}

-- placing after admission
pub placed_long : (h c : ℕ) (steps : List Step) (r : Result ℕ Refusal) → steps ≡ longest h → Ok tt ≡ admission 129 steps → r ≡ answer (place_fault steps c 129) (need steps) → r ≡ placed_longest h c
placed_long h c steps r e a p =
    p ∙ ap (λ (x : Result (Unit {0}) Refusal). and_then x (λ _. answer (place_fault steps c 129) (need steps))) a
    ∙ ap (λ (s : List Step). and_then (admission 129 s) (λ _. answer (place_fault s c 129) (need s))) e
