use Rattle.std.proofs.Common.{◌≡◌, ℕ, ◌<◌, get_or}
use Rattle.plans.specs.Chain.{no_step}
use Rattle.bench_exports.specs.Plans.{long_step}
use Rattle.bench_exports.proofs.longest.write_longest.Given as goal

abbrev pub invariant-loop-i : goal.invariant-loop-i
invariant-loop-i l = (k : ℕ) → k < l.i → get_or l.table k no_step ≡ long_step l.counted k
