use Rattle.std.proofs.Common.{arith}
use Rattle.std.proofs.lemmas.List.FromFn.{fill_by_all}
use Rattle.plans.specs.Chain.{no_step}
use Rattle.bench_exports.specs.Plans.{long_step, longest}
use Rattle.bench_exports.proofs.longest.write_longest.Goals as goal

pub returns : goal.returns
unfolding longest
returns c = fill_by_all (long_step c.args.counted) c.loop-i.table 128 no_step (omega (arith, c.requires)) (λ k h. c.loop-i.invariant k (omega arith))
