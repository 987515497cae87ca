use Rattle.std.proofs.Common.{◌≡◌}
use Rattle.bench_exports.specs.Chains.{chained}
use Rattle.bench_exports.proofs.chains.chain.Given as goal

abbrev pub invariant-loop : goal.invariant-loop
invariant-loop g l = l.product ≡ chained (g.K.Kind.kind l.kind) l.initial.product l.b l.counter
