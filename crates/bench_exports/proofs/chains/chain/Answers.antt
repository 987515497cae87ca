use Rattle.std.proofs.Common.{◌≡◌, is_some, Some, sym, ap, ◌∙◌, arith}
use Rattle.bench_exports.specs.Chains.{chained}
use Rattle.bench_exports.proofs.Links.{chained_none, chained_next, chain_whole, same_some}
use Rattle.bench_exports.proofs.chains.chain.Goals as goal

pub loop-init : goal.loop-init
loop-init g c = sym (chained_none (g.K.Kind.kind c.args.kind.now) c.args.a c.args.b)

pub unwrap-product-requires : goal.unwrap-product-requires
unwrap-product-requires g c =
    let k = c.args.kind.now in
    ap is_some (c.product.ensures.value
    ∙ chained_next (g.K.Kind.kind k) (g.met.K.Kind.closed k) c.args.a c.args.b
    (sym c.if-not-is_native.ensures.value) (sym c.if-not-is_native-2.ensures.value) c.loop.counter c.loop.product c.loop.invariant)

pub loop-preserved : goal.loop-preserved
loop-preserved g c =
    let k = c.args.kind.now in
    same_some c.unwrap-product.result _ (sym c.unwrap-product.ensures ∙ c.product.ensures.value
    ∙ chained_next (g.K.Kind.kind k) (g.met.K.Kind.closed k) c.args.a c.args.b
    (sym c.if-not-is_native.ensures.value) (sym c.if-not-is_native-2.ensures.value) c.loop.counter c.loop.product c.loop.invariant)

pub returns : goal.returns
returns g c =
    let k = c.args.kind.now in
    let m = g.K.Kind.kind k in
    let end : c.loop.counter ≡ c.args.n = omega arith in
    record {
      value = ap Some (c.loop.invariant ∙ ap (chained m c.args.a c.args.b) end)
          ∙ sym (chain_whole m (g.met.K.Kind.closed k) c.args.a c.args.b (sym c.if-not-is_native.ensures.value) (sym c.if-not-is_native-2.ensures.value) c.args.n);
    }
