-- Chains of products. Assumes nothing.
use Rattle.std.proofs.Common.{◌≡◌, ℕ, zero, suc, ◌+◌, true, Some, refl, ap, ◌∙◌, add-one}
use Rattle.kinds.specs.Kinds.{Meaning, Closed, product_of}
use Rattle.bench_exports.specs.Chains.{chained, chain_of}

module _ {V : Type 0} (m : Meaning V) (closed : Closed m) (a b : V) (native-a : m.native a ≡ true) (native-b : m.native b ≡ true) where
  chained_native : (n : ℕ) → m.native (chained m a b n) ≡ true
  unfolding chained
  chained_native zero = native-a
  chained_native (suc n) = closed (chained m a b n) b (chained_native n) native-b

  -- the next product is there, and is the next link
  pub chained_next : (n : ℕ) (v : V) → v ≡ chained m a b n → product_of m v b ≡ Some (chained m a b (n + 1))
  unfolding chained
  chained_next n v e =
      let h : m.native v ≡ true = ap m.native e ∙ chained_native n in
      rw (add-one n, h, native-b) (ap (λ (z : V). Some (m.times z b)) e)

  pub chain_whole : (n : ℕ) → chain_of m a b n ≡ Some (chained m a b n)
  chain_whole n = rw (native-a, native-b) refl

pub chained_none : {V : Type 0} (m : Meaning V) (a b : V) → chained m a b 0 ≡ a
unfolding chained
chained_none m a b = refl

pub same_some : {V : Type 0} (a b : V) → Some a ≡ Some b → a ≡ b
same_some a b h = cc
