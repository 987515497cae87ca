-- What a bank's places hold stays native. Assumes nothing.
use Rattle.std.proofs.Common.{◌≡◌, ℕ, zero, suc, true, List, [], ◌∷◌, set, replicate, Some, None, Option, sym, refl}
use Rattle.kinds.specs.Kinds.{Meaning, product_of, Closed}
use Rattle.units.specs.Units.{Native, AllNative, both}

pub none_native : {V : Type 0} (m : Meaning V) (n : ℕ) → AllNative m (replicate n None)
none_native m zero i v e = cc
none_native m (suc n) zero v e = cc
none_native m (suc n) (suc i) v e = none_native m n i v e

pub some_native : {V : Type 0} (m : Meaning V) (v : V) → m.native v ≡ true → Native m (Some v)
some_native m v h w e = let f : v ≡ w = cc in rw (sym f) h

pub set_native : {V : Type 0} (m : Meaning V) (xs : List (Option V)) (k : ℕ) (x : Option V) → Native m x → AllNative m xs → AllNative m (set xs k x)
set_native m [] k x n h i w e = cc
set_native m (y ∷ xs) zero x n h zero w e = n w e
set_native m (y ∷ xs) zero x n h (suc i) w e = h (suc i) w e
set_native m (y ∷ xs) (suc k) x n h zero w e = h zero w e
set_native m (y ∷ xs) (suc k) x n h (suc i) w e = set_native m xs k x n (λ j. h (suc j)) i w e

pub product_both : {V : Type 0} (m : Meaning V) (x y : V) → m.native x ≡ true → m.native y ≡ true → product_of m x y ≡ Some (m.times x y)
product_both m x y p q = rw (p, q)

pub both_native : {V : Type 0} (m : Meaning V) → Closed m → (x y : Option V) → Native m x → Native m y → Native m (both m.times x y)
both_native m closed (Some x) (Some y) p q v e = let f : m.times x y ≡ v = cc in rw (sym f) (closed x y (p x refl) (q y refl))
both_native m closed None y p q v e = cc
both_native m closed (Some x) None p q v e = cc
