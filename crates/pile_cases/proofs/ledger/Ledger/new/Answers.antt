use Rattle.std.proofs.Common.{◌≡◌, ℕ, ◌<◌, List, length, take, replicate, None, Option, ap, ◌∙◌, arith}
use Rattle.std.proofs.lemmas.List.{take-replicate, length-replicate}
use Rattle.kinds.specs.Counting.{counting}
use Rattle.kinds.specs.declared.counts.Count.{Count}
use Rattle.banks.proofs.Natives.{none_native}
use Rattle.pile_cases.proofs.ledger.Ledger.new.Goals as goal

-- the first of 255 empty places are empty
emptied : (size k : ℕ) (all places : List (Option Count)) → size < 256 → all ≡ replicate 255 None → places ≡ take k all → k ≡ size → places ≡ replicate size None
emptied size k all places few e f g = f ∙ ap (take k) e ∙ ap (λ (n : ℕ). take n (replicate 255 None)) g ∙ take-replicate {X = Option Count} size 255 None (omega arith)

pub invariant_of-result : goal.invariant_of-result
invariant_of-result c =
    let size : ℕ = c.args.cells in
    let places = c.truncate.new.self.items in
    let e : places ≡ replicate size None = emptied size c.from.result c.from-places.result.items places (omega arith) c.from-places.ensures.0 c.truncate.ensures.items c.from.ensures in
    let l : length places ≡ size = ap length e ∙ length-replicate size None in
    record { native = rw e (none_native counting size); room = rw c.new.ensures (omega arith); few = omega arith }

pub returns : goal.returns
returns c =
    let size : ℕ = c.args.cells in
    let places = c.truncate.new.self.items in
    let e : places ≡ replicate size None = emptied size c.from.result c.from-places.result.items places (omega arith) c.from-places.ensures.0 c.truncate.ensures.items c.from.ensures in
    record { empty = rw (e, c.min.ensures, c.new.ensures) }
