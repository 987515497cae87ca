use Rattle.std.proofs.Common.{◌≡◌, ℕ, ◌+◌, ◌*◌, ◌^◌, ◌<◌, [], length, get_or}
use Rattle.bits.specs.Bits.{top}
use Rattle.polynomial_ring.specs.Polynomials.{rem}
use Rattle.polynomials.proofs.modulus.Modulus.fold_rows.Given as goal

abbrev pub invariant-loop-row : goal.invariant-loop-row
invariant-loop-row l =
    (length l.row-items ≡ 16) × (l.unit ≡ rem l.self.value (2 ^ (top l.self.value + 4 * l.row-index)))
    × ((j h : ℕ) → j < l.row-index → h < 16 → get_or (get_or l.row-items j []) h 0 ≡ rem l.self.value (h * 2 ^ (top l.self.value + 4 * j)))
