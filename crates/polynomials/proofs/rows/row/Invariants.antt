use Rattle.std.proofs.Common.{◌≡◌, ℕ, ◌+◌, ◌*◌, ◌<◌, length, get_or}
use Rattle.polynomials.proofs.rows.row.Given as goal

abbrev pub invariant-loop-h : goal.invariant-loop-h
invariant-loop-h g l =
    (length l.row ≡ 16) × (get_or l.row 0 l.fn.none ≡ l.fn.none) × (get_or l.row 1 l.fn.none ≡ l.fn.unit)
    × ((j : ℕ) → (0 < j) × (j < l.h) → goal.F-post g l.twice (get_or l.row j l.fn.none) (get_or l.row (2 * j) l.fn.none) × g.T.BitXor.bitxor_gives (get_or l.row (2 * j) l.fn.none) l.fn.unit (get_or l.row (2 * j + 1) l.fn.none))
    × ((j : ℕ) → (0 < j) × (j < 2 * l.h) → goal.F-pre g l.twice (get_or l.row j l.fn.none))
