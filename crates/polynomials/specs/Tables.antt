-- The tables that products are made and reduced by. Assumes nothing.
use Rattle.std.specs.Prelude.{◌≡◌, ℕ, ◌+◌, ◌*◌, ◌^◌, ◌<◌, List, [], length, slice_index, slice_index_or}
use Rattle.bits.specs.Bits.{top}
use Rattle.polynomial_ring.specs.Polynomials.{rem}

-- a row of the multiples of a unit: none, one, twice h times, and the sum of that and the unit
pub record IsRow {T : Type 0} (none unit : T) (twice : T → T → Type 0) (sum : T → T → T → Type 0) (row : List T) : Type 0 where
  pub long : length row ≡ 16
  pub empty : slice_index_or row 0 none ≡ none
  pub single : slice_index_or row 1 none ≡ unit
  pub more : (h : ℕ) → (0 < h) × (h < 8) → twice (slice_index_or row h none) (slice_index_or row (2 * h) none) × sum (slice_index_or row (2 * h) none) unit (slice_index_or row (2 * h + 1) none)

-- row k has the remainders of 0 to 15 times t^(top f + 4 k)
abbrev pub Folds : ℕ → List (List ℕ) → Type 0
Folds f rows = (k h : ℕ) → (k < 16) × (h < 16) → slice_index (slice_index_or rows k []) h ≡ rem f (h * 2 ^ (top f + 4 * k))
