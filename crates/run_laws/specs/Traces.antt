-- Records worked in sums. Assumes nothing.
use Rattle.std.specs.Prelude.{◌≡◌, ℕ, ◌+◌, List, [], ◌∷◌, ◌++◌, map, replicate, Option, slice_index, slice_set}
use Rattle.std.specs.Option.{option_map}
use Rattle.units.specs.declared.record.Record.{Record}
use Rattle.plans.specs.declared.step.Step.{Step}

-- the sum that a record makes of the numbers in its cells
abbrev pub sum_of : List ℕ → Record → ℕ
sum_of cells r = slice_index cells r.a + slice_index cells r.b

-- the sums that the records make, in order, each going into its cell
abbrev pub sums : List ℕ → List Record → List ℕ
sums cells [] = []
sums cells (r ∷ rs) = sum_of cells r ∷ sums (slice_set cells r.to (sum_of cells r)) rs

-- c cells, of which one holds 1
abbrev pub one_in : ℕ → ℕ → List ℕ
one_in c start = slice_set (replicate c 0) start 1

-- the records added to the old ones, worked in sums from 1 in the start cell, give a_1 to a_r in order
pub record Traces (c start : ℕ) (steps : List Step) (old new : Option (List Record)) : Type 0 where
  pub added : List Record
  pub kept : new ≡ option_map (λ l. l ++ added) old
  pub values : sums (one_in c start) added ≡ map (λ x. x.value) steps
