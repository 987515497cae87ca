-- Counts: 0 to 2^63 - 1, whose product is the sum, capped at 2^63 - 1. Assumes nothing.
use Rattle.std.specs.Prelude.{◌+◌, ◌-◌, ◌^◌, min, Bool, nat_lt}
use Rattle.kinds.specs.declared.counts.Count.{Count}
use Rattle.kinds.specs.Kinds.{Meaning}

abbrev pub is_count : Count → Bool
is_count v = nat_lt v.value (2 ^ 63)

abbrev pub capped_sum : Count → Count → Count
capped_sum a b = record { value = min (a.value + b.value) (2 ^ 63 - 1) }

abbrev pub counting : Meaning Count
counting = record { native = is_count; times = capped_sum }
