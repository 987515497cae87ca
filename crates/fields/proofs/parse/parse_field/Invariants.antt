use Rattle.std.proofs.Common.{◌≡◌, ◌^◌, ◌<◌, ◌≤◌, length, drop}
use Rattle.fields.specs.Field.{field_value}
use Rattle.fields.proofs.Digits.{rest}
use Rattle.fields.proofs.parse.parse_field.Given as goal

abbrev pub invariant-loop-c : goal.invariant-loop-c
invariant-loop-c l = record {
  narrow : length l.numeral ≤ 19;
  bound : l.v < 10 ^ l.c-index;
  so_far : field_value l.b ≡ rest l.v (drop l.c-index l.numeral);
}
