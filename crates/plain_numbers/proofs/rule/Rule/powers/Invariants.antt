use Rattle.std.proofs.Common.{◌≡◌, ℕ, ◌-◌, ◌<◌, length, get_or}
use Rattle.kinds.specs.Powers.{power}
use Rattle.plain_numbers.specs.Plain.{limit, numbers, IsRule}
use Rattle.plain_numbers.proofs.rule.Rule.powers.Given as goal

abbrev pub invariant-loop-n : goal.invariant-loop-n
invariant-loop-n g l =
    (length l.power-items ≡ l.n-end)
    × (IsRule l.self → l.base < limit l.self
    → (l.last ≡ power (numbers l.self) l.base (l.n - 1)) × ((k : ℕ) → k < l.n → get_or l.power-items k 0 ≡ power (numbers l.self) l.base k))
