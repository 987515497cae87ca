-- What is linked, on plain numbers: a refused call answers 2^64 - 1. Assumes nothing.
use Rattle.std.specs.Prelude.{ℕ, ◌-◌, ◌^◌, cond, List, Some, None, Ok, Err, Option, Result, nat_le}
use Rattle.refusals.specs.declared.refusal.Refusal.{Refusal}
use Rattle.kinds.specs.declared.counts.Count.{Count}
use Rattle.kinds.specs.Counting.{counting}
use Rattle.kinds.specs.Residues.{is_modulus, residues}
use Rattle.polynomials.specs.declared.word.Word.{Word}
use Rattle.polynomials.specs.Polynomials.{polynomials}
use Rattle.methods.specs.Requests.{plan_for}
use Rattle.plans.specs.declared.step.Step.{Step}
use Rattle.bench_exports.specs.Chains.{chain_of}
use Rattle.bench_exports.specs.Plans.{checksum, request, placed_longest}
use Rattle.bench_exports.specs.Powers.{raised}

abbrev pub refused : ℕ
refused = 2 ^ 64 - 1

-- the number in a value, if there is one
abbrev pub number_of : {V : Type 0} → (V → ℕ) → Option V → ℕ
number_of number (Some v) = number v
number_of number None = refused

abbrev pub word : ℕ → Word
word n = record { bits = n }

abbrev pub count : ℕ → Count
count n = record { value = n }

abbrev pub residue_chain : ℕ → ℕ → ℕ → ℕ → ℕ
residue_chain p a b n = cond (is_modulus p) (number_of (λ v. v) (chain_of (residues p) a b n)) refused

abbrev pub polynomial_chain : ℕ → ℕ → ℕ → ℕ → ℕ
polynomial_chain f a b n = cond (nat_le 2 f) (number_of (λ v. v.bits) (chain_of (polynomials f) (word a) (word b) n)) refused

abbrev pub count_chain : ℕ → ℕ → ℕ → ℕ
count_chain a b n = number_of (λ v. v.value) (chain_of counting (count a) (count b) n)

-- the number in an answer, if it is not refused
abbrev pub bits_of : Result Word Refusal → ℕ
bits_of (Ok v) = v.bits
bits_of (Err _) = refused

abbrev pub polynomial_power : ℕ → ℕ → ℕ → ℕ
polynomial_power f x n = cond (nat_le 2 f) (bits_of (raised f (word x) n)) refused

-- the checksum of a plan, if it is not refused
abbrev pub checksum_or : Result (List Step) Refusal → ℕ
checksum_or (Ok steps) = checksum steps
checksum_or (Err _) = refused

abbrev pub plan_checksum : ℕ → ℕ → ℕ → ℕ
plan_checksum method width n = checksum_or (plan_for (request method width n))

-- the number answered, if it is not refused
abbrev pub number_or : Result ℕ Refusal → ℕ
number_or (Ok v) = v
number_or (Err _) = refused

abbrev pub place_longest : ℕ → ℕ → ℕ
place_longest h c = number_or (placed_longest h c)
