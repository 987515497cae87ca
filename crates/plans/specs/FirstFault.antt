-- The first fault of an exponent and a list of steps, in the words of the subject: which rule is broken, where, and that all before it is kept. Assumes nothing.
use Rattle.std.specs.Prelude.{◌≡◌, ℕ, ◌+◌, ◌^◌, ◌<◌, ◌≤◌, ◌⊎◌, List, length}
use Rattle.refusals.specs.declared.refusal.Refusal.{Refusal}
use Rattle.refusals.specs.declared.refusal.Refusal.TheVariants.{Exponent, Method, TooLong, SheetLine, Field, StepNumber, Citation, NotSum, NotRising, NotReached, NotNative, BadModulus, NoSuchCell, TableShort, CellEmpty, AllowanceSpent, NeedAbove, AllowanceBelow}
use Rattle.plans.specs.declared.step.Step.{Step}
use Rattle.plans.specs.Chain.{CitesAt, SumsAt, RisesAt, Reaches}

-- Step i + 1 keeps the rules.
pub record Keeps (n : ℕ) (s : List Step) (i : ℕ) : Type 0 where
  pub cites : CitesAt s i
  pub sums : SumsAt s i
  pub rises : RisesAt n s i

-- n is an exponent, there are at most 128 steps, and the first i of them keep the rules.
pub record KeptBefore (n : ℕ) (s : List Step) (i : ℕ) : Type 0 where
  pub positive : 1 ≤ n
  pub bounded : n < 2 ^ 63
  pub short : length s ≤ 128
  pub kept : (m : ℕ) → m < i → Keeps n s m

-- Step p, which is step i + 1, is broken so, and the steps before it keep the rules.
pub record FirstBroken (n : ℕ) (s : List Step) (p : ℕ) (Broken : ℕ → Type 0) : Type 0 where
  pub i : ℕ
  pub place : p ≡ i + 1
  pub there : i < length s
  pub before : KeptBefore n s i
  pub broken : Broken i

-- Every step keeps the rules, p being how many there are, and the last value is not n.
pub record Unreached (n : ℕ) (s : List Step) (p : ℕ) : Type 0 where
  pub place : p ≡ length s
  pub before : KeptBefore n s (length s)
  pub misses : Reaches n s → ⊥

-- The refusal is the first fault of n and the steps. No other refusal is a fault of them.
abbrev pub FirstFault : ℕ → List Step → Refusal → Type 0
FirstFault n s Exponent = (n ≡ 0) ⊎ (2 ^ 63 ≤ n)
FirstFault n s TooLong = (1 ≤ n) × (n < 2 ^ 63) × (128 < length s)
FirstFault n s (Citation p) = FirstBroken n s p (λ i. CitesAt s i → ⊥)
FirstFault n s (NotSum p) = FirstBroken n s p (λ i. CitesAt s i × (SumsAt s i → ⊥))
FirstFault n s (NotRising p) = FirstBroken n s p (λ i. CitesAt s i × SumsAt s i × (RisesAt n s i → ⊥))
FirstFault n s (NotReached p) = Unreached n s p
FirstFault n s Method = ⊥
FirstFault n s (SheetLine p) = ⊥
FirstFault n s (Field p) = ⊥
FirstFault n s (StepNumber p) = ⊥
FirstFault n s NotNative = ⊥
FirstFault n s BadModulus = ⊥
FirstFault n s (NoSuchCell p) = ⊥
FirstFault n s (TableShort p) = ⊥
FirstFault n s (CellEmpty p) = ⊥
FirstFault n s AllowanceSpent = ⊥
FirstFault n s (NeedAbove p) = ⊥
FirstFault n s (AllowanceBelow p) = ⊥
