-- What the writer of steps answers, and what it leaves. Assumes nothing.
use Rattle.std.specs.Prelude.{◌≡◌, ℕ, ◌+◌, ◌^◌, cond, Ok, Err, Result, nat_lt, slice_set}
use Rattle.refusals.specs.declared.refusal.Refusal.{Refusal}
use Rattle.refusals.specs.declared.refusal.Refusal.TheVariants.{TooLong, NotRising}
use Rattle.plans.specs.declared.step.Step.{Step}
use Rattle.planning.specs.declared.steps.Reached.{Reached}
use Rattle.planning.specs.declared.steps.StepWriter.{StepWriter}

-- whether another step has room after so many
abbrev pub next_step : ℕ → Result (Unit {0}) Refusal
next_step len = cond (nat_lt len 128) (Ok tt) (Err TooLong)

-- the value that the next step makes of two, where so many steps stand; its number is that of the step
abbrev pub next_value : ℕ → Reached → Reached → Result Reached Refusal
next_value len x y =
    cond (nat_lt (x.value + y.value) (2 ^ 64))
    (cond (nat_lt len 128) (Ok (record { number = len + 1; value = x.value + y.value })) (Err TooLong))
    (Err (NotRising (len + 1)))

-- one step more stands, and all else is as it was
pub record Pushed (old new : StepWriter) (x : Step) : Type 0 where
  pub table : new.table.now ≡ slice_set old.table.now old.len x
  pub len : new.len ≡ old.len + 1

-- all is as it was
pub record Kept (old new : StepWriter) : Type 0 where
  pub table : new.table.now ≡ old.table.now
  pub len : new.len ≡ old.len
