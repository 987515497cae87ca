-- What an answer says of its fault. Assumes nothing.
use Rattle.std.proofs.Common.{◌≡◌, ℕ, true, is_err, IsErrAnd, Some, None, Ok, Err, Option, Result, sym, refl, ap, ◌∙◌, arith}
use Rattle.refusals.specs.declared.refusal.Refusal.{Refusal}
use Rattle.refusals.specs.Faults.{first, answer, settle, Unchanged}

-- an answer is not a refusal
pub not_both : {A X : Type 0} (a : A) (e : Refusal) → ◌≡◌ {A = Result A Refusal} (Ok a) (Err e) → X
not_both a e h = absurd (let z : ◌≡◌ {A = ℕ} 0 1 = cc in omega arith)

pub answer_none : {A : Type 0} (f : Option Refusal) (a b : A) → Ok a ≡ answer f b → f ≡ None
answer_none None a b h = refl
answer_none (Some e) a b h = not_both a e h

pub answer_some : {A : Type 0} (f : Option Refusal) (e : Refusal) (b : A) → Err e ≡ answer f b → f ≡ Some e
answer_some None e b h = not_both b e (sym h)
answer_some (Some d) e b h = cc

pub answer_value : {A : Type 0} (f : Option Refusal) (a b : A) → Ok a ≡ answer f b → a ≡ b
answer_value None a b h = cc
answer_value (Some e) a b h = not_both a e h

-- the answer by its fault
pub answer_ok : {A : Type 0} (f : Option Refusal) (a b : A) → f ≡ None → a ≡ b → Ok a ≡ answer f b
answer_ok {A} f a b p q = ap (λ (z : A). Ok z) q ∙ sym (ap (λ (z : Option Refusal). answer z b) p)

pub answer_err : {A : Type 0} (f : Option Refusal) (e : Refusal) (b : A) → f ≡ Some e → Err e ≡ answer f b
answer_err f e b p = sym (ap (λ (z : Option Refusal). answer z b) p)

pub first_last : (f : Option Refusal) → first f None ≡ f
first_last None = refl
first_last (Some e) = refl

-- a call without a fault leaves the second
pub settle_none : {X : Type 0} (f : Option Refusal) (s t : X) → f ≡ None → t ≡ settle f s t
settle_none f s t p = sym (ap (λ (z : Option Refusal). settle z s t) p)

-- what the exit of a `?` answers
pub exit_is : {T E : Type 0} (r : Result T E) (e : E) → IsErrAnd r (λ y. y ≡ e) → r ≡ Err e
exit_is (Ok x) e h = absurd h
exit_is {T} {E} (Err y) e h = ap (λ (z : E). Err z) h

-- an answer that is a refusal leaves what it had
pub unchanged_err : {X E A : Type 0} (r : Result X E) (e : E) (old new : A) → r ≡ Err e → new ≡ old → Unchanged r old new
unchanged_err (Ok y) e old new h same = tt
unchanged_err (Err f) e old new h same = same

-- what a refusal leaves unchanged is kept where the answer is one
pub unchanged_kept : {X E A : Type 0} (r : Result X E) (old new : A) → Unchanged r old new → is_err r ≡ true → new ≡ old
unchanged_kept (Ok x) old new h e = absurd (let z : ◌≡◌ {A = ℕ} 0 1 = cc in omega arith)
unchanged_kept (Err f) old new h e = h
