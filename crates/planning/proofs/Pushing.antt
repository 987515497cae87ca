-- A chain under way, to which steps are added one by one: what every method's plan is shown by.
use Rattle.std.proofs.Common.{◌≡◌, ℕ, ◌+◌, ◌^◌, ◌<◌, ◌≤◌, List, [], ◌∷◌, ◌++◌, length, sym, refl, ap, ◌∙◌, subst, append_assoc, append-nil, arith}
use Rattle.std.proofs.lemmas.List.{length_push}
use Rattle.plans.specs.declared.step.Step.{Step}
use Rattle.plans.specs.Chain.{value_at, Chain}
use Rattle.planning.specs.Planning.{step}
use Rattle.plans.proofs.Admissions.{Fits}
use Rattle.planning.proofs.Growing.{Grows, last_value, value_append, last_push, grows_push, grows_none, chain_from_grows}

-- `at` steps stand, each of which keeps the rules
pub record Grown (n : ℕ) (p : List Step) (at : ℕ) : Type 0 where
  pub count : at ≡ length p
  pub grows : Grows n p

-- a plan that is finished
pub record Ends (n : ℕ) (p : List Step) : Type 0 where
  pub grows : Grows n p
  pub last : last_value p ≡ n

pub grown_none : (n : ℕ) → Grown n [] 0
grown_none n = record { count = refl; grows = grows_none n }

-- one step more: the chain grows, its last value is the step's, and the earlier values stay
pub record Pushed (n : ℕ) (p : List Step) (at : ℕ) (x : Step) : Type 0 where
  pub grown : Grown n (p ++ x ∷ []) (at + 1)
  pub here : value_at (p ++ x ∷ []) (at + 1) ≡ x.value
  pub kept : (i : ℕ) → i ≤ at → value_at (p ++ x ∷ []) i ≡ value_at p i

pub push : (n : ℕ) (p : List Step) (at j k v : ℕ) → Grown n p at → k ≤ j → j ≤ at → v ≡ value_at p j + value_at p k → value_at p at < v → v ≤ n → Pushed n p at (step j k v)
push n p at j k v g o e s r w =
    let x : Step = step j k v in
    let c = g.count in
    let a : at + 1 ≡ length (p ++ x ∷ []) = omega (arith, length_push p x) in
    let f : Fits n (value_at p) (length p) x = record { ordered = o; earlier = omega arith; sum = s; rises = omega (arith, ap (value_at p) c); within = w } in
    record {
      grown = record { count = a; grows = grows_push n p x g.grows f };
      here = ap (value_at (p ++ x ∷ [])) a ∙ last_push p x;
      kept = λ i h. value_append p (x ∷ []) i (omega arith);
    }

pub ends_push : (n : ℕ) (p : List Step) (x : Step) (rest : List Step) → Ends n ((p ++ x ∷ []) ++ rest) → Ends n (p ++ x ∷ rest)
ends_push n p x rest e = subst (Ends n) (append_assoc p (x ∷ []) rest) e

-- nothing is left to add
pub ends_here : (n : ℕ) (p : List Step) (at : ℕ) → Grown n p at → value_at p at ≡ n → Ends n (p ++ [])
ends_here n p at g e = subst (Ends n) (sym (append-nil p)) (record { grows = g.grows; last = sym (ap (value_at p) g.count) ∙ e })

pub chain_from_ends : (n : ℕ) (s : List Step) → 1 ≤ n → n < 2 ^ 63 → length s ≤ 128 → Ends n s → Chain n s
chain_from_ends n s a b d e = chain_from_grows n s a b d e.grows e.last
