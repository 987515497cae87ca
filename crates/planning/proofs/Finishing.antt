-- A method whose plan is written into the first 128 places of the table: what it answers, leaves and promises.
use Rattle.std.proofs.Common.{◌≡◌, ℕ, ◌^◌, ◌<◌, ◌≤◌, true, List, ◌++◌, length, take, drop, Bool, Ok, sym, ap, ◌∙◌, subst, append_assoc, arith, length-take-le, take-append-drop, take_at}
use Rattle.std.specs.Array.{IsFirstChunk}
use Rattle.std.proofs.lemmas.List.{drop-append-le}
use Rattle.std.proofs.lemmas.Bool.Decides.{nat_tests}
use Rattle.plans.specs.declared.step.Step.{Step}
use Rattle.plans.specs.Chain.{Chain}
use Rattle.planning.specs.Planning.{planned}

-- the table holds the whole plan, and then what it held
pub record Finished (n : ℕ) (allowed : Bool) (number : ℕ) (plan was now : List Step) (len : ℕ) : Type 0 where
  pub answer : Ok len ≡ planned allowed n plan (length was)
  pub after : now ≡ plan ++ drop (length plan) was
  pub count : len ≡ number
  pub chain : Chain n (take len now)

pub finished : {n number : ℕ} {allowed : Bool} {table was now plan : List Step} {len : ℕ} → IsFirstChunk table was 128 → len ≡ length plan → len ≤ 128 → now ≡ plan ++ drop (length plan) was → 1 ≤ n → n < 2 ^ 63 → allowed ≡ true → length plan ≡ number → (length plan ≤ 128 → Chain n plan) → Finished n allowed number plan table (now ++ drop 128 table) len
finished {n} {number} {allowed} {table} {was} {now} {plan} {len} first count within after a b t q c =
    let enough : 128 ≤ length table = first.enough in
    let l : length plan ≤ length was = omega (arith, ap length first.same, length-take-le 128 table enough) in
    let e : was ++ drop 128 table ≡ table = ap (λ (x : List Step). x ++ drop 128 table) first.same ∙ take-append-drop 128 table in
    let whole : now ++ drop 128 table ≡ plan ++ drop (length plan) table =
    ap (λ (x : List Step). x ++ drop 128 table) after
    ∙ append_assoc plan (drop (length plan) was) (drop 128 table)
    ∙ ap (λ (x : List Step). plan ++ x) (sym (drop-append-le (length plan) was (drop 128 table) l) ∙ ap (drop (length plan)) e) in
    record {
      answer = grind (arith, nat_tests, count, t);
      after = whole;
      count = count ∙ q;
      chain = subst (Chain n) (sym (ap (take len) whole ∙ take_at _ _ _ (sym count))) (c (omega arith));
    }
