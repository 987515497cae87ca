-- What the call of the tree method has written: the path that was climbed, the answer, and the two tables.
use Rattle.std.proofs.Common.{◌≡◌, ℕ, ◌+◌, ◌≤◌, true, cond, leb, List, [], ◌++◌, length, get_or, drop, Ok, Err, Result, refl, sym, ap, ◌∙◌, arith}
use lib.ListN.{get_or-append}
use lib.Seq.{sets, sets-eq}
use Rattle.std.proofs.lemmas.List.{drop_at}
use Rattle.std.proofs.lemmas.Bool.{le-leb}
use Rattle.refusals.specs.declared.refusal.Refusal.{Refusal}
use Rattle.refusals.specs.declared.refusal.Refusal.TheVariants.{TableShort}
use Rattle.plans.specs.declared.step.Step.{Step}
use Rattle.plans.specs.Admission.{then}
use Rattle.planning.specs.Planning.{request, length_or, planned}
use Rattle.power_tree.specs.Growth.{path_onto, grown_parents}
use Rattle.power_tree.specs.Tree.{turned, tree_path, steps_of, tree_plan}
use Rattle.power_tree.proofs.Growing.{grown_path, grown_parents_lem, grown_size, grown_nought, grown_root}
use Rattle.power_tree.proofs.Steps.{turned_twice}
use Rattle.tree_plans.specs.Method.{tree_request, Parents}

-- what is climbed from n is its path
pub climbed : (n : ℕ) (path parents : List ℕ) → turned path [] ≡ path_onto 19 parents n [] → parents ≡ grown_parents → 1 ≤ n → n ≤ 1024 → path ≡ tree_path n
climbed n path parents e t a b =
    sym (turned_twice path)
    ∙ ap (λ (p : List ℕ). turned p []) (e ∙ ap (λ (ps : List ℕ). path_onto 19 ps n []) t ∙ grown_path n a b)
    ∙ turned_twice (tree_path n)

-- its steps, written from the front of the table, are the plan
pub plan_written : (n len : ℕ) (path : List ℕ) (was now : List Step) → path ≡ tree_path n → len ≡ length (steps_of path) → len ≤ length was → now ≡ sets was 0 (steps_of path)
    → (len ≡ length (tree_plan n)) × (now ≡ tree_plan n ++ drop (length (tree_plan n)) was)
plan_written n len path was now p l h e =
    let plan : List Step = tree_plan n in
    let same : steps_of path ≡ plan = ap steps_of p in
    let count : len ≡ length plan = l ∙ ap length same in
    let z : 0 + length plan ≡ length plan = omega arith in
    (count, rw (e, same, sets-eq plan was 0 (omega arith)) (ap (λ (k : ℕ). plan ++ drop k was) z))

-- a request whose table of parents has its places is granted as one without that table
pub then_granted : (r : Result (Unit {0}) Refusal) (plan : List Step) → length_or r plan ≡ length_or (then r (Ok tt)) plan
then_granted (Ok _) plan = refl
then_granted (Err _) plan = refl

pub granted : (n len steps parents : ℕ) (plan : List Step) → Ok len ≡ planned (leb n 1024) n plan steps → 1025 ≤ parents → Ok len ≡ length_or (tree_request n steps parents) plan
granted n len steps parents plan e h =
    let f : leb 1025 parents ≡ true = le-leb 1025 parents h in
    e
    ∙ then_granted (request (leb n 1024) n steps) plan
    ∙ sym (ap (λ b. length_or (then (request (leb n 1024) n steps) (cond b (Ok tt) (Err (TableShort 1025)))) plan) f)

-- the table of parents, filled
pub parents_filled : (was ps : List ℕ) → ps ≡ grown_parents → Parents was (ps ++ drop 1025 was)
parents_filled was ps e =
    let size : length ps ≡ 1025 = ap length e ∙ grown_size in
    let front : (c : ℕ) → c ≤ 1024 → get_or (ps ++ drop 1025 was) c 0 ≡ get_or grown_parents c 0 =
    λ c h. get_or-append ps (drop 1025 was) 0 c (omega arith) ∙ ap (λ (x : List ℕ). get_or x c 0) e in
    record {
      parent = λ c h. front c h ∙ grown_parents_lem c h;
      nought = front 0 (omega arith) ∙ grown_nought;
      root = front 1 (omega arith) ∙ grown_root;
      rest = drop_at ps (drop 1025 was) 1025 size;
    }
