-- A path that is climbed, from a number down to 1.
use Rattle.std.proofs.Common.{◌≡◌, ℕ, ◌+◌, ◌-◌, ◌<◌, ◌≤◌, ◌⊎◌, List, [], ◌∷◌, ◌++◌, length, get_or, sym, ap, ◌∙◌, inl, inr, ⊎_elim, arith}
use Rattle.std.proofs.lemmas.List.{length_push}
use Rattle.power_tree.specs.Tree.{turned}
use Rattle.power_tree.specs.Growth.{path_onto}
use Rattle.power_tree.proofs.Steps.{turned_push}
use Rattle.power_tree.proofs.Turns.{onto_step, onto_stop}

-- what is left to climb, from v on, before the path so far, is the whole path from u
pub record Climbing (ps : List ℕ) (u v : ℕ) (path : List ℕ) : Type 0 where
  pub room : length path ≤ 19
  pub whole : path_onto (19 - length path) ps v (turned path []) ≡ path_onto 19 ps u []

-- one number more
pub climbing_more : (ps : List ℕ) (u v w : ℕ) (path next : List ℕ) → length path < 19 → 0 < v → next ≡ path ++ v ∷ [] → w ≡ get_or ps v 0 → Climbing ps u v path → Climbing ps u w next
climbing_more ps u v w path next h k e f c =
    let n : length next ≡ length path + 1 = ap length e ∙ length_push path v in
    let m : 19 - length next ≡ 19 - length path - 1 = omega arith in
    record {
      room = omega arith;
      whole =
          ap (λ (x : List ℕ). path_onto (19 - length next) ps w (turned x [])) e
          ∙ ap (path_onto (19 - length next) ps w) (turned_push path v [])
          ∙ ap (λ (x : ℕ). path_onto x ps w (v ∷ turned path [])) m
          ∙ ap (λ (x : ℕ). path_onto (19 - length path - 1) ps x (v ∷ turned path [])) f
          ∙ sym (onto_step (19 - length path) v ps (turned path []) (omega arith) k)
          ∙ c.whole;
    }

-- nothing is left
pub climbing_none : (ps : List ℕ) (u v : ℕ) (path : List ℕ) → (length path ≡ 19) ⊎ (v ≡ 0) → Climbing ps u v path → turned path [] ≡ path_onto 19 ps u []
climbing_none ps u v path h c =
    let stop : (19 - length path ≡ 0) ⊎ (v ≡ 0) = ⊎_elim (λ (e : length path ≡ 19). inl (omega arith)) (λ (e : v ≡ 0). inr e) h in
    sym (onto_stop (19 - length path) v ps (turned path []) stop) ∙ c.whole
