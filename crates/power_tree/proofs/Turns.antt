-- One step of what the definitions of a growth do.
use Rattle.std.proofs.Common.{◌≡◌, ℕ, zero, suc, ◌+◌, ◌-◌, ◌<◌, ◌≤◌, Bool, true, false, cond, eqb, leb, ◌⊎◌, List, [], ◌∷◌, ◌++◌, length, get_or, set, replicate, sym, refl, ap, ◌∙◌, inl, inr, sub-one, arith, length-append}
use Rattle.std.proofs.lemmas.List.{length_push}
use Rattle.std.proofs.lemmas.Bool.{le-leb, eq-eqb}
use Rattle.power_tree.specs.Tree.{turned}
use Rattle.power_tree.specs.Growth.{Growth, growth, path_onto, is_open, hang, hang_all, turn, turns, Stage, stage, next_stage, stage_at, grown_parents}
use Rattle.power_tree.proofs.Growing.{stage_next, stage_room}
use Rattle.power_tree.proofs.Steps.{turned_push}

-- a child that can come
pub hang_open : (u : ℕ) (g : Growth) (a : ℕ) → u + a ≤ 1024 → get_or g.parents (u + a) 0 ≡ 0 → hang u g a ≡ growth (set g.parents (u + a) u) (g.order ++ (u + a) ∷ [])
hang_open u g a h z =
    let e : leb (u + a) 1024 ≡ true = le-leb _ _ h in
    let f : eqb (get_or g.parents (u + a) 0) 0 ≡ true = eq-eqb _ _ z in
    rw (e, f) refl

-- climbing
pub onto_step : (most v : ℕ) (ps onto : List ℕ) → 0 < most → 0 < v → path_onto most ps v onto ≡ path_onto (most - 1) ps (get_or ps v 0) (v ∷ onto)
onto_step zero v ps onto h k = absurd (let no : ⊥ = omega arith in no)
onto_step (suc most) zero ps onto h k = absurd (let no : ⊥ = omega arith in no)
onto_step (suc most) (suc v) ps onto h k = rw sub-one refl

pub onto_stop : (most v : ℕ) (ps onto : List ℕ) → (most ≡ 0) ⊎ (v ≡ 0) → path_onto most ps v onto ≡ onto
onto_stop zero v ps onto h = refl
onto_stop (suc most) zero ps onto h = refl
onto_stop (suc most) (suc v) ps onto (inl e) = absurd (let no : ⊥ = omega arith in no)
onto_stop (suc most) (suc v) ps onto (inr e) = absurd (let no : ⊥ = omega arith in no)

-- the order only gets longer
hang_longer : (u : ℕ) (g : Growth) (a : ℕ) → length g.order ≤ length (hang u g a).order
hang_longer u g a = longer (is_open g.parents (u + a))
  where
    longer : (b : Bool) → length g.order ≤ length (cond b (growth (set g.parents (u + a) u) (g.order ++ (u + a) ∷ [])) g).order
    longer true = simp length-append (omega arith)
    longer false = omega arith

all_longer : (u : ℕ) (g : Growth) (rest : List ℕ) → length g.order ≤ length (hang_all u g rest).order
all_longer u g [] = omega arith
all_longer u g (a ∷ rest) = let h = hang_longer u g a in let k = all_longer u (hang u g a) rest in omega arith

turns_longer : (n k : ℕ) (g : Growth) → length g.order ≤ length (turns n k g).order
unfolding turns
turns_longer zero k g = omega arith
turns_longer (suc n) k g =
    let h = all_longer (get_or g.order k 0) g (path_onto 19 g.parents (get_or g.order k 0) []) in
    let i = turns_longer n (k + 1) (turn k g) in
    omega arith

-- one child more, where the numbers that are left are those of a path down, from its end on
all_step : (u : ℕ) (g : Growth) (left rest : List ℕ) (a : ℕ) → left ≡ rest ++ a ∷ [] → hang_all u g (turned left []) ≡ hang_all u (hang u g a) (turned rest [])
all_step u g left rest a e = ap (hang_all u g) (ap (λ (x : List ℕ). turned x []) e ∙ turned_push rest a [])

pub all_more : (u : ℕ) (g next whole : Growth) (left rest : List ℕ) (a : ℕ) → left ≡ rest ++ a ∷ [] → next ≡ hang u g a → hang_all u g (turned left []) ≡ whole → hang_all u next (turned rest []) ≡ whole
all_more u g next whole left rest a e f w = ap (λ (x : Growth). hang_all u x (turned rest [])) f ∙ sym (all_step u g left rest a e) ∙ w

pub all_none : (u : ℕ) (g whole : Growth) (left : List ℕ) → length left ≡ 0 → hang_all u g (turned left []) ≡ whole → g ≡ whole
all_none u g whole [] e w = w
all_none u g whole (x ∷ left) e w = absurd (let no : ⊥ = omega arith in no)

pub all_room : (u : ℕ) (g whole : Growth) (left rest : List ℕ) (a n : ℕ) → left ≡ rest ++ a ∷ [] → hang_all u g (turned left []) ≡ whole → length whole.order ≤ n → length (hang u g a).order ≤ n
all_room u g whole left rest a n e w k =
    let l = all_longer u (hang u g a) (turned rest []) in
    let m : length (hang_all u (hang u g a) (turned rest [])).order ≡ length whole.order = ap (λ (s : Growth). length s.order) (sym (all_step u g left rest a e) ∙ w) in
    omega arith

-- one turn more
turns_more : (n k : ℕ) (g : Growth) → 0 < n → turns n k g ≡ turns (n - 1) (k + 1) (turn k g)
unfolding turns
turns_more zero k g h = absurd (let no : ⊥ = omega arith in no)
turns_more (suc n) k g h = rw sub-one refl

pub turns_none : (n k : ℕ) (g : Growth) → n ≡ 0 → turns n k g ≡ g
unfolding turns
turns_none n k g e = ap (λ (x : ℕ). turns x k g) e

turns_room : (n k m : ℕ) (g whole : Growth) → 0 < n → turns n k g ≡ whole → length whole.order ≤ m → length (turn k g).order ≤ m
turns_room n k m g whole h e l =
    let f : length (turns (n - 1) (k + 1) (turn k g)).order ≡ length whole.order = ap (λ (s : Growth). length s.order) (sym (turns_more n k g h) ∙ e) in
    let i = turns_longer (n - 1) (k + 1) (turn k g) in
    omega arith

-- the next turn of a level
pub level_more : (g next whole : Growth) (u k to : ℕ) → k < to → u ≡ get_or g.order k 0 → next ≡ hang_all u g (path_onto 19 g.parents u []) → turns (to - k) k g ≡ whole
    → turns (to - (k + 1)) (k + 1) next ≡ whole
level_more g next whole u k to h e f w =
    let less : to - (k + 1) ≡ to - k - 1 = omega arith in
    ap (λ (n : ℕ). turns n (k + 1) next) less
    ∙ ap (turns (to - k - 1) (k + 1)) (f ∙ ap (λ (v : ℕ). hang_all v g (path_onto 19 g.parents v [])) e)
    ∙ sym (turns_more (to - k) k g (omega arith))
    ∙ w

pub level_room : (g whole : Growth) (u k to m : ℕ) → k < to → u ≡ get_or g.order k 0 → turns (to - k) k g ≡ whole → length whole.order ≤ m → length (hang_all u g (path_onto 19 g.parents u [])).order ≤ m
level_room g whole u k to m h e w l =
    let r = turns_room (to - k) k m g whole (omega arith) w l in
    let f : length (hang_all u g (path_onto 19 g.parents u [])).order ≡ length (turn k g).order = ap (λ (v : ℕ). length (hang_all v g (path_onto 19 g.parents v [])).order) e in
    omega arith

pub level_longer : (g next : Growth) (u : ℕ) → next ≡ hang_all u g (path_onto 19 g.parents u []) → length g.order ≤ length next.order
level_longer g next u e = let f = ap (λ (s : Growth). length s.order) e in omega (arith, all_longer u g (path_onto 19 g.parents u []))

-- one level more
pub stage_more : (i from : ℕ) (g next : Growth) → stage g from ≡ stage_at i → next ≡ turns (length g.order - from) from g → stage next (length g.order) ≡ stage_at (i + 1)
stage_more i from g next e f =
    let m : suc i ≡ i + 1 = omega arith in
    ap (λ (x : Growth). stage x (length g.order)) f ∙ ap next_stage e ∙ sym (stage_next i) ∙ ap stage_at m

pub stage_space : (i from : ℕ) (g : Growth) → i < 18 → stage g from ≡ stage_at i → length (turns (length g.order - from) from g).order ≤ 1024
stage_space i from g l e =
    let r = stage_room (i + 1) (omega arith) in
    let f : length (turns (length g.order - from) from g).order ≡ length (stage_at (i + 1)).tree.order = ap (λ (s : Stage). length s.tree.order) (stage_more i from g (turns (length g.order - from) from g) e refl) in
    omega arith

pub stage_longer : (from : ℕ) (g next : Growth) → next ≡ turns (length g.order - from) from g → length g.order ≤ length next.order
stage_longer from g next e = let f = ap (λ (s : Growth). length s.order) e in omega (arith, turns_longer (length g.order - from) from g)

pub stage_first : stage (growth (replicate 1025 0) (1 ∷ [])) 0 ≡ stage_at 0
unfolding stage_at
stage_first = refl

pub stage_last : (g : Growth) (from i : ℕ) → i ≡ 18 → stage g from ≡ stage_at i → g.parents ≡ grown_parents
unfolding grown_parents
stage_last g from i h e = ap (λ (s : Stage). s.tree.parents) (e ∙ ap stage_at h)
