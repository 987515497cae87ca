-- The lines of a text, as they are read.
use Rattle.std.proofs.Common.{◌≡◌, ℕ, zero, suc, ◌+◌, ◌*◌, ◌<◌, List, [], ◌∷◌, ◌++◌, length, get_or, take, drop, set, Some, None, Ok, Err, Option, Result, IfOk, IsOk, sym, refl, ap, ◌∙◌, subst, arith}
use Rattle.plans.specs.declared.step.Step.{Step}
use Rattle.sheets.specs.declared.fault.Fault.{Fault}
use Rattle.sheets.specs.declared.fault.Found.{Found}
use Rattle.sheets.specs.Lines.{line_bytes}
use Rattle.sheets.specs.Reading.{read_line, Reads, line_at, lines_from, or_next, first_fault_in, first_fault, step_of, steps_in, steps_from, text_lines}
use Rattle.std.proofs.lemmas.List.{drop_more, set_at, take_more, length-take-le, append_assoc, drop-drop}
use Rattle.std.specs.Simd.{first_chunks}
use Rattle.std.specs.Result.{result_ok, MatchResult}
use denote.Ref.{Bor}
use Rattle.std.proofs.lemmas.Result.{MatchResult-at_ok}
use Rattle.refusals.specs.declared.refusal.Refusal.{Refusal}
use Rattle.std.proofs.lemmas.Bool.{false≢true}

-- the chunks of a text are its lines
pub chunks_are : (n i : ℕ) (t : List ℕ) → first_chunks line_bytes n (drop (line_bytes * i) t) ≡ lines_from n i t
chunks_are zero i t = refl
chunks_are (suc n) i t =
    ap (λ xs. line_at i t ∷ xs)
    (ap (first_chunks line_bytes n) (drop-drop line_bytes (line_bytes * i) t ∙ ap (λ k. drop k t) {x = line_bytes * i + line_bytes} {y = line_bytes * (i + 1)} (omega arith)) ∙ chunks_are n (i + 1) t)

-- ---- the steps
pub length_steps : (n i : ℕ) (t : List ℕ) → length (steps_from n i t) ≡ n
length_steps zero i t = refl
length_steps (suc n) i t = ap suc (length_steps n (i + 1) t)

length_steps_in : (i : ℕ) (ls : List (List ℕ)) → length (steps_in i ls) ≡ length ls
length_steps_in i [] = refl
length_steps_in i (b ∷ bs) = ap suc (length_steps_in (i + 1) bs)

steps_push : (i : ℕ) (ls : List (List ℕ)) (b : List ℕ) → steps_in i (ls ++ (b ∷ [])) ≡ steps_in i ls ++ (step_of (read_line (i + length ls + 1) b) ∷ [])
steps_push i [] b = ap (λ k. step_of (read_line k b) ∷ []) {x = i + 1} {y = i + 0 + 1} (omega arith)
steps_push i (c ∷ cs) b =
    ap (λ xs. step_of (read_line (i + 1) c) ∷ xs)
    (steps_push (i + 1) cs b ∙ ap (λ k. steps_in (i + 1) cs ++ (step_of (read_line k b) ∷ [])) {x = i + 1 + length cs + 1} {y = i + suc (length cs) + 1} (omega arith))

-- one more line is read into the table
pub read_more : (ls : List (List ℕ)) (table : List Step) (i : ℕ) (s : Step) → i < length ls → i < length table → read_line (i + 1) (get_or ls i []) ≡ Ok s → set (steps_in 0 (take i ls) ++ drop i table) i s ≡ steps_in 0 (take (i + 1) ls) ++ drop (i + 1) table
read_more ls table i s h room e =
    let l : length (take i ls) ≡ i = length-take-le i ls (omega arith) in
    ap (λ xs. set (steps_in 0 (take i ls) ++ xs) i s) (drop_more table i s room)
    ∙ set_at (steps_in 0 (take i ls)) (get_or table i s) (drop (i + 1) table) s i (length_steps_in 0 (take i ls) ∙ l)
    ∙ sym (append_assoc (steps_in 0 (take i ls)) (s ∷ []) (drop (i + 1) table))
    ∙ ap (λ xs. xs ++ drop (i + 1) table)
    (ap (λ r. steps_in 0 (take i ls) ++ (step_of r ∷ [])) (sym e)
    ∙ ap (λ k. steps_in 0 (take i ls) ++ (step_of (read_line k (get_or ls i [])) ∷ [])) {x = i + 1} {y = 0 + length (take i ls) + 1} (omega arith)
    ∙ sym (steps_push 0 (take i ls) (get_or ls i []))
    ∙ ap (steps_in 0) (sym (take_more ls i [] h)))

-- ---- the first fault
-- a line that holds a step has no fault
next_of : (i : ℕ) (r : Result Step Fault) (next : Option Found) → IsOk r → or_next i r next ≡ next
next_of i (Ok s) next h = refl
next_of i (Err f) next h = absurd (false≢true h)

faults_none : (ls : List (List ℕ)) (i : ℕ) → ((k : ℕ) → k < length ls → IsOk (read_line (i + k + 1) (get_or ls k []))) → first_fault_in i ls ≡ None
faults_none [] i h = refl
faults_none (b ∷ bs) i h =
    next_of i (read_line (i + 1) b) _ (subst (λ (n : ℕ). IsOk (read_line n b)) {x = i + 0 + 1} {y = i + 1} (omega arith) (h 0 (omega arith)))
    ∙ faults_none bs (i + 1) (λ k l. subst (λ (n : ℕ). IsOk (read_line n (get_or bs k []))) {x = i + suc k + 1} {y = i + 1 + k + 1} (omega arith) (h (suc k) (omega arith)))

faults_some : (ls : List (List ℕ)) (i k : ℕ) (f : Fault) → k < length ls → read_line (i + k + 1) (get_or ls k []) ≡ Err f → ((m : ℕ) → m < k → IsOk (read_line (i + m + 1) (get_or ls m []))) → first_fault_in i ls ≡ Some (record { before = i + k; fault = f })
faults_some [] i k f l e h = absurd (omega arith)
faults_some (b ∷ bs) i zero f l e h =
    ap (λ n. or_next i (read_line n b) (first_fault_in (i + 1) bs)) {x = i + 1} {y = i + 0 + 1} (omega arith)
    ∙ ap (λ r. or_next i r (first_fault_in (i + 1) bs)) e
    ∙ ap (λ n. Some (record { before = n; fault = f })) {x = i} {y = i + 0} (omega arith)
faults_some (b ∷ bs) i (suc k) f l e h =
    next_of i (read_line (i + 1) b) _ (subst (λ (n : ℕ). IsOk (read_line n b)) {x = i + 0 + 1} {y = i + 1} (omega arith) (h 0 (omega arith)))
    ∙ faults_some bs (i + 1) k f (omega arith) (ap (λ n. read_line n (get_or bs k [])) {x = i + 1 + k + 1} {y = i + suc k + 1} (omega arith) ∙ e) (λ m g. subst (λ (n : ℕ). IsOk (read_line n (get_or bs m []))) {x = i + suc m + 1} {y = i + 1 + m + 1} (omega arith) (h (suc m) (omega arith)))
    ∙ ap (λ n. Some (record { before = n; fault = f })) {x = i + 1 + k} {y = i + suc k} (omega arith)

module _ (t : List ℕ) (ls : List (List ℕ)) (whole : ls ≡ lines_from (length ls) 0 t) where
  pub none_found : ((k : ℕ) → k < length ls → Reads ls k) → first_fault (length ls) 0 t ≡ None
  none_found h = ap (first_fault_in 0) (sym whole) ∙ faults_none ls 0 (λ k l. subst (λ (n : ℕ). IsOk (read_line n (get_or ls k []))) {x = k + 1} {y = 0 + k + 1} (omega arith) (h k l))

  pub one_found : (f : Found) → f.before < length ls → read_line (f.before + 1) (get_or ls f.before []) ≡ Err f.fault → ((k : ℕ) → k < f.before → Reads ls k) → first_fault (length ls) 0 t ≡ Some f
  one_found f l e h =
      ap (first_fault_in 0) (sym whole)
      ∙ faults_some ls 0 f.before f.fault l (ap (λ n. read_line n (get_or ls f.before [])) {x = 0 + f.before + 1} {y = f.before + 1} (omega arith) ∙ e) (λ k g. subst (λ (n : ℕ). IsOk (read_line n (get_or ls k []))) {x = k + 1} {y = 0 + k + 1} (omega arith) (h k g))
      ∙ ap (λ n. Some (record { before = n; fault = f.fault })) {x = 0 + f.before} {y = f.before} (omega arith)

ok_was : {T E : Type 0} (r : Result T E) (x : T) → result_ok r ≡ Some x → r ≡ Ok x
ok_was (Ok y) x e = cc
ok_was (Err f) x e = cc

-- what is known of a text's lines, where they were taken from an answer
pub lines_are : (t : List ℕ) (r : Result (Bor (List (List ℕ))) Refusal) (ls : Bor (List (List ℕ))) → result_ok r ≡ Some ls → MatchResult r (λ ls. text_lines (length t) ≡ Ok (length ls.now)) (λ e. text_lines (length t) ≡ Err e) → IfOk r (λ ls. ls.now ≡ lines_from (length ls.now) 0 t) → (text_lines (length t) ≡ Ok (length ls.now)) × (ls.now ≡ lines_from (length ls.now) 0 t)
lines_are t r ls e count lines = (MatchResult-at_ok _ _ ls (ok_was r ls e) count, MatchResult-at_ok _ _ ls (ok_was r ls e) lines)
