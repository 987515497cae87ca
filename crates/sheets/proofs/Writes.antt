-- A sheet, as it is written line by line.
use Rattle.std.proofs.Common.{◌≡◌, ℕ, suc, ◌+◌, ◌-◌, ◌*◌, ◌<◌, ◌≤◌, cond, List, [], ◌∷◌, ◌++◌, length, get_or, take, drop, Ok, Err, sym, ap, ◌∙◌, arith}
use Rattle.refusals.specs.declared.refusal.Refusal.TheVariants.{TableShort}
use Rattle.plans.specs.declared.step.Step.{Step}
use Rattle.sheets.specs.Lines.{line, line_bytes}
use Rattle.sheets.specs.Sheets.{sheet, sheet_from, sheet_bytes, wrote, written}
use borrow.Rule.Slice.PartMut.{put_mid}
use Rattle.std.proofs.lemmas.List.{append_assoc, append-nil, length-append, length-take-le, take_more, take_all, drop-drop}
use Rattle.std.proofs.lemmas.Bool.{le-leb}
use Rattle.sheets.proofs.Lines.{put_next}

sheet_push : (k : ℕ) (ss : List Step) (s : Step) → sheet_from k (ss ++ (s ∷ [])) ≡ sheet_from k ss ++ line (k + length ss + 1) s
sheet_push k [] s = append-nil (line (k + 1) s) ∙ ap (λ i. line i s) {x = k + 1} {y = k + 0 + 1} (omega arith)
sheet_push k (x ∷ ss) s =
    ap (λ xs. line (k + 1) x ++ xs) (sheet_push (k + 1) ss s)
    ∙ sym (append_assoc (line (k + 1) x) (sheet_from (k + 1) ss) (line (k + 1 + length ss + 1) s))
    ∙ ap (λ i. (line (k + 1) x ++ sheet_from (k + 1) ss) ++ line i s) {x = k + 1 + length ss + 1} {y = k + suc (length ss) + 1} (omega arith)

sheet_more : (ss : List Step) (i : ℕ) (d : Step) → i < length ss → sheet (take (i + 1) ss) ≡ sheet (take i ss) ++ line (i + 1) (get_or ss i d)
sheet_more ss i d h =
    ap sheet (take_more ss i d h) ∙ sheet_push 0 (take i ss) (get_or ss i d)
    ∙ ap (λ k. sheet (take i ss) ++ line (0 + k + 1) (get_or ss i d)) (length-take-le i ss (omega arith))
    ∙ ap (λ k. sheet (take i ss) ++ line k (get_or ss i d)) {x = 0 + i + 1} {y = i + 1} (omega arith)

pub wrote_more : (ss : List Step) (i : ℕ) (o out w : List ℕ) (d : Step) → i < length ss → length (sheet (take i ss)) ≡ 32 * i → out ≡ sheet (take i ss) ++ drop (32 * i) o → w ≡ line (i + 1) (get_or ss i d) → length w ≡ 32 → (length (sheet (take (i + 1) ss)) ≡ 32 * (i + 1)) × (put_mid (32 * i) (32 * i + 32 - 32 * i) out w ≡ sheet (take (i + 1) ss) ++ drop (32 * (i + 1)) o)
wrote_more ss i o out w d h l e ew lw =
    let m : sheet (take (i + 1) ss) ≡ sheet (take i ss) ++ w = sheet_more ss i d h ∙ ap (λ xs. sheet (take i ss) ++ xs) (sym ew) in (
      ap length m ∙ length-append (sheet (take i ss)) w ∙ omega arith,
      ap (λ xs. put_mid (32 * i) (32 * i + 32 - 32 * i) xs w) e
          ∙ put_next (sheet (take i ss)) (drop (32 * i) o) w (32 * i) (32 * i + 32 - 32 * i) l
          ∙ sym (append_assoc (sheet (take i ss)) w (drop (32 * i + 32 - 32 * i) (drop (32 * i) o)))
          ∙ ap (λ xs. xs ++ drop (32 * i + 32 - 32 * i) (drop (32 * i) o)) (sym m)
          ∙ ap (λ xs. sheet (take (i + 1) ss) ++ xs) (drop-drop (32 * i + 32 - 32 * i) (32 * i) o ∙ ap (λ k. drop k o) {x = 32 * i + (32 * i + 32 - 32 * i)} {y = 32 * (i + 1)} (omega arith)),
    )

pub all_written : (ss : List Step) (o out : List ℕ) (i : ℕ) → i ≡ length ss → sheet_bytes ss ≤ length o → out ≡ sheet (take i ss) ++ drop (line_bytes * i) o → (Ok (sheet_bytes ss) ≡ wrote ss (length o)) × (out ≡ written ss o)
all_written ss o out i ei h e =
    let b = le-leb (sheet_bytes ss) (length o) h in (
      ap (λ t. cond t (Ok (sheet_bytes ss)) (Err (TableShort (sheet_bytes ss)))) (sym b),
      e ∙ ap (λ k. sheet (take k ss) ++ drop (line_bytes * k) o) ei ∙ ap (λ xs. sheet xs ++ drop (sheet_bytes ss) o) (take_all (length ss) ss (omega arith)) ∙ ap (λ t. cond t (sheet ss ++ drop (sheet_bytes ss) o) o) (sym b),
    )
