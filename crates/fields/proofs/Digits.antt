-- What a field holds, byte by byte.
use Rattle.std.proofs.Common.{◌≡◌, ℕ, zero, suc, ◌+◌, ◌-◌, ◌*◌, ◌^◌, ◌<◌, ◌≤◌, cond, List, [], ◌∷◌, length, get_or, drop, Some, None, Option, sym, refl, ap, ◌∙◌, add-one, pow-suc, arith, lit<}
use Rattle.std.specs.List.{AllWithin}
use Rattle.std.specs.Str.{all_ascii_digits}
use Rattle.std.proofs.lemmas.Bool.{le-leb}
use Rattle.std.proofs.lemmas.List.{drop_more, drop_all}
use native.Mathlib.Nat.{pow-le-pow_right}
use Rattle.fields.specs.Field.{field_value, justified, numeral_value, unblank, read_on, most_columns}

-- digits to the end, after the number so far
abbrev pub rest : ℕ → List ℕ → Option ℕ
rest v ds = cond (all_ascii_digits ds) (Some (read_on v ds)) None

unblank_blank : (c : ℕ) (cs : List ℕ) → c ≡ 32 → unblank (c ∷ cs) ≡ unblank cs
unblank_blank c cs e = rw e

unblank_other : (c : ℕ) (cs : List ℕ) → (c ≡ 32 → ⊥) → unblank (c ∷ cs) ≡ c ∷ cs
unblank_other c cs e = grind (arith)

skip : (b : List ℕ) (i : ℕ) → i < length b → get_or b i 0 ≡ 32 → unblank (drop i b) ≡ unblank (drop (i + 1) b)
skip b i h e = ap unblank (drop_more b i 0 h) ∙ unblank_blank (get_or b i 0) (drop (i + 1) b) e

-- the blanks in front are skipped
skip_all : (b : List ℕ) (i : ℕ) → i ≤ length b → AllWithin (λ c. c ≡ 32) b 0 i → unblank b ≡ unblank (drop i b)
skip_all b zero h all = refl
skip_all b (suc i) h all =
    skip_all b i (omega arith) (λ k d l m. all k d l (omega arith)) ∙ skip b i (omega arith) (all i 0 (omega arith) (omega arith)) ∙ ap (λ k. unblank (drop k b)) (add-one i)

pub blanks_only : (b : List ℕ) → AllWithin (λ c. c ≡ 32) b 0 (length b) → unblank b ≡ []
blanks_only b all = skip_all b (length b) (omega arith) all ∙ ap unblank (drop_all (length b) b (omega arith))

pub blanks_end : (b : List ℕ) (i : ℕ) → i < length b → (get_or b i 0 ≡ 32 → ⊥) → AllWithin (λ c. c ≡ 32) b 0 i → unblank b ≡ drop i b
blanks_end b i h n all = skip_all b i (omega arith) all ∙ ap unblank (drop_more b i 0 h) ∙ unblank_other (get_or b i 0) (drop (i + 1) b) n ∙ sym (drop_more b i 0 h)

-- digits, of which the first is a zero only where it stands alone
pub begins : (ds : List ℕ) → 0 < length ds → (get_or ds 0 0 ≡ 48 → length ds ≤ 1) → numeral_value ds ≡ rest 0 ds
begins [] p z = absurd (omega arith)
begins (c ∷ cs) p z = grind (arith)

-- a zero with more after it
pub leading : (ds : List ℕ) → get_or ds 0 0 ≡ 48 → 1 < length ds → numeral_value ds ≡ None
leading [] e h = absurd (omega arith)
leading (c ∷ cs) e h = grind (arith)

rest_digit : (v c : ℕ) (cs : List ℕ) → 48 ≤ c → c ≤ 57 → rest v (c ∷ cs) ≡ rest (v * 10 + (c - 48)) cs
rest_digit v c cs l h = grind (arith)

rest_not : (v c : ℕ) (cs : List ℕ) → (48 ≤ c → c ≤ 57 → ⊥) → rest v (c ∷ cs) ≡ None
rest_not v c cs h = grind (arith)

pub turn : (b : List ℕ) (v k : ℕ) → k < length b → 48 ≤ get_or b k 0 → get_or b k 0 ≤ 57 → rest v (drop k b) ≡ rest (v * 10 + (get_or b k 0 - 48)) (drop (k + 1) b)
turn b v k h l m = ap (rest v) (drop_more b k 0 h) ∙ rest_digit v (get_or b k 0) (drop (k + 1) b) l m

pub stops : (b : List ℕ) (v k : ℕ) → k < length b → (48 ≤ get_or b k 0 → get_or b k 0 ≤ 57 → ⊥) → rest v (drop k b) ≡ None
stops b v k h n = ap (rest v) (drop_more b k 0 h) ∙ rest_not v (get_or b k 0) (drop (k + 1) b) n

pub ends : (b : List ℕ) (v k : ℕ) → length b ≤ k → rest v (drop k b) ≡ Some v
ends b v k h = ap (rest v) (drop_all k b h)

-- one more digit
pub room : (v k : ℕ) → v < 10 ^ k → v * 10 + 9 < 10 ^ (k + 1)
room v k h = rw add-one (rw pow-suc (omega arith))

pub below : (k : ℕ) → k ≤ 18 → 10 ^ (k + 1) ≤ 10000000000000000000
below k h = let e : k + 1 ≤ 19 = omega arith in pow-le-pow_right {n = 10} (lit< tt) e

-- a field that is narrow enough holds what stands justified in it
pub narrow : (b : List ℕ) → length b ≤ most_columns → field_value b ≡ justified b
narrow b h = ap (λ t. cond t (justified b) None) (le-leb (length b) most_columns h)
