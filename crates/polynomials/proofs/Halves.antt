-- What holds of a row of multiples. Assumes nothing.
use Rattle.std.proofs.Common.{◌≡◌, ℕ, zero, suc, ◌+◌, ◌*◌, ◌/◌, ◌%◌, ◌^◌, ◌<◌, List, get_or, sym, subst, inl, inr, arith}
use Rattle.std.proofs.lemmas.Bool.{cases_eq}
use Rattle.polynomials.specs.Tables.{IsRow}

-- what holds of none and of one, and passes from h to 2 h and 2 h + 1, holds of each multiple
module _ {T : Type 0} (P : ℕ → T → Type 0) (none unit : T) (twice : T → T → Type 0) (sum : T → T → T → Type 0) (row : List T)
    (made : IsRow none unit twice sum row) (p0 : P 0 none) (p1 : P 1 unit)
    (step : (h : ℕ) (x y z : T) → h < 8 → P h x → twice x y → sum y unit z → P (2 * h) y × P (2 * h + 1) z) where
  up_to : (k m : ℕ) → m < 2 ^ k → m < 16 → P m (get_or row m none)
  up_to zero m h l =
      let e : m ≡ 0 = omega arith in
      subst (λ (n : ℕ). P n (get_or row n none)) (sym e) (subst (P 0) (sym made.empty) p0)
  up_to (suc k) m l s = elim (cases_eq (m / 2) 0) [
    | inl low ↦ elim (cases_eq m 0) [
      | inl e ↦ subst (λ (n : ℕ). P n (get_or row n none)) (sym e) (subst (P 0) (sym made.empty) p0)
      | inr ne ↦
          let e : m ≡ 1 = omega arith in
          subst (λ (n : ℕ). P n (get_or row n none)) (sym e) (subst (P 1) (sym made.single) p1)
    ]
    | inr high ↦
        let h : ℕ = m / 2 in
        let half : P h (get_or row h none) = up_to k h (omega arith) (omega arith) in
        let more = made.more h (omega arith, omega arith) in
        let both = step h _ _ _ (omega arith) half more.0 more.1 in
        elim (cases_eq (m % 2) 0) [
          | inl even ↦
              let e : 2 * h ≡ m = omega arith in
              subst (λ (n : ℕ). P n (get_or row n none)) e both.0
          | inr odd ↦
              let e : 2 * h + 1 ≡ m = omega arith in
              subst (λ (n : ℕ). P n (get_or row n none)) e both.1
        ]
  ]

  pub row_all : (m : ℕ) → m < 16 → P m (get_or row m none)
  row_all m l = up_to 4 m (omega arith) l
