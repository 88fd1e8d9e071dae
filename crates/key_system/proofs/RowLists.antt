-- The rows, one after the other.
use Rattle.std.proofs.Common.{◌≡◌, ℕ, zero, suc, Bool, true, false, cond, List, [], ◌∷◌, ◌++◌, refl, ap, sym, ◌∙◌, subst, arith, append_assoc}
use Rattle.ring_laws.specs.Algebra.{Ops}
use Rattle.poly_laws.specs.LongDivision.{all_nought}
use Rattle.key_laws.specs.KeyRows.{row_at, with_row, rows_below}

module _ {A : Type 0} (o : Ops A) where
  kept_in_front : (b : Bool) (row : List A) (rows : List (List A)) → cond b rows (row ∷ rows) ≡ cond b [] (row ∷ []) ++ rows
  kept_in_front true row rows = refl
  kept_in_front false row rows = refl

  rows_suc : (columns : List (List A)) (n power : ℕ) → n ≡ suc power
      → rows_below o columns n ≡ with_row o (row_at o columns power) [] ++ rows_below o columns power
  rows_suc columns zero power e = absurd (omega arith)
  rows_suc columns (suc n) power e =
      let same : n ≡ power = omega arith in
      subst (λ p. rows_below o columns (suc n) ≡ with_row o (row_at o columns p) [] ++ rows_below o columns p) same
      (kept_in_front (all_nought o (row_at o columns n)) (row_at o columns n) (rows_below o columns n))

  -- the row of the greatest power moves to the rows that are made
  pub row_moved : (columns made new all : List (List A)) (row : List A) (n power : ℕ) → n ≡ suc power → row ≡ row_at o columns power
      → new ≡ made ++ with_row o row [] → made ++ rows_below o columns n ≡ all → new ++ rows_below o columns power ≡ all
  row_moved columns made new all row n power e r g h =
      let w : List (List A) = with_row o (row_at o columns power) [] in
      ap (λ t. t ++ rows_below o columns power) (g ∙ ap (λ t. made ++ with_row o t []) r)
      ∙ append_assoc made w (rows_below o columns power)
      ∙ ap (λ t. made ++ t) (sym (rows_suc columns n power e)) ∙ h
