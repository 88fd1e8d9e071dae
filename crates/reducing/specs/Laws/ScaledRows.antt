-- Rows times one value of a domain: such a value that isn't zero cancels.
-- These are lemmas: they stand in specs/, since the laws that `Reducing` names rest on them.
use Rattle.std.specs.Prelude.{◌≡◌, pos, List, [], ◌∷◌, map, refl}
use Rattle.std.proofs.Common.{ap, sym, ◌∙◌, ⊎_elim}
use Rattle.ring_laws.specs.Algebra.{Ops, Algebra, Passing, within, Laws}
use Rattle.ring_laws.specs.Division.{DomainLaws}
use Rattle.poly_laws.proofs.Coefficients.{meanings_same}
use Rattle.poly_laws.proofs.PolyDomain.{no_divisors_within}
use Rattle.kernel_laws.specs.Reduction.{bare}
use Rattle.kernel_laws.proofs.Cancelling.{cancel_factor}
use Rattle.reducing.specs.TakenOut.{times_row}

module _ (a : Algebra) (l : Laws a) (d : DomainLaws a) where
  abbrev W : Ops (Passing a)
  W = within a l.closed

  abbrev Row : Type 0
  Row = List (Passing a)

  -- each entry times t
  abbrev pub scaled : Passing a → Row → Row
  scaled t row = map (λ x. W.product x t) row

  pub bare_scaled : (t : Passing a) (row : Row) → bare a (scaled t row) ≡ times_row a t.0 row
  bare_scaled t [] = refl
  bare_scaled t (x ∷ xs) = ap (λ s. a.ops.product x.0 t.0 ∷ s) (bare_scaled t xs)

  pub scaled_is : (t : Passing a) (old new : Row) → bare a old ≡ times_row a t.0 new → old ≡ scaled t new
  scaled_is t old new e = meanings_same a l.closed old (scaled t new) (e ∙ sym (bare_scaled t new))

  pub is_scaled : (t : Passing a) (old new : Row) → old ≡ scaled t new → bare a old ≡ times_row a t.0 new
  is_scaled t old new e = ap (bare a) e ∙ bare_scaled t new

  pub cancel_row : (t : Passing a) → ¬ (t ≡ W.nought) → (xs ys : Row) → scaled t xs ≡ scaled t ys → xs ≡ ys
  cancel_row t n [] [] e = refl
  cancel_row t n [] (y ∷ ys) e = cc
  cancel_row t n (x ∷ xs) [] e = cc
  cancel_row t n (x ∷ xs) (y ∷ ys) e = cc (cancel_factor a l d x y t n (first e), cancel_row t n xs ys (rest e))
    where
      first : {v w : Passing a} {vs ws : Row} → v ∷ vs ≡ w ∷ ws → v ≡ w
      first e = cc

      rest : {v w : Passing a} {vs ws : Row} → v ∷ vs ≡ w ∷ ws → vs ≡ ws
      rest e = cc

  pub scaled_twice : (s t : Passing a) (row : Row) → scaled s (scaled t row) ≡ scaled (W.product t s) row
  scaled_twice s t [] = refl
  scaled_twice s t (x ∷ xs) = cc (l.ring.product_assoc x t s, scaled_twice s t xs)

  pub unit_not_nought : ¬ (W.unit ≡ W.nought)
  unit_not_nought e = one_not_zero (d.whole_nought (pos 1) (ap (λ (v : Passing a). v.0) (l.ring.whole_one ∙ e)))
    where
      one_not_zero : ¬ (pos 1 ≡ pos 0)
      one_not_zero h = cc

  pub product_not_nought : (s t : Passing a) → ¬ (s ≡ W.nought) → ¬ (t ≡ W.nought) → ¬ (W.product s t ≡ W.nought)
  product_not_nought s t m n e = ⊎_elim m n (no_divisors_within a l.closed d s t e)
