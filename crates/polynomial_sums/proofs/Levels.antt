-- The rings of polynomials level by level: whole numbers, and the polynomials over a ring of polynomials, have letters.
use Rattle.std.specs.Prelude.{◌≡◌, ℕ, suc, ◌&&◌, not, IsTrue, List, [], ◌∷◌, get_or}
use Rattle.std.proofs.Common.{refl, ap, sym, ◌∙◌, subst}
use Rattle.ring_laws.specs.Meaning.{Meaning, number, several, parted, items}
use Rattle.ring_laws.specs.Algebra.{Algebra}
use Rattle.ring_laws.specs.Wholes.{whole_algebra}
use Rattle.poly_laws.specs.Lists.{is_trimmed}
use Rattle.poly_laws.specs.PolyAlgebra.{every_passes, poly_passes, poly_algebra}
use Rattle.poly_laws.specs.Values.{level}
use Rattle.hypergeometric.specs.TermFacts.{IsPolynomial}
use Rattle.polynomial_sums.specs.PolynomialSums.{HasLetters}

pub whole_has_letters : HasLetters 0 whole_algebra
whole_has_letters = record { nought = refl; is_nought = λ m. refl; passes = λ m. refl; fits = λ m h. h }

module _ (n : ℕ) (a : Algebra) (h : HasLetters n a) where
  each_passes : (xs : List Meaning) → every_passes a.passes xs ≡ every_passes (level n).passes xs
  each_passes [] = refl
  each_passes (x ∷ xs) = λ i. h.passes x i && each_passes xs i

  pub trimmed_alike : (xs : List Meaning) → is_trimmed a.ops xs ≡ is_trimmed (level n).ops xs
  trimmed_alike [] = refl
  trimmed_alike (x ∷ []) = ap not (h.is_nought x)
  trimmed_alike (x ∷ y ∷ ys) = trimmed_alike (y ∷ ys)

  passes : (m : Meaning) → poly_passes a m ≡ poly_passes (level n) m
  passes (number z) = refl
  passes (several xs) = λ i. each_passes (parted xs) i && trimmed_alike (parted xs) i

  fits : (m : Meaning) → (poly_algebra a).ops.Fits m → (level (suc n)).ops.Fits m
  fits m f = (
    f.0,
    λ k. subst (λ d. (level n).ops.Fits (get_or (items m) k d)) h.nought (h.fits (get_or (items m) k a.ops.nought) (f.1 k)),
  )

  pub poly_has_letters : HasLetters (suc n) (poly_algebra a)
  poly_has_letters = record { nought = refl; is_nought = λ m. refl; passes = passes; fits = fits }

  -- a member that fits is a polynomial in so many letters
  pub is_polynomial : (m : Meaning) → IsTrue (a.passes m) → a.ops.Fits m → IsPolynomial n m
  is_polynomial m p f = record { passes = sym (h.passes m) ∙ p; fits = h.fits m f }
