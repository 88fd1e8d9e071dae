-- The coefficients of polynomials in n as numbers that belong to the whole ones, and those of a form.
use Rattle.std.specs.Prelude.{◌≡◌, ℕ, ◌≤◌, ℤ, pos, List, [], ◌∷◌, refl}
use Rattle.std.proofs.Common.{ap, arith}
use Rattle.ring_laws.specs.Meaning.{number}
use Rattle.ring_laws.specs.Algebra.{Ops, Passing, within}
use Rattle.ring_laws.specs.WholeLaws.{whole_laws}
use Rattle.ring_laws.specs.Wholes.{whole_algebra, number_of}
use Rattle.poly_laws.proofs.Coefficients.{coefficients, poly_closed, meanings-coefficients, meanings_same}
use Rattle.whole_roots.specs.Differences.{polynomials}
use Rattle.whole_roots.proofs.DifferenceLaws.{base}
use Rattle.whole_roots.proofs.FormPowers.{form}

abbrev pub poly : Ops (Passing polynomials)
poly = within polynomials (poly_closed whole_algebra whole_laws.closed)

abbrev pub parts : Passing polynomials → List (Passing whole_algebra)
parts x = coefficients whole_algebra whole_laws.closed x

abbrev pub whole : ℤ → Passing whole_algebra
whole z = (number z, refl)

module _ (u : ℕ) (v : ℤ) (some : 1 ≤ u) where
  pub form_parts : parts (form u v some) ≡ whole v ∷ whole (pos u) ∷ []
  form_parts = meanings_same whole_algebra whole_laws.closed (parts (form u v some)) (whole v ∷ whole (pos u) ∷ [])
      (meanings-coefficients whole_algebra whole_laws.closed (form u v some))

  pub slope_not : ¬ (whole (pos u) ≡ base.nought)
  slope_not e = absurd (omega (arith, some, zero_is u (ap (λ (x : Passing whole_algebra). number_of x.0) e)))
    where
      zero_is : (n : ℕ) → pos n ≡ pos 0 → n ≡ 0
      zero_is n h = cc h
