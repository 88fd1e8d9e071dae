-- A polynomial in one variable read as one in k over n: its values, and that it keeps its bounds.
use Rattle.std.proofs.Common.{◌≡◌, ◌≢◌, ℕ, zero, suc, List, [], ◌∷◌, length, map, refl, ap, sym, ◌∙◌, arith, subst, lit≤, lit<}
use Rattle.std.proofs.lemmas.Bool.{and_parts}
use Rattle.std.proofs.lemmas.List.{length-map}
use Rattle.std.specs.Prelude.{ℤ, pos, negsuc, ◌+ℤ◌, ◌*ℤ◌, IsTrue}
use Rattle.ring_laws.specs.Meaning.{Meaning, number, several, items, parted, parted-joined}
use Rattle.ring_laws.specs.Wholes.{number_of, is_number}
use Rattle.poly_laws.specs.Lists.{coefficient_at, is_trimmed}
use Rattle.poly_laws.specs.PolyAlgebra.{every_passes, is_empty}
use Rattle.poly_laws.specs.Values.{horner, value_at, level}
use Rattle.poly_laws.proofs.Keeps.{value_at_keeps}
use Rattle.poly_laws.proofs.Belonging.{value_passes}
use Rattle.poly_laws.proofs.Equal.{level_laws}
use Rattle.hypergeometric.specs.Point.{Point, values_in_n}
use Rattle.hypergeometric.specs.ProperTerm.{poly_value}
use Rattle.hypergeometric.specs.TermFacts.{IsPolynomial, IsNumber}
use Rattle.cert_text.specs.PolynomialDocument.{as_constant_in_n, in_k}

horner_constants : (p : Point) (cs : List Meaning) → horner (value_at (values_in_n p)) p.k (map as_constant_in_n cs) ≡ horner number_of p.k cs
horner_constants p [] = refl
horner_constants p (c ∷ cs) =
    ap (λ z. z +ℤ p.k *ℤ horner (value_at (values_in_n p)) p.k (map as_constant_in_n cs)) ((value_at_keeps (values_in_n p)).whole (number_of c))
    ∙ ap (λ z. number_of c +ℤ p.k *ℤ z) (horner_constants p cs)

-- its value doesn't depend on n
pub in_k_value : (poly : Meaning) (p : Point) → poly_value (in_k poly) p ≡ value_at (p.k ∷ []) poly
in_k_value poly p = ap (horner (value_at (values_in_n p)) p.k) (parted-joined (map as_constant_in_n (items poly))) ∙ horner_constants p (items poly)

constant_not_zero : (z : ℤ) → is_empty (items ((level 1).ops.whole z)) ≡ (level 0).ops.is_nought (number z)
constant_not_zero (pos zero) = refl
constant_not_zero (pos (suc n)) = refl
constant_not_zero (negsuc n) = refl

constants_trimmed : (cs : List Meaning) → IsTrue (is_trimmed (level 0).ops cs) → IsTrue (is_trimmed (level 1).ops (map as_constant_in_n cs))
constants_trimmed [] h = refl
constants_trimmed (c ∷ []) h = rw (constant_not_zero (number_of c)) h
constants_trimmed (c ∷ d ∷ cs) h = constants_trimmed (d ∷ cs) h

-- a number as a polynomial in n
pub constant_polynomial : (z : ℤ) → IsNumber z → IsPolynomial 1 ((level 1).ops.whole z)
constant_polynomial z h = record { passes = (level_laws 1).closed.whole z; fits = fits z h }
  where
    at_first : (z : ℤ) → IsNumber z → (k : ℕ) → (level 0).ops.Fits (coefficient_at (level 0).ops (number z ∷ []) k)
    at_first z h zero = h
    at_first z h (suc k) = lit< tt

    fits : (z : ℤ) → IsNumber z → (level 1).ops.Fits ((level 1).ops.whole z)
    fits (pos zero) h = (lit≤ tt, λ k. lit< tt)
    fits (pos (suc n)) h = (lit≤ tt, at_first (pos (suc n)) h)
    fits (negsuc n) h = (lit≤ tt, at_first (negsuc n) h)

constants_fit : (cs : List Meaning) → ((k : ℕ) → (level 0).ops.Fits (coefficient_at (level 0).ops cs k))
    → (k : ℕ) → (level 1).ops.Fits (coefficient_at (level 1).ops (map as_constant_in_n cs) k)
constants_fit [] h k = (level_laws 1).magnitudes.fits_nought
constants_fit (c ∷ cs) h zero = (constant_polynomial (number_of c) (h 0)).fits
constants_fit (c ∷ cs) h (suc k) = constants_fit cs (λ i. h (suc i)) k

trimmed_items : (p : Meaning) → IsTrue ((level 1).passes p) → IsTrue (is_trimmed (level 0).ops (items p))
trimmed_items (number z) h = cc
trimmed_items (several xs) h = (and_parts (every_passes is_number (parted xs)) (is_trimmed (level 0).ops (parted xs)) h).1

pub in_k_polynomial : (p : Meaning) → IsPolynomial 1 p → IsPolynomial 2 (in_k p)
in_k_polynomial p h = record {
  passes = value_passes (level 1) as_constant_in_n (λ c. (level_laws 1).closed.whole (number_of c)) (items p) (constants_trimmed (items p) (trimmed_items p h.passes));
  fits = (
    omega (arith, ap length (parted-joined (map as_constant_in_n (items p))), length-map (items p) as_constant_in_n, h.fits.0),
    λ k. subst (λ t. (level 1).ops.Fits (coefficient_at (level 1).ops t k)) (sym (parted-joined (map as_constant_in_n (items p)))) (constants_fit (items p) h.fits.1 k),
  );
}

-- what isn't 0 stays so
pub in_k_not_zero : (p : Meaning) → items p ≢ [] → in_k p ≢ (level 2).ops.nought
in_k_not_zero p h e = no_items (items p) h (sym (parted-joined (map as_constant_in_n (items p))) ∙ ap items e)
  where
    no_items : (cs : List Meaning) → cs ≢ [] → map as_constant_in_n cs ≢ []
    no_items [] h e = h refl
    no_items (c ∷ cs) h e = cc
