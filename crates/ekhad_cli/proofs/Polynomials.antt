-- Lists of numbers as polynomials: their values, their coefficients and their bounds.
use Rattle.std.proofs.Common.{◌≡◌, ◌≢◌, ℕ, zero, suc, ◌<◌, ◌≤◌, ◌^◌, List, [], ◌∷◌, length, get_or, map, refl, ap, ◌∙◌, arith, Result, Ok, Err}
use Rattle.std.proofs.lemmas.List.{length-map}
use Rattle.std.proofs.lemmas.Bool.{and_from}
use Rattle.std.specs.Prelude.{ℤ, pos, negsuc, ◌+ℤ◌, ◌*ℤ◌, unsigned_abs, IsTrue, All}
use Rattle.ring_laws.specs.Meaning.{Meaning, number, items, parted-joined}
use Rattle.ring_laws.specs.Wholes.{whole_algebra, number_of, is_number}
use Rattle.ring_laws.specs.Answer.{GivesInBounds}
use Rattle.ring_laws.specs.declared.faults.RingFault.{RingFault}
use Rattle.ring_laws.specs.declared.faults.RingFault.TheVariants.{TooLarge, Memory}
use Rattle.poly_laws.specs.Lists.{coefficient_at, trimmed, in_front, is_trimmed}
use Rattle.poly_laws.specs.PolyAlgebra.{every_passes}
use Rattle.poly_laws.specs.Values.{horner, value_at}
use Rattle.poly_laws.proofs.Keeps.{of_list, whole_keeps}
use Rattle.poly_laws.proofs.Trimming.{is_trimmed_trimmed, length-trimmed}
use Rattle.cert_checker.proofs.SmallCoefficients.{number_at, AreWithin, trimmed_at}
use Rattle.hypergeometric.specs.TermFacts.{IsPolynomial}
use Rattle.ekhad_cli.specs.Antidifference.{value_of}
use Rattle.ekhad_cli.specs.Answer.{coefficient}
use Rattle.ekhad_cli.specs.FirstRun.{polynomial_of}

horner_numbers : (k : ℤ) (cs : List ℤ) → horner number_of k (map number cs) ≡ value_of cs k
horner_numbers k [] = refl
horner_numbers k (c ∷ cs) = ap (λ z. c +ℤ k *ℤ z) (horner_numbers k cs)

pub polynomial_value_of : (cs : List ℤ) (k : ℤ) → value_at (k ∷ []) (polynomial_of cs) ≡ value_of cs k
polynomial_value_of cs k = of_list whole_algebra.ops number_of whole_keeps k (map number cs) ∙ horner_numbers k cs

number_in : (cs : List ℤ) (i : ℕ) → number_at (map number cs) i ≡ get_or cs i (pos 0)
number_in [] i = refl
number_in (c ∷ cs) zero = refl
number_in (c ∷ cs) (suc i) = number_in cs i

pub coefficient_of : (cs : List ℤ) (i : ℕ) → coefficient (polynomial_of cs) i ≡ get_or cs i (pos 0)
coefficient_of cs i =
    ap (λ xs. number_of (coefficient_at whole_algebra.ops xs i)) (parted-joined (trimmed whole_algebra.ops (map number cs))) ∙ trimmed_at (map number cs) i ∙ number_in cs i

in_front_numbers : (c : ℤ) (t : List Meaning) → IsTrue (every_passes is_number t) → IsTrue (every_passes is_number (in_front whole_algebra.ops (number c) t))
in_front_numbers (pos zero) [] h = refl
in_front_numbers (pos (suc n)) [] h = refl
in_front_numbers (negsuc n) [] h = refl
in_front_numbers c (y ∷ ys) h = h

trimmed_numbers : (cs : List ℤ) → IsTrue (every_passes is_number (trimmed whole_algebra.ops (map number cs)))
trimmed_numbers [] = refl
trimmed_numbers (c ∷ cs) = in_front_numbers c (trimmed whole_algebra.ops (map number cs)) (trimmed_numbers cs)

pub trimmed_length : (cs : List ℤ) → length (trimmed whole_algebra.ops (map number cs)) ≤ length cs
trimmed_length cs = omega (arith, length-trimmed whole_algebra.ops (map number cs), length-map cs number)

pub polynomial_length : (cs : List ℤ) → length (items (polynomial_of cs)) ≤ length cs
polynomial_length cs = omega (arith, ap length (parted-joined (trimmed whole_algebra.ops (map number cs))), trimmed_length cs)

small_at : (cs : List ℤ) (i : ℕ) → All (λ c. unsigned_abs c ≤ 1500000000) cs → unsigned_abs (get_or cs i (pos 0)) ≤ 1500000000
small_at [] i h = omega arith
small_at (c ∷ cs) zero h = h 0 (pos 0) (omega arith)
small_at (c ∷ cs) (suc i) h = small_at cs i (λ j d k. h (suc j) d (omega arith))

pub polynomial_within : (cs : List ℤ) → All (λ c. unsigned_abs c ≤ 1500000000) cs → AreWithin (2 ^ 31) (items (polynomial_of cs))
polynomial_within cs small i = omega (arith, ap unsigned_abs (coefficient_of cs i), small_at cs i small)

-- few small numbers are within the bounds of a polynomial
pub polynomial_bounded : (cs : List ℤ) → length cs ≤ 256 → All (λ c. unsigned_abs c ≤ 1500000000) cs → IsPolynomial 1 (polynomial_of cs)
polynomial_bounded cs short small = record {
  passes = and_from _ _
      (ap (every_passes is_number) (parted-joined (trimmed whole_algebra.ops (map number cs))) ∙ trimmed_numbers cs)
      (ap (is_trimmed whole_algebra.ops) (parted-joined (trimmed whole_algebra.ops (map number cs))) ∙ is_trimmed_trimmed whole_algebra.ops (map number cs));
  fits = (
    omega (arith, polynomial_length cs, short),
    λ i. below (coefficient (polynomial_of cs) i) (omega (arith, ap unsigned_abs (coefficient_of cs i), small_at cs i small)),
  );
}
  where
    below : (z : ℤ) → unsigned_abs z ≤ 1500000000 → unsigned_abs z < 2 ^ 127
    below z h = omega (arith, h)

-- an answer that is too large only outside the bounds isn't so within them
pub never_too_large : {T : Type 0} (meaning : T → Meaning) (InBounds : Type 0) (m : Meaning) (r : Result T RingFault)
    → InBounds → GivesInBounds meaning InBounds m r → r ≢ Err TooLarge
never_too_large meaning InBounds m (Ok x) b g e = cc
never_too_large meaning InBounds m (Err TooLarge) b g e = g b
never_too_large meaning InBounds m (Err Memory) b g e = cc
