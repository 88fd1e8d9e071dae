-- Nothing common divides the entries of the vector of the steps: its last step reduced it, or it has an entry 1.
use Rattle.std.proofs.Common.{◌≡◌, ℕ, zero, suc, ◌<◌, ◌≤◌, List, [], ◌∷◌, length, refl, ap, sym, ◌∙◌, subst, arith}
use Rattle.std.proofs.Math.Nat.{eq-one_of_dvd-one}
use Rattle.std.proofs.lemmas.Int.{ints}
use Rattle.std.specs.Int.{◌∣◌}
use Rattle.std.specs.Prelude.{ℤ, pos}
use Rattle.ring_laws.specs.Meaning.{Meaning}
use Rattle.ring_laws.specs.Algebra.{Ops, Passing, within}
use Rattle.poly_divide.specs.Forms.{linear}
use Rattle.whole_roots.specs.Differences.{polynomials}
use Rattle.whole_roots.specs.LinearFactors.{form_power}
use Rattle.kernel_laws.specs.Rows.{entry_at}
use Rattle.kernel_laws.specs.RowSteps.{HasQuotient}
use Rattle.kernel_laws.specs.Kernels.{EndsAt}
use Rattle.kernel_laws.specs.Answers.{VectorOf}
use Rattle.kernel_laws.specs.BackSubstitution.{zeros, unit_vector, BackRun, begin, step}
use Rattle.reducing.specs.Laws.FactorLists.{laws, linear_is_factor}
use Rattle.reducing.specs.TakenOut.{times_row}
use Rattle.reducing.specs.NothingCommon.{DividesEntries, HasNothingCommon}
use Rattle.reducing.specs.PolynomialRows.{Row, meant, PolynomialsReduced, polynomial_reduction}
use Rattle.reducing.proofs.CommonForms.{no_common_form}
use Rattle.reducing.proofs.CommonNumbers.{no_common_number, number_divides}
use Rattle.reducing.proofs.ZeroRows.{zero_row}
use Rattle.reducing.proofs.Constants.{no_form_divides}

abbrev o : Ops Meaning
o = polynomials.ops

pub record IsTimes (t : Meaning) (row : Row) : Type 0 where
  pub quotients : Row
  pub is : meant row ≡ times_row polynomials t quotients

divided : (t : Meaning) (row : Row) → DividesEntries t (meant row) → IsTimes t row
divided t [] h = record { quotients = []; is = refl }
divided t (x ∷ xs) h =
    let rest = divided t xs (λ k b. h (suc k) (omega (arith, b))) in
    let first = h 0 (omega arith) in
    record { quotients = first.quotient ∷ rest.quotients; is = cc (first.is, rest.is) }

not_one : (c : ℕ) → 1 < c → ¬ (c ∣ 1)
not_one c b h = omega (arith, b, eq-one_of_dvd-one h)

-- a reduced row with an entry that isn't zero
of_reduced : (old : List Meaning) (row : Row) (k : ℕ) → ¬ (entry_at polynomials.ops (meant row) k ≡ polynomials.ops.nought)
    → PolynomialsReduced old (meant row) → HasNothingCommon (meant row)
of_reduced old row k some h = record {
  numbers = λ c b d.
      let t = divided (o.whole (pos c)) row d in
      not_one c b ((no_common_number old (meant row) h (λ e. some (zero_row row e k))).greatest c (number_divides c row t.quotients t.is));
  forms = λ u v p d.
      let t = divided (linear (pos u) v) row d in
      no_common_form old (meant row) h (λ e. some (zero_row row e k)) u v p t.quotients t.is;
}

-- an entry 1 has no such divisor
number_of_one : (c : ℕ) → 1 < c → ¬ (HasQuotient polynomials (polynomials.ops.whole (pos c)) polynomials.ops.unit)
number_of_one c b q =
    not_one c b ((number_divides c ((o.unit, laws.closed.unit) ∷ []) (q.quotient ∷ []) (ap (λ t. t ∷ []) (sym q.is))).0)

form_of_one : (u : ℕ) (v : ℤ) → 1 ≤ u → ¬ (HasQuotient polynomials (linear (pos u) v) polynomials.ops.unit)
form_of_one u v b q = no_form_divides (pos 1) (λ z. omega (arith, ints, z)) refl u v b (record { quotient = q.quotient; is = once ∙ q.is })
  where
    W : Ops (Passing polynomials)
    W = within polynomials laws.closed

    once : o.product q.quotient.0 (form_power u v 1) ≡ o.product q.quotient.0 (linear (pos u) v)
    once = ap (λ (t : Passing polynomials). o.product q.quotient.0 t.0) (laws.ring.unit_product (linear (pos u) v, (linear_is_factor u v b).0))

unit_here : (n free : ℕ) → free < n → entry_at polynomials.ops (unit_vector polynomials.ops n free) free ≡ polynomials.ops.unit
unit_here zero free b = absurd (omega (arith, b))
unit_here (suc n) zero b = refl
unit_here (suc n) (suc free) b = unit_here n free (omega (arith, b))

unit_length : (n free : ℕ) → length (unit_vector polynomials.ops n free) ≡ n
unit_length zero zero = refl
unit_length zero (suc free) = refl
unit_length (suc n) zero = ap suc (zeros_length n)
  where
    zeros_length : (n : ℕ) → length (zeros polynomials.ops n) ≡ n
    zeros_length zero = refl
    zeros_length (suc n) = ap suc (zeros_length n)
unit_length (suc n) (suc free) = ap suc (unit_length n free)

of_unit : (n free : ℕ) → free < n → HasNothingCommon (unit_vector polynomials.ops n free)
of_unit n free b = record {
  numbers = λ c l d. number_of_one c l (at (o.whole (pos c)) d);
  forms = λ u v p d. form_of_one u v p.from_one (at (linear (pos u) v) d);
}
  where
    at : (t : Meaning) → DividesEntries t (unit_vector polynomials.ops n free) → HasQuotient polynomials t polynomials.ops.unit
    at t d = subst (HasQuotient polynomials t) (unit_here n free b) (d free (omega (arith, b, unit_length n free)))

pub nothing_common : (columns : ℕ) (rows : List (List Meaning)) (free : ℕ) (vector : List Meaning)
    → VectorOf polynomials polynomial_reduction columns rows free vector → EndsAt polynomials.ops columns (entry_at polynomials.ops vector) free
    → HasNothingCommon vector
nothing_common columns rows free vector h e = by h.pivots vector h.back e.here
  where
    by : (pivots : List (ℕ × List Meaning)) (vector : List Meaning) → BackRun polynomials polynomial_reduction columns free pivots vector
        → ¬ (entry_at polynomials.ops vector free ≡ polynomials.ops.nought) → HasNothingCommon vector
    by _ _ begin some = of_unit columns free e.within
    by _ vector (step b s) some =
        subst HasNothingCommon (sym s.reduced.result_is)
        (of_reduced _ s.reduced.result free (λ z. some (ap (λ v. entry_at polynomials.ops v free) s.reduced.result_is ∙ z))
        (subst (PolynomialsReduced _) s.reduced.result_is s.reduced))
