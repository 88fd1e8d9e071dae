-- The row of the code, reduced: its content is taken out, and then the linear factors of the first entry of least degree.
use Rattle.std.specs.Prelude.{◌≢◌, unsigned_abs}
use Rattle.std.specs.List.{AllByRecursion}
use Rattle.std.proofs.Common.{◌≡◌, ℕ, ◌+◌, ◌<◌, ◌≤◌, ℤ, pos, ◌≤ℤ◌, List, [], ◌∷◌, map, length, get_or, ap, ◌∙◌, subst, sym, arith, Result, Ok, Err, Vec, Option, Some}
use Rattle.std.proofs.lemmas.Int.{ints}
use Rattle.std.proofs.lemmas.List.{length-map}
use Rattle.ring_laws.specs.Meaning.{Meaning}
use Rattle.ring_laws.specs.Algebra.{Passing}
use Rattle.ring_laws.specs.Answer.{OnFault, fault_weaker}
use Rattle.ring_laws.specs.declared.faults.RingFault.{RingFault}
use Rattle.poly_divide.specs.Content.{row_sizes, IsContent}
use Rattle.poly_divide.specs.Forms.{linear}
use Rattle.poly_generic.proofs.ListLemmas.{at_item}
use Rattle.whole_roots.specs.Differences.{polynomials}
use Rattle.whole_roots.specs.LinearFactors.{Entry, AreLinearFactors, IsLinearFactor, form_power}
use Rattle.whole_roots.specs.FactorBounds.{FactorsInBounds}
use Rattle.kernel_laws.specs.Rows.{entry_at}
use Rattle.reducing.specs.RowAnswer.{GivesRow}
use Rattle.reducing.specs.TakenOut.{raised_to, times_row, AllTakenOut, AllTakingOutInBounds}
use Rattle.reducing.specs.PolynomialRows.{meant, IsLeast, IsLeastOf, WithoutContent, FactorsOfLeast, forms, stays, divides, OfRows, PolynomialsReduced, PolynomialsInBounds, DivisionOfPolynomials}
use Rattle.reducing.specs.Laws.FactorLists.{P, form_power_is}
use Rattle.reducing.specs.PolynomialAnswers.{LeastOf, IsMost, FactorsOfRowInBounds}
use Rattle.reducing.proofs.Polynomials.{Zn, sense, senses, row_of, row_meant}
use Rattle.reducing.proofs.WithoutFactor.{row_is, products_are, entry_of_times}

-- a row of zeros
pub row_stays : (row : List Zn) (d : ℤ) → IsContent (row_sizes (senses row)) (unsigned_abs d) → d ≡ pos 0
    → PolynomialsReduced (senses row) (senses row)
row_stays row d h e = record {
  row = row_of row;
  row_is = row_meant row;
  result = row_of row;
  result_is = row_meant row;
  holds = stays (subst (λ ms. IsContent (row_sizes ms) 0) (row_meant row) (subst (λ z. IsContent (row_sizes (senses row)) (unsigned_abs z)) e h));
}

-- ---- the place of the least entry
pub least_is : (row : List Zn) (place : ℕ) (r : Option ℕ) → r ≡ Some place → LeastOf (senses row) (length row) r → IsLeast (senses row) place
least_is row place r e h =
    subst (λ n. IsLeastOf (senses row) n place) (sym (length-map row sense)) (subst (λ o. LeastOf (senses row) (length row) o) e h)

pub place_within : (row : List Zn) (place : ℕ) → IsLeast (senses row) place → place < length row
place_within row place h = omega (arith, h.within, length-map row sense)

pub entry_is : (row : List Zn) (place : ℕ) (f : Zn) → IsLeast (senses row) place → f ≡ get_or row place f
    → entry_at polynomials.ops (senses row) place ≡ sense f
entry_is row place f h e = at_item polynomials.ops sense row place f (place_within row place h) e

-- ---- the factors of an entry
-- a power that divides the row divides the entry
most_of : (row : List Zn) (place : ℕ) (x : Entry) → place < length row
    → IsLinearFactor (entry_at polynomials.ops (senses row) place) x → IsMost (linear (pos x.0.0) x.0.1) x.1 (senses row)
most_of row place x b h rest e =
    absurd (omega (arith, h.power.greatest (x.1 + 1) (record { quotient = get_or rest place P.nought; is = divides_entry })))
  where
    t : Meaning
    t = raised_to polynomials.ops (linear (pos x.0.0) x.0.1) (x.1 + 1)

    inside : place < length rest
    inside = omega (
      arith,
      b,
      ap length e,
      length-map row sense,
      length-map rest (λ (v : Passing polynomials). polynomials.ops.product v.0 t),
    )

    divides_entry : polynomials.ops.product (get_or rest place P.nought).0 (form_power x.0.0 x.0.1 (x.1 + 1))
        ≡ entry_at polynomials.ops (senses row) place
    divides_entry = ap (polynomials.ops.product (get_or rest place P.nought).0) (form_power_is x.0.0 x.0.1 (x.1 + 1))
        ∙ sym (entry_of_times t rest place inside) ∙ ap (λ ms. entry_at polynomials.ops ms place) (sym e)

pub each_most : (row : List Zn) (place : ℕ) (xs : List Entry) → place < length row
    → AllByRecursion (IsLinearFactor (entry_at polynomials.ops (senses row) place)) xs
    → AllByRecursion (λ (x : Entry). IsMost (linear (pos x.0.0) x.0.1) x.1 (senses row)) xs
each_most row place [] b h = tt
each_most row place (x ∷ xs) b h = (most_of row place x b h.0, each_most row place xs b h.1)

pub each_slope : (f : Meaning) (xs : List Entry) → AllByRecursion (IsLinearFactor f) xs → AllByRecursion (λ (x : Entry). 1 ≤ x.0.0) xs
each_slope f [] h = tt
each_slope f (x ∷ xs) h = (h.0.form.from_one, each_slope f xs h.1)

-- ---- the quotients by the content
module _ (row quotients : List Zn) (d : ℤ) (h : IsContent (row_sizes (senses row)) (unsigned_abs d)) (sign : pos 0 ≤ℤ d) (n : d ≢ pos 0)
    (e : senses row ≡ map (λ f. polynomials.ops.product (sense f) (polynomials.ops.whole d)) quotients) where
  without : WithoutContent (row_of row) (row_of quotients)
  without = record {
    content = unsigned_abs d;
    is_content = subst (λ ms. IsContent (row_sizes ms) (unsigned_abs d)) (row_meant row) h;
    not_zero = λ z. n (omega (arith, ints, z, sign));
    times = sym (row_meant row) ∙ e ∙ products_are (polynomials.ops.whole d) quotients
        ∙ ap (λ z. times_row polynomials (polynomials.ops.whole z) (row_of quotients)) value_is;
  }
    where
      value_is : d ≡ pos (unsigned_abs d)
      value_is = omega (arith, ints, sign)

  module _ (place : ℕ) (least : IsLeast (senses quotients) place) where
    least_meant : IsLeast (meant (row_of quotients)) place
    least_meant = subst (λ ms. IsLeast ms place) (row_meant quotients) least

    pub factoring_fault : (fault : RingFault) → OnFault (¬ (FactorsInBounds (entry_at polynomials.ops (senses quotients) place))) fault
        → OnFault (¬ (PolynomialsInBounds (senses row))) fault
    factoring_fault fault k =
        fault_weaker fault (λ m s. m (subst (λ ms. FactorsInBounds (entry_at polynomials.ops ms place)) (sym (row_meant quotients))
        (s.factoring (row_of row) (row_of quotients) place (row_meant row) without least_meant))) k

    pub reduced_row : {Z : Type 0} (xs : List Entry) (r : Result (Vec Zn Z) RingFault)
        → AreLinearFactors (entry_at polynomials.ops (senses quotients) place) xs
        → GivesRow sense (OfRows (AllTakenOut polynomials (forms xs)) (senses quotients)) (FactorsOfRowInBounds xs (senses quotients)) r
        → GivesRow sense (PolynomialsReduced (senses row)) (PolynomialsInBounds (senses row)) r
    reduced_row xs (Ok new) f k = record {
      row = row_of row;
      row_is = row_meant row;
      result = row_of new.items;
      result_is = row_meant new.items;
      holds =
          divides (row_of quotients) xs without (factors_of xs f)
          (subst (λ x. AllTakenOut polynomials (forms xs) x (row_of new.items)) (row_is quotients k.row k.row_is)
          (subst (λ x. AllTakenOut polynomials (forms xs) k.row x) (row_is new.items k.result k.result_is) k.holds));
    }
      where
        factors_of : (ys : List Entry) → AreLinearFactors (entry_at polynomials.ops (senses quotients) place) ys
            → FactorsOfLeast (row_of quotients) ys
        factors_of ys g = record {
          place = place;
          least = least_meant;
          factors = subst (λ ms. AreLinearFactors (entry_at polynomials.ops ms place) ys) (row_meant quotients) g;
        }
    reduced_row xs (Err fault) f k =
        fault_weaker fault (λ m s. m (λ x i. subst (AllTakingOutInBounds DivisionOfPolynomials polynomials (forms xs)) (sym (row_is quotients x i))
        (s.divisions (row_of row) (row_of quotients) xs (row_meant row) without (record {
          place = place;
          least = least_meant;
          factors = subst (λ ms. AreLinearFactors (entry_at polynomials.ops ms place) xs) (row_meant quotients) f;
        })))) k
