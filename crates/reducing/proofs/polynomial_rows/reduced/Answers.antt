use Rattle.std.specs.Prelude.{◌≡◌, ◌≢◌, pos, unsigned_abs, length}
use Rattle.std.proofs.Common.{arith, subst, sym}
use Rattle.std.proofs.lemmas.Int.{ints}
use Rattle.ring_laws.specs.Answer.{OnFault}
use Rattle.poly_divide.specs.Content.{row_sizes, IsContent}
use Rattle.whole_roots.specs.Differences.{polynomials}
use Rattle.whole_roots.specs.LinearFactors.{AreLinearFactors}
use Rattle.whole_roots.specs.FactorBounds.{FactorsInBounds}
use Rattle.kernel_laws.specs.Rows.{entry_at}
use Rattle.reducing.specs.PolynomialRows.{IsLeast, PolynomialsReduced, PolynomialsInBounds}
use Rattle.reducing.specs.PolynomialAnswers.{LeastOf}
use Rattle.reducing.proofs.Polynomials.{sense, senses}
use Rattle.reducing.proofs.WithoutFactor.{fault_row}
use Rattle.reducing.proofs.RowContents.{some_quotient}
use Rattle.reducing.proofs.ReducedRows.{least_is, entry_is, place_within, row_stays, each_most, each_slope, factoring_fault, reduced_row}
use Rattle.reducing.proofs.polynomial_rows.reduced.Goals as goal

pub returns-then-value-eq0 : goal.returns-then-value-eq0
returns-then-value-eq0 c =
    let e : c.content_of-content.result.value ≡ pos 0 = omega (arith, ints, c.if-value-eq0.true, c.value.ensures.value, c.value.ensures.small) in
    record {
      reduces =
          row_stays c.args.row.items c.content_of-content.result.value
          (subst (λ r. IsContent (row_sizes (senses r)) (unsigned_abs c.content_of-content.result.value)) c.deref.ensures.value
          c.content_of-content.ensures.content) e;
    }

pub unwrap-place-requires : goal.unwrap-place-requires
unwrap-place-requires c =
    let d = c.content_of-content.result.value in
    let n : d ≢ pos 0 = λ e. omega (arith, ints, e, c.if-value-eq0.false, c.value.ensures.value, c.value.ensures.small) in
    some_quotient c.args.row.items c.in_ok-quotients.quotients.items d c.least_place.result
    (subst (λ r. IsContent (row_sizes (senses r)) (unsigned_abs d)) c.deref.ensures.value c.content_of-content.ensures.content) n
    c.in_ok-quotients.ensures.quotients
    (subst (λ r. LeastOf (senses r) (length r) c.least_place.result) c.deref-2.ensures.value c.least_place.ensures.least)

pub returns-in_err-factors : goal.returns-in_err-factors
returns-in_err-factors c =
    let row = c.args.row.items in
    let qs = c.in_ok-quotients.quotients.items in
    let d = c.content_of-content.result.value in
    let place = c.unwrap-place.result in
    let n : d ≢ pos 0 = λ e. omega (arith, ints, e, c.if-value-eq0.false, c.value.ensures.value, c.value.ensures.small) in
    let content = subst (λ r. IsContent (row_sizes (senses r)) (unsigned_abs d)) c.deref.ensures.value c.content_of-content.ensures.content in
    let least : IsLeast (senses qs) place = least_is qs place c.least_place.result c.unwrap-place.ensures
    (subst (λ r. LeastOf (senses r) (length r) c.least_place.result) c.deref-2.ensures.value c.least_place.ensures.least) in
    let entry : entry_at polynomials.ops (senses qs) place ≡ sense c.index.result.now = entry_is qs place c.index.result.now least c.index.ensures in
    record {
      reduces =
          fault_row (PolynomialsReduced (senses row)) (PolynomialsInBounds (senses row)) c.from_residual-in_err-factors.result
          c.in_err-factors.field-0.0 c.from_residual-in_err-factors.ensures.1
          (factoring_fault row qs d content c.content_of-content.ensures.sign n c.in_ok-quotients.ensures.quotients place least
          c.in_err-factors.field-0.0
          (subst (λ f. OnFault (¬ (FactorsInBounds f)) c.in_err-factors.field-0.0) (sym entry) c.in_err-factors.ensures.too_large));
    }

pub without_factors-requires-clause-slopes : goal.without_factors-requires-clause-slopes
without_factors-requires-clause-slopes c = each_slope _ _ c.in_ok-factors.ensures.factors.each

-- no power above that of a factor divides the entry, and so none the row
pub without_factors-requires-clause-most : goal.without_factors-requires-clause-most
without_factors-requires-clause-most c =
    let qs = c.in_ok-quotients.quotients.items in
    let place = c.unwrap-place.result in
    let least : IsLeast (senses qs) place = least_is qs place c.least_place.result c.unwrap-place.ensures
    (subst (λ r. LeastOf (senses r) (length r) c.least_place.result) c.deref-2.ensures.value c.least_place.ensures.least) in
    let entry : entry_at polynomials.ops (senses qs) place ≡ sense c.index.result.now = entry_is qs place c.index.result.now least c.index.ensures in
    each_most qs place c.in_ok-factors.factors.entries (place_within qs place least)
    (subst (λ f. AreLinearFactors f c.in_ok-factors.factors.entries) (sym entry) c.in_ok-factors.ensures.factors).each

pub returns : goal.returns
returns c =
    let row = c.args.row.items in
    let qs = c.in_ok-quotients.quotients.items in
    let d = c.content_of-content.result.value in
    let place = c.unwrap-place.result in
    let n : d ≢ pos 0 = λ e. omega (arith, ints, e, c.if-value-eq0.false, c.value.ensures.value, c.value.ensures.small) in
    let content = subst (λ r. IsContent (row_sizes (senses r)) (unsigned_abs d)) c.deref.ensures.value c.content_of-content.ensures.content in
    let least : IsLeast (senses qs) place = least_is qs place c.least_place.result c.unwrap-place.ensures
    (subst (λ r. LeastOf (senses r) (length r) c.least_place.result) c.deref-2.ensures.value c.least_place.ensures.least) in
    let entry : entry_at polynomials.ops (senses qs) place ≡ sense c.index.result.now = entry_is qs place c.index.result.now least c.index.ensures in
    record {
      reduces =
          reduced_row row qs d content c.content_of-content.ensures.sign n c.in_ok-quotients.ensures.quotients place least
          c.in_ok-factors.factors.entries c.without_factors.result
          (subst (λ f. AreLinearFactors f c.in_ok-factors.factors.entries) (sym entry) c.in_ok-factors.ensures.factors)
          c.without_factors.ensures.takes_out;
    }
