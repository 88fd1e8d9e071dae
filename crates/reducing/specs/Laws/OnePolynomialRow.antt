-- Reducing rows of polynomials keeps what a reduction has to give, and gives one row.
-- These are lemmas: they stand in specs/, since the laws that `Reducing` names rest on them.
use Rattle.std.specs.Prelude.{◌≡◌, ℕ, pos, List, refl}
use Rattle.std.proofs.Common.{ap, sym, ◌∙◌, subst, arith, ⊎_elim}
use Rattle.std.proofs.lemmas.Bool.{cases_lt}
use Rattle.std.proofs.lemmas.Int.{ints}
use Rattle.ring_laws.specs.Meaning.{Meaning}
use Rattle.ring_laws.specs.Algebra.{Passing}
use Rattle.poly_laws.proofs.Coefficients.{meanings_same}
use Rattle.poly_divide.specs.Content.{row_sizes}
use Rattle.whole_roots.specs.Differences.{polynomials}
use Rattle.whole_roots.specs.LinearFactors.{Entry, AreLinearFactors}
use Rattle.kernel_laws.specs.Rows.{entry_at}
use Rattle.kernel_laws.specs.Reduction.{Reduces}
use Rattle.reducing.specs.Laws.OneContent.{one_content}
use Rattle.reducing.specs.TakenOut.{AllTakenOut}
use Rattle.reducing.specs.Laws.ScaledRows.{scaled, scaled_is, cancel_row}
use Rattle.reducing.specs.Laws.Multiples.{Multiple, multiple_twice, same_multiple, multiple_reduces, all_taken_out_multiple}
use Rattle.reducing.specs.Laws.OneTakenOut.{one_all_taken_out}
use Rattle.reducing.specs.PolynomialRows.{Row, meant, IsLeast, WithoutContent, FactorsOfLeast, forms, Reduced, stays, divides, PolynomialsReduced}
use Rattle.reducing.specs.Laws.FactorLists.{laws, domain, P, forms_are_factors, one_factors}

abbrev IsMultiple : Row → Row → Type 0
IsMultiple old new = Multiple polynomials laws domain old new

-- a number that isn't 0 isn't zero as a polynomial
pub whole_not_zero : (c : ℕ) → ¬ (c ≡ 0) → ¬ (P.whole (pos c) ≡ P.nought)
whole_not_zero c m e = m (omega (arith, ints, domain.whole_nought (pos c) (ap (λ (v : Passing polynomials). v.0) e)))

-- a row is its content times its quotients by it
pub content_multiple : (old quotients : Row) → WithoutContent old quotients → IsMultiple old quotients
content_multiple old quotients h = record {
  factor = P.whole (pos h.content);
  not_zero = whole_not_zero h.content h.not_zero;
  is = scaled_is polynomials laws domain (P.whole (pos h.content)) old quotients h.times;
}

-- a row is something that isn't zero times its reduced row
pub multiple : (old new : Row) → Reduced old new → IsMultiple old new
multiple old new (stays h) = same_multiple polynomials laws domain old
multiple old new (divides quotients factors w f t) =
    multiple_twice polynomials laws domain old quotients new (content_multiple old quotients w)
    (all_taken_out_multiple polynomials laws domain (forms factors) (forms_are_factors _ factors f.factors.each) quotients new t)

-- the same, of rows of polynomials that are given as meanings
pub polynomials_reduce : (old new : List Meaning) → PolynomialsReduced old new → Reduces polynomials old new
polynomials_reduce old new h =
    subst (λ r. Reduces polynomials r new) (sym h.row_is)
    (subst (λ r. Reduces polynomials (meant h.row) r) (sym h.result_is)
    (multiple_reduces polynomials laws domain h.row h.result (multiple h.row h.result h.holds)))

-- a row has one row of quotients by its content
pub one_quotients : (old quotients others : Row) → WithoutContent old quotients → WithoutContent old others → quotients ≡ others
one_quotients old quotients others h k =
    cancel_row polynomials laws domain (P.whole (pos h.content)) (whole_not_zero h.content h.not_zero) quotients others
    (sym (scaled_is polynomials laws domain (P.whole (pos h.content)) old quotients h.times)
    ∙ scaled_is polynomials laws domain (P.whole (pos k.content)) old others k.times
    ∙ ap (λ c. scaled polynomials laws domain (P.whole (pos c)) others)
    (one_content (row_sizes (meant old)) k.content h.content k.is_content h.is_content))

-- a row has one first entry of least degree
pub one_least : (row : List Meaning) (p q : ℕ) → IsLeast row p → IsLeast row q → p ≡ q
one_least row p q h k = ⊎_elim (λ b. absurd (omega (arith, k.first p b h.nonzero, h.least q k.within k.nonzero)))
    (λ b. ⊎_elim (λ c. absurd (omega (arith, h.first q c k.nonzero, k.least p h.within h.nonzero))) (λ c. omega (arith, b, c)) (cases_lt q p))
    (cases_lt p q)

-- and the linear factors of that entry are one list of forms
pub one_forms : (row : Row) (xs ys : List Entry) → FactorsOfLeast row xs → FactorsOfLeast row ys → forms xs ≡ forms ys
one_forms row xs ys h k =
    one_factors (entry_at polynomials.ops (meant row) h.place) xs ys h.factors
    (subst (λ p. AreLinearFactors (entry_at polynomials.ops (meant row) p) ys) (one_least (meant row) k.place h.place k.least h.least) k.factors)

-- a row has one reduced row
pub one_reduced : (old new other : Row) → Reduced old new → Reduced old other → new ≡ other
one_reduced old new other (stays h) (stays k) = refl
one_reduced old new other (stays h) (divides q xs w f t) =
    absurd (w.not_zero (one_content (row_sizes (meant old)) w.content 0 w.is_content h))
one_reduced old new other (divides q xs w f t) (stays h) =
    absurd (w.not_zero (one_content (row_sizes (meant old)) w.content 0 w.is_content h))
one_reduced old new other (divides q xs w f t) (divides r ys x g s) =
    let e : r ≡ q = one_quotients old r q x w in
    let same : forms ys ≡ forms xs = one_forms q ys xs (subst (λ z. FactorsOfLeast z ys) e g) f in
    one_all_taken_out polynomials laws domain (forms xs) (forms_are_factors _ xs f.factors.each) q new other t
    (subst (λ z. AllTakenOut polynomials z q other) same (subst (λ z. AllTakenOut polynomials (forms ys) z other) e s))

-- the same, of rows of polynomials that are given as meanings
pub one_row : (old new other : List Meaning) → PolynomialsReduced old new → PolynomialsReduced old other → new ≡ other
one_row old new other h k =
    let same : k.row ≡ h.row = meanings_same polynomials laws.closed k.row h.row (sym k.row_is ∙ h.row_is) in
    h.result_is ∙ ap meant (one_reduced h.row h.result k.result h.holds (subst (λ r. Reduced r k.result) same k.holds)) ∙ sym k.result_is
