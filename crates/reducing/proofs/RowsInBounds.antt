-- A row of polynomials is reduced in bounds where the steps over its content are, with the linear factors of its first entry of least degree.
use Rattle.std.specs.Prelude.{◌≡◌, ℕ, List}
use Rattle.std.proofs.Common.{sym, subst}
use Rattle.poly_laws.proofs.Coefficients.{meanings_same}
use Rattle.whole_roots.specs.Differences.{polynomials}
use Rattle.whole_roots.specs.FactorBounds.{FactorsInBounds}
use Rattle.whole_roots.specs.LinearFactors.{Entry}
use Rattle.kernel_laws.specs.Rows.{entry_at}
use Rattle.reducing.specs.TakenOut.{AllTakingOutInBounds}
use Rattle.reducing.specs.PolynomialRows.{Row, meant, IsLeast, WithoutContent, FactorsOfLeast, forms, DivisionOfPolynomials, PolynomialsInBounds}
use Rattle.reducing.specs.Laws.FactorLists.{laws}
use Rattle.reducing.specs.Laws.OnePolynomialRow.{one_quotients, one_least, one_forms}

pub row_in_bounds : (old quotients : Row) (factors : List Entry) → WithoutContent old quotients → (f : FactorsOfLeast quotients factors)
    → FactorsInBounds (entry_at polynomials.ops (meant quotients) f.place)
    → AllTakingOutInBounds DivisionOfPolynomials polynomials (forms factors) quotients → PolynomialsInBounds (meant old)
row_in_bounds old quotients factors w f bounds taking = record { factoring = factoring; divisions = divisions }
  where
    same : (row others : Row) → meant old ≡ meant row → WithoutContent row others → quotients ≡ others
    same row others e h = one_quotients old quotients others w
        (subst (λ r. WithoutContent r others) (meanings_same polynomials laws.closed row old (sym e)) h)

    factoring : (row others : Row) (place : ℕ) → meant old ≡ meant row → WithoutContent row others → IsLeast (meant others) place
        → FactorsInBounds (entry_at polynomials.ops (meant others) place)
    factoring row others place e h l =
        let q = same row others e h in
        subst (λ r. FactorsInBounds (entry_at polynomials.ops (meant r) place)) q
        (subst (λ p. FactorsInBounds (entry_at polynomials.ops (meant quotients) p))
        (one_least (meant quotients) f.place place f.least (subst (λ r. IsLeast (meant r) place) (sym q) l)) bounds)

    divisions : (row others : Row) (found : List Entry) → meant old ≡ meant row → WithoutContent row others → FactorsOfLeast others found
        → AllTakingOutInBounds DivisionOfPolynomials polynomials (forms found) others
    divisions row others found e h g =
        let q = same row others e h in
        subst (AllTakingOutInBounds DivisionOfPolynomials polynomials (forms found)) q
        (subst (λ ts. AllTakingOutInBounds DivisionOfPolynomials polynomials ts quotients)
        (one_forms quotients factors found f (subst (λ r. FactorsOfLeast r found) (sym q) g)) taking)
