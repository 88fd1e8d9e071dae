-- The identity of polynomials by which a claim telescopes a term of the pieces p_0 to p_J, q0 and r0:
--   q0(k) Y(k+1) D(k) - r0(k-1) Y(k) D(k+1) = S(k) D(k) D(k+1), with S = a_0 p_0 + .. + a_J p_J, or a (p_1 - p_0) for a pair.
-- Both sides are polynomials in k over those in n. Nothing is evaluated.
use Rattle.std.specs.Prelude.{ℕ, suc, ℤ, pos, List, [], ◌∷◌, map}
use Rattle.ring_laws.specs.Meaning.{Meaning}
use Rattle.poly_laws.specs.Shift.{poly_shift}
use Rattle.poly_laws.specs.Values.{level}
use Rattle.division_laws.specs.Polynomials.{at_previous, constant}
use Rattle.key_laws.specs.Certificates.{IsCertificate}
use Rattle.hypergeometric.specs.LinearForm.{Factor, FactorList}
use Rattle.hypergeometric.specs.Claim.{Claim}
use Rattle.hypergeometric.specs.FactorLists.{factor_with}
use Rattle.hypergeometric.specs.Products.{list_polynomial}
use Rattle.term_pieces.specs.Products.{at_later_k}
use Rattle.term_pieces.specs.Pieces.{Top, Pieces}
use Rattle.term_pieces.specs.Tops.{top_polynomial}

-- p + q
abbrev pub poly_sum : Meaning → Meaning → Meaning
poly_sum p q = (level 2).ops.sum p q

-- p - q
abbrev pub poly_difference : Meaning → Meaning → Meaning
poly_difference p q = (level 2).ops.sum p ((level 2).ops.neg q)

-- p q
abbrev pub poly_product : Meaning → Meaning → Meaning
poly_product p q = (level 2).ops.product p q

-- a polynomial at k + c
abbrev pub poly_at_k_plus : ℤ → Meaning → Meaning
poly_at_k_plus c p = poly_shift (level 1).ops c p

-- a list of factors at k + c
abbrev pub list_at_k_plus : ℤ → FactorList → FactorList
list_at_k_plus c l = record { scale = l.scale; factors = map (λ x. factor_with (at_later_k x.form c) x.power) l.factors }

-- a_0 p_j + a_1 p_(j+1) + .., for multipliers in n
abbrev pub sum_of_tops : (ℕ → Top) → List Meaning → ℕ → Meaning
sum_of_tops top [] j = (level 2).ops.nought
sum_of_tops top (a ∷ more) j = poly_sum (poly_product (constant (level 1).ops a) (top_polynomial (top j))) (sum_of_tops top more (suc j))

-- D, a product of forms
abbrev pub poles_polynomial : List Factor → Meaning
poles_polynomial poles = list_polynomial (record { scale = pos 1; factors = poles })

-- the identity with a given S: Y/D is a certificate of the pieces
abbrev pub HasIdentity : Pieces → Claim → Meaning → Type 0
HasIdentity pieces c s =
    IsCertificate (level 1).ops (list_polynomial pieces.q0) (at_previous (level 1).ops (list_polynomial pieces.r0)) s c.y (poles_polynomial c.poles)
