-- The identity by which certificates are tested: a fraction solves a difference equation, said without division, between polynomials in k.
use Rattle.std.specs.Prelude.{◌≡◌, ℕ, List}
use Rattle.ring_laws.specs.Meaning.{Meaning}
use Rattle.ring_laws.specs.Algebra.{Ops}
use Rattle.poly_laws.specs.PolyAlgebra.{poly_ops}
use Rattle.division_laws.specs.Polynomials.{at_next, at_previous}
use Rattle.key_laws.specs.KeyEquation.{combination}

-- q(k) U(k+1) W(k) - b(k) U(k) W(k+1) = s(k) W(k) W(k+1): the fraction U/W solves q(k) Y(k+1) - b(k) Y(k) = s(k)
abbrev pub IsCertificate : Ops Meaning → (q b s u w : Meaning) → Type 0
IsCertificate o q b s u w =
    (poly_ops o).sum ((poly_ops o).product q ((poly_ops o).product (at_next o u) w))
    ((poly_ops o).neg ((poly_ops o).product b ((poly_ops o).product u (at_next o w))))
    ≡ (poly_ops o).product s ((poly_ops o).product w (at_next o w))

-- q0(k) Y(k+1) D(k) - r0(k-1) Y(k) D(k+1) = (a_0 p_0 + a_1 p_1 + ..) D(k) D(k+1), for multipliers a_j free of k
abbrev pub CertificateIdentity : Ops Meaning → (q0 r0 : Meaning) → List Meaning → Meaning → (ℕ → Meaning) → Meaning → Type 0
CertificateIdentity o q0 r0 tops y multipliers poles = IsCertificate o q0 (at_previous o r0) (combination o multipliers tops) y poles
