-- What it means that an order has no rational certificate.
use Rattle.std.specs.Prelude.{◌≡◌, ℕ, ◌<◌, List, length}
use Rattle.poly_laws.specs.Values.{level}
use Rattle.division_laws.specs.Polynomials.{Polynomial}
use Rattle.kernel_laws.specs.Answers.{Vector, meant}
use Rattle.key_laws.specs.KeyEquation.{meanings}
use Rattle.key_laws.specs.Certificates.{CertificateIdentity}
use Rattle.hypergeometric.specs.Products.{list_polynomial}
use Rattle.term_pieces.specs.Pieces.{Pieces}

-- U/W is a certificate for multipliers a_j in n: q0(k) U(k+1) W(k) - r0(k-1) U(k) W(k+1) = (a_0 p_0 + a_1 p_1 + ..) W(k) W(k+1)
abbrev pub IsRationalCertificate : Pieces → List (Polynomial (level 1)) → Vector (level 1) → (u w : Polynomial (level 1)) → Type 0
IsRationalCertificate pieces tops multipliers u w =
    CertificateIdentity (level 1).ops (list_polynomial pieces.q0) (list_polynomial pieces.r0) (meanings (level 1) tops) u.0
    (meant (level 1) multipliers) w.0

-- polynomials U and W in n and k of any degree, W not zero, are a certificate only for multipliers that are all zero
abbrev pub HasNoCertificate : Pieces → List (Polynomial (level 1)) → Type 0
HasNoCertificate pieces tops =
    (multipliers : Vector (level 1)) (u w : Polynomial (level 1)) → IsRationalCertificate pieces tops multipliers u w
    → ¬ (w.0 ≡ (level 2).ops.nought) → (j : ℕ) → j < length tops → (multipliers j).0 ≡ (level 1).ops.nought
