use Rattle.cert_text.proofs.CoefficientReading.{IsLeft}
use Rattle.cert_text.proofs.polynomials.read_coefficients.Given as goal

-- the coefficients so far, and the monomials below the bound that are left
abbrev pub invariant-loop-rest : goal.invariant-loop-rest
invariant-loop-rest l = IsLeft l.fn.text l.coefficients.items l.bound l.rest

abbrev pub decreases-loop-rest : goal.decreases-loop-rest
decreases-loop-rest l = l.bound
