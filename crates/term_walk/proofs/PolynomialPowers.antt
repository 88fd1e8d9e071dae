-- What was gathered times a power of a polynomial.
use Rattle.std.proofs.Common.{◌≡◌, ◌≢◌, ℕ, zero, suc, refl, ap, sym, ◌∙◌}
use Rattle.std.specs.Prelude.{pos, Ok}
use Rattle.ring_laws.specs.Meaning.{Meaning}
use Rattle.ring_laws.specs.Algebra.{Laws, Passing, same_passing}
use Rattle.ring_laws.specs.Answer.{OnFault}
use Rattle.ring_laws.specs.declared.faults.RingFault.{RingFault}
use Rattle.poly_laws.specs.Values.{level}
use Rattle.poly_laws.specs.TwoVariables.{in_n_and_k, poly_power}
use Rattle.poly_laws.specs.Powers.{power_in, nonzero_magnitude, IsBound}
use Rattle.poly_laws.proofs.Equal.{level_laws}
use Rattle.steps.specs.Answers.{HasCause}
use Rattle.steps.specs.Operations.{of_polynomial}
use Rattle.steps.specs.TermFaults.{fault_of, term_cause}
use Rattle.steps.proofs.AnswerLaws.{ring_cause, made_too_large}
use Rattle.hypergeometric.specs.ProperTerm.{ProperTerm}
use Rattle.term_classes.specs.Finding.{size_raised}
use Rattle.term_classes.specs.Walk.{with_poly, times_polynomial}
use Rattle.term_classes.proofs.PassingPolynomials.{Belongs, power_belongs, product_not_nought, power_not_nought}
use Rattle.term_classes.proofs.VaryingForms.{IsVarying, varying_not_nought}

-- a power in the polynomials is the power of a polynomial
pub power_same : (p : Meaning) (e : ℕ) → power_in in_n_and_k p e ≡ poly_power p e
power_same p zero = refl
power_same p (suc e) = ap (in_n_and_k.product p) (power_same p e)

-- the product is what comes out
pub power_made : (at : ℕ) (p : Meaning) (e : ℕ) (f : ProperTerm) (m : Meaning) → m ≡ in_n_and_k.product f.poly (power_in in_n_and_k p e)
    → (times_polynomial at p (pos e) f).outcome ≡ Ok (with_poly m f)
power_made at p e f m given =
    ap (λ q. Ok (with_poly q f)) (sym (given ∙ ap (in_n_and_k.product f.poly) (power_same p e)))

-- and it isn't 0
pub power_not_zero : (m p r : Meaning) (e : ℕ) → Belongs m → m ≢ in_n_and_k.nought → IsVarying p → r ≡ in_n_and_k.product m (power_in in_n_and_k p e)
    → r ≢ in_n_and_k.nought
power_not_zero m p r e belongs some varying given z =
    product_not_nought m (poly_power p e) belongs (power_belongs p e varying.belongs) some
    (power_not_nought p e varying.belongs (varying_not_nought p varying))
    (ap (in_n_and_k.product m) (sym (power_same p e)) ∙ sym given ∙ z)

laws : Laws (level 2)
laws = level_laws 2

-- the magnitude of a polynomial other than 0 is a bound of it
module _ (m : Meaning) (belongs : Belongs m) (some : m ≢ in_n_and_k.nought) where
  size_bounds : IsBound (level 2) (in_n_and_k.magnitude m, laws.closed.magnitude (m, belongs)) m
  size_bounds = record {
    covers = laws.magnitudes.covers_same (in_n_and_k.magnitude m, laws.closed.magnitude (m, belongs));
    magnitude = ap (λ (t : Passing (level 2)). t.0) (laws.magnitudes.of_magnitude (m, belongs));
    not_zero = λ e. some (ap (λ (t : Passing (level 2)). t.0) (laws.magnitudes.only_nought (m, belongs)
        (same_passing (level 2) (in_n_and_k.magnitude m, laws.closed.magnitude (m, belongs)) (in_n_and_k.nought, laws.closed.nought) e)));
  }

-- a fault of the product
pub power_fault : (at : ℕ) (p : Meaning) (e : ℕ) (f : ProperTerm) → Belongs f.poly → f.poly ≢ in_n_and_k.nought → (fault : RingFault)
    → OnFault ((b : Passing (level 2)) → IsBound (level 2) b f.poly
    → ¬ in_n_and_k.Fits (in_n_and_k.product b.0 (power_in in_n_and_k (nonzero_magnitude in_n_and_k p) e))) fault
    → HasCause (times_polynomial at p (pos e) f) (term_cause (fault_of at fault))
power_fault at p e f belongs some fault h =
    ring_cause (times_polynomial at p (pos e) f) at _ fault h
    (λ out. made_too_large at (of_polynomial (in_n_and_k.product (in_n_and_k.magnitude f.poly) (size_raised p e)))
    (out (in_n_and_k.magnitude f.poly, laws.closed.magnitude (f.poly, belongs)) (size_bounds f.poly belongs some)))
