-- A polynomial to a power by squares: the power, and where a step is out of bounds, so is the whole as one operation.
use Rattle.std.proofs.Common.{◌≡◌, ℕ, zero, suc, refl, ap, sym, ◌∙◌, subst}
use Rattle.std.specs.Prelude.{Result, Ok, Err, IfOk, IfErr}
use Rattle.ring_laws.specs.Answer.{OnFault, fault_weaker}
use Rattle.ring_laws.specs.declared.faults.RingFault.{RingFault}
use Rattle.ring_laws.specs.Meaning.{Meaning}
use Rattle.ring_laws.specs.Algebra.{Passing}
use Rattle.poly_laws.specs.Values.{level}
use Rattle.poly_laws.specs.Powers.{power_in, nonzero_magnitude, IsBound}
use Rattle.poly_laws.specs.TwoVariables.{in_n_and_k, poly_power}
use Rattle.poly_laws.proofs.PowerBounds.{bounded_unit}
use Rattle.poly_laws.proofs.Squaring.{power_first, magnitude_first}
use Rattle.poly_generic.specs.PowerAnswer.{GivesTimes}
use Rattle.hypergeometric.proofs.FormPolynomials.{laws, o, first, more_than_one}
use Rattle.term_classes.specs.Finding.{size_raised}

-- the same power twice
pub power_is : (p : Meaning) (e : ℕ) → power_in in_n_and_k p e ≡ poly_power p e
power_is p zero = refl
power_is p (suc e) = ap (in_n_and_k.product p) (power_is p e)

-- one times a power
power_once : (p : Passing (level 2)) (e : ℕ) → in_n_and_k.product in_n_and_k.unit (power_in in_n_and_k p.0 e) ≡ poly_power p.0 e
power_once p e =
    ap (in_n_and_k.product in_n_and_k.unit) (sym (power_first (level 2) laws p e))
    ∙ first (o.product o.unit (power_in o p e)) (power_in o p e) (laws.ring.unit_product (power_in o p e))
    ∙ power_first (level 2) laws p e ∙ power_is p.0 e

abbrev NoneFits : Meaning → Meaning → ℕ → Type 0
NoneFits m p e = (b : Passing (level 2)) → IsBound (level 2) b m
    → ¬ in_n_and_k.Fits (in_n_and_k.product b.0 (power_in in_n_and_k (nonzero_magnitude in_n_and_k p) e))

-- where no bound of one times the power of the magnitude fits, that power doesn't
power_out : (p : Passing (level 2)) (e : ℕ) → NoneFits in_n_and_k.unit p.0 e → ¬ in_n_and_k.Fits (size_raised p.0 e)
power_out p e out fits =
    let size = nonzero_magnitude o p in
    let same : (power_in o size e).0 ≡ size_raised p.0 e =
    power_first (level 2) laws size e ∙ ap (λ t. power_in in_n_and_k t e) (magnitude_first (level 2) laws p) in
    out o.unit (bounded_unit (level 2) laws more_than_one) (subst in_n_and_k.Fits
    (sym (first (o.product o.unit (power_in o size e)) (power_in o size e) (laws.ring.unit_product (power_in o size e)))
    ∙ ap (in_n_and_k.product in_n_and_k.unit) same)
    (subst in_n_and_k.Fits (sym same) fits))

-- what a power by squares of one gives
pub power_given : {T : Type 0} (r : Result T RingFault) (meaning : T → Meaning) (p : Passing (level 2)) (m : Meaning) (e : ℕ) → m ≡ in_n_and_k.unit
    → GivesTimes meaning (level 2) m (power_in in_n_and_k p.0 e) (power_in in_n_and_k (nonzero_magnitude in_n_and_k p.0) e) r
    → IfOk r (λ x. meaning x ≡ poly_power p.0 e)
power_given (Ok x) meaning p m e h k = k ∙ ap (λ t. in_n_and_k.product t (power_in in_n_and_k p.0 e)) h ∙ power_once p e
power_given (Err x) meaning p m e h k = tt

-- and what it is where it is refused
pub power_refused : {T : Type 0} (r : Result T RingFault) (meaning : T → Meaning) (p : Passing (level 2)) (m : Meaning) (e : ℕ) → m ≡ in_n_and_k.unit
    → GivesTimes meaning (level 2) m (power_in in_n_and_k p.0 e) (power_in in_n_and_k (nonzero_magnitude in_n_and_k p.0) e) r
    → IfErr r (OnFault (¬ in_n_and_k.Fits (size_raised p.0 e)))
power_refused (Ok x) meaning p m e h k = tt
power_refused (Err x) meaning p m e h k = fault_weaker x (λ out. power_out p e (subst (λ t. NoneFits t p.0 e) h out)) k
