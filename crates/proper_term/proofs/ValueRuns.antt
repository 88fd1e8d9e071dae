-- Runs of the factors of a value, joined.
use Rattle.std.proofs.Common.{◌≡◌, ◌≢◌, ℕ, suc, refl, ap, sym, ◌∙◌, subst, arith, List, [], ◌∷◌, ◌++◌, Result, Ok, Err}
use Rattle.std.proofs.lemmas.Int.{ints}
use Rattle.std.specs.Prelude.{ℤ, pos, negsuc, ◌*ℤ◌, ◌<ℤ◌, IfOk, IfErr}
use Rattle.ring_solver.proofs.Read.{ring_z, reading_z}
use Rattle.ring_laws.specs.Answer.{OnFault, fault_weaker}
use Rattle.ring_laws.specs.declared.faults.RingFault.{RingFault}
use Rattle.poly_fraction.specs.Fractions.{RingFraction}
use Rattle.hypergeometric.specs.Point.{Point}
use Rattle.hypergeometric.specs.Fraction.{Fraction, ◌≈◌, fraction_product, reciprocal, natural_power}
use Rattle.hypergeometric.specs.ProperTerm.{ProperTerm, IsDefinedAt, NoneNegative, IsNonzero, HasFractions, proper_value}
use Rattle.hypergeometric.specs.TermFacts.{IsLowest, IsProper}
use Rattle.hypergeometric.proofs.FractionLaws.{product_not_zero, equal_chain, pow_not_zero}
use Rattle.proper_term.specs.Cancelled.{arguments_at, left_over}
use Rattle.proper_term.specs.Fields.{number_fraction_of}
use Rattle.proper_term.specs.Runs.{IsInLowestTerms, Runs, GivesRun, product_of}
use Rattle.proper_term.specs.ValueBounds.{base_power, factorial_factors, value_factors, IsRunInBounds}
use Rattle.proper_term.proofs.CancelledFactorials.{left_over_positive}
use Rattle.proper_term.proofs.PowerFractions.{power_parts}
use Rattle.proper_term.proofs.Runs.{runs_join, bounds_after, run_value, run_lowest}
use Rattle.proper_term.proofs.FactorialProducts.{product_quotients}
use Rattle.proper_term.proofs.ValueProducts.{factors_value}

-- one run and then the next
pub run_then : {T : Type 0} (fraction : T → RingFraction) (r : Fraction) (xs : List Fraction) (s : Fraction) (ys : List Fraction)
    (result : Result T RingFault) → Runs r xs s → GivesRun fraction s ys result → GivesRun fraction r (xs ++ ys) result
run_then fraction r xs s ys (Ok f) h g = runs_join r xs s ys (number_fraction_of (fraction f)) h g
run_then fraction r xs s ys (Err fault) h g = fault_weaker fault (λ n b. n (bounds_after r xs s ys h b)) g

-- a run over a factor other than 0 stays other than 0
pub top_kept : (r x s : Fraction) → Runs r (x ∷ []) s → r.top ≢ pos 0 → x.top ≢ pos 0 → s.top ≢ pos 0
top_kept r x s h some more e =
    let same : s ≈ fraction_product r x = subst (λ t. t ≈ fraction_product r x) h.2 h.1.same in
    product_not_zero (fraction_product r x).top s.bottom (product_not_zero r.top x.top some more) same.left_defined
    (sym same.cross ∙ ap (λ z. z *ℤ (fraction_product r x).bottom) e ∙ nothing (fraction_product r x).bottom)
  where
    nothing : (z : ℤ) → pos 0 *ℤ z ≡ pos 0
    nothing z = ring_z (z ∷ []) (search reading_z depth 40 fits 20000) refl

natural_power_top : (f : Fraction) (e : ℕ) → f.top ≢ pos 0 → (natural_power f e).top ≢ pos 0
natural_power_top f e some = λ z. pow_not_zero f.top e some (sym (ap (λ (x : Fraction). x.top) (power_parts f.top f.bottom e)) ∙ z)

pub base_power_top : (f : Fraction) (z : ℤ) → IsNonzero f → (base_power f z).top ≢ pos 0
base_power_top f (pos n) h = natural_power_top f n h.top
base_power_top f (negsuc n) h = natural_power_top (reciprocal f) (suc n) h.bottom

positive_not_zero : (b : ℤ) → pos 0 <ℤ b → b ≢ pos 0
positive_not_zero b h e = omega (arith, ints, h, e)

pub lowest_nonzero : (f : Fraction) → IsLowest f → IsNonzero f
lowest_nonzero f h = record { top = h.not_zero; bottom = positive_not_zero f.bottom h.positive }

pub lowest_terms : (f : Fraction) → IsLowest f → IsInLowestTerms f
lowest_terms f h = record { positive = h.positive; coprime = h.coprime }

pub proper_fractions : (f : ProperTerm) → IsProper f → HasFractions f
proper_fractions f h = record {
  scale = lowest_nonzero f.scale h.scale;
  n_base = lowest_nonzero f.n_base h.n_base;
  k_base = lowest_nonzero f.k_base h.k_base;
}

-- what the run over all factors gives
module _ {T : Type 0} (fraction : T → RingFraction) (f : ProperTerm) (p : Point) (proper : IsProper f) where
  pub value_of_run : (result : Result T RingFault) → IsDefinedAt f p → NoneNegative f.down p → GivesRun fraction f.scale
      (value_factors f p) result
      → IfOk result (λ g. number_fraction_of (fraction g) ≈ proper_value f p)
  value_of_run (Ok g) defined down h =
      equal_chain (run_value f.scale (value_factors f p) (number_fraction_of (fraction g)) h (positive_not_zero f.scale.bottom proper.scale.positive))
      (factors_value f p (proper_fractions f proper) defined down)
  value_of_run (Err fault) defined down h = tt

  pub lowest_of_run : (result : Result T RingFault) → GivesRun fraction f.scale (value_factors f p) result
      → IfOk result (λ g. IsInLowestTerms (number_fraction_of (fraction g)))
  lowest_of_run (Ok g) h = run_lowest f.scale (value_factors f p) (number_fraction_of (fraction g)) h (lowest_terms f.scale proper.scale)
  lowest_of_run (Err fault) h = tt

  pub fault_of_run : (result : Result T RingFault) → GivesRun fraction f.scale (value_factors f p) result
      → IfErr result (OnFault (¬ IsRunInBounds f p))
  fault_of_run (Ok g) h = tt
  fault_of_run (Err fault) h = fault_weaker fault (λ no b. no b.run) h

-- the quotient of the factorials isn't 0
pub factorials_top : (f : ProperTerm) (p : Point) (s : Fraction) → IsNonzero f.scale → Runs f.scale (factorial_factors f p) s → s.top ≢ pos 0
factorials_top f p s h r e =
    let us = arguments_at p f.up in
    let ds = arguments_at p f.down in
    let same = run_value f.scale (factorial_factors f p) s r h.bottom in
    let parts = product_quotients (left_over us ds) (left_over ds us) in
    let some : (product_of (factorial_factors f p)).top ≢ pos 0 =
    λ z. omega (arith, ints, left_over_positive us ds, sym (ap (λ (x : Fraction). x.top) parts) ∙ z) in
    product_not_zero (f.scale.top *ℤ (product_of (factorial_factors f p)).top) s.bottom
    (product_not_zero f.scale.top _ h.top some) same.left_defined
    (sym same.cross ∙ ap (λ z. z *ℤ (fraction_product f.scale (product_of (factorial_factors f p))).bottom) e
    ∙ nothing (fraction_product f.scale (product_of (factorial_factors f p))).bottom)
  where
    nothing : (z : ℤ) → pos 0 *ℤ z ≡ pos 0
    nothing z = ring_z (z ∷ []) (search reading_z depth 40 fits 20000) refl

pub err_weaker : {T : Type 0} (P Q : Type 0) (r : Result T RingFault) → (P → Q) → IfErr r (OnFault P) → IfErr r (OnFault Q)
err_weaker P Q (Ok x) f h = tt
err_weaker P Q (Err fault) f h = fault_weaker fault f h
