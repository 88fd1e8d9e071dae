-- The number and the forms of a list, one after another.
use Rattle.std.specs.Prelude.{◌≡◌, ℤ, pos, List, [], ◌∷◌, map, Result, IfOk, IfErr}
use Rattle.std.proofs.Common.{ap, sym, ◌∙◌, subst, IsErrAnd}
use Rattle.ring_laws.specs.Meaning.{Meaning}
use Rattle.ring_laws.specs.Algebra.{Ops, Algebra, Laws}
use Rattle.ring_laws.specs.Answer.{OnFault}
use Rattle.ring_laws.specs.declared.faults.RingFault.{RingFault}
use Rattle.poly_laws.specs.PolyAlgebra.{poly_algebra}
use Rattle.poly_laws.specs.Powers.{power_in, nonzero_magnitude}
use Rattle.poly_laws.proofs.PolyMagnitudes.{poly_laws}
use Rattle.poly_generic.specs.PowerAnswer.{GivesTimes}
use Rattle.poly_generic.proofs.SquaringSteps.{fault_times}
use Rattle.division_laws.specs.Polynomials.{Polynomial, at_previous}
use Rattle.hypergeometric.specs.LinearForm.{Factor, FactorList}
use Rattle.hypergeometric.specs.FactorLists.{factor_with}
use Rattle.hypergeometric.specs.Products.{form_polynomial, list_polynomial}
use Rattle.term_pieces.specs.Products.{at_later_k}
use Rattle.form_rings.specs.Forms.{Forms, FormLaws}
use Rattle.key_sides.specs.Lifted.{lifted}
use Rattle.key_sides.specs.Powers.{Power, product_of, counterpart_of, PowersInBounds}
use Rattle.key_sides.specs.ListPowers.{once, factor_power, list_powers, list_at_later_k, list_before}
use Rattle.key_sides.proofs.ListLifts.{distinct, form_pass, factors_pass, list_pass, list_here, list_lifted, before_lifted}
use Rattle.key_sides.proofs.Multiplied.{Multiplied, IsOut, start, one_done, one_fault, all_done, from_one}

module _ (a : Algebra) (l : Laws a) (forms : Forms) (fl : FormLaws a forms) (j : ℤ) (xs : FactorList) (m0 : Polynomial a) where
  abbrev o : Ops Meaning
  o = (poly_algebra a).ops

  -- all that is multiplied, and what is left of it
  abbrev pub all : List Power
  all = list_powers a forms (list_at_later_k xs j)

  abbrev pub at_place : List Factor → List Power
  at_place left = map (factor_power a forms) (map (λ x. factor_with (at_later_k x.form j) x.power) left)

  abbrev pub Reached : Meaning → List Factor → Type 0
  Reached m left = Multiplied (poly_algebra a) m0.0 all m (at_place left)

  pub times_scale : (base m : Meaning) → base ≡ o.whole xs.scale → m ≡ o.product m0.0 (power_in o base 1) → Reached m xs.factors
  times_scale base m e g =
      one_done (poly_algebra a) (poly_laws a l) (distinct a l forms fl) m0 all m0.0 (once (o.whole xs.scale)) (at_place xs.factors)
      ((poly_laws a l).closed.whole xs.scale) (factors_pass a l forms fl (list_at_later_k xs j).factors)
      (start (poly_algebra a) (poly_laws a l) (distinct a l forms fl) m0 all (list_pass a l forms fl (list_at_later_k xs j))) m
      (g ∙ ap (λ t. o.product m0.0 (power_in o t 1)) e)

  pub scale_fault : (base : Meaning) (fault : RingFault) → base ≡ o.whole xs.scale
      → OnFault (IsOut (poly_algebra a) m0.0 (power_in o (nonzero_magnitude o base) 1)) fault
      → OnFault (IsOut (poly_algebra a) m0.0 (counterpart_of o all)) fault
  scale_fault base fault e out =
      one_fault (poly_algebra a) (poly_laws a l) (distinct a l forms fl) m0 all m0.0 (once (o.whole xs.scale)) (at_place xs.factors)
      ((poly_laws a l).closed.whole xs.scale) (factors_pass a l forms fl (list_at_later_k xs j).factors)
      (start (poly_algebra a) (poly_laws a l) (distinct a l forms fl) m0 all (list_pass a l forms fl (list_at_later_k xs j))) fault
      (subst (λ t. OnFault (IsOut (poly_algebra a) m0.0 (power_in o (nonzero_magnitude o t) 1)) fault) e out)

  module _ (m : Meaning) (left : List Factor) (x : Factor) (rest : List Factor) (here : left ≡ x ∷ rest) (r : Reached m left) where
    abbrev value : Meaning
    value = lifted a forms (form_polynomial (at_later_k x.form j))

    pub times_next : (m' : Meaning) → m' ≡ o.product m (power_in o value x.power) → Reached m' rest
    times_next m' e =
        one_done (poly_algebra a) (poly_laws a l) (distinct a l forms fl) m0 all m (factor_power a forms (factor_with (at_later_k x.form j) x.power))
        (at_place rest) (form_pass a l forms fl (at_later_k x.form j)) (factors_pass a l forms fl (map (λ y. factor_with (at_later_k y.form j) y.power) rest))
        (subst (Reached m) here r) m' e

    pub next_fault : (fault : RingFault) → OnFault (IsOut (poly_algebra a) m (power_in o (nonzero_magnitude o value) x.power)) fault
        → OnFault (IsOut (poly_algebra a) m0.0 (counterpart_of o all)) fault
    next_fault fault out =
        one_fault (poly_algebra a) (poly_laws a l) (distinct a l forms fl) m0 all m (factor_power a forms (factor_with (at_later_k x.form j) x.power))
        (at_place rest) (form_pass a l forms fl (at_later_k x.form j)) (factors_pass a l forms fl (map (λ y. factor_with (at_later_k y.form j) y.power) rest))
        (subst (Reached m) here r) fault out

  -- a fault that is passed on
  pub times_fault : {T : Type 0} (mean : T → Meaning) (r : Result T RingFault) (fault : RingFault) → IsErrAnd r (λ e. e ≡ fault)
      → OnFault (IsOut (poly_algebra a) m0.0 (counterpart_of o all)) fault → GivesTimes mean (poly_algebra a) m0.0 (product_of o all) (counterpart_of o all) r
  times_fault mean r fault e h = fault_times mean (poly_algebra a) m0.0 (product_of o all) (counterpart_of o all) r fault e h

  pub times_all : (m : Meaning) (left : List Factor) → left ≡ [] → Reached m left → m ≡ o.product m0.0 (product_of o all)
  times_all m left e r = all_done (poly_algebra a) (poly_laws a l) (distinct a l forms fl) m0 all m (subst (Reached m) e r)

module _ (a : Algebra) (l : Laws a) (forms : Forms) (fl : FormLaws a forms) {T : Type 0} (mean : T → Meaning) (r : Result T RingFault) (one : Meaning)
    (is_one : one ≡ (poly_algebra a).ops.unit) where
  -- what a list gives that is multiplied from 1
  list_answer : (ys : FactorList) (m : Meaning) → product_of (poly_algebra a).ops (list_powers a forms ys) ≡ m
      → GivesTimes mean (poly_algebra a) one (product_of (poly_algebra a).ops (list_powers a forms ys))
      (counterpart_of (poly_algebra a).ops (list_powers a forms ys)) r
      → IfOk r (λ v. mean v ≡ m) × IfErr r (OnFault (¬ PowersInBounds (poly_algebra a) (list_powers a forms ys)))
  list_answer ys m e h =
      subst (λ t. IfOk r (λ v. mean v ≡ t) × IfErr r (OnFault (¬ PowersInBounds (poly_algebra a) (list_powers a forms ys)))) e
      (from_one (poly_algebra a) (poly_laws a l) (distinct a l forms fl) mean (list_powers a forms ys) (list_pass a l forms fl ys) r one is_one h)

  pub here_answer : (xs : FactorList)
      → GivesTimes mean (poly_algebra a) one (product_of (poly_algebra a).ops (list_powers a forms (list_at_later_k xs (pos 0))))
      (counterpart_of (poly_algebra a).ops (list_powers a forms (list_at_later_k xs (pos 0)))) r
      → IfOk r (λ v. mean v ≡ lifted a forms (list_polynomial xs)) × IfErr r (OnFault (¬ PowersInBounds (poly_algebra a) (list_powers a forms xs)))
  here_answer xs h =
      list_answer xs (lifted a forms (list_polynomial xs)) (sym (list_lifted a l forms fl xs))
      (subst (λ t. GivesTimes mean (poly_algebra a) one (product_of (poly_algebra a).ops (list_powers a forms t))
      (counterpart_of (poly_algebra a).ops (list_powers a forms t)) r) (list_here xs) h)

  pub before_answer : (xs : FactorList)
      → GivesTimes mean (poly_algebra a) one (product_of (poly_algebra a).ops (list_powers a forms (list_before xs)))
      (counterpart_of (poly_algebra a).ops (list_powers a forms (list_before xs))) r
      → IfOk r (λ v. mean v ≡ at_previous a.ops (lifted a forms (list_polynomial xs)))
      × IfErr r (OnFault (¬ PowersInBounds (poly_algebra a) (list_powers a forms (list_before xs))))
  before_answer xs h =
      list_answer (list_before xs) (at_previous a.ops (lifted a forms (list_polynomial xs))) (sym (before_lifted a l forms fl xs)) h
