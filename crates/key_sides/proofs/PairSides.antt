-- The one side of a pair: a difference of two products.
use Rattle.std.specs.Prelude.{◌≡◌, IsTrue, [], ◌∷◌, Result, Ok, Err, IfOk, IfErr, refl}
use Rattle.std.proofs.Common.{ap, sym, ◌∙◌, subst}
use Rattle.ring_solver.proofs.Read.{reading, ring}
use Rattle.ring_laws.specs.Meaning.{Meaning}
use Rattle.ring_laws.specs.Algebra.{Ops, Algebra, Laws, SumInBounds}
use Rattle.ring_laws.specs.Answer.{OnFault, GivesInBounds, fault_weaker}
use Rattle.ring_laws.specs.declared.faults.RingFault.{RingFault}
use Rattle.poly_laws.specs.PolyAlgebra.{poly_algebra}
use Rattle.poly_laws.specs.Values.{level}
use Rattle.poly_laws.proofs.PolyMagnitudes.{poly_laws}
use Rattle.poly_laws.proofs.Rings.{solvable}
use Rattle.division_laws.specs.Polynomials.{Polynomial}
use Rattle.hypergeometric.specs.LinearForm.{FactorList}
use Rattle.hypergeometric.specs.Products.{list_polynomial}
use Rattle.term_pieces.specs.Pieces.{Top}
use Rattle.term_pieces.specs.Tops.{top_polynomial}
use Rattle.pole_laws.proofs.FormProducts.{in_k_ring}
use Rattle.pole_laws.proofs.NormalPolynomials.{list_in}
use Rattle.form_rings.specs.Forms.{Forms, FormLaws}
use Rattle.key_sides.specs.Lifted.{lifted}
use Rattle.key_sides.specs.Powers.{product_of, counterpart_of, PowersInBounds}
use Rattle.key_sides.specs.ListPowers.{side_powers}
use Rattle.key_sides.proofs.Lifts.{in_k, lift_sum, lift_neg}
use Rattle.key_sides.proofs.ListLifts.{distinct, side_pass, side_lifted}
use Rattle.key_sides.proofs.SumBounds.{first_in_bounds, second_in_bounds, sum_in_bounds}

spread : (g p q : Polynomial (level 1)) → in_k.product g (in_k.sum p (in_k.neg q)) ≡ in_k.sum (in_k.product g p) (in_k.neg (in_k.product g q))
spread g p q = ring (solvable in_k in_k_ring) (g ∷ p ∷ q ∷ []) (search reading depth 40 fits 20000) refl

module _ (a : Algebra) (l : Laws a) (forms : Forms) (fl : FormLaws a forms) (g : FactorList) (t s : Top)
    (t_pass : IsTrue ((level 2).passes t.poly)) (s_pass : IsTrue ((level 2).passes s.poly)) where
  abbrev o : Ops Meaning
  o = (poly_algebra a).ops

  abbrev t_in : Polynomial (level 1)
  t_in = in_k.product (t.poly, t_pass) (list_in t.factors)

  abbrev s_in : Polynomial (level 1)
  s_in = in_k.product (s.poly, s_pass) (list_in s.factors)

  -- g (p_1 - p_0), and the sides of p_1 and of p_0
  abbrev whole : Meaning
  whole = lifted a forms ((level 2).ops.product (list_polynomial g) ((level 2).ops.sum (top_polynomial t) ((level 2).ops.neg (top_polynomial s))))

  abbrev side : Top → Meaning
  side top = lifted a forms ((level 2).ops.product (list_polynomial g) (top_polynomial top))

  difference_is : o.sum (side t) (o.neg (side s)) ≡ whole
  difference_is =
      sym (ap (λ (f : Polynomial (level 1)). lifted a forms f.0) (spread (list_in g) t_in s_in)
      ∙ ap (λ (f : Polynomial a). f.0) (lift_sum a l forms fl (in_k.product (list_in g) t_in) (in_k.neg (in_k.product (list_in g) s_in)))
      ∙ ap (λ (f : Polynomial a). o.sum (side t) f.0) (lift_neg a l forms fl (in_k.product (list_in g) s_in)))

  abbrev pub PairFits : Type 0
  PairFits = o.Fits (o.sum (counterpart_of o (side_powers a forms g t)) (counterpart_of o (side_powers a forms g s)))

  pub first_fault : (fault : RingFault) → OnFault (¬ PowersInBounds (poly_algebra a) (side_powers a forms g t)) fault → OnFault (¬ PairFits) fault
  first_fault fault out =
      fault_weaker fault
      (λ n fits. n (first_in_bounds (poly_algebra a) (poly_laws a l) (distinct a l forms fl) (side_powers a forms g t) (side_powers a forms g s)
      (side_pass a l forms fl g t t_pass) (side_pass a l forms fl g s s_pass) fits)) out

  pub second_fault : (fault : RingFault) → OnFault (¬ PowersInBounds (poly_algebra a) (side_powers a forms g s)) fault → OnFault (¬ PairFits) fault
  second_fault fault out =
      fault_weaker fault
      (λ n fits. n (second_in_bounds (poly_algebra a) (poly_laws a l) (distinct a l forms fl) (side_powers a forms g t) (side_powers a forms g s)
      (side_pass a l forms fl g t t_pass) (side_pass a l forms fl g s s_pass) fits)) out

  -- the difference of both
  pub pair_answer : {T : Type 0} (mean : T → Meaning) (r : Result T RingFault) (later sooner : Meaning) → later ≡ side t → sooner ≡ side s
      → GivesInBounds mean (SumInBounds (poly_algebra a) later sooner) (o.sum later (o.neg sooner)) r
      → IfOk r (λ v. mean v ≡ whole) × IfErr r (OnFault (¬ PairFits))
  pair_answer mean (Ok v) later sooner e f h = (h.1 ∙ (λ i. o.sum (e i) (o.neg (f i))) ∙ difference_is, tt)
  pair_answer mean (Err fault) later sooner e f h = (
    tt,
    fault_weaker fault
        (λ n fits. n (subst (λ m. SumInBounds (poly_algebra a) m sooner) (sym (e ∙ side_lifted a l forms fl g t t_pass))
        (subst (λ m. SumInBounds (poly_algebra a) (product_of o (side_powers a forms g t)) m) (sym (f ∙ side_lifted a l forms fl g s s_pass))
        (sum_in_bounds (poly_algebra a) (poly_laws a l) (distinct a l forms fl) (side_powers a forms g t) (side_powers a forms g s)
        (side_pass a l forms fl g t t_pass) (side_pass a l forms fl g s s_pass) fits)))) h,
  )
