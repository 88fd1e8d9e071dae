-- A side: the forms of g, the polynomial of p_j, and the forms of p_j, one after another.
use Rattle.std.specs.Prelude.{◌≡◌, pos, IsTrue, List, [], ◌∷◌, ◌++◌, Result, Ok, Err, IfOk, IfErr}
use Rattle.std.proofs.Common.{ap, sym, ◌∙◌, subst, append-nil}
use Rattle.ring_laws.specs.Meaning.{Meaning}
use Rattle.ring_laws.specs.Algebra.{Ops, Algebra, Laws}
use Rattle.ring_laws.specs.Answer.{OnFault}
use Rattle.ring_laws.specs.declared.faults.RingFault.{RingFault}
use Rattle.poly_laws.specs.PolyAlgebra.{poly_algebra}
use Rattle.poly_laws.specs.Powers.{power_in, nonzero_magnitude}
use Rattle.poly_laws.specs.Values.{level}
use Rattle.poly_laws.proofs.PolyMagnitudes.{poly_laws}
use Rattle.poly_generic.specs.PowerAnswer.{GivesTimes}
use Rattle.division_laws.specs.Polynomials.{Polynomial}
use Rattle.division_laws.proofs.Polynomials.{polynomials}
use Rattle.hypergeometric.specs.LinearForm.{FactorList}
use Rattle.hypergeometric.specs.Products.{list_polynomial}
use Rattle.term_pieces.specs.Pieces.{Top}
use Rattle.term_pieces.specs.Tops.{top_polynomial}
use Rattle.form_rings.specs.Forms.{Forms, FormLaws}
use Rattle.key_sides.specs.Lifted.{lifted}
use Rattle.key_sides.specs.Powers.{Power, product_of, counterpart_of, PowersInBounds}
use Rattle.key_sides.specs.ListPowers.{once, list_powers, list_at_later_k, side_powers}
use Rattle.key_sides.proofs.ListLifts.{distinct, list_pass, list_here, side_pass, side_lifted}
use Rattle.key_sides.proofs.Multiplied.{AllPass, Multiplied, IsOut, start, more_done, more_fault, one_done, one_fault, all_done, out_of_bounds, from_unit}
use Rattle.key_sides.proofs.Lifts.{lift_in}

module _ (a : Algebra) (l : Laws a) (forms : Forms) (fl : FormLaws a forms) (g : FactorList) (top : Top) (pass : IsTrue ((level 2).passes top.poly)) where
  abbrev o : Ops Meaning
  o = (poly_algebra a).ops

  abbrev P : Ops (Polynomial a)
  P = polynomials a l

  abbrev pub all : List Power
  all = side_powers a forms g top

  -- what is left after the forms of g
  abbrev rest : List Power
  rest = once (lifted a forms top.poly) ∷ list_powers a forms top.factors

  abbrev pub Reached : Meaning → List Power → Type 0
  Reached m left = Multiplied (poly_algebra a) P.unit.0 all m left

  rest_pass : AllPass (poly_algebra a) rest
  rest_pass = ((lift_in a l forms fl (top.poly, pass)).1, list_pass a l forms fl top.factors)

  begin : Reached P.unit.0 all
  begin = start (poly_algebra a) (poly_laws a l) (distinct a l forms fl) P.unit all (side_pass a l forms fl g top pass)

  module _ (one : Meaning) (is_one : one ≡ o.unit) where
    pub after_g : (m : Meaning) → m ≡ o.product one (product_of o (list_powers a forms (list_at_later_k g (pos 0)))) → Reached m rest
    after_g m e =
        more_done (poly_algebra a) (poly_laws a l) (distinct a l forms fl) P.unit all P.unit.0 (list_powers a forms g) rest (list_pass a l forms fl g)
        rest_pass begin m (e ∙ (λ i. o.product (is_one i) (product_of o (list_powers a forms (list_here g i)))))

    pub g_fault : (fault : RingFault) → OnFault (IsOut (poly_algebra a) one (counterpart_of o (list_powers a forms (list_at_later_k g (pos 0))))) fault
        → OnFault (¬ PowersInBounds (poly_algebra a) all) fault
    g_fault fault out =
        out_of_bounds (poly_algebra a) (poly_laws a l) (distinct a l forms fl) all (side_pass a l forms fl g top pass) fault
        (more_fault (poly_algebra a) (poly_laws a l) (distinct a l forms fl) P.unit all P.unit.0 (list_powers a forms g) rest (list_pass a l forms fl g)
        rest_pass begin fault (subst (λ t. OnFault t fault) (λ i. IsOut (poly_algebra a) (is_one i) (counterpart_of o (list_powers a forms (list_here g i)))) out))

  module _ (m : Meaning) (r : Reached m rest) (base : Meaning) (is : base ≡ lifted a forms top.poly) where
    pub after_poly : (m' : Meaning) → m' ≡ o.product m (power_in o base 1) → Reached m' (list_powers a forms top.factors)
    after_poly m' e =
        one_done (poly_algebra a) (poly_laws a l) (distinct a l forms fl) P.unit all m (once (lifted a forms top.poly)) (list_powers a forms top.factors)
        rest_pass.0 rest_pass.1 r m' (e ∙ ap (λ t. o.product m (power_in o t 1)) is)

    pub poly_fault : (fault : RingFault) → OnFault (IsOut (poly_algebra a) m (power_in o (nonzero_magnitude o base) 1)) fault
        → OnFault (¬ PowersInBounds (poly_algebra a) all) fault
    poly_fault fault out =
        out_of_bounds (poly_algebra a) (poly_laws a l) (distinct a l forms fl) all (side_pass a l forms fl g top pass) fault
        (one_fault (poly_algebra a) (poly_laws a l) (distinct a l forms fl) P.unit all m (once (lifted a forms top.poly)) (list_powers a forms top.factors)
        rest_pass.0 rest_pass.1 r fault (subst (λ t. OnFault (IsOut (poly_algebra a) m (power_in o (nonzero_magnitude o t) 1)) fault) is out))

  module _ (m : Meaning) (r : Reached m (list_powers a forms top.factors)) where
    last : Reached m (list_powers a forms top.factors ++ [])
    last = subst (Reached m) (sym (append-nil (list_powers a forms top.factors))) r

    pub side_is : (m' : Meaning) → m' ≡ o.product m (product_of o (list_powers a forms (list_at_later_k top.factors (pos 0))))
        → m' ≡ lifted a forms ((level 2).ops.product (list_polynomial g) (top_polynomial top))
    side_is m' e =
        from_unit (poly_algebra a) (poly_laws a l) (distinct a l forms fl) all (side_pass a l forms fl g top pass) m'
        (all_done (poly_algebra a) (poly_laws a l) (distinct a l forms fl) P.unit all m'
        (more_done (poly_algebra a) (poly_laws a l) (distinct a l forms fl) P.unit all m (list_powers a forms top.factors) [] rest_pass.1 tt last m'
        (e ∙ ap (λ t. o.product m (product_of o (list_powers a forms t))) (list_here top.factors))))
        ∙ sym (side_lifted a l forms fl g top pass)

    pub factors_fault : (fault : RingFault)
        → OnFault (IsOut (poly_algebra a) m (counterpart_of o (list_powers a forms (list_at_later_k top.factors (pos 0))))) fault
        → OnFault (¬ PowersInBounds (poly_algebra a) all) fault
    factors_fault fault out =
        out_of_bounds (poly_algebra a) (poly_laws a l) (distinct a l forms fl) all (side_pass a l forms fl g top pass) fault
        (more_fault (poly_algebra a) (poly_laws a l) (distinct a l forms fl) P.unit all m (list_powers a forms top.factors) [] rest_pass.1 tt last fault
        (subst (λ t. OnFault t fault) (ap (λ t. IsOut (poly_algebra a) m (counterpart_of o (list_powers a forms t))) (list_here top.factors)) out))

    -- the last product
    pub side_answer : {T : Type 0} (mean : T → Meaning) (r : Result T RingFault)
        → GivesTimes mean (poly_algebra a) m (product_of o (list_powers a forms (list_at_later_k top.factors (pos 0))))
        (counterpart_of o (list_powers a forms (list_at_later_k top.factors (pos 0)))) r
        → IfOk r (λ v. mean v ≡ lifted a forms ((level 2).ops.product (list_polynomial g) (top_polynomial top)))
        × IfErr r (OnFault (¬ PowersInBounds (poly_algebra a) all))
    side_answer mean (Ok v) h = (side_is (mean v) h, tt)
    side_answer mean (Err fault) h = (tt, factors_fault fault h)
