-- Lists of forms over a ring of forms: what is multiplied belongs to the ring, and the product is the list's polynomial.
use Rattle.std.specs.Prelude.{◌≡◌, ℕ, zero, suc, IsTrue, ℤ, pos, negsuc, ◌+ℤ◌, ◌*ℤ◌, List, [], ◌∷◌, map, refl}
use Rattle.std.proofs.Common.{ap, sym, ◌∙◌, arith}
use Rattle.std.proofs.Math.IntN.{pow, *ℤ-zero}
use Rattle.std.proofs.lemmas.Int.{ints}
use Rattle.ring_laws.specs.Meaning.{Meaning}
use Rattle.ring_laws.specs.Algebra.{Ops, Algebra, Passing, Laws, same_passing}
use Rattle.poly_laws.specs.PolyAlgebra.{poly_algebra}
use Rattle.poly_laws.specs.Powers.{power_in}
use Rattle.poly_laws.specs.Values.{level}
use Rattle.poly_laws.proofs.Equal.{level_laws}
use Rattle.poly_laws.proofs.PolyLaws.{coefficient-unit, coefficient-nought, poly_ring}
use Rattle.poly_laws.proofs.PolyMagnitudes.{poly_laws}
use Rattle.poly_laws.proofs.Powers.{product_unit}
use Rattle.division_laws.specs.Polynomials.{Polynomial, at_previous}
use Rattle.division_laws.proofs.Polynomials.{polynomials, part}
use Rattle.hypergeometric.specs.Point.{Point, later_k}
use Rattle.hypergeometric.specs.LinearForm.{LinearForm, Factor, FactorList, forms_value}
use Rattle.hypergeometric.specs.FactorLists.{factor_with}
use Rattle.hypergeometric.specs.Products.{form_polynomial, forms_polynomial, list_polynomial}
use Rattle.poly_laws.proofs.Squaring.{power_first}
use Rattle.hypergeometric.proofs.FormPolynomials.{o, form_in, factor_in, forms_in, forms_first}
use Rattle.term_pieces.specs.Products.{at_later_k}
use Rattle.term_pieces.specs.Pieces.{Top}
use Rattle.term_pieces.specs.Tops.{top_polynomial}
use Rattle.term_pieces.proofs.FormValues.{later_k_value}
use Rattle.pole_laws.proofs.NormalPolynomials.{list_in, shift_by, same_polynomials, shift_at, value_of}
use Rattle.form_rings.specs.Forms.{Forms, FormLaws}
use Rattle.key_sides.specs.Lifted.{lifted}
use Rattle.key_sides.specs.Powers.{product_of}
use Rattle.key_sides.specs.ListPowers.{once, factor_power, list_powers, list_at_later_k, list_before, side_powers}
use Rattle.key_sides.proofs.Lifts.{in_k, lift_in, lift_product, lift_whole, lift_unit, lift_shift}
use Rattle.key_sides.proofs.Multiplied.{AllPass, joined_pass, product_joined}

abbrev factors_at : List Factor → ℤ → List Factor
factors_at xs j = map (λ x. factor_with (at_later_k x.form j) x.power) xs

-- a list at k + 0 is the list
same_form : (f : LinearForm) → at_later_k f (pos 0) ≡ f
same_form f = λ i. record { n_slope = f.n_slope; k_slope = f.k_slope; offset = same f.offset f.k_slope i }
  where
    same : (c s : ℤ) → c +ℤ s *ℤ pos 0 ≡ c
    same c s = omega (arith, ints, *ℤ-zero s)

same_factors : (xs : List Factor) → factors_at xs (pos 0) ≡ xs
same_factors [] = refl
same_factors (x ∷ xs) = λ i. factor_with (same_form x.form i) x.power ∷ same_factors xs i

pub list_here : (l : FactorList) → list_at_later_k l (pos 0) ≡ l
list_here l = λ i. record { scale = l.scale; factors = same_factors l.factors i }

-- the polynomial of the list at k + j is that of the list at k + j
later_forms : (xs : List Factor) (j : ℤ) (p : Point) → forms_value (factors_at xs j) p ≡ forms_value xs (later_k p j)
later_forms [] j p = refl
later_forms (x ∷ xs) j p = λ i. pow (later_k_value x.form j p i) x.power *ℤ later_forms xs j p i

pub list_later : (l : FactorList) (j : ℤ) → list_in (list_at_later_k l j) ≡ shift_by j (list_in l)
list_later l j =
    same_polynomials (list_in (list_at_later_k l j)) (shift_by j (list_in l))
    (λ p. value_of (list_at_later_k l j) p ∙ ap (λ t. l.scale *ℤ t) (later_forms l.factors j p)
    ∙ sym (shift_at j (list_in l) p ∙ value_of l (later_k p j)))

module _ (a : Algebra) (l : Laws a) (forms : Forms) (fl : FormLaws a forms) where
  abbrev P : Ops (Polynomial a)
  P = polynomials a l

  -- the polynomials over the ring are more than one
  pub distinct : ¬ ((poly_algebra a).ops.unit ≡ (poly_algebra a).ops.nought)
  distinct e =
      let same : P.unit ≡ P.nought = same_passing (poly_algebra a) P.unit P.nought e in
      let one : a.ops.unit ≡ a.ops.nought =
      ap (λ (t : Passing a). t.0) (sym (coefficient-unit a l.closed l.ring 0) ∙ ap (λ t. part a l t 0) same ∙ coefficient-nought a l.closed l.ring 0) in
      let whole : a.ops.whole (pos 1) ≡ a.ops.whole (pos 0) =
      ap (λ (t : Passing a). t.0) l.ring.whole_one ∙ one ∙ sym (ap (λ (t : Passing a). t.0) l.ring.whole_zero) in
      let numbers : pos 1 ≡ pos 0 =
      sym (fl.value_whole (pos 0) (pos 0) (pos 1)) ∙ ap (forms.value (pos 0) (pos 0)) whole ∙ fl.value_whole (pos 0) (pos 0) (pos 0) in
      omega (arith, ints, numbers)

  pub form_pass : (f : LinearForm) → IsTrue ((poly_algebra a).passes (lifted a forms (form_polynomial f)))
  form_pass f = (lift_in a l forms fl (form_in f)).1

  pub factors_pass : (xs : List Factor) → AllPass (poly_algebra a) (map (factor_power a forms) xs)
  factors_pass [] = tt
  factors_pass (x ∷ xs) = (form_pass x.form, factors_pass xs)

  pub list_pass : (xs : FactorList) → AllPass (poly_algebra a) (list_powers a forms xs)
  list_pass xs = ((poly_laws a l).closed.whole xs.scale, factors_pass xs.factors)

  abbrev product : Meaning → Meaning → Meaning
  product f g = (poly_algebra a).ops.product f g

  lifted_product : (f g : Polynomial (level 1)) → lifted a forms ((level 2).ops.product f.0 g.0) ≡ product (lifted a forms f.0) (lifted a forms g.0)
  lifted_product f g = ap (λ (t : Polynomial a). t.0) (lift_product a l forms fl f g)

  lifted_power : (f : Polynomial (level 1)) (n : ℕ)
      → lifted a forms (power_in (level 2).ops f.0 n) ≡ power_in (poly_algebra a).ops (lifted a forms f.0) n
  lifted_power f zero = ap (λ (t : Polynomial a). t.0) (lift_unit a l forms fl)
  lifted_power f (suc n) =
      let e = power_first (level 2) (level_laws 2) f n in
      ap (λ t. lifted a forms ((level 2).ops.product f.0 t)) (sym e)
      ∙ lifted_product f (power_in o f n)
      ∙ ap (product (lifted a forms f.0)) (ap (lifted a forms) e ∙ lifted_power f n)

  forms_lifted : (xs : List Factor) → lifted a forms (forms_polynomial xs) ≡ product_of (poly_algebra a).ops (map (factor_power a forms) xs)
  forms_lifted [] = ap (λ (t : Polynomial a). t.0) (lift_unit a l forms fl)
  forms_lifted (x ∷ xs) =
      let e = power_first (level 2) (level_laws 2) (form_in x.form) x.power in
      ap (lifted a forms) (sym (λ i. (level 2).ops.product (e i) (forms_first xs i)))
      ∙ lifted_product (factor_in x) (forms_in xs)
      ∙ (λ i. product ((ap (lifted a forms) e ∙ lifted_power (form_in x.form) x.power) i) ((ap (lifted a forms) (forms_first xs) ∙ forms_lifted xs) i))

  once_is : (f : Polynomial a) → power_in (poly_algebra a).ops f.0 1 ≡ f.0
  once_is f = ap (λ (t : Polynomial a). t.0) (product_unit P (poly_ring a l.closed l.ring) f)

  pub list_lifted : (xs : FactorList) → lifted a forms (list_polynomial xs) ≡ product_of (poly_algebra a).ops (list_powers a forms xs)
  list_lifted xs =
      ap (λ t. lifted a forms ((level 2).ops.product ((level 2).ops.whole xs.scale) t)) (sym (forms_first xs.factors))
      ∙ lifted_product (in_k.whole xs.scale) (forms_in xs.factors)
      ∙ (λ i. product ((ap (λ (t : Polynomial a). t.0) (lift_whole a l forms fl xs.scale) ∙ sym (once_is (P.whole xs.scale))) i)
      ((ap (lifted a forms) (forms_first xs.factors) ∙ forms_lifted xs.factors) i))

  -- the list at k - 1
  pub before_lifted : (xs : FactorList) → at_previous a.ops (lifted a forms (list_polynomial xs)) ≡ product_of (poly_algebra a).ops (list_powers a forms (list_before xs))
  before_lifted xs =
      ap (λ (t : Polynomial a). t.0) (sym (lift_shift a l forms fl (negsuc 0) (list_in xs)))
      ∙ ap (λ (t : Polynomial (level 1)). lifted a forms t.0) (sym (list_later xs (negsuc 0)))
      ∙ list_lifted (list_before xs)

  module _ (g : FactorList) (top : Top) (pass : IsTrue ((level 2).passes top.poly)) where
    poly_in : Polynomial (level 1)
    poly_in = (top.poly, pass)

    pub side_pass : AllPass (poly_algebra a) (side_powers a forms g top)
    unfolding poly_in
    side_pass =
        joined_pass (poly_algebra a) (poly_laws a l) distinct (list_powers a forms g) (once (lifted a forms top.poly) ∷ list_powers a forms top.factors)
        (list_pass g) ((lift_in a l forms fl poly_in).1, list_pass top.factors)

    pub side_lifted : lifted a forms ((level 2).ops.product (list_polynomial g) (top_polynomial top)) ≡ product_of (poly_algebra a).ops (side_powers a forms g top)
    unfolding poly_in
    side_lifted =
        lifted_product (list_in g) (in_k.product poly_in (list_in top.factors))
        ∙ ap (product (lifted a forms (list_polynomial g))) (lifted_product poly_in (list_in top.factors))
        ∙ (λ i. product (list_lifted g i) (product (sym (once_is (lift_in a l forms fl poly_in)) i) (list_lifted top.factors i)))
        ∙ sym (product_joined (poly_algebra a) (poly_laws a l) distinct (list_powers a forms g) (once (lifted a forms top.poly) ∷ list_powers a forms top.factors)
        (list_pass g) ((lift_in a l forms fl poly_in).1, list_pass top.factors))
