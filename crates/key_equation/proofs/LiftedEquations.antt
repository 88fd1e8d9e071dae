-- A solution of a key equation over the polynomials in n is one over a ring of forms: so where there is none over the ring, there is none.
use Rattle.std.specs.Prelude.{◌≡◌, suc, pos, negsuc, List, [], ◌∷◌, map, refl}
use Rattle.std.proofs.Common.{ap, sym, ◌∙◌, subst, arith}
use Rattle.std.proofs.lemmas.List.{length-map}
use Rattle.ring_laws.specs.Meaning.{Meaning}
use Rattle.ring_laws.specs.Algebra.{Ops, Algebra, Passing, Laws, same_passing}
use Rattle.poly_laws.specs.PolyAlgebra.{poly_algebra}
use Rattle.poly_laws.specs.Values.{level}
use Rattle.poly_laws.proofs.Equal.{level_laws}
use Rattle.poly_laws.proofs.PolyLaws.{equal_coefficients}
use Rattle.kernel_laws.specs.Answers.{Vector, meant}
use Rattle.kernel_laws.specs.Reduction.{bare}
use Rattle.division_laws.specs.Polynomials.{Polynomial}
use Rattle.division_laws.proofs.Polynomials.{polynomials, shifted_in, constant_in, listed_at}
use Rattle.key_laws.specs.KeyEquation.{meanings, combination, SolvesWith, InsolubleWith, Insoluble}
use Rattle.key_laws.proofs.Polynomials.{difference_in, combination_in, combination_is}
use Rattle.hypergeometric.specs.Products.{list_polynomial}
use Rattle.term_pieces.specs.NormalForm.{Normal}
use Rattle.pole_laws.specs.Orders.{sides_of}
use Rattle.pole_laws.proofs.Certificates.{sides_in}
use Rattle.pole_laws.proofs.NormalPolynomials.{in_k, shift_by, list_in}
use Rattle.form_rings.specs.Forms.{Forms, FormLaws}
use Rattle.key_sides.specs.Lifted.{lifted}
use Rattle.key_sides.proofs.Lifts.{to_ring, lift_in, lift_at, at_mapped, lift_sum, lift_product, lift_shift, lift_neg, lift_nought}
use Rattle.key_equation.specs.Polynomials.{q_over, b_over, AreSidesOf}
use Rattle.key_equation.proofs.OnlyZero.{only_zero}

module _ (a : Algebra) (l : Laws a) (forms : Forms) (fl : FormLaws a forms) where
  abbrev P : Ops (Polynomial a)
  P = polynomials a l

  abbrev lift : Polynomial (level 1) → Polynomial a
  lift f = lift_in a l forms fl f

  abbrev over : Vector (level 1) → Vector a
  over v = λ j. to_ring a l forms fl (v j)

  -- the meanings of polynomials over the ring
  pub lifts_meant : (tops : List (Polynomial (level 1)))
      → bare (poly_algebra a) (map (lift_in a l forms fl) tops) ≡ map (lifted a forms) (meanings (level 1) tops)
  lifts_meant [] = refl
  lifts_meant (p ∷ tops) = ap (λ t. lifted a forms p.0 ∷ t) (lifts_meant tops)

  lift_constant : (c : Passing (level 1)) → lift (constant_in (level 1) (level_laws 1) c) ≡ constant_in a l (to_ring a l forms fl c)
  lift_constant c =
      equal_coefficients a l.closed l.ring (lift (constant_in (level 1) (level_laws 1) c)) (constant_in a l (to_ring a l forms fl c))
      (λ k. lift_at a l forms fl (constant_in (level 1) (level_laws 1) c) k
      ∙ ap (to_ring a l forms fl) (listed_at (level 1) (level_laws 1) (c ∷ []) (c.0 ∷ []) refl k)
      ∙ sym (at_mapped a l forms fl (c ∷ []) k)
      ∙ sym (listed_at a l (to_ring a l forms fl c ∷ []) (forms.of_n c.0 ∷ []) refl k))

  lift_combination : (v : Vector (level 1)) (ss : List (Polynomial (level 1)))
      → lift (combination_in (level 1) (level_laws 1) v ss) ≡ combination_in a l (over v) (map (lift_in a l forms fl) ss)
  lift_combination v [] = lift_nought a l forms fl
  lift_combination v (s ∷ ss) =
      lift_sum a l forms fl (in_k.product (constant_in (level 1) (level_laws 1) (v 0)) s) (combination_in (level 1) (level_laws 1) (λ j. v (suc j)) ss)
      ∙ (λ i. P.sum ((lift_product a l forms fl (constant_in (level 1) (level_laws 1) (v 0)) s
      ∙ ap (λ t. P.product t (lift s)) (lift_constant (v 0))) i) (lift_combination (λ j. v (suc j)) ss i))

  lift_difference : (q b y : Polynomial (level 1))
      → lift (difference_in (level 1) (level_laws 1) q b y) ≡ difference_in a l (lift q) (lift b) (lift y)
  lift_difference q b y =
      let next = shifted_in (level 1) (level_laws 1) (pos 1) y in
      lift_sum a l forms fl (in_k.product q next) (in_k.neg (in_k.product b y))
      ∙ (λ i. P.sum ((lift_product a l forms fl q next ∙ ap (P.product (lift q)) (lift_shift a l forms fl (pos 1) y)) i)
      ((lift_neg a l forms fl (in_k.product b y) ∙ ap P.neg (lift_product a l forms fl b y)) i))

  module _ (q r : Polynomial (level 1)) (ss : List (Polynomial (level 1))) where
    abbrev b : Polynomial (level 1)
    b = shift_by (negsuc 0) r

    solves_over : (y : Polynomial (level 1)) (v : Vector (level 1))
        → SolvesWith (level 1).ops q.0 (shift_by (negsuc 0) r).0 (meanings (level 1) ss) y.0 (meant (level 1) v)
        → SolvesWith a.ops (lift q).0 (shifted_in a l (negsuc 0) (lift r)).0 (map (lifted a forms) (meanings (level 1) ss)) (lift y).0 (meant a (over v))
    solves_over y v h =
        let same : difference_in (level 1) (level_laws 1) q (shift_by (negsuc 0) r) y ≡ combination_in (level 1) (level_laws 1) v ss =
        same_passing (level 2) (difference_in (level 1) (level_laws 1) q (shift_by (negsuc 0) r) y) (combination_in (level 1) (level_laws 1) v ss)
        (h ∙ sym (combination_is (level 1) (level_laws 1) v ss)) in
        ap (λ (t : Polynomial a). t.0)
        (ap (λ t. difference_in a l (lift q) t (lift y)) (sym (lift_shift a l forms fl (negsuc 0) r))
        ∙ sym (lift_difference q (shift_by (negsuc 0) r) y) ∙ ap (lift_in a l forms fl) same ∙ lift_combination v ss)
        ∙ combination_is a l (over v) (map (lift_in a l forms fl) ss)
        ∙ ap (combination a.ops (meant a (over v))) (lifts_meant ss)

    insoluble_here : InsolubleWith a (lift q).0 (shifted_in a l (negsuc 0) (lift r)).0 (map (lifted a forms) (meanings (level 1) ss))
        → Insoluble (level 1) q.0 r.0 (meanings (level 1) ss)
    insoluble_here none y v h j b =
        let many = length-map (meanings (level 1) ss) (lifted a forms) in
        only_zero a l forms fl (v j) (none (lift y) (over v) (solves_over y v h) j (omega (arith, b, many)))

  -- where no multipliers but zeros solve the equation over the ring, none do
  pub insoluble_below : (normal : Normal) (tops : List (Polynomial (level 1))) (sides : List Meaning) → AreSidesOf a forms normal tops sides
      → InsolubleWith a (q_over a forms normal) (b_over a forms normal) sides
      → Insoluble (level 1) (list_polynomial normal.q) (list_polynomial normal.r) (sides_of normal (meanings (level 1) tops))
  insoluble_below normal tops sides are none =
      let ss = map (in_k.product (list_in normal.g)) tops in
      let same = sides_in (list_in normal.g) tops in
      subst (Insoluble (level 1) (list_polynomial normal.q) (list_polynomial normal.r)) same
      (insoluble_here (list_in normal.q) (list_in normal.r) ss
      (subst (InsolubleWith a (q_over a forms normal) (b_over a forms normal)) (are ∙ ap (map (lifted a forms)) (sym same)) none))
