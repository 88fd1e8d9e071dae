-- The step from any ring to the polynomials over it, on the meanings that belong to them.
use Rattle.std.specs.Prelude.{◌≡◌, ℤ, pos, IsTrue, List, [], ◌∷◌, map, refl}
use Rattle.std.proofs.Common.{ap, ◌∙◌}
use Rattle.ring_laws.specs.Meaning.{Meaning, items}
use Rattle.ring_laws.specs.Algebra.{Ops, Algebra, Passing, Closed, within}
use Rattle.poly_laws.specs.Lists.{list_sum, list_product, trimmed}
use Rattle.poly_laws.specs.PolyAlgebra.{is_empty, poly_algebra}
use Rattle.poly_laws.specs.Values.{horner, KeepsOps}
use Rattle.poly_laws.proofs.Coefficients.{meanings_of, coefficients, meanings-coefficients, poly_closed, coefficients-sum, coefficients-product, coefficients-neg, coefficients-nought, coefficients-unit, coefficients-whole}
use Rattle.poly_laws.proofs.HornerLaws.{horner_sum, horner_neg, horner_product, horner_one, horner_trimmed}

module _ (a : Algebra) (c : Closed a) (f : Passing a → ℤ) (k : KeepsOps (within a c) f) (v : ℤ) where
  o : Ops (Passing a)
  o = within a c

  abbrev pub sum_at : Passing (poly_algebra a) → ℤ
  sum_at x = horner f v (coefficients a c x)

  of_parts : (x : Passing (poly_algebra a)) (xs : List (Passing a)) → coefficients a c x ≡ trimmed (within a c) xs → sum_at x ≡ horner f v xs
  of_parts x xs e = ap (horner f v) e ∙ horner_trimmed (within a c) f k v xs

  empty_only : (xs : List (Passing a)) (ms : List Meaning) → meanings_of a c xs ≡ ms → IsTrue (is_empty ms) → horner f v xs ≡ pos 0
  empty_only [] ms e h = refl
  empty_only (x ∷ xs) [] e h = cc
  empty_only (x ∷ xs) (m ∷ ms) e h = cc

  pub polys_keep : KeepsOps (within (poly_algebra a) (poly_closed a c)) sum_at
  polys_keep =
      let r = within a c in
      let p = within (poly_algebra a) (poly_closed a c) in
      record {
        nought = ap (horner f v) (coefficients-nought a c);
        unit = of_parts p.unit (r.unit ∷ []) (coefficients-unit a c) ∙ horner_one r f k v r.unit ∙ k.unit;
        whole = λ w. of_parts (p.whole w) (r.whole w ∷ []) (coefficients-whole a c w) ∙ horner_one r f k v (r.whole w) ∙ k.whole w;
        neg = λ x. of_parts (p.neg x) (map r.neg (coefficients a c x)) (coefficients-neg a c x) ∙ horner_neg r f k v (coefficients a c x);
        sum = λ x y. of_parts (p.sum x y) (list_sum r (coefficients a c x) (coefficients a c y)) (coefficients-sum a c x y)
            ∙ horner_sum r f k v (coefficients a c x) (coefficients a c y);
        product = λ x y. of_parts (p.product x y) (list_product r (coefficients a c x) (coefficients a c y)) (coefficients-product a c x y)
            ∙ horner_product r f k v (coefficients a c x) (coefficients a c y);
        is_nought = λ x h. empty_only (coefficients a c x) (items x.0) (meanings-coefficients a c x) h;
      }
