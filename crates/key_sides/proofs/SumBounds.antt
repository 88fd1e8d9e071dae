-- The sum of two bounds: where it fits, each of them does, and the sum of what they bound is in bounds.
use Rattle.std.specs.Prelude.{◌≡◌, List}
use Rattle.std.proofs.Common.{ap, sym, subst}
use Rattle.ring_laws.specs.Meaning.{Meaning}
use Rattle.ring_laws.specs.Algebra.{Ops, Algebra, Passing, Laws, within, same_passing, SumInBounds}
use Rattle.poly_laws.specs.Powers.{IsBound}
use Rattle.key_sides.specs.Powers.{Power, product_of, counterpart_of, PowersInBounds}
use Rattle.key_sides.proofs.Multiplied.{AllPass, values_in, values_first, bounds_in, bounds_first, bounded}

module _ (a : Algebra) (l : Laws a) where
  abbrev o : Ops (Passing a)
  o = within a l.closed

  own : (b : Passing a) (m : Meaning) → IsBound a b m → o.magnitude b ≡ b
  own b m h = same_passing a (o.magnitude b) b h.magnitude

  module _ (b c x y : Passing a) (h : IsBound a b x.0) (k : IsBound a c y.0) where
    first_fits : o.Fits (o.sum b c) → o.Fits b
    first_fits fits =
        subst o.Fits (own b x.0 h) (l.magnitudes.fits_covered (o.sum b c) b fits
        (subst (λ t. o.Covers (o.sum b t) (o.magnitude b)) (own c y.0 k)
        (subst (λ t. o.Covers (o.sum b (o.magnitude c)) t) (sym (own b x.0 h)) (l.magnitudes.part_covered b c))))

    sum_covers : o.Covers (o.sum b c) (o.sum (o.magnitude x) (o.magnitude y))
    sum_covers =
        l.magnitudes.covers_trans (o.sum b c) (o.sum (o.magnitude x) c) (o.sum (o.magnitude x) (o.magnitude y))
        (l.magnitudes.covers_sum b (o.magnitude x) c h.covers)
        (subst (λ t. o.Covers t (o.sum (o.magnitude x) (o.magnitude y))) (l.ring.sum_comm c (o.magnitude x))
        (subst (λ t. o.Covers (o.sum c (o.magnitude x)) t) (l.ring.sum_comm (o.magnitude y) (o.magnitude x))
        (l.magnitudes.covers_sum c (o.magnitude y) (o.magnitude x) k.covers)))

    sum_fits : o.Fits (o.sum b c) → SumInBounds a x.0 y.0
    sum_fits fits =
        let e : o.magnitude (o.sum (o.magnitude x) (o.magnitude y)) ≡ o.sum (o.magnitude x) (o.magnitude y) = l.magnitudes.of_sum x y in
        subst o.Fits e (l.magnitudes.fits_covered (o.sum b c) (o.sum (o.magnitude x) (o.magnitude y)) fits
        (subst (λ t. o.Covers (o.sum b c) t) (sym e) sum_covers))

-- of two products
module _ (a : Algebra) (l : Laws a) (distinct : ¬ (a.ops.unit ≡ a.ops.nought)) (xs ys : List Power) (h : AllPass a xs) (k : AllPass a ys)
    (fits : a.ops.Fits (a.ops.sum (counterpart_of a.ops xs) (counterpart_of a.ops ys))) where
  abbrev b : Passing a
  b = bounds_in a l distinct xs h

  abbrev c : Passing a
  c = bounds_in a l distinct ys k

  both : a.ops.Fits (a.ops.sum b.0 c.0)
  both = subst a.ops.Fits (sym (λ i. a.ops.sum (bounds_first a l distinct xs h i) (bounds_first a l distinct ys k i))) fits

  pub first_in_bounds : PowersInBounds a xs
  first_in_bounds =
      subst a.ops.Fits (bounds_first a l distinct xs h)
      (first_fits a l b c (values_in a l distinct xs h) (values_in a l distinct ys k) (bounded a l distinct xs h) (bounded a l distinct ys k) both)

  pub second_in_bounds : PowersInBounds a ys
  second_in_bounds =
      subst a.ops.Fits (bounds_first a l distinct ys k)
      (first_fits a l c b (values_in a l distinct ys k) (values_in a l distinct xs h) (bounded a l distinct ys k) (bounded a l distinct xs h)
      (subst a.ops.Fits (ap (λ (t : Passing a). t.0) (l.ring.sum_comm b c)) both))

  pub sum_in_bounds : SumInBounds a (product_of a.ops xs) (product_of a.ops ys)
  sum_in_bounds =
      subst (λ t. SumInBounds a t (product_of a.ops ys)) (values_first a l distinct xs h)
      (subst (λ t. SumInBounds a (values_in a l distinct xs h).0 t) (values_first a l distinct ys k)
      (sum_fits a l b c (values_in a l distinct xs h) (values_in a l distinct ys k) (bounded a l distinct xs h) (bounded a l distinct ys k) both))
