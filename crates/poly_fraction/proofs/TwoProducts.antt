-- Why each step to a sum or a difference of two products is in bounds where its counterpart on magnitudes fits.
use Rattle.std.specs.Prelude.{◌≡◌}
use Rattle.ring_laws.specs.Algebra.{Ops, RingLaws, MagnitudeLaws}
use Rattle.poly_laws.proofs.ListMagnitudes.{covers_sums, left_part, right_part, fits_covered_magnitude}

module _ {A : Type 0} (o : Ops A) (l : RingLaws o) (m : MagnitudeLaws o) where
  -- |x|*|y|
  abbrev pub size : A → A → A
  size x y = o.product (o.magnitude x) (o.magnitude y)

  -- it is the counterpart of its own factors, and of its own parts
  pub size_twice : (x y : A) → size (o.magnitude x) (o.magnitude y) ≡ size x y
  size_twice x y = cc (m.of_magnitude x, m.of_magnitude y)

  pub sizes_twice : (x y z w : A) → o.sum (o.magnitude (size x y)) (o.magnitude (size z w)) ≡ o.sum (size x y) (size z w)
  sizes_twice x y z w = cc (m.of_product x y, m.of_product z w)

  pub left_fits : (x y z w : A) → o.Fits (o.sum (size x y) (size z w)) → o.Fits (size x y)
  left_fits x y z w h =
      fits_covered_magnitude o l m (o.sum (size x y) (size z w)) (size x y) h (left_part o l m (size x y) (size z w) (m.of_product z w))
      (m.of_product x y)

  pub right_fits : (x y z w : A) → o.Fits (o.sum (size x y) (size z w)) → o.Fits (size z w)
  right_fits x y z w h =
      fits_covered_magnitude o l m (o.sum (size x y) (size z w)) (size z w) h (right_part o l m (size x y) (size z w) (m.of_product x y))
      (m.of_product z w)

  -- the sum of the products is in bounds
  pub sum_fits : (x y z w : A) → o.Fits (o.sum (size x y) (size z w))
      → o.Fits (o.sum (o.magnitude (o.product x y)) (o.magnitude (o.product z w)))
  sum_fits x y z w h =
      fits_covered_magnitude o l m (o.sum (size x y) (size z w)) (o.sum (o.magnitude (o.product x y)) (o.magnitude (o.product z w))) h
      (covers_sums o l m (size x y) (o.magnitude (o.product x y)) (size z w) (o.magnitude (o.product z w)) (m.product_covers x y)
      (m.product_covers z w))
      (m.of_sum (o.product x y) (o.product z w))
