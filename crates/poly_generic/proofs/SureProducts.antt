-- What the cheap test of a product shows.
use Rattle.std.proofs.Common.{◌≡◌, ◌+◌, ◌≤◌, IsTrue, IsOk, List, [], ◌∷◌, map, length, refl, sym, ap, ◌∙◌, subst, arith, Result, Ok, Err}
use Rattle.std.proofs.lemmas.List.{length-map}
use Rattle.ring_laws.specs.declared.faults.RingFault.{RingFault}
use Rattle.poly_laws.specs.Bounds.{ListProductInBounds}
use Rattle.poly_laws.specs.Lists.{list_product, is_trimmed}
use Rattle.poly_laws.specs.PolyAlgebra.{poly_algebra}
use Rattle.ring_laws.specs.Algebra.{Ops, Algebra, Passing, within, Laws, ProductInBounds}
use Rattle.ring_laws.specs.Answer.{GivesInBounds}
use Rattle.ring_laws.specs.Meaning.{Meaning, listed}
use Rattle.poly_generic.specs.MagnitudeSum.{magnitude_sum}
use Rattle.poly_generic.proofs.MagnitudeSums.{sum_is_magnitude, sums_fit, length-list_product}
use Rattle.poly_generic.proofs.ProductAnswers.{in_bounds_product_of}
use Rattle.poly_generic.proofs.Senses.{meanings-senses}
use Rattle.poly_laws.proofs.Coefficients.{meanings_of}
use Rattle.poly_laws.proofs.ListMagnitudes.{fits_by}
use Rattle.poly_laws.proofs.ListsInBounds.{product_in_bounds_where}
use Rattle.poly_laws.proofs.Trimming.{length-trimmed}

module _ {T : Type 0} (a : Algebra) (l : Laws a) (meaning : T → Meaning)
    (passes : (x : T) → IsTrue (a.passes (meaning x))) (fits : (x : T) → a.ops.Fits (meaning x)) where
  abbrev m : List T → List Meaning
  m xs = map meaning xs

  abbrev senses : List T → List (Passing a)
  senses xs = map (λ x. (meaning x, passes x)) xs

  abbrev base : Ops (Passing a)
  base = within a l.closed

  abbrev Mean : List T → Meaning
  Mean xs = listed (m xs)

  abbrev Trimmed : List T → Type 0
  Trimmed xs = IsTrue (is_trimmed a.ops (m xs))

  -- the product of the sums of the magnitudes is that of magnitudes, and fits where it is in bounds
  pub surely_in_bounds : {Q : Type 0} (mean : Q → Meaning) (xs ys : List T) (left right : T) (r : Result Q RingFault)
      → meaning left ≡ magnitude_sum a.ops (m xs) → meaning right ≡ magnitude_sum a.ops (m ys) → IsOk r
      → GivesInBounds mean (ProductInBounds a (meaning left) (meaning right)) (a.ops.product (meaning left) (meaning right)) r
      → ListProductInBounds a (m xs) (m ys)
  surely_in_bounds mean xs ys left right (Err fault) e f o h = cc
  surely_in_bounds mean xs ys left right (Ok q) e f o h =
      let us : List (Passing a) = senses xs in
      let vs : List (Passing a) = senses ys in
      let x : (base.magnitude (magnitude_sum base us)).0 ≡ a.ops.magnitude (meaning left) =
      ap a.ops.magnitude (senses_sum xs ∙ sym e) in
      let y : (base.magnitude (magnitude_sum base vs)).0 ≡ a.ops.magnitude (meaning right) =
      ap a.ops.magnitude (senses_sum ys ∙ sym f) in
      let same : base.product (magnitude_sum base us) (magnitude_sum base vs)
      ≡ base.product (base.magnitude (magnitude_sum base us)) (base.magnitude (magnitude_sum base vs)) =
      cc (sum_is_magnitude base l.ring l.magnitudes us, sum_is_magnitude base l.ring l.magnitudes vs) in
      let p : base.Fits (base.product (magnitude_sum base us) (magnitude_sum base vs)) =
      fits_by base l.ring l.magnitudes same
      (subst (λ t. a.ops.Fits (a.ops.product t (a.ops.magnitude (magnitude_sum base vs).0))) (sym x)
      (subst (λ t. a.ops.Fits (a.ops.product (a.ops.magnitude (meaning left)) t)) (sym y) h.0)) in
      subst (λ t. ListProductInBounds a t (m ys)) (meanings-senses a l meaning passes xs)
      (subst (λ t. ListProductInBounds a (meanings_of a l.closed us) t) (meanings-senses a l meaning passes ys)
      (product_in_bounds_where a l us vs (sums_fit base l.ring l.magnitudes us vs p)))
    where
      senses_sum : (zs : List T) → (magnitude_sum base (senses zs)).0 ≡ magnitude_sum a.ops (m zs)
      senses_sum [] = refl
      senses_sum (z ∷ zs) = ap (a.ops.sum (a.ops.magnitude (meaning z))) (senses_sum zs)

  -- short lists whose product is surely in bounds are polynomials whose product is
  pub surely_in_bounds_product : (xs ys : List T) → Trimmed xs → Trimmed ys → length xs ≤ 256 → length xs + length ys ≤ 257
      → ListProductInBounds a (m xs) (m ys) → ProductInBounds (poly_algebra a) (Mean xs) (Mean ys)
  surely_in_bounds_product xs ys hx hy p q h =
      let ls : List Meaning = map a.ops.magnitude (m xs) in
      let rs : List Meaning = map a.ops.magnitude (m ys) in
      in_bounds_product_of a l meaning passes fits xs ys hx hy (
        h,
        omega (
          arith,
          p,
          q,
          length-trimmed a.ops (list_product a.ops ls rs),
          length-list_product a.ops ls rs,
          length-map (m xs) a.ops.magnitude,
          length-map (m ys) a.ops.magnitude,
          length-map xs meaning,
          length-map ys meaning,
        ),
      )
