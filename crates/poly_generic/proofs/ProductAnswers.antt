-- What `mul` of polynomials answers.
use Rattle.std.proofs.Common.{◌≡◌, ◌≤◌, IsTrue, List, [], ◌∷◌, map, length, refl, sym, ap, ◌∙◌, subst, arith, Result, Ok, Err}
use Rattle.std.proofs.lemmas.List.{length-map}
use Rattle.ring_laws.specs.declared.faults.RingFault.{RingFault}
use Rattle.poly_laws.specs.Bounds.{ListProductInBounds}
use Rattle.poly_laws.specs.Lists.{coefficient_at, list_product, trimmed, is_trimmed}
use Rattle.poly_laws.specs.PolyAlgebra.{poly_algebra}
use Rattle.ring_laws.specs.Algebra.{Ops, Algebra, Passing, within, Laws, ProductInBounds}
use Rattle.ring_laws.specs.Answer.{OnFault, GivesInBounds, fault_weaker}
use Rattle.ring_laws.specs.Meaning.{Meaning, listed, items}
use Rattle.poly_generic.proofs.Senses.{meanings-senses, same_items}
use Rattle.poly_laws.proofs.Belonging.{value_passes, each_fits}
use Rattle.poly_laws.proofs.Coefficients.{meanings_of, meanings-product, meanings-trimmed}
use Rattle.poly_laws.proofs.InBounds.{ListsInBounds, in_bounds_product, product_in_bounds}
use Rattle.poly_laws.proofs.ListMagnitudes.{product_covered, covered_by_nought}
use Rattle.poly_laws.proofs.ListsInBounds.{magnitude_product, magnitude_product_is}
use Rattle.poly_laws.proofs.Trimming.{at_trimmed, is_trimmed_trimmed, beyond, length_within}

module _ {T : Type 0} (a : Algebra) (l : Laws a) (meaning : T → Meaning)
    (passes : (x : T) → IsTrue (a.passes (meaning x))) (fits : (x : T) → a.ops.Fits (meaning x)) where
  abbrev m : List T → List Meaning
  m xs = map meaning xs

  abbrev senses : List T → List (Passing a)
  senses xs = map (λ x. (meaning x, passes x)) xs

  abbrev base : Ops (Passing a)
  base = within a l.closed

  abbrev Mean : List T → Meaning
  Mean xs = listed (m xs)

  abbrev Trimmed : List T → Type 0
  Trimmed xs = IsTrue (is_trimmed a.ops (m xs))

  abbrev value : (xs : List T) → Trimmed xs → Passing (poly_algebra a)
  value xs h = (listed (m xs), value_passes a meaning passes xs h)

  -- magnitudes are their own magnitudes
  pub magnitudes_twice : (xs : List T) → map a.ops.magnitude (map a.ops.magnitude (m xs)) ≡ map a.ops.magnitude (m xs)
  magnitudes_twice [] = refl
  magnitudes_twice (x ∷ xs) = cc (ap (λ (v : Passing a). v.0) (l.magnitudes.of_magnitude (meaning x, passes x)), magnitudes_twice xs)

  pub list_product_in_bounds : (xs ys : List T) → Trimmed xs → Trimmed ys → ProductInBounds (poly_algebra a) (Mean xs) (Mean ys)
      → ListsInBounds a l (m xs) (m ys)
  list_product_in_bounds xs ys hx hy h =
      subst (λ t. ListsInBounds a l t (m ys)) (same_items a l meaning passes xs)
      (subst (λ t. ListsInBounds a l (items (Mean xs)) t) (same_items a l meaning passes ys) (product_in_bounds a l (value xs hx) (value ys hy) h))

  pub in_bounds_product_of : (xs ys : List T) → Trimmed xs → Trimmed ys → ListsInBounds a l (m xs) (m ys)
      → ProductInBounds (poly_algebra a) (Mean xs) (Mean ys)
  in_bounds_product_of xs ys hx hy h =
      in_bounds_product a l (value xs hx) (value ys hy)
      (subst (λ t. ListsInBounds a l t (items (Mean ys))) (sym (same_items a l meaning passes xs))
      (subst (λ t. ListsInBounds a l (m xs) t) (sym (same_items a l meaning passes ys)) h))

  -- the exits of `mul`
  pub bound_fault : (xs ys : List T) (ls rs : List Meaning) (fault : RingFault) → Trimmed xs → Trimmed ys → ls ≡ map a.ops.magnitude (m xs)
      → rs ≡ map a.ops.magnitude (m ys) → OnFault (¬ (ListProductInBounds a ls rs)) fault
      → OnFault (¬ (ProductInBounds (poly_algebra a) (Mean xs) (Mean ys))) fault
  bound_fault xs ys ls rs fault hx hy e f h =
      let u : map a.ops.magnitude ls ≡ map a.ops.magnitude (m xs) = ap (map a.ops.magnitude) e ∙ magnitudes_twice xs in
      let v : map a.ops.magnitude rs ≡ map a.ops.magnitude (m ys) = ap (map a.ops.magnitude) f ∙ magnitudes_twice ys in
      fault_weaker fault
      (λ n t. n (λ k. subst (λ w. a.ops.Fits (coefficient_at a.ops (list_product a.ops w (map a.ops.magnitude rs)) k)) (sym u)
      (subst (λ w. a.ops.Fits (coefficient_at a.ops (list_product a.ops (map a.ops.magnitude (m xs)) w) k)) (sym v)
      ((list_product_in_bounds xs ys hx hy t).0 k)))) h

  pub long_fault : (xs ys : List T) (ls rs zs : List Meaning) (fault : RingFault) → Trimmed xs → Trimmed ys → ls ≡ map a.ops.magnitude (m xs)
      → rs ≡ map a.ops.magnitude (m ys) → zs ≡ list_product a.ops ls rs → OnFault (¬ (length (trimmed a.ops zs) ≤ 256)) fault
      → OnFault (¬ (ProductInBounds (poly_algebra a) (Mean xs) (Mean ys))) fault
  long_fault xs ys ls rs zs fault hx hy e f g h =
      let u : zs ≡ list_product a.ops (map a.ops.magnitude (m xs)) (map a.ops.magnitude (m ys)) = cc (e, f, g) in
      fault_weaker fault (λ n t. n (subst (λ w. length (trimmed a.ops w) ≤ 256) (sym u) (list_product_in_bounds xs ys hx hy t).1)) h

  pub product_fault : (xs ys : List T) (fault : RingFault) → Trimmed xs → Trimmed ys → OnFault (¬ (ListProductInBounds a (m xs) (m ys))) fault
      → OnFault (¬ (ProductInBounds (poly_algebra a) (Mean xs) (Mean ys))) fault
  product_fault xs ys fault hx hy h = fault_weaker fault (λ n t. n (list_product_in_bounds xs ys hx hy t).0) h

  -- the product is no longer than that of the magnitudes
  no_longer : (us vs : List (Passing a)) → length (trimmed base (magnitude_product a l us vs)) ≤ 256
      → length (trimmed base (list_product base us vs)) ≤ 256
  no_longer us vs h = length_within base l.ring (trimmed base (list_product base us vs)) 256 (is_trimmed_trimmed base (list_product base us vs))
      (λ k b. at_trimmed base l.ring (list_product base us vs) k ∙ l.magnitudes.only_nought (coefficient_at base (list_product base us vs) k)
      (covered_by_nought base l.ring l.magnitudes (coefficient_at base (magnitude_product a l us vs) k)
      (base.magnitude (coefficient_at base (list_product base us vs) k))
      (sym (at_trimmed base l.ring (magnitude_product a l us vs) k) ∙ beyond base (trimmed base (magnitude_product a l us vs)) k (omega arith))
      (product_covered base l.ring l.magnitudes us vs k) (l.magnitudes.of_magnitude (coefficient_at base (list_product base us vs) k))))

  count : (us : List (Passing a)) → length (trimmed a.ops (meanings_of a l.closed us)) ≡ length (trimmed base us)
  count us = ap length (sym (meanings-trimmed a l.closed us)) ∙ length-map (trimmed base us) (λ (v : Passing a). v.0)

  pub short_product : (xs ys : List T) → length (trimmed a.ops (list_product a.ops (map a.ops.magnitude (m xs)) (map a.ops.magnitude (m ys)))) ≤ 256
      → length (trimmed a.ops (list_product a.ops (m xs) (m ys))) ≤ 256
  short_product xs ys h =
      let us : List (Passing a) = senses xs in
      let vs : List (Passing a) = senses ys in
      let e : meanings_of a l.closed (magnitude_product a l us vs) ≡ list_product a.ops (map a.ops.magnitude (m xs)) (map a.ops.magnitude (m ys)) =
      cc (magnitude_product_is a l us vs, meanings-senses a l meaning passes xs, meanings-senses a l meaning passes ys) in
      let f : meanings_of a l.closed (list_product base us vs) ≡ list_product a.ops (m xs) (m ys) =
      cc (meanings-product a l.closed us vs, meanings-senses a l meaning passes xs, meanings-senses a l meaning passes ys) in
      let p : length (trimmed base (magnitude_product a l us vs)) ≤ 256 =
      omega (arith, h, count (magnitude_product a l us vs), ap (λ t. length (trimmed a.ops t)) e) in
      let q : length (trimmed base (list_product base us vs)) ≤ 256 = no_longer us vs p in
      omega (arith, q, count (list_product base us vs), ap (λ t. length (trimmed a.ops t)) f)

  -- what `from_coefficients` gives of a product in bounds
  pub product_in_bounds_given : {Q : Type 0} (mean : Q → Meaning) (xs ys : List T) (zs : List Meaning) (r : Result Q RingFault) → Trimmed xs
      → Trimmed ys → ProductInBounds (poly_algebra a) (Mean xs) (Mean ys) → zs ≡ list_product a.ops (m xs) (m ys)
      → GivesInBounds mean (length (trimmed a.ops zs) ≤ 256) (listed (trimmed a.ops zs)) r
      → GivesInBounds mean (ProductInBounds (poly_algebra a) (Mean xs) (Mean ys)) ((poly_algebra a).ops.product (Mean xs) (Mean ys)) r
  product_in_bounds_given mean xs ys zs (Ok q) hx hy b z h =
      (b, cc (h.1, z, same_items a l meaning passes xs, same_items a l meaning passes ys))
  product_in_bounds_given mean xs ys zs (Err fault) hx hy b z h =
      fault_weaker fault (λ n. absurd (n (subst (λ t. length (trimmed a.ops t) ≤ 256) (sym z)
      (short_product xs ys (list_product_in_bounds xs ys hx hy b).1)))) h

  pub product_given : {Q : Type 0} (mean : Q → Meaning) (xs ys bound : List T) (ls rs zs : List Meaning) (r : Result Q RingFault) → Trimmed xs
      → Trimmed ys
      → ls ≡ map a.ops.magnitude (m xs) → rs ≡ map a.ops.magnitude (m ys) → m bound ≡ list_product a.ops ls rs
      → length (trimmed a.ops (m bound)) ≤ 256
      → zs ≡ list_product a.ops (m xs) (m ys) → GivesInBounds mean (length (trimmed a.ops zs) ≤ 256) (listed (trimmed a.ops zs)) r
      → GivesInBounds mean (ProductInBounds (poly_algebra a) (Mean xs) (Mean ys)) ((poly_algebra a).ops.product (Mean xs) (Mean ys)) r
  product_given mean xs ys bound ls rs zs r hx hy e f g b z h =
      let u : m bound ≡ list_product a.ops (map a.ops.magnitude (m xs)) (map a.ops.magnitude (m ys)) = cc (e, f, g) in
      product_in_bounds_given mean xs ys zs r hx hy
      (in_bounds_product_of xs ys hx hy (
        (λ k. subst (λ t. a.ops.Fits (coefficient_at a.ops t k)) u (each_fits a meaning l.magnitudes.fits_nought fits bound k)),
        subst (λ t. length (trimmed a.ops t) ≤ 256) u b,
      )) z h
