-- The coefficients of a polynomial, as meanings that belong to the ring below.
use Rattle.std.specs.Prelude.{◌≡◌, ℤ, Bool, true, false, cond, IsTrue, List, [], ◌∷◌, map, refl}
use Rattle.std.proofs.Common.{ap, sym, ◌∙◌}
use Rattle.std.proofs.lemmas.Bool.{and_parts, and_from}
use Rattle.ring_laws.specs.Meaning.{Meaning, number, several, parted, joined, listed, items, parted-joined, joined-parted}
use Rattle.ring_laws.specs.Algebra.{Ops, Algebra, Passing, Closed, within, same_passing}
use Rattle.poly_laws.specs.Lists.{list_sum, list_product, in_front, trimmed, is_trimmed}
use Rattle.poly_laws.specs.PolyAlgebra.{every_passes, poly_passes, poly_algebra}
use Rattle.poly_laws.proofs.Trimming.{is_trimmed_trimmed}

module _ (a : Algebra) (c : Closed a) where
  abbrev o : Ops (Passing a)
  o = within a c

  abbrev pub meanings_of : List (Passing a) → List Meaning
  meanings_of xs = map (λ (x : Passing a). x.0) xs

  pub meanings-sum : (xs ys : List (Passing a)) → meanings_of (list_sum o xs ys) ≡ list_sum a.ops (meanings_of xs) (meanings_of ys)
  meanings-sum [] ys = refl
  meanings-sum (x ∷ xs) [] = refl
  meanings-sum (x ∷ xs) (y ∷ ys) = ap (λ t. a.ops.sum x.0 y.0 ∷ t) (meanings-sum xs ys)

  pub meanings-scale : (x : Passing a) (ys : List (Passing a)) → meanings_of (map (o.product x) ys) ≡ map (a.ops.product x.0) (meanings_of ys)
  meanings-scale x [] = refl
  meanings-scale x (y ∷ ys) = ap (λ t. a.ops.product x.0 y.0 ∷ t) (meanings-scale x ys)

  pub meanings-neg : (xs : List (Passing a)) → meanings_of (map o.neg xs) ≡ map a.ops.neg (meanings_of xs)
  meanings-neg [] = refl
  meanings-neg (x ∷ xs) = ap (λ t. a.ops.neg x.0 ∷ t) (meanings-neg xs)

  pub meanings-magnitude : (xs : List (Passing a)) → meanings_of (map o.magnitude xs) ≡ map a.ops.magnitude (meanings_of xs)
  meanings-magnitude [] = refl
  meanings-magnitude (x ∷ xs) = ap (λ t. a.ops.magnitude x.0 ∷ t) (meanings-magnitude xs)

  pub meanings-product : (xs ys : List (Passing a)) → meanings_of (list_product o xs ys) ≡ list_product a.ops (meanings_of xs) (meanings_of ys)
  meanings-product [] ys = refl
  meanings-product (x ∷ xs) ys =
      cc (meanings-sum (map (o.product x) ys) (o.nought ∷ list_product o xs ys), meanings-scale x ys, meanings-product xs ys)

  meanings_cond : (b : Bool) (x : Passing a) → meanings_of (cond b [] (x ∷ [])) ≡ cond b [] (x.0 ∷ [])
  meanings_cond true x = refl
  meanings_cond false x = refl

  meanings-in_front : (x : Passing a) (t : List (Passing a)) → meanings_of (in_front o x t) ≡ in_front a.ops x.0 (meanings_of t)
  meanings-in_front x [] = meanings_cond (a.ops.is_nought x.0) x
  meanings-in_front x (y ∷ ys) = refl

  pub meanings-trimmed : (xs : List (Passing a)) → meanings_of (trimmed o xs) ≡ trimmed a.ops (meanings_of xs)
  meanings-trimmed [] = refl
  meanings-trimmed (x ∷ xs) = meanings-in_front x (trimmed o xs) ∙ ap (in_front a.ops x.0) (meanings-trimmed xs)

  pub meanings-is_trimmed : (xs : List (Passing a)) → is_trimmed a.ops (meanings_of xs) ≡ is_trimmed o xs
  meanings-is_trimmed [] = refl
  meanings-is_trimmed (x ∷ []) = refl
  meanings-is_trimmed (x ∷ y ∷ ys) = meanings-is_trimmed (y ∷ ys)

  meanings_pass : (xs : List (Passing a)) → IsTrue (every_passes a.passes (meanings_of xs))
  meanings_pass [] = refl
  meanings_pass (x ∷ xs) = and_from (a.passes x.0) (every_passes a.passes (meanings_of xs)) x.1 (meanings_pass xs)

  pub meanings_same : (xs ys : List (Passing a)) → meanings_of xs ≡ meanings_of ys → xs ≡ ys
  meanings_same [] [] e = refl
  meanings_same [] (y ∷ ys) e = cc
  meanings_same (x ∷ xs) [] e = cc
  meanings_same (x ∷ xs) (y ∷ ys) e =
      let h : x.0 ≡ y.0 = cc in
      let t : meanings_of xs ≡ meanings_of ys = cc in
      cc (same_passing a x y h, meanings_same xs ys t)

  attach : (xs : List Meaning) → IsTrue (every_passes a.passes xs) → List (Passing a)
  attach [] h = []
  attach (x ∷ xs) h = (x, (and_parts (a.passes x) (every_passes a.passes xs) h).0) ∷ attach xs (and_parts (a.passes x) (every_passes a.passes xs) h).1

  meanings-attach : (xs : List Meaning) (h : IsTrue (every_passes a.passes xs)) → meanings_of (attach xs h) ≡ xs
  unfolding attach
  meanings-attach [] h = refl
  meanings-attach (x ∷ xs) h = ap (λ t. x ∷ t) (meanings-attach xs (and_parts (a.passes x) (every_passes a.passes xs) h).1)

  -- the coefficients of a polynomial
  pub coefficients : Passing (poly_algebra a) → List (Passing a)
  coefficients (number z, h) = []
  coefficients (several xs, h) = attach (parted xs) (and_parts (every_passes a.passes (parted xs)) (is_trimmed a.ops (parted xs)) h).0

  pub meanings-coefficients : (x : Passing (poly_algebra a)) → meanings_of (coefficients x) ≡ items x.0
  unfolding coefficients
  meanings-coefficients (number z, h) = refl
  meanings-coefficients (several xs, h) =
      meanings-attach (parted xs) (and_parts (every_passes a.passes (parted xs)) (is_trimmed a.ops (parted xs)) h).0

  items_trimmed : (x : Passing (poly_algebra a)) → IsTrue (is_trimmed a.ops (items x.0))
  items_trimmed (number z, h) = refl
  items_trimmed (several xs, h) = (and_parts (every_passes a.passes (parted xs)) (is_trimmed a.ops (parted xs)) h).1

  pub coefficients_trimmed : (x : Passing (poly_algebra a)) → IsTrue (is_trimmed o (coefficients x))
  coefficients_trimmed x = sym (meanings-is_trimmed (coefficients x)) ∙ ap (is_trimmed a.ops) (meanings-coefficients x) ∙ items_trimmed x

  listed-items : (x : Passing (poly_algebra a)) → listed (items x.0) ≡ x.0
  listed-items (number z, h) = cc
  listed-items (several xs, h) = ap several (joined-parted xs)

  pub coefficients_same : (x y : Passing (poly_algebra a)) → coefficients x ≡ coefficients y → x ≡ y
  coefficients_same x y e =
      same_passing (poly_algebra a) x y (cc (listed-items x, listed-items y, meanings-coefficients x, meanings-coefficients y, ap meanings_of e))

  -- a trimmed list of what belongs to the ring belongs to the polynomials
  pub trimmed_passes : (xs : List (Passing a)) (m : List Meaning) → meanings_of (trimmed o xs) ≡ m → IsTrue (poly_passes a (listed m))
  trimmed_passes xs m e =
      let p : parted (joined m) ≡ meanings_of (trimmed o xs) = parted-joined m ∙ sym e in
      and_from (every_passes a.passes (parted (joined m))) (is_trimmed a.ops (parted (joined m)))
      (ap (every_passes a.passes) p ∙ meanings_pass (trimmed o xs))
      (ap (is_trimmed a.ops) p ∙ meanings-is_trimmed (trimmed o xs) ∙ is_trimmed_trimmed o xs)

  pub sum_is : (x y : Passing (poly_algebra a)) → meanings_of (trimmed o (list_sum o (coefficients x) (coefficients y)))
      ≡ trimmed a.ops (list_sum a.ops (items x.0) (items y.0))
  sum_is x y = cc (
    meanings-trimmed (list_sum o (coefficients x) (coefficients y)),
    meanings-sum (coefficients x) (coefficients y),
    meanings-coefficients x,
    meanings-coefficients y,
  )

  pub product_is : (x y : Passing (poly_algebra a)) → meanings_of (trimmed o (list_product o (coefficients x) (coefficients y)))
      ≡ trimmed a.ops (list_product a.ops (items x.0) (items y.0))
  product_is x y = cc (
    meanings-trimmed (list_product o (coefficients x) (coefficients y)),
    meanings-product (coefficients x) (coefficients y),
    meanings-coefficients x,
    meanings-coefficients y,
  )

  pub neg_is : (x : Passing (poly_algebra a)) → meanings_of (trimmed o (map o.neg (coefficients x))) ≡ trimmed a.ops (map a.ops.neg (items x.0))
  neg_is x = cc (meanings-trimmed (map o.neg (coefficients x)), meanings-neg (coefficients x), meanings-coefficients x)

  pub magnitude_is : (x : Passing (poly_algebra a)) → meanings_of (trimmed o (map o.magnitude (coefficients x)))
      ≡ trimmed a.ops (map a.ops.magnitude (items x.0))
  magnitude_is x = cc (meanings-trimmed (map o.magnitude (coefficients x)), meanings-magnitude (coefficients x), meanings-coefficients x)

  abbrev pub poly_closed : Closed (poly_algebra a)
  poly_closed = record {
    nought = refl;
    unit = trimmed_passes (o.unit ∷ []) (trimmed a.ops (a.ops.unit ∷ [])) (meanings-trimmed (o.unit ∷ []));
    whole = λ w. trimmed_passes (o.whole w ∷ []) (trimmed a.ops (a.ops.whole w ∷ [])) (meanings-trimmed (o.whole w ∷ []));
    neg = λ x. trimmed_passes (map o.neg (coefficients x)) (trimmed a.ops (map a.ops.neg (items x.0))) (neg_is x);
    sum = λ x y. trimmed_passes (list_sum o (coefficients x) (coefficients y)) (trimmed a.ops (list_sum a.ops (items x.0) (items y.0))) (sum_is x y);
    product = λ x y. trimmed_passes (list_product o (coefficients x) (coefficients y)) (trimmed a.ops (list_product a.ops (items x.0) (items y.0)))
        (product_is x y);
    magnitude = λ x. trimmed_passes (map o.magnitude (coefficients x)) (trimmed a.ops (map a.ops.magnitude (items x.0))) (magnitude_is x);
  }

  abbrev poly : Ops (Passing (poly_algebra a))
  poly = within (poly_algebra a) poly_closed

  -- a polynomial whose list is a trimmed one has that list's coefficients
  coefficients_are : (w : Passing (poly_algebra a)) (xs : List (Passing a)) (m : List Meaning) → w.0 ≡ listed m → meanings_of (trimmed o xs) ≡ m
      → coefficients w ≡ trimmed o xs
  coefficients_are w xs m e f = meanings_same (coefficients w) (trimmed o xs) (cc (meanings-coefficients w, parted-joined m, f))

  pub coefficients-sum : (x y : Passing (poly_algebra a)) → coefficients (poly.sum x y) ≡ trimmed o (list_sum o (coefficients x) (coefficients y))
  coefficients-sum x y = coefficients_are (poly.sum x y) (list_sum o (coefficients x) (coefficients y))
      (trimmed a.ops (list_sum a.ops (items x.0) (items y.0))) refl (sum_is x y)

  pub coefficients-product : (x y : Passing (poly_algebra a))
      → coefficients (poly.product x y) ≡ trimmed o (list_product o (coefficients x) (coefficients y))
  coefficients-product x y =
      coefficients_are (poly.product x y) (list_product o (coefficients x) (coefficients y))
      (trimmed a.ops (list_product a.ops (items x.0) (items y.0))) refl (product_is x y)

  pub coefficients-neg : (x : Passing (poly_algebra a)) → coefficients (poly.neg x) ≡ trimmed o (map o.neg (coefficients x))
  coefficients-neg x = coefficients_are (poly.neg x) (map o.neg (coefficients x)) (trimmed a.ops (map a.ops.neg (items x.0))) refl (neg_is x)

  pub coefficients-magnitude : (x : Passing (poly_algebra a)) → coefficients (poly.magnitude x) ≡ trimmed o (map o.magnitude (coefficients x))
  coefficients-magnitude x =
      coefficients_are (poly.magnitude x) (map o.magnitude (coefficients x)) (trimmed a.ops (map a.ops.magnitude (items x.0))) refl (magnitude_is x)

  pub coefficients-nought : coefficients poly.nought ≡ []
  coefficients-nought = coefficients_are poly.nought [] [] refl refl

  pub coefficients-unit : coefficients poly.unit ≡ trimmed o (o.unit ∷ [])
  coefficients-unit = coefficients_are poly.unit (o.unit ∷ []) (trimmed a.ops (a.ops.unit ∷ [])) refl (meanings-trimmed (o.unit ∷ []))

  pub coefficients-whole : (w : ℤ) → coefficients (poly.whole w) ≡ trimmed o (o.whole w ∷ [])
  coefficients-whole w = coefficients_are (poly.whole w) (o.whole w ∷ []) (trimmed a.ops (a.ops.whole w ∷ [])) refl
      (meanings-trimmed (o.whole w ∷ []))
