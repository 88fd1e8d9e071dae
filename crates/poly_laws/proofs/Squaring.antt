-- A product by squares: what its steps keep, and where they are in bounds.
use Rattle.std.specs.Prelude.{◌≡◌, ◌≢◌, ℕ, zero, suc, ◌+◌, cond, Bool, true, false, refl}
use Rattle.std.proofs.Common.{ap, sym, ◌∙◌, subst}
use Rattle.ring_laws.specs.Meaning.{Meaning}
use Rattle.ring_laws.specs.Algebra.{Algebra, Ops, Laws, Passing, within, ProductInBounds}
use Rattle.poly_laws.specs.Powers.{power_in, nonzero_magnitude, IsBound}
use Rattle.poly_laws.proofs.Powers.{power_square, odd_step, squared_first, product_unit}
use Rattle.poly_laws.proofs.PowerBounds.{in_bounds, part_fits, bounded_product, bounded_power, bounded_self}

-- bounds of the product and of the square whose product with the powers that are left is the whole bound
pub record Parts (a : Algebra) (whole m b : Meaning) (left : ℕ) : Type 0 where
  pub of_product : Passing a
  pub of_square : Passing a
  pub bounds_product : IsBound a of_product m
  pub bounds_square : IsBound a of_square b
  pub whole_is : a.ops.product of_product.0 (power_in a.ops of_square.0 left) ≡ whole

-- m times the powers of b that are left is the whole product, and every bound of the first factor gives parts
pub record Reached (a : Algebra) (m0 b0 : Meaning) (power : ℕ) (m b : Meaning) (left : ℕ) : Type 0 where
  pub product : a.ops.product m (power_in a.ops b left) ≡ a.ops.product m0 (power_in a.ops b0 power)
  pub parts : (bound : Passing a) → IsBound a bound m0
      → Parts a (a.ops.product bound.0 (power_in a.ops (nonzero_magnitude a.ops b0) power)) m b left

module _ (a : Algebra) (l : Laws a) where
  abbrev o : Ops (Passing a)
  o = within a l.closed

  first : (x y : Passing a) → x ≡ y → x.0 ≡ y.0
  first x y e = ap (λ (t : Passing a). t.0) e

  -- a power of what belongs to the ring
  pub power_first : (x : Passing a) (n : ℕ) → (power_in o x n).0 ≡ power_in a.ops x.0 n
  power_first x zero = refl
  power_first x (suc n) = ap (a.ops.product x.0) (power_first x n)

  pub magnitude_first : (x : Passing a) → (nonzero_magnitude o x).0 ≡ nonzero_magnitude a.ops x.0
  magnitude_first x = by (a.ops.is_nought x.0)
    where
      by : (b : Bool) → (cond b o.unit (o.magnitude x)).0 ≡ cond b a.ops.unit (a.ops.magnitude x.0)
      by true = refl
      by false = refl

  -- the same equations on meanings
  odd_of : (x y : Passing a) (n : ℕ) → a.ops.product (a.ops.product x.0 y.0) (power_in a.ops y.0 n) ≡ a.ops.product x.0 (power_in a.ops y.0 (suc n))
  odd_of x y n =
      ap (a.ops.product (a.ops.product x.0 y.0)) (sym (power_first y n))
      ∙ first (o.product (o.product x y) (power_in o y n)) (o.product x (power_in o y (suc n))) (odd_step o l.ring x y n)
      ∙ ap (a.ops.product x.0) (power_first y (suc n))

  square_of : (y : Passing a) (n : ℕ) → power_in a.ops (a.ops.product y.0 y.0) n ≡ power_in a.ops y.0 (n + n)
  square_of y n =
      sym (power_first (o.product y y) n) ∙ first (power_in o (o.product y y) n) (power_in o y (n + n)) (power_square o l.ring y n) ∙ power_first y (n + n)

  pub done : (x : Passing a) (m0 b0 b : Meaning) (power : ℕ) → Reached a m0 b0 power x.0 b 0 → x.0 ≡ a.ops.product m0 (power_in a.ops b0 power)
  done x m0 b0 b power r = sym (first (o.product x o.unit) x (product_unit o l.ring x)) ∙ r.product

  -- one factor goes to the product
  pub odd_reached : (m0 b0 : Meaning) (power : ℕ) (x y : Passing a) (n : ℕ) (different : a.ops.unit ≢ a.ops.nought) → Reached a m0 b0 power x.0 y.0 (suc n)
      → Reached a m0 b0 power (a.ops.product x.0 y.0) y.0 n
  odd_reached m0 b0 power x y n different r = record {
    product = odd_of x y n ∙ r.product;
    parts =
        λ bound h.
        let p = r.parts bound h in
        record {
          of_product = o.product p.of_product p.of_square;
          of_square = p.of_square;
          bounds_product = bounded_product a l different p.of_product x p.of_square y p.bounds_product p.bounds_square;
          bounds_square = p.bounds_square;
          whole_is = odd_of p.of_product p.of_square n ∙ p.whole_is;
        };
  }

  -- the square takes half the powers
  pub square_reached : (m0 b0 : Meaning) (power : ℕ) (m : Meaning) (y : Passing a) (n : ℕ) (different : a.ops.unit ≢ a.ops.nought)
      → Reached a m0 b0 power m y.0 (n + n) → Reached a m0 b0 power m (a.ops.product y.0 y.0) n
  square_reached m0 b0 power m y n different r = record {
    product = ap (a.ops.product m) (square_of y n) ∙ r.product;
    parts =
        λ bound h.
        let p = r.parts bound h in
        record {
          of_product = p.of_product;
          of_square = o.product p.of_square p.of_square;
          bounds_product = p.bounds_product;
          bounds_square = bounded_product a l different p.of_square y p.of_square y p.bounds_square p.bounds_square;
          whole_is = ap (a.ops.product p.of_product.0) (square_of p.of_square n) ∙ p.whole_is;
        };
  }

  pub start_reached : (m0 : Meaning) (y : Passing a) (power : ℕ) (different : a.ops.unit ≢ a.ops.nought) → Reached a m0 y.0 power m0 y.0 power
  start_reached m0 y power different = record {
    product = refl;
    parts =
        λ bound h. record {
          of_product = bound;
          of_square = nonzero_magnitude o y;
          bounds_product = h;
          bounds_square = bounded_self a l different y;
          whole_is = ap (λ t. a.ops.product bound.0 (power_in a.ops t power)) (magnitude_first y);
        };
  }

  -- where the next product is out of bounds, the whole is
  pub odd_refused : (m0 b0 : Meaning) (power : ℕ) (x y : Passing a) (n : ℕ) (different : a.ops.unit ≢ a.ops.nought) → Reached a m0 b0 power x.0 y.0 (suc n)
      → ¬ ProductInBounds a x.0 y.0 → (bound : Passing a) → IsBound a bound m0
      → ¬ a.ops.Fits (a.ops.product bound.0 (power_in a.ops (nonzero_magnitude a.ops b0) power))
  odd_refused m0 b0 power x y n different r out bound h fits =
      let p = r.parts bound h in
      let e : o.product p.of_product (power_in o p.of_square (suc n)) ≡ o.product (o.product p.of_product p.of_square) (power_in o p.of_square n) =
      sym (odd_step o l.ring p.of_product p.of_square n) in
      let whole : a.ops.Fits (o.product p.of_product (power_in o p.of_square (suc n))).0 =
      subst a.ops.Fits (sym p.whole_is ∙ ap (a.ops.product p.of_product.0) (sym (power_first p.of_square (suc n)))) fits in
      out (in_bounds a l different p.of_product x p.of_square y p.bounds_product p.bounds_square
      (part_fits a l different (o.product p.of_product p.of_square) (o.product x y) (power_in o p.of_square n) (power_in o y n)
      (bounded_product a l different p.of_product x p.of_square y p.bounds_product p.bounds_square)
      (bounded_power a l different p.of_square y n p.bounds_square) (subst o.Fits e whole)))

  pub square_refused : (m0 b0 : Meaning) (power : ℕ) (x y : Passing a) (n : ℕ) (different : a.ops.unit ≢ a.ops.nought)
      → Reached a m0 b0 power x.0 y.0 (suc n + suc n) → ¬ ProductInBounds a y.0 y.0 → (bound : Passing a) → IsBound a bound m0
      → ¬ a.ops.Fits (a.ops.product bound.0 (power_in a.ops (nonzero_magnitude a.ops b0) power))
  square_refused m0 b0 power x y n different r out bound h fits =
      let p = r.parts bound h in
      let s = o.product p.of_square p.of_square in
      let e : o.product p.of_product (power_in o p.of_square (suc n + suc n)) ≡ o.product s (o.product p.of_product (power_in o s n)) =
      ap (o.product p.of_product) (sym (power_square o l.ring p.of_square (suc n))) ∙ squared_first o l.ring p.of_product s (power_in o s n) in
      let whole : a.ops.Fits (o.product p.of_product (power_in o p.of_square (suc n + suc n))).0 =
      subst a.ops.Fits (sym p.whole_is ∙ ap (a.ops.product p.of_product.0) (sym (power_first p.of_square (suc n + suc n)))) fits in
      let squares = bounded_product a l different p.of_square y p.of_square y p.bounds_square p.bounds_square in
      out (in_bounds a l different p.of_square y p.of_square y p.bounds_square p.bounds_square
      (part_fits a l different s (o.product y y) (o.product p.of_product (power_in o s n)) (o.product x (power_in o (o.product y y) n)) squares
      (bounded_product a l different p.of_product x (power_in o s n) (power_in o (o.product y y) n) p.bounds_product
      (bounded_power a l different s (o.product y y) n squares)) (subst o.Fits e whole)))
