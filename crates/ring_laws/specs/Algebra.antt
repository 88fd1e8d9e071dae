-- The operations of a ring on its meanings, and their laws.
use Rattle.std.specs.Prelude.{◌≡◌, ℤ, pos, ◌+ℤ◌, ◌*ℤ◌, unsigned_abs, Bool, IsTrue, ◌↔◌, ◌⊎◌}
use Rattle.std.proofs.Math.Bool.{Bool-set}
use Rattle.std.proofs.Math.Path.{Σ_path, to_path_p}
use Rattle.ring_laws.specs.Meaning.{Meaning}

-- operations on a type of meanings
pub record Ops (A : Type 0) : Type 1 where
  pub nought : A
  pub unit : A
  pub whole : ℤ → A
  pub neg : A → A
  pub sum : A → A → A
  pub product : A → A → A
  pub is_nought : A → Bool
  -- each number replaced by its absolute value
  pub magnitude : A → A
  -- each number is below 2^127 in magnitude, and each list at most 256 long
  pub Fits : A → Type 0
  -- each number of the first is at least its counterpart in the second
  pub Covers : A → A → Type 0

-- the laws of a commutative ring with unit, of its whole numbers and of its test for zero
pub record RingLaws {A : Type 0} (o : Ops A) : Type 0 where
  pub nought_sum : (x : A) → o.sum o.nought x ≡ x
  pub sum_comm : (x y : A) → o.sum x y ≡ o.sum y x
  pub sum_assoc : (x y z : A) → o.sum (o.sum x y) z ≡ o.sum x (o.sum y z)
  pub sum_neg : (x : A) → o.sum x (o.neg x) ≡ o.nought
  pub unit_product : (x : A) → o.product o.unit x ≡ x
  pub product_comm : (x y : A) → o.product x y ≡ o.product y x
  pub product_assoc : (x y z : A) → o.product (o.product x y) z ≡ o.product x (o.product y z)
  pub distributes : (x y z : A) → o.product x (o.sum y z) ≡ o.sum (o.product x y) (o.product x z)
  pub whole_zero : o.whole (pos 0) ≡ o.nought
  pub whole_one : o.whole (pos 1) ≡ o.unit
  pub whole_sum : (v w : ℤ) → o.whole (v +ℤ w) ≡ o.sum (o.whole v) (o.whole w)
  pub whole_product : (v w : ℤ) → o.whole (v *ℤ w) ≡ o.product (o.whole v) (o.whole w)
  pub is_nought : (x : A) → IsTrue (o.is_nought x) ↔ (x ≡ o.nought)

-- how magnitudes, what fits and what covers go with sums and products
pub record MagnitudeLaws {A : Type 0} (o : Ops A) : Type 0 where
  pub of_magnitude : (x : A) → o.magnitude (o.magnitude x) ≡ o.magnitude x
  pub of_nought : o.magnitude o.nought ≡ o.nought
  pub of_neg : (x : A) → o.magnitude (o.neg x) ≡ o.magnitude x
  pub of_whole : (w : ℤ) → o.magnitude (o.whole w) ≡ o.whole (pos (unsigned_abs w))
  pub of_sum : (x y : A) → o.magnitude (o.sum (o.magnitude x) (o.magnitude y)) ≡ o.sum (o.magnitude x) (o.magnitude y)
  pub of_product : (x y : A) → o.magnitude (o.product (o.magnitude x) (o.magnitude y)) ≡ o.product (o.magnitude x) (o.magnitude y)
  pub only_nought : (x : A) → o.magnitude x ≡ o.nought → x ≡ o.nought
  pub fits : (x : A) → o.Fits x ↔ o.Fits (o.magnitude x)
  pub fits_nought : o.Fits o.nought
  pub covers_same : (x : A) → o.Covers x x
  pub covers_trans : (x y z : A) → o.Covers x y → o.Covers y z → o.Covers x z
  pub covers_sum : (x y z : A) → o.Covers x y → o.Covers (o.sum x z) (o.sum y z)
  pub covers_product : (x y z : A) → o.Covers x y → o.Covers (o.product x (o.magnitude z)) (o.product y (o.magnitude z))
  pub sum_covers : (x y : A) → o.Covers (o.sum (o.magnitude x) (o.magnitude y)) (o.magnitude (o.sum x y))
  pub product_covers : (x y : A) → o.Covers (o.product (o.magnitude x) (o.magnitude y)) (o.magnitude (o.product x y))
  pub part_covered : (x y : A) → o.Covers (o.sum x (o.magnitude y)) x
  pub fits_covered : (x y : A) → o.Fits x → o.Covers x (o.magnitude y) → o.Fits (o.magnitude y)
  pub nought_covers : (x : A) → o.Covers o.nought (o.magnitude x) → o.magnitude x ≡ o.nought
  pub factors : (x y : A) → o.product (o.magnitude x) (o.magnitude y) ≡ o.nought → (o.magnitude x ≡ o.nought) ⊎ (o.magnitude y ≡ o.nought)
  pub fits_factor : (x y : A) → o.Fits (o.product (o.magnitude x) (o.magnitude y)) → ¬ (y ≡ o.nought) → o.Fits (o.magnitude x)

-- operations on meanings, and the test that tells which meanings belong to the ring
pub record Algebra : Type 1 where
  pub passes : Meaning → Bool
  pub ops : Ops Meaning

-- the meanings that belong to the ring
abbrev pub Passing : Algebra → Type 0
Passing a = (m : Meaning) × IsTrue (a.passes m)

-- each operation on members of the ring gives a member
pub record Closed (a : Algebra) : Type 0 where
  pub nought : IsTrue (a.passes a.ops.nought)
  pub unit : IsTrue (a.passes a.ops.unit)
  pub whole : (w : ℤ) → IsTrue (a.passes (a.ops.whole w))
  pub neg : (x : Passing a) → IsTrue (a.passes (a.ops.neg x.0))
  pub sum : (x y : Passing a) → IsTrue (a.passes (a.ops.sum x.0 y.0))
  pub product : (x y : Passing a) → IsTrue (a.passes (a.ops.product x.0 y.0))
  pub magnitude : (x : Passing a) → IsTrue (a.passes (a.ops.magnitude x.0))

-- the same operations, on the meanings that belong to the ring
abbrev pub within : (a : Algebra) → Closed a → Ops (Passing a)
within a c = record {
  nought = (a.ops.nought, c.nought);
  unit = (a.ops.unit, c.unit);
  whole = λ w. (a.ops.whole w, c.whole w);
  neg = λ x. (a.ops.neg x.0, c.neg x);
  sum = λ x y. (a.ops.sum x.0 y.0, c.sum x y);
  product = λ x y. (a.ops.product x.0 y.0, c.product x y);
  is_nought = λ x. a.ops.is_nought x.0;
  magnitude = λ x. (a.ops.magnitude x.0, c.magnitude x);
  Fits = λ x. a.ops.Fits x.0;
  Covers = λ x y. a.ops.Covers x.0 y.0;
}

-- what each ring proves: all laws, for the meanings that belong to it
pub record Laws (a : Algebra) : Type 0 where
  pub closed : Closed a
  pub ring : RingLaws (within a closed)
  pub magnitudes : MagnitudeLaws (within a closed)

-- a meaning belongs to the ring in one way
pub same_passing : (a : Algebra) (x y : Passing a) → x.0 ≡ y.0 → x ≡ y
same_passing a x y e = Σ_path e (to_path_p (λ i. IsTrue (a.passes (e i))) (Bool-set _ _ _ _))

-- the counterpart of a sum or a difference on magnitudes fits
abbrev pub SumInBounds : Algebra → Meaning → Meaning → Type 0
SumInBounds a x y = a.ops.Fits (a.ops.sum (a.ops.magnitude x) (a.ops.magnitude y))

-- the counterpart of a product on magnitudes fits
abbrev pub ProductInBounds : Algebra → Meaning → Meaning → Type 0
ProductInBounds a x y = a.ops.Fits (a.ops.product (a.ops.magnitude x) (a.ops.magnitude y))
