-- Powers in a ring: an odd power is a factor and an even power, and an even power is a power of the square.
use Rattle.std.specs.Prelude.{◌≡◌, ℕ, zero, suc, ◌+◌, [], ◌∷◌, refl}
use Rattle.std.proofs.Common.{ap, ◌∙◌, arith}
use Rattle.ring_laws.specs.Algebra.{Ops, RingLaws}
use Rattle.ring_solver.proofs.Read.{ring, reading}
use Rattle.poly_laws.specs.Powers.{power_in}
use Rattle.poly_laws.proofs.Rings.{solvable}

module _ {A : Type 0} (o : Ops A) (l : RingLaws o) where
  pub product_unit : (x : A) → o.product x o.unit ≡ x
  product_unit x = l.product_comm x o.unit ∙ l.unit_product x

  -- two products are the product of one pair and the other pair
  pub exchanged : (x y z w : A) → o.product (o.product x y) (o.product z w) ≡ o.product (o.product x z) (o.product y w)
  exchanged x y z w = ring (solvable o l) (x ∷ y ∷ z ∷ w ∷ []) (search reading depth 40 fits 20000) refl

  -- the second and the third factor exchanged
  pub turned : (x y z : A) → o.product (o.product x y) z ≡ o.product (o.product x z) y
  turned x y z = ring (solvable o l) (x ∷ y ∷ z ∷ []) (search reading depth 40 fits 20000) refl

  -- the square first
  pub squared_first : (r s p : A) → o.product r (o.product s p) ≡ o.product s (o.product r p)
  squared_first r s p = ring (solvable o l) (r ∷ s ∷ p ∷ []) (search reading depth 40 fits 20000) refl

  -- a power of the square is twice that power
  pub power_square : (x : A) (n : ℕ) → power_in o (o.product x x) n ≡ power_in o x (n + n)
  power_square x zero = refl
  power_square x (suc n) =
      ap (o.product (o.product x x)) (power_square x n) ∙ l.product_assoc x x (power_in o x (n + n)) ∙ ap (power_in o x) (twice n)
    where
      twice : (n : ℕ) → suc (suc (n + n)) ≡ suc n + suc n
      twice n = omega arith

  -- one factor of an odd power goes to the product
  pub odd_step : (m b : A) (n : ℕ) → o.product (o.product m b) (power_in o b n) ≡ o.product m (power_in o b (suc n))
  odd_step m b n = l.product_assoc m b (power_in o b n)
