-- How far a form at n + j is from its least and from its greatest value at n, .., n + J.
use Rattle.std.proofs.Common.{◌≡◌, ℕ, ◌-◌, ◌*◌, ◌≤◌, [], ◌∷◌, refl, ap, sym, ◌∙◌, suc, arith}
use Rattle.std.proofs.lemmas.Int.{ints}
use Rattle.std.specs.Prelude.{ℤ, pos, negsuc, neg_ℤ, ◌+ℤ◌, ◌-ℤ◌, ◌*ℤ◌, ◌≤ℤ◌, unsigned_abs}
use Rattle.ring_solver.proofs.Read.{ring_z, reading_z}
use Rattle.hypergeometric.specs.Point.{Point, later_n}
use Rattle.hypergeometric.specs.LinearForm.{LinearForm, form_value}
use Rattle.term_pieces.specs.Products.{at_later_n}
use Rattle.term_pieces.specs.ItemForms.{negative_part, positive_part, least_of, greatest_of}
use Rattle.term_pieces.proofs.FormValues.{plus_value, later_n_value}

-- a number that isn't negative is its magnitude
pub size_is : (z : ℤ) → pos 0 ≤ℤ z → pos (unsigned_abs z) ≡ z
size_is (pos n) h = refl
size_is (negsuc n) h = absurd (omega (arith, ints, h))

falls : (s : ℤ) (i j : ℤ) → s *ℤ i -ℤ s *ℤ j ≡ neg_ℤ s *ℤ (j -ℤ i)
falls s i j = ring_z (s ∷ i ∷ j ∷ []) (search reading_z depth 40 fits 20000) refl

rises : (s : ℤ) (i j : ℤ) → s *ℤ j -ℤ s *ℤ i ≡ s *ℤ (j -ℤ i)
rises s i j = ring_z (s ∷ i ∷ j ∷ []) (search reading_z depth 40 fits 20000) refl

less : (i j : ℕ) → i ≤ j → pos j -ℤ pos i ≡ pos (j - i)
less i j h = omega (arith, ints, h)

zero_off : (x : ℤ) (y : ℤ) → x -ℤ pos 0 *ℤ y ≡ x
zero_off x y = ring_z (x ∷ y ∷ []) (search reading_z depth 40 fits 20000) refl

zero_from : (x y : ℤ) → pos 0 *ℤ y -ℤ x ≡ neg_ℤ x
zero_from x y = ring_z (x ∷ y ∷ []) (search reading_z depth 40 fits 20000) refl

not_below : (m : ℕ) (z : ℤ) → z ≡ pos m → pos 0 ≤ℤ z
not_below m z e = omega (arith, ints, e)

pub above_least_some : (s : ℤ) (j order : ℕ) → j ≤ order → pos 0 ≤ℤ (s *ℤ pos j -ℤ negative_part s *ℤ pos order)
above_least_some (pos m) j order h = not_below (m * j) (pos m *ℤ pos j -ℤ pos 0 *ℤ pos order) (zero_off (pos m *ℤ pos j) (pos order))
above_least_some (negsuc m) j order h =
    not_below (suc m * (order - j)) (negsuc m *ℤ pos j -ℤ negsuc m *ℤ pos order)
    (falls (negsuc m) (pos j) (pos order) ∙ ap (λ t. pos (suc m) *ℤ t) (less j order h))

pub below_greatest_some : (s : ℤ) (j order : ℕ) → j ≤ order → pos 0 ≤ℤ (positive_part s *ℤ pos order -ℤ s *ℤ pos j)
below_greatest_some (pos m) j order h =
    not_below (m * (order - j)) (pos m *ℤ pos order -ℤ pos m *ℤ pos j) (rises (pos m) (pos j) (pos order) ∙ ap (λ t. pos m *ℤ t) (less j order h))
below_greatest_some (negsuc m) j order h =
    not_below (suc m * j) (pos 0 *ℤ pos order -ℤ negsuc m *ℤ pos j) (zero_from (negsuc m *ℤ pos j) (pos order) ∙ turned (pos (suc m)) (pos j))
  where
    turned : (s j : ℤ) → neg_ℤ (neg_ℤ s *ℤ j) ≡ s *ℤ j
    turned s j = ring_z (s ∷ j ∷ []) (search reading_z depth 40 fits 20000) refl

module _ (f : LinearForm) (order : ℕ) (p : Point) where
  -- the form at n + j is its least value and the rest
  pub from_least : (j : ℕ) → j ≤ order
      → form_value f (later_n p (pos j))
      ≡ form_value (least_of order f) p +ℤ pos (unsigned_abs (f.n_slope *ℤ pos j -ℤ negative_part f.n_slope *ℤ pos order))
  from_least j h =
      let rest = f.n_slope *ℤ pos j -ℤ negative_part f.n_slope *ℤ pos order in
      let size = size_is rest (above_least_some f.n_slope j order h) in
      let there = sym (later_n_value f (pos j) p) ∙ plus_value f (f.n_slope *ℤ pos j) p in
      let least = plus_value f (negative_part f.n_slope *ℤ pos order) p in
      omega (arith, ints, size, there, least)

  -- the greatest value is the form at n + j and the rest
  pub to_greatest : (j : ℕ) → j ≤ order
      → form_value (greatest_of order f) p
      ≡ form_value (at_later_n f (pos j)) p +ℤ pos (unsigned_abs (positive_part f.n_slope *ℤ pos order -ℤ f.n_slope *ℤ pos j))
  to_greatest j h =
      let rest = positive_part f.n_slope *ℤ pos order -ℤ f.n_slope *ℤ pos j in
      let size = size_is rest (below_greatest_some f.n_slope j order h) in
      let there = plus_value f (f.n_slope *ℤ pos j) p in
      let greatest = plus_value f (positive_part f.n_slope *ℤ pos order) p in
      omega (arith, ints, size, there, greatest)
