-- A factorial above and one below, to a power: at n, .., n + J it is a product of forms times one value, and so is what the carrier has of it
-- at k and k + 1.
use Rattle.std.proofs.Common.{◌≡◌, ℕ, suc, [], ◌∷◌, refl, ap, sym, ◌∙◌, subst, arith}
use Rattle.std.proofs.lemmas.Int.{ints}
use Rattle.std.proofs.Math.IntN.{pow}
use Rattle.std.specs.Prelude.{ℤ, pos, negsuc, neg_ℤ, ◌+ℤ◌, ◌-ℤ◌, ◌*ℤ◌, ◌≤ℤ◌, unsigned_abs}
use Rattle.ring_solver.specs.Ranges.{rising}
use Rattle.ring_solver.proofs.Read.{ring_z, reading_z}
use Rattle.hypergeometric.specs.Point.{Point, later_n, later_k}
use Rattle.hypergeometric.specs.Fraction.{Fraction, IsDefined, ◌≈◌, natural_power}
use Rattle.hypergeometric.specs.LinearForm.{LinearForm, Factor, form_value, forms_value, factorial_value, inverse_factorial_value}
use Rattle.hypergeometric.proofs.Definedness.{natural_power_defined, factorial_value_defined, inverse_factorial_value_defined}
use Rattle.hypergeometric.proofs.FractionLaws.{equal_to_itself}
use Rattle.hypergeometric.proofs.FractionPowers.{one_product}
use Rattle.term_pieces.specs.Products.{form_plus, at_later_n}
use Rattle.term_pieces.specs.ItemForms.{negative_part, positive_part, least_of, greatest_of, above_least, below_greatest, rising_where, falling_where}
use Rattle.term_pieces.proofs.Factorials.{factorial_times, inverse_factorial_times}
use Rattle.term_pieces.proofs.FormValues.{plus_value, later_n_value, above_value, below_value}
use Rattle.term_pieces.proofs.ItemShifts.{from_least, to_greatest}
use Rattle.term_pieces.proofs.Splits.{Splits, times_common}
use Rattle.term_pieces.proofs.TimesPowers.{times_powers}

-- the same value, as a multiple by 1
unchanged : {f g : Fraction} → IsDefined g → f ≡ g → f ≈ times_common (pos 1) g
unchanged {f} {g} d e = subst (λ z. z ≈ times_common (pos 1) g) (sym e) (subst (λ z. g ≈ z) (sym (one_product g)) (equal_to_itself g d))

earlier_k : (f : LinearForm) (p : Point) → form_value f (later_k p (negsuc 0)) ≡ form_value f p -ℤ f.k_slope
earlier_k f p = shift (f.n_slope *ℤ p.n) f.k_slope f.offset p.k
  where
    shift : (a s o k : ℤ) → (a +ℤ s *ℤ (k -ℤ pos 1)) +ℤ o ≡ ((a +ℤ s *ℤ k) +ℤ o) -ℤ s
    shift a s o k = ring_z (a ∷ s ∷ o ∷ k ∷ []) (search reading_z depth 40 fits 20000) refl

pub next_k : (f : LinearForm) (p : Point) → form_value f (later_k p (pos 1)) ≡ form_value f p +ℤ f.k_slope
next_k f p = shift (f.n_slope *ℤ p.n) f.k_slope f.offset p.k
  where
    shift : (a s o k : ℤ) → (a +ℤ s *ℤ (k +ℤ pos 1)) +ℤ o ≡ ((a +ℤ s *ℤ k) +ℤ o) +ℤ s
    shift a s o k = ring_z (a ∷ s ∷ o ∷ k ∷ []) (search reading_z depth 40 fits 20000) refl

-- a factorial at b + m, and one over a factorial at y with y + m at v
factorial_multiple : (b : ℤ) (m : ℕ) (y : ℤ) (e : ℕ) → pos 0 ≤ℤ b → y ≡ b +ℤ pos m
    → natural_power (factorial_value y) e ≈ times_common (pow (rising (b +ℤ pos 1) m) e) (natural_power (factorial_value b) e)
factorial_multiple b m y e h is =
    subst (λ z. natural_power (factorial_value z) e ≈ times_common (pow (rising (b +ℤ pos 1) m) e) (natural_power (factorial_value b) e)) (sym is)
    (times_powers (factorial_value (b +ℤ pos m)) (factorial_value b) (rising (b +ℤ pos 1) m) e (factorial_times b m h))

inverse_multiple : (y : ℤ) (m : ℕ) (v : ℤ) (e : ℕ) → v ≡ y +ℤ pos m
    → natural_power (inverse_factorial_value y) e ≈ times_common (pow (rising (y +ℤ pos 1) m) e) (natural_power (inverse_factorial_value v) e)
inverse_multiple y m v e is =
    subst (λ z. natural_power (inverse_factorial_value y) e ≈ times_common (pow (rising (y +ℤ pos 1) m) e) (natural_power (inverse_factorial_value z) e))
    (sym is) (times_powers (inverse_factorial_value y) (inverse_factorial_value (y +ℤ pos m)) (rising (y +ℤ pos 1) m) e (inverse_factorial_times y m))

abbrev above_at : ℕ → LinearForm → Point → Fraction
above_at e f p = natural_power (factorial_value (form_value f p)) e

abbrev below_at : ℕ → LinearForm → Point → Fraction
below_at e f p = natural_power (inverse_factorial_value (form_value f p)) e

module _ (p : Point) (e : ℕ) where
  -- the carrier's factorial above, at k
  above_here : (b : LinearForm) (t : ℤ) → b.k_slope ≡ t → pos 0 ≤ℤ form_value b p
      → above_at e (form_plus b (neg_ℤ (negative_part t))) p ≈ times_common (forms_value (falling_where t b e) (later_k p (negsuc 0))) (above_at e b p)
  above_here b (pos m) is h =
      let same : form_value (form_plus b (pos 0)) p ≡ form_value b p = plus_value b (pos 0) p ∙ omega (arith, ints) in
      unchanged (natural_power_defined (factorial_value (form_value b p)) e (factorial_value_defined (form_value b p) h))
      (ap (λ z. natural_power (factorial_value z) e) same)
  above_here b (negsuc m) is h =
      let inner : (form_value b (later_k p (negsuc 0)) -ℤ pos (suc m)) +ℤ pos 1 ≡ form_value b p +ℤ pos 1 = omega (arith, ints, earlier_k b p, is) in
      subst (λ z. above_at e (form_plus b (pos (suc m))) p ≈ times_common z (above_at e b p))
      (sym (below_value b (suc m) e (later_k p (negsuc 0)) ∙ ap (λ z. pow (rising z (suc m)) e) inner))
      (factorial_multiple (form_value b p) (suc m) (form_value (form_plus b (pos (suc m))) p) e h (plus_value b (pos (suc m)) p))

  -- and at k + 1
  above_next : (b : LinearForm) (t : ℤ) → b.k_slope ≡ t → pos 0 ≤ℤ form_value b p
      → above_at e (form_plus b (neg_ℤ (negative_part t))) (later_k p (pos 1)) ≈ times_common (forms_value (rising_where t b e) p) (above_at e b p)
  above_next b (pos m) is h =
      let there : form_value (form_plus b (pos 0)) (later_k p (pos 1)) ≡ form_value b p +ℤ pos m =
      plus_value b (pos 0) (later_k p (pos 1)) ∙ omega (arith, ints, next_k b p, is) in
      subst (λ z. above_at e (form_plus b (pos 0)) (later_k p (pos 1)) ≈ times_common z (above_at e b p)) (sym (above_value b m e p))
      (factorial_multiple (form_value b p) m (form_value (form_plus b (pos 0)) (later_k p (pos 1))) e h there)
  above_next b (negsuc m) is h =
      let same : form_value (form_plus b (pos (suc m))) (later_k p (pos 1)) ≡ form_value b p =
      plus_value b (pos (suc m)) (later_k p (pos 1)) ∙ omega (arith, ints, next_k b p, is) in
      unchanged (natural_power_defined (factorial_value (form_value b p)) e (factorial_value_defined (form_value b p) h))
      (ap (λ z. natural_power (factorial_value z) e) same)

  -- the carrier's factorial below, at k
  below_here : (v : LinearForm) (t : ℤ) → v.k_slope ≡ t
      → below_at e (form_plus v (neg_ℤ (positive_part t))) p ≈ times_common (forms_value (rising_where t v e) (later_k p (negsuc 0))) (below_at e v p)
  below_here v (pos m) is =
      let y = form_value (form_plus v (neg_ℤ (pos m))) p in
      let there : form_value v p ≡ y +ℤ pos m = omega (arith, ints, plus_value v (neg_ℤ (pos m)) p) in
      let earlier : form_value v (later_k p (negsuc 0)) ≡ y = omega (arith, ints, plus_value v (neg_ℤ (pos m)) p, earlier_k v p, is) in
      subst (λ z. below_at e (form_plus v (neg_ℤ (pos m))) p ≈ times_common z (below_at e v p))
      (sym (above_value v m e (later_k p (negsuc 0)) ∙ ap (λ z. pow (rising (z +ℤ pos 1) m) e) earlier)) (inverse_multiple y m (form_value v p) e there)
  below_here v (negsuc m) is =
      let same : form_value (form_plus v (pos 0)) p ≡ form_value v p = plus_value v (pos 0) p ∙ omega (arith, ints) in
      unchanged (natural_power_defined (inverse_factorial_value (form_value v p)) e (inverse_factorial_value_defined (form_value v p)))
      (ap (λ z. natural_power (inverse_factorial_value z) e) same)

  below_next : (v : LinearForm) (t : ℤ) → v.k_slope ≡ t
      → below_at e (form_plus v (neg_ℤ (positive_part t))) (later_k p (pos 1)) ≈ times_common (forms_value (falling_where t v e) p) (below_at e v p)
  below_next v (pos m) is =
      let same : form_value (form_plus v (neg_ℤ (pos m))) (later_k p (pos 1)) ≡ form_value v p =
      plus_value v (neg_ℤ (pos m)) (later_k p (pos 1)) ∙ omega (arith, ints, next_k v p, is) in
      unchanged (natural_power_defined (inverse_factorial_value (form_value v p)) e (inverse_factorial_value_defined (form_value v p)))
      (ap (λ z. natural_power (inverse_factorial_value z) e) same)
  below_next v (negsuc m) is =
      let y = form_value (form_plus v (pos 0)) (later_k p (pos 1)) in
      let there : form_value v p ≡ y +ℤ pos (suc m) = omega (arith, ints, plus_value v (pos 0) (later_k p (pos 1)), next_k v p, is) in
      let lower : form_value v p -ℤ pos (suc m) ≡ y = omega (arith, ints, there) in
      subst (λ z. below_at e (form_plus v (pos 0)) (later_k p (pos 1)) ≈ times_common z (below_at e v p))
      (sym (below_value v (suc m) e p ∙ ap (λ z. pow (rising (z +ℤ pos 1) (suc m)) e) lower))
      (inverse_multiple y (suc m) (form_value v p) e there)

module _ (order : ℕ) (x : Factor) (p : Point) where
  -- a factorial above, where the least of its form is not negative
  pub argument_splits : pos 0 ≤ℤ form_value (least_of order x.form) p
      → Splits order (λ j. natural_power (factorial_value (form_value x.form (later_n p (pos j)))) x.power)
      (λ j. forms_value (above_least order j x) p)
      (above_at x.power (form_plus (least_of order x.form) (neg_ℤ (negative_part x.form.k_slope))) p)
      (above_at x.power (form_plus (least_of order x.form) (neg_ℤ (negative_part x.form.k_slope))) (later_k p (pos 1)))
      (forms_value (falling_where x.form.k_slope (least_of order x.form) x.power) (later_k p (negsuc 0)))
      (forms_value (rising_where x.form.k_slope (least_of order x.form) x.power) p)
  argument_splits h =
      let b = least_of order x.form in
      record {
        common = above_at x.power b p;
        tops = λ j l.
            let count = unsigned_abs (x.form.n_slope *ℤ pos j -ℤ negative_part x.form.n_slope *ℤ pos order) in
            subst (λ z. natural_power (factorial_value (form_value x.form (later_n p (pos j)))) x.power ≈ times_common z (above_at x.power b p))
            (sym (above_value b count x.power p))
            (factorial_multiple (form_value b p) count (form_value x.form (later_n p (pos j))) x.power h (from_least x.form order p j l));
        carrier_here = above_here p x.power b x.form.k_slope refl h;
        carrier_next = above_next p x.power b x.form.k_slope refl h;
      }

  -- a factorial below
  pub lower_splits : Splits order (λ j. natural_power (inverse_factorial_value (form_value x.form (later_n p (pos j)))) x.power)
      (λ j. forms_value (below_greatest order j x) p)
      (below_at x.power (form_plus (greatest_of order x.form) (neg_ℤ (positive_part x.form.k_slope))) p)
      (below_at x.power (form_plus (greatest_of order x.form) (neg_ℤ (positive_part x.form.k_slope))) (later_k p (pos 1)))
      (forms_value (rising_where x.form.k_slope (greatest_of order x.form) x.power) (later_k p (negsuc 0)))
      (forms_value (falling_where x.form.k_slope (greatest_of order x.form) x.power) p)
  lower_splits =
      let v = greatest_of order x.form in
      record {
        common = below_at x.power v p;
        tops = λ j l.
            let u = at_later_n x.form (pos j) in
            let count = unsigned_abs (positive_part x.form.n_slope *ℤ pos order -ℤ x.form.n_slope *ℤ pos j) in
            subst (λ z. natural_power (inverse_factorial_value z) x.power ≈ times_common (forms_value (below_greatest order j x) p) (below_at x.power v p))
            (later_n_value x.form (pos j) p)
            (subst (λ z. natural_power (inverse_factorial_value (form_value u p)) x.power ≈ times_common z (below_at x.power v p))
            (sym (above_value u count x.power p))
            (inverse_multiple (form_value u p) count (form_value v p) x.power (to_greatest x.form order p j l)));
        carrier_here = below_here p x.power v x.form.k_slope refl;
        carrier_next = below_next p x.power v x.form.k_slope refl;
      }
