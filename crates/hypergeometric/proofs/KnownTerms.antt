-- A sum that is known from elsewhere, so that a wrong definition does not check: k * k! is the difference of k!.
use Rattle.std.proofs.Common.{◌≡◌, ℕ, ◌+◌, ◌*◌, refl, ap, sym, ◌∙◌, arith, subst, add-one, [], ◌∷◌}
use Rattle.std.proofs.lemmas.Int.{ints}
use Rattle.std.specs.Prelude.{ℤ, pos, negsuc, ◌+ℤ◌, ◌-ℤ◌, ◌*ℤ◌, ◌≤ℤ◌}
use Rattle.ring_solver.proofs.Read.{ring_z, reading_z}
use Rattle.ring_laws.specs.Meaning.{Meaning, number, listed}
use Rattle.hypergeometric.specs.Point.{Point}
use Rattle.hypergeometric.specs.Fraction.{Fraction, ◌≈◌, of_whole, fraction_product, fraction_difference, whole_power}
use Rattle.hypergeometric.specs.LinearForm.{LinearForm, form_value, factorial, factorial_value}
use Rattle.hypergeometric.specs.ProperTerm.{ProperTerm, poly_value, proper_value, IsDefinedAt, HasFractions}
use Rattle.hypergeometric.specs.Claim.{Claim, certificate, left_side, AllDefined}
use Rattle.hypergeometric.specs.Telescopes.{Telescopes, TelescopesAt, TelescopesAtPoints, HasRatio}
use Rattle.hypergeometric.specs.PlainTerm.{unit_list}
use Rattle.hypergeometric.proofs.FractionLaws.{one_not_zero, equal_wholes}
use Rattle.hypergeometric.proofs.RangeSums.{ranges_from_points}
use Rattle.hypergeometric.proofs.PlainTerms.{whole_power_of_one, difference_of_wholes}

-- a number as a coefficient
abbrev c : ℤ → Meaning
c z = listed (number z ∷ [])

abbrev one : Meaning
one = listed (c (pos 1) ∷ [])

abbrev form_k : LinearForm
form_k = record { n_slope = pos 0; k_slope = pos 1; offset = pos 0 }

-- a polynomial times k!
abbrev times_factorial : Meaning → ProperTerm
times_factorial p = record {
  poly = p;
  scale = of_whole (pos 1);
  n_base = of_whole (pos 1);
  k_base = of_whole (pos 1);
  up = record { form = form_k; power = 1 } ∷ [];
  down = [];
  over = [];
  guard = [];
}

abbrev poly_k : Meaning
poly_k = listed (listed [] ∷ c (pos 1) ∷ [])

-- the claim of k * k!: a = 1, K = k!, Y = 1
abbrev claim : Claim
claim = record {
  multipliers = c (pos 1) ∷ [];
  carrier = times_factorial one;
  y = one;
  poles = [];
  ratio_top = unit_list;
  ratio_bottom = unit_list;
}

form_k_value : (p : Point) → form_value form_k p ≡ p.k
form_k_value p = ring_z (p.n ∷ p.k ∷ []) (search reading_z depth 40 fits 20000) refl

-- the value, with the powers of the bases and the factorial held
abbrev held : ℤ → Fraction → Fraction → Fraction → Fraction
held p f g h =
    fraction_product (of_whole (pos 1)) (fraction_product (of_whole p) (fraction_product f (fraction_product g
    (fraction_product (fraction_product (fraction_product h (of_whole (pos 1))) (of_whole (pos 1))) (fraction_product (of_whole (pos 1)) (of_whole (pos 1)))))))

value_held : (y : Meaning) (p : Point) → proper_value (times_factorial y) p ≡ held (poly_value y p) (of_whole (pos 1)) (of_whole (pos 1)) (factorial_value p.k)
value_held y p =
    ap (λ f. held (poly_value y p) f (whole_power (of_whole (pos 1)) p.k) (factorial_value (form_value form_k p))) (whole_power_of_one p.n)
    ∙ ap (λ f. held (poly_value y p) (of_whole (pos 1)) f (factorial_value (form_value form_k p))) (whole_power_of_one p.k)
    ∙ ap (λ z. held (poly_value y p) (of_whole (pos 1)) (of_whole (pos 1)) (factorial_value z)) (form_k_value p)

held_whole : (p f : ℤ) → held p (of_whole (pos 1)) (of_whole (pos 1)) (of_whole f) ≡ of_whole (p *ℤ f)
held_whole p f = ap of_whole (ring_z (p ∷ f ∷ []) (search reading_z depth 40 fits 20000) refl)

at_natural : (y : Meaning) (p : Point) (m : ℕ) → proper_value (times_factorial y) (record p { k = pos m }) ≡ of_whole (poly_value y (record p { k = pos m }) *ℤ pos (factorial m))
at_natural y p m = value_held y (record p { k = pos m }) ∙ held_whole (poly_value y (record p { k = pos m })) (pos (factorial m))

not_defined_below : (y : Meaning) (p : Point) (m : ℕ) → (proper_value (times_factorial y) (record p { k = negsuc m })).bottom ≡ pos 0
not_defined_below y p m = ap (λ f. f.bottom) (value_held y (record p { k = negsuc m }))

defined_at : (y : Meaning) (p : Point) (m : ℕ) → IsDefinedAt (times_factorial y) (record p { k = pos m })
defined_at y p m = record {
  up = (subst (λ (z : ℤ). pos 0 ≤ℤ z) (sym (form_k_value (record p { k = pos m }))) (omega (arith, ints)), tt);
  guard = tt;
  over = tt;
}

next_factorial : (m : ℕ) → pos (factorial (m + 1)) ≡ (pos m +ℤ pos 1) *ℤ pos (factorial m)
next_factorial m = ap (λ z. pos (factorial z)) (add-one m) ∙ ap (λ z. pos (z * factorial m)) (sym (add-one m))

poly_k_value : (p : Point) → poly_value poly_k p ≡ p.k
poly_k_value p = ring_z (p.n ∷ p.k ∷ []) (search reading_z depth 40 fits 20000) refl

one_value : (p : Point) → poly_value one p ≡ pos 1
one_value p = ring_z (p.n ∷ p.k ∷ []) (search reading_z depth 40 fits 20000) refl

term_at : (p : Point) (m : ℕ) → proper_value (times_factorial poly_k) (record p { k = pos m }) ≡ of_whole (pos m *ℤ pos (factorial m))
term_at p m = at_natural poly_k p m ∙ ap (λ z. of_whole (z *ℤ pos (factorial m))) (poly_k_value (record p { k = pos m }))

certificate_at : (p : Point) (m : ℕ) → certificate claim (record p { k = pos m }) ≡ of_whole (pos (factorial m))
certificate_at p m =
    ap (λ g. fraction_product g (of_whole (poly_value one (record p { k = pos m })))) (at_natural one p m)
    ∙ ap (λ z. fraction_product (of_whole (z *ℤ pos (factorial m))) (of_whole z)) (one_value (record p { k = pos m }))
    ∙ ap of_whole (units (pos (factorial m)))
  where
    units : (f : ℤ) → pos 1 *ℤ f *ℤ pos 1 ≡ f
    units f = ring_z (f ∷ []) (search reading_z depth 40 fits 20000) refl

left_side_at : (p : Point) (m : ℕ) → left_side (proper_value (times_factorial poly_k)) claim (record p { k = pos m }) ≡ of_whole (pos m *ℤ pos (factorial m))
left_side_at p m = with_value p (pos m *ℤ pos (factorial m)) (proper_value (times_factorial poly_k) (record p { k = pos m })) (term_at p m)
  where
    units : (n v : ℤ) → ((pos 1 +ℤ n *ℤ pos 0) *ℤ v) *ℤ pos 1 +ℤ pos 0 *ℤ pos 1 ≡ v
    units n v = ring_z (n ∷ v ∷ []) (search reading_z depth 40 fits 20000) refl

    with_value : (p : Point) (v : ℤ) (f : Fraction) → f ≡ of_whole v → left_side (λ _. f) claim p ≡ of_whole v
    with_value p v f e = ap (λ g. left_side (λ _. g) claim p) e ∙ ap of_whole (units p.n v)

factorial_point : (p : Point) (k : ℤ) → AllDefined (proper_value (times_factorial poly_k)) claim.multipliers (record p { k = k })
    → TelescopesAt (proper_value (times_factorial poly_k)) claim (record p { k = k })
factorial_point p (negsuc m) defined = absurd (defined.0 (not_defined_below poly_k p m))
factorial_point p (pos m) defined = record {
  carrier_here = defined_at one p m;
  carrier_next = defined_at one p (m + 1);
  equal = equal_wholes (pos m *ℤ pos (factorial m)) (pos (factorial (m + 1)) -ℤ pos (factorial m))
      (left_side_at p m)
      (ap (λ g. fraction_difference g (certificate claim (record p { k = pos m }))) (certificate_at p (m + 1))
      ∙ ap (fraction_difference (of_whole (pos (factorial (m + 1))))) (certificate_at p m)
      ∙ difference_of_wholes (pos (factorial (m + 1))) (pos (factorial m)))
      (less_one (pos m) (pos (factorial m)) ∙ ap (λ z. z -ℤ pos (factorial m)) (sym (next_factorial m)));
}
  where
    less_one : (m f : ℤ) → m *ℤ f ≡ (m +ℤ pos 1) *ℤ f -ℤ f
    less_one m f = ring_z (m ∷ f ∷ []) (search reading_z depth 40 fits 20000) refl

factorial_points : TelescopesAtPoints (proper_value (times_factorial poly_k)) claim
factorial_points p defined here next = factorial_point p p.k defined

abbrev RatioAt : Point → Type 0
RatioAt p = fraction_product (certificate claim p) (of_whole (pos 1 *ℤ poly_value poly_k p *ℤ pos 1))
    ≈ fraction_product (proper_value (times_factorial poly_k) p) (of_whole (pos 1 *ℤ poly_value one p))

ratio_at : (p : Point) (k : ℤ) → AllDefined (proper_value (times_factorial poly_k)) claim.multipliers (record p { k = k }) → RatioAt (record p { k = k })
ratio_at p (negsuc m) defined = absurd (defined.0 (not_defined_below poly_k p m))
ratio_at p (pos m) defined =
    equal_wholes (pos (factorial m) *ℤ (pos 1 *ℤ poly_value poly_k (record p { k = pos m }) *ℤ pos 1)) (pos m *ℤ pos (factorial m) *ℤ (pos 1 *ℤ poly_value one (record p { k = pos m })))
    (ap (λ g. fraction_product g (of_whole (pos 1 *ℤ poly_value poly_k (record p { k = pos m }) *ℤ pos 1))) (certificate_at p m))
    (ap (λ g. fraction_product g (of_whole (pos 1 *ℤ poly_value one (record p { k = pos m })))) (term_at p m))
    (ap (λ z. pos (factorial m) *ℤ (pos 1 *ℤ z *ℤ pos 1)) (poly_k_value (record p { k = pos m }))
    ∙ units (pos m) (pos (factorial m))
    ∙ ap (λ z. pos m *ℤ pos (factorial m) *ℤ (pos 1 *ℤ z)) (sym (one_value (record p { k = pos m }))))
  where
    units : (m f : ℤ) → f *ℤ (pos 1 *ℤ m *ℤ pos 1) ≡ m *ℤ f *ℤ (pos 1 *ℤ pos 1)
    units m f = ring_z (m ∷ f ∷ []) (search reading_z depth 40 fits 20000) refl

factorial_ratio : HasRatio (proper_value (times_factorial poly_k)) poly_k claim
factorial_ratio p defined carrier pole = ratio_at p p.k defined

pub factorials : Telescopes (proper_value (times_factorial poly_k)) poly_k claim
factorials = record {
  points = factorial_points;
  ranges = ranges_from_points (proper_value (times_factorial poly_k)) claim fractions factorial_points;
  ratio = factorial_ratio;
}
  where
    fractions : HasFractions (times_factorial one)
    fractions = record {
      scale = record { top = one_not_zero; bottom = one_not_zero };
      n_base = record { top = one_not_zero; bottom = one_not_zero };
      k_base = record { top = one_not_zero; bottom = one_not_zero };
    }
