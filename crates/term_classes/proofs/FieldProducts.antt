-- A term multiplied by a value in one of its fields.
use Rattle.std.proofs.Common.{ℕ, ap, [], ◌∷◌}
use Rattle.std.specs.Prelude.{ℤ, ◌*ℤ◌}
use Rattle.ring_laws.specs.Meaning.{Meaning}
use Rattle.poly_laws.specs.TwoVariables.{in_n_and_k}
use Rattle.poly_laws.proofs.Keeps.{value_at_keeps}
use Rattle.hypergeometric.specs.Point.{Point, values}
use Rattle.hypergeometric.specs.Fraction.{Fraction, of_whole, fraction_product, fraction_inverse, natural_power, whole_power}
use Rattle.hypergeometric.specs.LinearForm.{LinearForm, form_value, product_over, factorial_value, inverse_factorial_value}
use Rattle.hypergeometric.specs.ProperTerm.{ProperTerm, poly_value, proper_value, IsNonzero, HasFractions}
use Rattle.hypergeometric.specs.FactorLists as lists
use Rattle.hypergeometric.specs.Divisors.{lowest_terms, raised_fraction}
use Rattle.hypergeometric.proofs.SameValues.{◌≅◌, same, same_itself, same_chain, same_products, same_whole_powers}
use Rattle.hypergeometric.proofs.FractionPowers.{whole_power_of_product}
use Rattle.hypergeometric.proofs.NonzeroPowers.{power_then_power}
use Rattle.term_classes.specs.Walk.{with_poly, with_scale, with_n_base, with_k_base, with_lists}
use Rattle.term_classes.proofs.TermProducts.{IsTimes, deeper, outer, factor_times, power_multiplied, multiplied_nonzero}

module _ (s : ProperTerm) (h : HasFractions s) where
  -- what stands after the first fields in the product that is the value
  abbrev over_part : Point → Fraction
  over_part p = product_over (λ z. fraction_inverse (of_whole z)) s.over p

  abbrev down_part : Point → Fraction
  down_part p = fraction_product (product_over inverse_factorial_value s.down p) (over_part p)

  abbrev up_part : Point → Fraction
  up_part p = fraction_product (product_over factorial_value s.up p) (down_part p)

  abbrev k_part : Point → Fraction
  k_part p = fraction_product (whole_power s.k_base p.k) (up_part p)

  abbrev n_part : Point → Fraction
  n_part p = fraction_product (whole_power s.n_base p.n) (k_part p)

  abbrev poly_part : Point → Fraction
  poly_part p = fraction_product (of_whole (poly_value s.poly p)) (n_part p)

  -- what multiplies a part of the value multiplies the value
  in_n_part : (p : Point) {y : Fraction} (x : Fraction) → y ≅ fraction_product (n_part p) x
      → fraction_product s.scale (fraction_product (of_whole (poly_value s.poly p)) y) ≅ fraction_product (proper_value s p) x
  in_n_part p x e = deeper s.scale (poly_part p) x (deeper (of_whole (poly_value s.poly p)) (n_part p) x e)

  in_up_part : (p : Point) {y : Fraction} (x : Fraction) → y ≅ fraction_product (up_part p) x
      → fraction_product s.scale (fraction_product (of_whole (poly_value s.poly p)) (fraction_product (whole_power s.n_base p.n)
      (fraction_product (whole_power s.k_base p.k) y))) ≅ fraction_product (proper_value s p) x
  in_up_part p x e = in_n_part p x (deeper (whole_power s.n_base p.n) (k_part p) x (deeper (whole_power s.k_base p.k) (up_part p) x e))

  pub scale_times : (g : Fraction) (w : ℤ) → IsNonzero g
      → IsTimes s (with_scale (lowest_terms (fraction_product s.scale (raised_fraction g w))) s) (λ p. whole_power g w)
  scale_times g w q = record {
    fractions = record { scale = multiplied_nonzero s.scale g w h.scale q; n_base = h.n_base; k_base = h.k_base };
    value = λ p. outer (poly_part p) s.scale (whole_power g w) (power_multiplied s.scale g w h.scale q);
  }

  pub poly_times : (q : Meaning) → IsTimes s (with_poly (in_n_and_k.product s.poly q) s) (λ p. of_whole (poly_value q p))
  poly_times q = record {
    fractions = record { scale = h.scale; n_base = h.n_base; k_base = h.k_base };
    value = λ p. deeper s.scale (poly_part p) (of_whole (poly_value q p))
        (outer (n_part p) (of_whole (poly_value s.poly p)) (of_whole (poly_value q p))
        (same (ap of_whole ((value_at_keeps (values p)).product s.poly q))));
  }

  -- a base to a power that is a base times another one to a power
  base_times : (b g : Fraction) (w z : ℤ) → IsNonzero b → IsNonzero g
      → whole_power (lowest_terms (fraction_product b (raised_fraction g w))) z ≅ fraction_product (whole_power b z) (whole_power g (w *ℤ z))
  base_times b g w z given q =
      same_chain (same_whole_powers z (power_multiplied b g w given q))
      (same_chain (same (whole_power_of_product b (whole_power g w) z))
      (same_products (same_itself (whole_power b z)) (power_then_power g w z q.top)))

  pub n_base_times : (g : Fraction) (w : ℤ) → IsNonzero g
      → IsTimes s (with_n_base (lowest_terms (fraction_product s.n_base (raised_fraction g w))) s) (λ p. whole_power g (w *ℤ p.n))
  n_base_times g w q = record {
    fractions = record { scale = h.scale; n_base = multiplied_nonzero s.n_base g w h.n_base q; k_base = h.k_base };
    value = λ p. in_n_part p (whole_power g (w *ℤ p.n))
        (outer (k_part p) (whole_power s.n_base p.n) (whole_power g (w *ℤ p.n)) (base_times s.n_base g w p.n h.n_base q));
  }

  pub k_base_times : (g : Fraction) (w : ℤ) → IsNonzero g
      → IsTimes s (with_k_base (lowest_terms (fraction_product s.k_base (raised_fraction g w))) s) (λ p. whole_power g (w *ℤ p.k))
  k_base_times g w q = record {
    fractions = record { scale = h.scale; n_base = h.n_base; k_base = multiplied_nonzero s.k_base g w h.k_base q };
    value = λ p. in_n_part p (whole_power g (w *ℤ p.k)) (deeper (whole_power s.n_base p.n) (k_part p) (whole_power g (w *ℤ p.k))
        (outer (up_part p) (whole_power s.k_base p.k) (whole_power g (w *ℤ p.k)) (base_times s.k_base g w p.k h.k_base q)));
  }

  pub up_times : (a : LinearForm) (power : ℕ) → IsTimes s (with_lists (lists.with_factor a power s.up) s.down s.over s.guard s)
      (λ p. natural_power (factorial_value (form_value a p)) power)
  up_times a power = record {
    fractions = record { scale = h.scale; n_base = h.n_base; k_base = h.k_base };
    value = λ p. in_up_part p (natural_power (factorial_value (form_value a p)) power)
        (outer (down_part p) (product_over factorial_value s.up p) (natural_power (factorial_value (form_value a p)) power)
        (same (factor_times factorial_value a power s.up p)));
  }

  pub down_times : (a : LinearForm) (power : ℕ) → IsTimes s (with_lists s.up (lists.with_factor a power s.down) s.over s.guard s)
      (λ p. natural_power (inverse_factorial_value (form_value a p)) power)
  down_times a power = record {
    fractions = record { scale = h.scale; n_base = h.n_base; k_base = h.k_base };
    value = λ p. in_up_part p (natural_power (inverse_factorial_value (form_value a p)) power)
        (deeper (product_over factorial_value s.up p) (down_part p) (natural_power (inverse_factorial_value (form_value a p)) power)
        (outer (over_part p) (product_over inverse_factorial_value s.down p) (natural_power (inverse_factorial_value (form_value a p)) power)
        (same (factor_times inverse_factorial_value a power s.down p))));
  }

  pub over_times : (a : LinearForm) (power : ℕ) → IsTimes s (with_lists s.up s.down (lists.with_factor a power s.over) s.guard s)
      (λ p. natural_power (fraction_inverse (of_whole (form_value a p))) power)
  over_times a power = record {
    fractions = record { scale = h.scale; n_base = h.n_base; k_base = h.k_base };
    value = λ p. in_up_part p (natural_power (fraction_inverse (of_whole (form_value a p))) power)
        (deeper (product_over factorial_value s.up p) (down_part p) (natural_power (fraction_inverse (of_whole (form_value a p))) power)
        (deeper (product_over inverse_factorial_value s.down p) (over_part p)
        (natural_power (fraction_inverse (of_whole (form_value a p))) power)
        (same (factor_times (λ z. fraction_inverse (of_whole z)) a power s.over p))));
  }
