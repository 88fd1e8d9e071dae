-- A fraction in lowest terms times a power of -1.
use Rattle.std.proofs.Common.{◌≡◌, ℕ, suc, ◌%◌, refl, ap, sym, ◌∙◌, subst, [], ◌∷◌, arith}
use Rattle.std.proofs.lemmas.Int.{ints}
use Rattle.std.specs.Prelude.{ℤ, pos, negsuc, ◌*ℤ◌, neg_ℤ, unsigned_abs}
use Rattle.std.specs.Int.{◌∣◌}
use lib.IntN.{pow, one}
use Rattle.ring_solver.proofs.Read.{ring_z, reading_z}
use Rattle.hypergeometric.specs.Fraction.{Fraction, IsDefined, of_whole, fraction_product, fraction_negative}
use Rattle.hypergeometric.specs.Divisors.{lowest_terms, raised_fraction}
use Rattle.hypergeometric.proofs.FractionLaws.{product_not_zero}
use Rattle.hypergeometric.proofs.LowestTerms.{raised_nonzero}
use Rattle.hypergeometric.proofs.OnlyLowest.{only_lowest}
use Rattle.hypergeometric.proofs.ReducedFractions.{HasLowestTerms}
use Rattle.term_classes.proofs.WalkRows.{whole_nonzero}
use Rattle.term_classes.proofs.WalkValues.{minus_one_not_zero}
use Rattle.proper_term.proofs.WholePowers.{by_parity}

abbrev sign : ℤ → Fraction
sign w = raised_fraction (of_whole (negsuc 0)) w

-- a power of 1 or -1 by the last binary digit of the exponent
by_digit : (z : ℤ) (e m : ℕ) → unsigned_abs z ≡ 1 → e % 2 ≡ m → pow z e ≡ pow z m
by_digit z e m one_size digit = sym (by_parity z e one_size) ∙ ap (pow z) digit

even_sign : (w : ℤ) → unsigned_abs w % 2 ≡ 0 → (sign w).top ≡ (sign w).bottom
unfolding pow one
even_sign (pos e) even = by_digit (negsuc 0) e 0 refl even ∙ sym (by_digit (pos 1) e 0 refl even)
even_sign (negsuc e) even = by_digit (pos 1) (suc e) 0 refl even ∙ sym (by_digit (negsuc 0) (suc e) 0 refl even)

odd_sign : (w : ℤ) → ¬ (unsigned_abs w % 2 ≡ 0) → (sign w).top ≡ neg_ℤ (sign w).bottom
unfolding pow one
odd_sign (pos e) odd = by_digit (negsuc 0) e 1 refl (omega (arith, odd)) ∙ ap neg_ℤ (sym (by_digit (pos 1) e 1 refl (omega (arith, odd))))
odd_sign (negsuc e) odd =
    by_digit (pos 1) (suc e) 1 refl (omega (arith, odd)) ∙ ap neg_ℤ (sym (by_digit (negsuc 0) (suc e) 1 refl (omega (arith, odd))))

same_sides : (t b x y : ℤ) → x ≡ y → t *ℤ (b *ℤ y) ≡ (t *ℤ x) *ℤ b
same_sides t b x y e = ring_z (t ∷ b ∷ y ∷ []) (search reading_z depth 40 fits 20000) refl ∙ ap (λ z. (t *ℤ z) *ℤ b) (sym e)

other_sides : (t b x y : ℤ) → x ≡ neg_ℤ y → neg_ℤ t *ℤ (b *ℤ y) ≡ (t *ℤ x) *ℤ b
other_sides t b x y e = ring_z (t ∷ b ∷ y ∷ []) (search reading_z depth 40 fits 20000) refl ∙ ap (λ z. (t *ℤ z) *ℤ b) (sym e)

-- the fraction with the other sign
pub negative_terms : (s : Fraction) → HasLowestTerms s → HasLowestTerms (fraction_negative s)
negative_terms s h = record {
  positive = h.positive;
  coprime = λ d p q. h.coprime d (subst (λ m. d ∣ m) (size s.top) p) q;
}
  where
    size : (t : ℤ) → unsigned_abs (neg_ℤ t) ≡ unsigned_abs t
    size t = omega (arith, ints)

module _ (s : Fraction) (h : HasLowestTerms s) (w : ℤ) where
  signed_defined : IsDefined (fraction_product s (sign w))
  signed_defined = product_not_zero s.bottom (sign w).bottom (λ z. omega (arith, ints, z, h.positive))
      (raised_nonzero (of_whole (negsuc 0)) w (whole_nonzero (negsuc 0) minus_one_not_zero)).bottom

  -- an even power of -1 leaves it
  pub even_power : unsigned_abs w % 2 ≡ 0 → s ≡ lowest_terms (fraction_product s (sign w))
  even_power even = only_lowest (fraction_product s (sign w)) s signed_defined h
      (same_sides s.top s.bottom (sign w).top (sign w).bottom (even_sign w even))

  -- an odd one turns its sign
  pub odd_power : ¬ (unsigned_abs w % 2 ≡ 0) → fraction_negative s ≡ lowest_terms (fraction_product s (sign w))
  odd_power odd = only_lowest (fraction_product s (sign w)) (fraction_negative s) signed_defined (negative_terms s h)
      (other_sides s.top s.bottom (sign w).top (sign w).bottom (odd_sign w odd))
