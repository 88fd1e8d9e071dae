-- The numbers of a term split: its scale, its bases, and its polynomial.
use Rattle.std.proofs.Common.{◌≡◌, ◌≢◌, ℕ, zero, suc, ◌+◌, ◌-◌, ◌≤◌, List, [], ◌∷◌, map, refl, ap, sym, ◌∙◌, subst, arith}
use Rattle.std.proofs.lemmas.Int.{ints}
use Rattle.std.proofs.Math.IntN.{pow, pow-succ'}
use Rattle.std.specs.Prelude.{ℤ, pos, negsuc, ◌+ℤ◌, ◌*ℤ◌}
use Rattle.ring_solver.proofs.Read.{ring_z, reading_z}
use Rattle.ring_laws.specs.Meaning.{Meaning, items}
use Rattle.poly_laws.specs.Shift.{poly_shift}
use Rattle.poly_laws.specs.Values.{horner, value_at, level}
use Rattle.poly_laws.proofs.Keeps.{of_list, value_at_keeps}
use Rattle.poly_laws.proofs.ShiftLaws.{value_at_shift}
use Rattle.hypergeometric.specs.Point.{Point, values, values_in_n, later_n, later_k}
use Rattle.hypergeometric.specs.Fraction.{Fraction, IsDefined, ◌≈◌, of_whole, fraction_product, fraction_inverse, natural_power, whole_power}
use Rattle.hypergeometric.specs.ProperTerm.{IsNonzero, ProperTerm, HasFractions, poly_value}
use Rattle.hypergeometric.specs.Divisors.{lowest_terms}
use Rattle.hypergeometric.proofs.Definedness.{natural_power_defined, whole_power_defined}
use Rattle.hypergeometric.proofs.FractionLaws.{one_not_zero, product_not_zero, equal_to_itself, equal_symmetric, equal_chain, equal_products}
use Rattle.hypergeometric.proofs.FractionPowers.{fraction_same, one_product, product_one, product_comm, product_assoc}
use Rattle.hypergeometric.proofs.LowestTerms.{lowest_same}
use Rattle.hypergeometric.proofs.NonzeroPowers.{inverse_cancels, itself_then_inverse}
use Rattle.hypergeometric.proofs.SameValues.{same_symmetric, same_equal, same_chain, same}
use Rattle.term_pieces.specs.Pieces.{poly_at_later_n, top_number}
use Rattle.term_pieces.proofs.ProductValues.{pow_of_sum}
use Rattle.term_pieces.proofs.Splits.{Splits, times_common}

-- the polynomial at n + j
horner_mapped : (f g : Meaning → ℤ) (h : Meaning → Meaning) → ((m : Meaning) → f (h m) ≡ g m) → (k : ℤ) (xs : List Meaning) → horner f k (map h xs) ≡ horner g k xs
horner_mapped f g h e k [] = refl
horner_mapped f g h e k (x ∷ xs) = ap (λ t. t +ℤ k *ℤ horner f k (map h xs)) (e x) ∙ ap (λ t. g x +ℤ k *ℤ t) (horner_mapped f g h e k xs)

pub later_poly_value : (poly : Meaning) (j : ℕ) (p : Point) → poly_value (poly_at_later_n poly j) p ≡ poly_value poly (later_n p (pos j))
later_poly_value poly j p =
    of_list (level 1).ops (value_at (values_in_n p)) (value_at_keeps (values_in_n p)) p.k (map (poly_shift (level 0).ops (pos j)) (items poly))
    ∙ horner_mapped (value_at (values_in_n p)) (value_at ((p.n +ℤ pos j) ∷ [])) (poly_shift (level 0).ops (pos j)) (λ m. value_at_shift p.n (pos j) [] m) p.k (items poly)

-- a whole power one higher, and j higher
pub next_power : (f : Fraction) (z : ℤ) → IsNonzero f → whole_power f (z +ℤ pos 1) ≈ fraction_product f (whole_power f z)
next_power f (pos n) h =
    let up : pos n +ℤ pos 1 ≡ pos (suc n) = omega (arith, ints) in
    subst (λ z. whole_power f z ≈ natural_power f (suc n)) (sym up) (equal_to_itself (natural_power f (suc n)) (whole_power_defined f (pos (suc n)) h))
next_power f (negsuc zero) h =
    same_equal (same_symmetric (same_chain (same (ap (fraction_product f) (product_one (fraction_inverse f)) ∙ product_comm f (fraction_inverse f)))
    (inverse_cancels f h))) one_not_zero
next_power f (negsuc (suc n)) h =
    let up : negsuc (suc n) +ℤ pos 1 ≡ negsuc n = omega (arith, ints) in
    subst (λ z. whole_power f z ≈ fraction_product f (whole_power f (negsuc (suc n)))) (sym up)
    (same_equal (same_symmetric (itself_then_inverse f (natural_power (fraction_inverse f) (suc n)) h)) (whole_power_defined f (negsuc n) h))

pub later_power : (f : Fraction) (z : ℤ) (j : ℕ) → IsNonzero f → whole_power f (z +ℤ pos j) ≈ fraction_product (natural_power f j) (whole_power f z)
later_power f z zero h =
    let here : z +ℤ pos 0 ≡ z = omega (arith, ints) in
    subst (λ x. whole_power f x ≈ fraction_product (of_whole (pos 1)) (whole_power f z)) (sym here)
    (subst (λ x. whole_power f z ≈ x) (sym (one_product (whole_power f z))) (equal_to_itself (whole_power f z) (whole_power_defined f z h)))
later_power f z (suc j) h =
    let there : z +ℤ pos (suc j) ≡ (z +ℤ pos j) +ℤ pos 1 = omega (arith, ints) in
    subst (λ x. whole_power f x ≈ fraction_product (natural_power f (suc j)) (whole_power f z)) (sym there)
    (subst (λ x. whole_power f ((z +ℤ pos j) +ℤ pos 1) ≈ x) (sym (product_assoc f (natural_power f j) (whole_power f z)))
    (equal_chain (next_power f (z +ℤ pos j) h) (equal_products (equal_to_itself f h.bottom) (later_power f z j h))))

-- a power of a fraction is that of its numerator over that of its denominator
power_parts : (f : Fraction) (j : ℕ) → natural_power f j ≡ record { top = pow f.top j; bottom = pow f.bottom j }
unfolding pow lib.IntN.one
power_parts f zero = refl
power_parts f (suc j) = ap (fraction_product f) (power_parts f j) ∙ fraction_same (sym (pow-succ' f.top j)) (sym (pow-succ' f.bottom j))

module _ (f : ProperTerm) (order : ℕ) (p : Point) (parts : HasFractions f) where
  abbrev x_v : ℤ
  x_v = pow f.n_base.bottom order

  -- 1 over the greatest power of the denominator
  abbrev below : Fraction
  below = record { top = pos 1; bottom = x_v }

  abbrev at_n : Fraction
  at_n = whole_power f.n_base p.n

  abbrev at_k : Fraction
  at_k = whole_power f.k_base p.k

  x_v_some : x_v ≢ pos 0
  x_v_some e =
      natural_power_defined f.n_base order parts.n_base.bottom (ap (λ (g : Fraction). g.bottom) (power_parts f.n_base order) ∙ e)

  -- the base of n to a power j is a whole number over the greatest power of its denominator
  base_power : (j : ℕ) → j ≤ order → natural_power f.n_base j ≈ times_common (top_number f order j) below
  base_power j l = record {
    left_defined = natural_power_defined f.n_base j parts.n_base.bottom;
    right_defined = product_not_zero (pos 1) x_v one_not_zero x_v_some;
    cross = ap (λ (g : Fraction). g.top *ℤ (pos 1 *ℤ x_v)) (power_parts f.n_base j)
        ∙ ap (λ t. pow f.n_base.top j *ℤ (pos 1 *ℤ t)) (ap (pow f.n_base.bottom) whole ∙ pow_of_sum f.n_base.bottom (order - j) j)
        ∙ moved (pow f.n_base.top j) (pow f.n_base.bottom (order - j)) (pow f.n_base.bottom j)
        ∙ ap (λ (g : Fraction). (top_number f order j *ℤ pos 1) *ℤ g.bottom) (sym (power_parts f.n_base j));
  }
    where
      whole : order ≡ (order - j) + j
      whole = omega (arith, l)

      moved : (a b c : ℤ) → a *ℤ (pos 1 *ℤ (b *ℤ c)) ≡ ((a *ℤ b) *ℤ pos 1) *ℤ c
      moved a b c = ring_z (a ∷ b ∷ c ∷ []) (search reading_z depth 40 fits 20000) refl

  abbrev common_number : Fraction
  common_number = fraction_product f.scale (fraction_product below (fraction_product at_n at_k))

  bases_defined : IsDefined (fraction_product at_n at_k)
  bases_defined = product_not_zero at_n.bottom at_k.bottom (whole_power_defined f.n_base p.n parts.n_base) (whole_power_defined f.k_base p.k parts.k_base)

  tops_grouped : (s t u v w : Fraction)
      → fraction_product s (fraction_product (fraction_product (fraction_product t u) v) w)
      ≡ fraction_product t (fraction_product s (fraction_product u (fraction_product v w)))
  tops_grouped s t u v w = fraction_same (moved s.top t.top u.top v.top w.top) (moved s.bottom t.bottom u.bottom v.bottom w.bottom)
    where
      moved : (a b c d e : ℤ) → a *ℤ (((b *ℤ c) *ℤ d) *ℤ e) ≡ b *ℤ (a *ℤ (c *ℤ (d *ℤ e)))
      moved a b c d e = ring_z (a ∷ b ∷ c ∷ d ∷ e ∷ []) (search reading_z depth 40 fits 20000) refl

  number_tops : (j : ℕ) → j ≤ order
      → fraction_product f.scale (fraction_product (whole_power f.n_base (p.n +ℤ pos j)) at_k) ≈ times_common (top_number f order j) common_number
  number_tops j l =
      let defined_n = whole_power_defined f.n_base p.n parts.n_base in
      let defined_k = whole_power_defined f.k_base p.k parts.k_base in
      let later = equal_chain (later_power f.n_base p.n j parts.n_base) (equal_products (base_power j l) (equal_to_itself at_n defined_n)) in
      subst (λ z. fraction_product f.scale (fraction_product (whole_power f.n_base (p.n +ℤ pos j)) at_k) ≈ z)
      (tops_grouped f.scale (of_whole (top_number f order j)) below at_n at_k)
      (equal_products (equal_to_itself f.scale parts.scale.bottom) (equal_products later (equal_to_itself at_k defined_k)))

  -- the carrier's scale
  abbrev carrier_scale : Fraction
  carrier_scale = lowest_terms (record { top = f.scale.top *ℤ f.k_base.bottom; bottom = f.scale.bottom *ℤ x_v })

  scale_is : carrier_scale ≈ times_common f.k_base.bottom (fraction_product f.scale below)
  scale_is =
      let whole : Fraction = record { top = f.scale.top *ℤ f.k_base.bottom; bottom = f.scale.bottom *ℤ x_v } in
      let defined : IsDefined whole = product_not_zero f.scale.bottom x_v parts.scale.bottom x_v_some in
      subst (λ z. carrier_scale ≈ z) (fraction_same (turned f.scale.top f.k_base.bottom) (one_times (f.scale.bottom *ℤ x_v)))
      (equal_symmetric (same_equal (same_symmetric (lowest_same whole defined)) defined))
    where
      turned : (s y : ℤ) → s *ℤ y ≡ y *ℤ (s *ℤ pos 1)
      turned s y = ring_z (s ∷ y ∷ []) (search reading_z depth 40 fits 20000) refl

      one_times : (x : ℤ) → x ≡ pos 1 *ℤ x
      one_times x = ring_z (x ∷ []) (search reading_z depth 40 fits 20000) refl

  number_here : fraction_product carrier_scale (fraction_product at_n at_k) ≈ times_common f.k_base.bottom common_number
  number_here =
      subst (λ z. fraction_product carrier_scale (fraction_product at_n at_k) ≈ z)
      (product_assoc (of_whole f.k_base.bottom) (fraction_product f.scale below) (fraction_product at_n at_k)
      ∙ ap (fraction_product (of_whole f.k_base.bottom)) (product_assoc f.scale below (fraction_product at_n at_k)))
      (equal_products scale_is (equal_to_itself (fraction_product at_n at_k) bases_defined))

  -- the denominator of the base of k times the base is its numerator
  numerator : fraction_product (of_whole f.k_base.bottom) f.k_base ≈ of_whole f.k_base.top
  numerator = record {
    left_defined = product_not_zero (pos 1) f.k_base.bottom one_not_zero parts.k_base.bottom;
    right_defined = one_not_zero;
    cross = turned f.k_base.bottom f.k_base.top;
  }
    where
      turned : (b t : ℤ) → (b *ℤ t) *ℤ pos 1 ≡ t *ℤ (pos 1 *ℤ b)
      turned b t = ring_z (b ∷ t ∷ []) (search reading_z depth 40 fits 20000) refl

  next_grouped : (y s u v w : Fraction)
      → fraction_product (fraction_product y s) (fraction_product v (fraction_product u w))
      ≡ fraction_product (fraction_product y u) (fraction_product s (fraction_product v w))
  next_grouped y s u v w = fraction_same (moved y.top s.top u.top v.top w.top) (moved y.bottom s.bottom u.bottom v.bottom w.bottom)
    where
      moved : (a b c d e : ℤ) → (a *ℤ b) *ℤ (d *ℤ (c *ℤ e)) ≡ (a *ℤ c) *ℤ (b *ℤ (d *ℤ e))
      moved a b c d e = ring_z (a ∷ b ∷ c ∷ d ∷ e ∷ []) (search reading_z depth 40 fits 20000) refl

  number_next : fraction_product carrier_scale (fraction_product at_n (whole_power f.k_base (p.k +ℤ pos 1))) ≈ times_common f.k_base.top common_number
  number_next =
      let rest = fraction_product (fraction_product f.scale below) (fraction_product at_n at_k) in
      let defined : IsDefined rest = product_not_zero (f.scale.bottom *ℤ x_v) (fraction_product at_n at_k).bottom
      (product_not_zero f.scale.bottom x_v parts.scale.bottom x_v_some) bases_defined in
      let there = equal_products scale_is (equal_products (equal_to_itself at_n (whole_power_defined f.n_base p.n parts.n_base))
      (next_power f.k_base p.k parts.k_base)) in
      let grouped = subst (λ z. fraction_product carrier_scale (fraction_product at_n (whole_power f.k_base (p.k +ℤ pos 1))) ≈ z)
      (next_grouped (of_whole f.k_base.bottom) (fraction_product f.scale below) f.k_base at_n at_k) there in
      subst (λ z. fraction_product carrier_scale (fraction_product at_n (whole_power f.k_base (p.k +ℤ pos 1))) ≈ times_common f.k_base.top z)
      (product_assoc f.scale below (fraction_product at_n at_k))
      (equal_chain grouped (equal_products numerator (equal_to_itself rest defined)))

  pub number_splits : Splits order (λ j. fraction_product f.scale (fraction_product (whole_power f.n_base (p.n +ℤ pos j)) at_k)) (top_number f order)
      (fraction_product carrier_scale (fraction_product at_n at_k))
      (fraction_product carrier_scale (fraction_product at_n (whole_power f.k_base (p.k +ℤ pos 1)))) f.k_base.bottom f.k_base.top
  number_splits = record { common = common_number; tops = number_tops; carrier_here = number_here; carrier_next = number_next }

  unit_value : (q : Point) → poly_value (level 2).ops.unit q ≡ pos 1
  unit_value q = (value_at_keeps (values q)).unit

  whole_is : (x : ℤ) → of_whole x ≈ times_common x (of_whole (pos 1))
  whole_is x = subst (λ z. of_whole x ≈ z) (sym (product_one (of_whole x))) (equal_to_itself (of_whole x) one_not_zero)

  unit_is : (q : Point) → of_whole (poly_value (level 2).ops.unit q) ≈ times_common (pos 1) (of_whole (pos 1))
  unit_is q = subst (λ z. of_whole z ≈ times_common (pos 1) (of_whole (pos 1))) (sym (unit_value q)) (whole_is (pos 1))

  pub poly_splits : Splits order (λ j. of_whole (poly_value f.poly (later_n p (pos j)))) (λ j. poly_value (poly_at_later_n f.poly j) p)
      (of_whole (poly_value (level 2).ops.unit p)) (of_whole (poly_value (level 2).ops.unit (later_k p (pos 1)))) (pos 1) (pos 1)
  poly_splits = record {
    common = of_whole (pos 1);
    tops = λ j l. subst (λ z. of_whole (poly_value f.poly (later_n p (pos j))) ≈ times_common z (of_whole (pos 1))) (sym (later_poly_value f.poly j p))
        (whole_is (poly_value f.poly (later_n p (pos j))));
    carrier_here = unit_is p;
    carrier_next = unit_is (later_k p (pos 1));
  }
