-- The pieces of a term share one value: all splits of its fields, multiplied.
use Rattle.std.proofs.Common.{◌≡◌, ℕ, ◌≤◌, List, [], ◌∷◌, ◌++◌, refl, ap, sym, ◌∙◌, subst, arith}
use Rattle.std.proofs.lemmas.Int.{ints}
use Rattle.std.specs.Prelude.{ℤ, pos, negsuc, ◌+ℤ◌, ◌*ℤ◌}
use Rattle.ring_solver.proofs.Read.{ring_z, reading_z}
use Rattle.poly_laws.specs.Values.{level}
use Rattle.hypergeometric.specs.Point.{Point, later_n, later_k}
use Rattle.hypergeometric.specs.Fraction.{Fraction, ◌≈◌, of_whole, fraction_product, whole_power}
use Rattle.hypergeometric.specs.LinearForm.{Factor, forms_value, factor_list_value, factorial_value, inverse_factorial_value, product_over}
use Rattle.hypergeometric.specs.ProperTerm.{ProperTerm, HasFractions, IsDefinedAt, NoneNegative, proper_value, poly_value}
use Rattle.hypergeometric.proofs.FractionPowers.{fraction_same, one_product}
use Rattle.term_pieces.specs.ItemForms.{from_each, above_least, below_greatest, rising_up, falling_up, rising_down, falling_down, counted_but, cleared_over, later_over, kept_over}
use Rattle.term_pieces.specs.Pieces.{Pieces, ArePiecesOf, poly_at_later_n, top_number, top_forms, q_forms, r_forms, carrier_of, carrier_up, carrier_down, top_at}
use Rattle.term_pieces.specs.PieceValues.{ShareValue}
use Rattle.term_pieces.proofs.CarrierDefined.{defined_here, defined_next}
use Rattle.term_pieces.proofs.FormValues.{joined_value}
use Rattle.term_pieces.proofs.ListSplits.{up_splits, down_splits, over_lists, gathered_value}
use Rattle.term_pieces.proofs.NumberSplits.{number_splits, poly_splits}
use Rattle.term_pieces.proofs.OverItems.{inverses}
use Rattle.term_pieces.proofs.ProductValues.{product_value}
use Rattle.term_pieces.proofs.Splits.{Splits, times_common, splits_product}

-- the fields of a term in the order in which they split
regrouped : (s p a b w : Fraction)
    → fraction_product (fraction_product s (fraction_product a b)) (fraction_product p w)
    ≡ fraction_product s (fraction_product p (fraction_product a (fraction_product b w)))
regrouped s p a b w = fraction_same (moved s.top p.top a.top b.top w.top) (moved s.bottom p.bottom a.bottom b.bottom w.bottom)
  where
    moved : (s p a b w : ℤ) → (s *ℤ (a *ℤ b)) *ℤ (p *ℤ w) ≡ s *ℤ (p *ℤ (a *ℤ (b *ℤ w)))
    moved s p a b w = ring_z (s ∷ p ∷ a ∷ b ∷ w ∷ []) (search reading_z depth 40 fits 20000) refl

-- three lists of forms that are joined
three_joined : (xs ys zs : List Factor) (p : Point)
    → forms_value (xs ++ (ys ++ zs)) p ≡ forms_value xs p *ℤ (forms_value ys p *ℤ forms_value zs p)
three_joined xs ys zs p = joined_value xs (ys ++ zs) p ∙ ap (λ t. forms_value xs p *ℤ t) (joined_value ys zs p)

module _ (f : ProperTerm) (order : ℕ) (p : Point) (parts : HasFractions f) (defined : (j : ℕ) → j ≤ order → IsDefinedAt f (later_n p (pos j))) where
  first_negative : NoneNegative f.up p
  first_negative =
      let here : p.n +ℤ pos 0 ≡ p.n = omega (arith, ints) in
      subst (λ m. NoneNegative f.up (record p { n = m })) here (defined 0 (omega arith)).up

  abbrev ups : ℕ → Fraction
  ups j = product_over factorial_value f.up (later_n p (pos j))

  abbrev downs : ℕ → Fraction
  downs j = product_over inverse_factorial_value f.down (later_n p (pos j))

  abbrev overs : ℕ → Fraction
  overs j = inverses f.over (later_n p (pos j))

  abbrev carrier_ups : Point → Fraction
  carrier_ups q = product_over factorial_value (carrier_up order f.up) q

  abbrev carrier_downs : Point → Fraction
  carrier_downs q = product_over inverse_factorial_value (carrier_down order f.down) q

  abbrev carrier_overs : Point → Fraction
  carrier_overs q = inverses (from_each (kept_over order) f.over) q

  -- the fields of the carrier, in that order
  abbrev carrier_fields : Point → Fraction
  carrier_fields q =
      fraction_product (fraction_product (carrier_of f order).scale (fraction_product (whole_power f.n_base q.n) (whole_power f.k_base q.k)))
      (fraction_product (of_whole (poly_value (level 2).ops.unit q)) (fraction_product (carrier_ups q) (fraction_product (carrier_downs q) (carrier_overs q))))

  all : Splits order
      (λ j. fraction_product (fraction_product f.scale (fraction_product (whole_power f.n_base (p.n +ℤ pos j)) (whole_power f.k_base p.k)))
      (fraction_product (of_whole (poly_value f.poly (later_n p (pos j)))) (fraction_product (ups j) (fraction_product (downs j) (overs j)))))
      (λ j. top_number f order j *ℤ (poly_value (poly_at_later_n f.poly j) p *ℤ (forms_value (from_each (above_least order j) f.up) p
      *ℤ (forms_value (from_each (below_greatest order j) f.down) p *ℤ forms_value (from_each (counted_but order j) f.over) p))))
      (carrier_fields p) (carrier_fields (later_k p (pos 1)))
      (f.k_base.bottom *ℤ (pos 1 *ℤ (forms_value (from_each (falling_up order) f.up) (later_k p (negsuc 0))
      *ℤ (forms_value (from_each (rising_down order) f.down) (later_k p (negsuc 0)) *ℤ forms_value (from_each (later_over order) f.over) (later_k p (negsuc 0))))))
      (f.k_base.top *ℤ (pos 1 *ℤ (forms_value (from_each (rising_up order) f.up) p
      *ℤ (forms_value (from_each (falling_down order) f.down) p *ℤ forms_value (from_each (cleared_over order) f.over) p))))
  all =
      splits_product order _ _ _ _ _ _ _ _ _ _ _ _ (number_splits f order p parts)
      (splits_product order _ _ _ _ _ _ _ _ _ _ _ _ (poly_splits f order p parts)
      (splits_product order _ _ _ _ _ _ _ _ _ _ _ _ (up_splits order p f.up first_negative (defined order (omega arith)).up)
      (splits_product order _ _ _ _ _ _ _ _ _ _ _ _ (down_splits order p f.down) (over_lists order p f.over (λ j l. (defined j l).over)))))

  -- the value of the carrier, at k and at k + 1
  carrier_is : (q : Point) → proper_value (carrier_of f order) q ≡ carrier_fields q
  carrier_is q =
      ap (λ w. fraction_product (carrier_of f order).scale (fraction_product (of_whole (poly_value (level 2).ops.unit q))
      (fraction_product (whole_power f.n_base q.n) (fraction_product (whole_power f.k_base q.k)
      (fraction_product (carrier_ups q) (fraction_product (carrier_downs q) w))))))
      (gathered_value [] (from_each (kept_over order) f.over) q ∙ one_product (carrier_overs q))
      ∙ sym (regrouped (carrier_of f order).scale (of_whole (poly_value (level 2).ops.unit q)) (whole_power f.n_base q.n) (whole_power f.k_base q.k)
      (fraction_product (carrier_ups q) (fraction_product (carrier_downs q) (carrier_overs q))))

  one_out : (y a b c : ℤ) → y *ℤ (pos 1 *ℤ (a *ℤ (b *ℤ c))) ≡ y *ℤ (a *ℤ (b *ℤ c))
  one_out y a b c = ring_z (y ∷ a ∷ b ∷ c ∷ []) (search reading_z depth 40 fits 20000) refl

  poly_first : (t y a b c : ℤ) → t *ℤ (y *ℤ (a *ℤ (b *ℤ c))) ≡ y *ℤ (t *ℤ (a *ℤ (b *ℤ c)))
  poly_first t y a b c = ring_z (t ∷ y ∷ a ∷ b ∷ c ∷ []) (search reading_z depth 40 fits 20000) refl

  pub pieces_share : (pieces : Pieces) → ArePiecesOf pieces f order → ShareValue f pieces order p
  pieces_share pieces are = record {
    common = all.common;
    tops = λ j l.
        let a = from_each (above_least order j) f.up in
        let b = from_each (below_greatest order j) f.down in
        let c = from_each (counted_but order j) f.over in
        let numbers = poly_first (top_number f order j) (poly_value (poly_at_later_n f.poly j) p) (forms_value a p) (forms_value b p) (forms_value c p)
        ∙ ap (λ t. poly_value (poly_at_later_n f.poly j) p *ℤ (top_number f order j *ℤ t)) (sym (three_joined a b c p))
        ∙ ap (λ t. poly_value (poly_at_later_n f.poly j) p *ℤ t) (sym (product_value p (top_at pieces j).factors (top_number f order j) (top_forms f order j) (are.factors j l)))
        ∙ ap (λ poly. poly_value poly p *ℤ factor_list_value (top_at pieces j).factors p) (sym (are.poly j l)) in
        subst (λ z. proper_value f (later_n p (pos j)) ≈ times_common z all.common) numbers
        (subst (λ z. z ≈ times_common (top_number f order j *ℤ (poly_value (poly_at_later_n f.poly j) p *ℤ (forms_value a p *ℤ (forms_value b p *ℤ forms_value c p)))) all.common)
        (regrouped f.scale (of_whole (poly_value f.poly (later_n p (pos j)))) (whole_power f.n_base (p.n +ℤ pos j)) (whole_power f.k_base p.k)
        (fraction_product (ups j) (fraction_product (downs j) (overs j)))) (all.tops j l));
    carrier_here =
        let a = from_each (falling_up order) f.up in
        let b = from_each (rising_down order) f.down in
        let c = from_each (later_over order) f.over in
        let numbers = one_out f.k_base.bottom (forms_value a (later_k p (negsuc 0))) (forms_value b (later_k p (negsuc 0))) (forms_value c (later_k p (negsuc 0)))
        ∙ ap (λ t. f.k_base.bottom *ℤ t) (sym (three_joined a b c (later_k p (negsuc 0))))
        ∙ sym (product_value (later_k p (negsuc 0)) pieces.r0 f.k_base.bottom (r_forms f order) are.r0) in
        subst (λ z. z ≈ times_common (factor_list_value pieces.r0 (later_k p (negsuc 0))) all.common)
        (sym (ap (λ g. proper_value g p) are.carrier ∙ carrier_is p))
        (subst (λ z. carrier_fields p ≈ times_common z all.common) numbers all.carrier_here);
    carrier_next =
        let a = from_each (rising_up order) f.up in
        let b = from_each (falling_down order) f.down in
        let c = from_each (cleared_over order) f.over in
        let numbers = one_out f.k_base.top (forms_value a p) (forms_value b p) (forms_value c p)
        ∙ ap (λ t. f.k_base.top *ℤ t) (sym (three_joined a b c p))
        ∙ sym (product_value p pieces.q0 f.k_base.top (q_forms f order) are.q0) in
        subst (λ z. z ≈ times_common (factor_list_value pieces.q0 p) all.common)
        (sym (ap (λ g. proper_value g (later_k p (pos 1))) are.carrier ∙ carrier_is (later_k p (pos 1))))
        (subst (λ z. carrier_fields (later_k p (pos 1)) ≈ times_common z all.common) numbers all.carrier_next);
    defined_here = subst (λ c. IsDefinedAt c p) (sym are.carrier) (defined_here f order p defined);
    defined_next = subst (λ c. IsDefinedAt c (later_k p (pos 1))) (sym are.carrier) (defined_next f order p defined);
  }
