-- The claim of a pair is a recurrence of order 1 with the multipliers -a and a, so it telescopes, and its natural sums vanish.
use Rattle.std.proofs.Common.{◌≡◌, ℕ, zero, suc, ◌<◌, [], ◌∷◌, Some, refl, ap, sym, ◌∙◌, subst, arith}
use Rattle.std.proofs.lemmas.Int.{ints}
use Rattle.std.specs.Prelude.{ℤ, pos, neg_ℤ, ◌+ℤ◌, ◌*ℤ◌, ◌≤ℤ◌}
use Rattle.ring_solver.proofs.Read.{ring_z, reading_z}
use Rattle.ring_laws.specs.Meaning.{Meaning}
use Rattle.poly_laws.specs.Values.{level}
use Rattle.poly_laws.proofs.Keeps.{value_at_keeps}
use Rattle.division_laws.specs.Polynomials.{constant}
use Rattle.hypergeometric.specs.Point.{Point, values_in_n, later_n, later_k}
use Rattle.hypergeometric.specs.Fraction.{Fraction, ◌≈◌, of_whole, fraction_sum, fraction_difference, fraction_product}
use Rattle.hypergeometric.specs.LinearForm.{LinearForm}
use Rattle.hypergeometric.specs.ProperTerm.{ProperTerm, value_in_n}
use Rattle.hypergeometric.specs.TermFacts.{IsProper}
use Rattle.hypergeometric.specs.Claim.{Claim, left_side, certificate}
use Rattle.hypergeometric.specs.Telescopes.{Telescopes, sum_over_range, between_ends}
use Rattle.hypergeometric.specs.TermValue.{HasValue}
use Rattle.hypergeometric.specs.NaturalRange.{natural_range}
use Rattle.hypergeometric.proofs.FractionPowers.{fraction_same}
use Rattle.term_pieces.specs.Pieces.{Pieces, ArePiecesOf, top_at}
use Rattle.term_pieces.specs.PieceValues.{top_value}
use Rattle.term_pieces.specs.Tops.{top_polynomial}
use Rattle.claim_laws.specs.Identity.{poly_difference}
use Rattle.claim_laws.specs.Certified.{HasPieces}
use Rattle.claim_laws.proofs.CertifiedClaims.{has_fractions, claim_telescopes}
use Rattle.claim_laws.proofs.IdentityValues.{sum_of_multiples, product_of, difference_of, constant_is, top_is, IdentityAt, identity_at}
use Rattle.sum_laws.specs.NaturalSums.{Ends, ends_of, natural_sum}
use Rattle.sum_laws.proofs.NaturalClaims.{natural_sums_vanish}
use Rattle.sum_laws.proofs.NaturalEnds.{GiveEnds}
use Rattle.sum_laws.proofs.NaturalRanges.{natural_ends}
use Rattle.pair_laws.specs.CertifiedPairs.{pair_of_tops, IsCertifiedPair}
use Rattle.pair_laws.specs.Pairs.{pair_side, IsPair, PairSumsVanish}

-- the recurrence -a Q(n,k) + a Q(n+1,k)
abbrev pub pair_recurrence : Meaning → Claim → Claim
pair_recurrence a c = record c { multipliers = (level 1).ops.neg a ∷ a ∷ [] }

negated : (a : Meaning) (p : Point) → value_in_n ((level 1).ops.neg a) p ≡ neg_ℤ (value_in_n a p)
negated a p = (value_at_keeps (values_in_n p)).neg a

-- x (g - f) is -x f + (x g + 0)
times_difference : (x : ℤ) (f g : Fraction)
    → fraction_product (of_whole x) (fraction_difference g f)
    ≡ fraction_sum (fraction_product (of_whole (neg_ℤ x)) f) (fraction_sum (fraction_product (of_whole x) g) (of_whole (pos 0)))
times_difference x f g = fraction_same (tops x f.top f.bottom g.top g.bottom) (bottoms f.bottom g.bottom)
  where
    tops : (x a b c d : ℤ)
        → x *ℤ (c *ℤ b +ℤ neg_ℤ a *ℤ d) ≡ (neg_ℤ x *ℤ a) *ℤ ((pos 1 *ℤ d) *ℤ pos 1) +ℤ ((x *ℤ c) *ℤ pos 1 +ℤ pos 0 *ℤ (pos 1 *ℤ d)) *ℤ (pos 1 *ℤ b)
    tops x a b c d = ring_z (x ∷ a ∷ b ∷ c ∷ d ∷ []) (search reading_z depth 40 fits 20000) refl

    bottoms : (b d : ℤ) → pos 1 *ℤ (d *ℤ b) ≡ (pos 1 *ℤ b) *ℤ ((pos 1 *ℤ d) *ℤ pos 1)
    bottoms b d = ring_z (b ∷ d ∷ []) (search reading_z depth 40 fits 20000) refl

-- the two left sides are the same
same_side : (value : Point → Fraction) (a : Meaning) (c : Claim) (p : Point) → left_side value (pair_recurrence a c) p ≡ pair_side value a p
same_side value a c p =
    ap (λ x. fraction_sum (fraction_product (of_whole x) (value p))
    (fraction_sum (fraction_product (of_whole (value_in_n a p)) (value (later_n p (pos 1)))) (of_whole (pos 0)))) (negated a p)
    ∙ sym (times_difference (value_in_n a p) (value p) (value (later_n p (pos 1))))

-- a (p_1 - p_0) is -a p_0 + (a p_1 + 0)
numbers_are : (top : ℕ → ℤ) (a : Meaning) (p : Point)
    → value_in_n a p *ℤ (top 1 +ℤ neg_ℤ (top 0)) ≡ sum_of_multiples top ((level 1).ops.neg a ∷ a ∷ []) p 0
numbers_are top a p =
    spread (value_in_n a p) (top 0) (top 1) ∙ ap (λ z. z *ℤ top 0 +ℤ (value_in_n a p *ℤ top 1 +ℤ pos 0)) (sym (negated a p))
  where
    spread : (x t u : ℤ) → x *ℤ (u +ℤ neg_ℤ t) ≡ neg_ℤ x *ℤ t +ℤ (x *ℤ u +ℤ pos 0)
    spread x t u = ring_z (x ∷ t ∷ u ∷ []) (search reading_z depth 40 fits 20000) refl

module _ (f : ProperTerm) (value : Point → Fraction) (pieces : Pieces) (a : Meaning) (c : Claim)
    (proper : IsProper f) (has : HasValue f value) (are : ArePiecesOf pieces f 1) (certified : IsCertifiedPair c a pieces) where
  goes : HasPieces (pair_recurrence a c) pieces
  goes = record {
    carrier = certified.goes_with.carrier;
    ratio_top = certified.goes_with.ratio_top;
    ratio_bottom = certified.goes_with.ratio_bottom;
  }

  identity : (p : Point) → IdentityAt p pieces (pair_recurrence a c)
      (sum_of_multiples (λ j. top_value (top_at pieces j) p) ((level 1).ops.neg a ∷ a ∷ []) p 0)
  identity p =
      let p0 = top_polynomial (top_at pieces 0) in
      let p1 = top_polynomial (top_at pieces 1) in
      subst (λ s. IdentityAt p pieces (pair_recurrence a c) s)
      (product_of p (constant (level 1).ops a) (poly_difference p1 p0) _ _ (constant_is p a)
      (difference_of p p1 p0 _ _ (top_is p (top_at pieces 1)) (top_is p (top_at pieces 0)))
      ∙ numbers_are (λ j. top_value (top_at pieces j) p) a p)
      (identity_at p pieces c (pair_of_tops (top_at pieces) a) certified.identity)

  recurrence_telescopes : Telescopes value f.poly (pair_recurrence a c)
  recurrence_telescopes = claim_telescopes f value pieces 1 (pair_recurrence a c) (has_fractions f proper) has are goes refl identity

  pub pair_telescopes : IsPair value f.poly a c
  pair_telescopes = record {
    points = λ p both here next.
        let at = recurrence_telescopes.points p (both.0, (both.1, tt)) here next in
        record {
          carrier_here = at.carrier_here;
          carrier_next = at.carrier_next;
          equal = subst (λ z. z ≈ fraction_difference (certificate c (later_k p (pos 1))) (certificate c p)) (same_side value a c p) at.equal;
        };
    ranges = λ p count both poles.
        subst (λ (g : Point → Fraction). sum_over_range g p count ≈ between_ends (certificate c) p count) (λ i q. same_side value a c q i)
        (recurrence_telescopes.ranges p count (λ i l. ((both i l).0, ((both i l).1, tt))) poles);
    ratio = λ p both carrier off. recurrence_telescopes.ratio p (both.0, (both.1, tt)) carrier off;
  }

  pub pair_sums_vanish : (ends : Ends) → GiveEnds f ends → PairSumsVanish value ends a c
  pair_sums_vanish ends give p lowest highest between both poles =
      subst (λ z. z ≈ of_whole (pos 0)) (same_side (natural_sum value ends) a c p)
      (natural_sums_vanish f value ends 1 (pair_recurrence a c) has give
      (certified.goes_with.carrier ∙ are.carrier) refl recurrence_telescopes.ranges p lowest highest each
      (record { defined = λ k l u. ((both k l u).0, ((both k l u).1, tt)); poles = poles }))
    where
      here : p.n +ℤ pos 0 ≡ p.n
      here = omega (arith, ints)

      each : (j : ℕ) → j < 2 → (lowest ≤ℤ ends.low (later_n p (pos j))) × (ends.high (later_n p (pos j)) ≤ℤ highest)
      each zero l = (
        subst (λ (m : ℤ). lowest ≤ℤ ends.low (record p { n = m })) (sym here) between.low_here,
        subst (λ (m : ℤ). ends.high (record p { n = m }) ≤ℤ highest) (sym here) between.high_here,
      )
      each (suc zero) l = (between.low_next, between.high_next)
      each (suc (suc j)) l = absurd (omega (arith, l))

  pub natural_sums_of_pair : (ends : LinearForm × LinearForm) → natural_range f.down ≡ Some ends → PairSumsVanish value (ends_of ends) a c
  natural_sums_of_pair ends e = pair_sums_vanish (ends_of ends) (natural_ends f ends proper.down.each e)
