-- What has the value of a term, and the certificate G of a claim with the term's pieces, are multiples of one value wherever F(n,k), .., F(n+J,k)
-- are defined.
use Rattle.std.proofs.Common.{◌≡◌, ◌≢◌, ℕ, ◌≤◌, ap, sym, ◌∙◌, subst, arith}
use Rattle.std.proofs.lemmas.Int.{ints}
use Rattle.std.specs.Prelude.{ℤ, pos, negsuc, ◌+ℤ◌, ◌-ℤ◌, ◌*ℤ◌}
use Rattle.hypergeometric.specs.Point.{Point, later_n, later_k}
use Rattle.hypergeometric.specs.Fraction.{Fraction, IsDefined, ◌≈◌, of_whole, fraction_difference, fraction_product}
use Rattle.hypergeometric.specs.LinearForm.{factor_list_value}
use Rattle.hypergeometric.specs.ProperTerm.{ProperTerm, HasFractions, IsDefinedAt, proper_value, poly_value}
use Rattle.hypergeometric.specs.Claim.{Claim, poles_value, certificate}
use Rattle.hypergeometric.specs.TermValue.{HasValue}
use Rattle.hypergeometric.proofs.FractionLaws.{one_not_zero, equal_to_itself, equal_symmetric, equal_chain, equal_products}
use Rattle.hypergeometric.proofs.FractionPowers.{fraction_with}
use Rattle.hypergeometric.proofs.SameValues.{times_zero}
use Rattle.term_pieces.specs.Pieces.{Pieces, ArePiecesOf, top_at}
use Rattle.term_pieces.specs.PieceValues.{top_value, ShareValue}
use Rattle.term_pieces.proofs.SharedValues.{pieces_share}
use Rattle.term_pieces.proofs.NumberSplits.{later_poly_value}
use Rattle.term_pieces.proofs.Splits.{times_common}
use Rattle.term_pieces.proofs.CarrierDefined.{defined_here, defined_next}
use Rattle.claim_laws.specs.Certified.{HasPieces}
use Rattle.claim_laws.proofs.IdentityValues.{IdentityAt, list_later}
use Rattle.claim_laws.proofs.Multiples.{equal_differences, difference_of_multiples, ratio_of_multiples}

module _ (f : ProperTerm) (value : Point → Fraction) (pieces : Pieces) (order : ℕ) (c : Claim)
    (parts : HasFractions f) (has : HasValue f value) (are : ArePiecesOf pieces f order) (goes : HasPieces c pieces)
    (p : Point) (defined : (j : ℕ) → j ≤ order → IsDefined (value (later_n p (pos j)))) where
  term_defined : (j : ℕ) → j ≤ order → IsDefinedAt f (later_n p (pos j))
  term_defined j l = (has.defined (later_n p (pos j))).1 (defined j l)

  pub share : ShareValue f pieces order p
  share = pieces_share f order p parts term_defined pieces are

  -- the one value
  abbrev pub common : Fraction
  common = share.common

  pub common_defined : IsDefined common
  common_defined z = (share.tops 0 (omega arith)).right_defined (ap (λ b. pos 1 *ℤ b) z ∙ times_zero (pos 1))

  pub term_multiple : (j : ℕ) → j ≤ order → value (later_n p (pos j)) ≈ times_common (top_value (top_at pieces j) p) common
  term_multiple j l = equal_chain (equal_symmetric (has.equal (later_n p (pos j)) (term_defined j l))) (share.tops j l)

  pub carrier_here : IsDefinedAt c.carrier p
  carrier_here = subst (λ g. IsDefinedAt g p) (sym (goes.carrier ∙ are.carrier)) (defined_here f order p term_defined)

  pub carrier_next : IsDefinedAt c.carrier (later_k p (pos 1))
  carrier_next = subst (λ g. IsDefinedAt g (later_k p (pos 1))) (sym (goes.carrier ∙ are.carrier)) (defined_next f order p term_defined)

  -- G at k and at k + 1
  pub certificate_here : poles_value c p ≢ pos 0
      → certificate c p
      ≈ fraction_product (times_common (factor_list_value pieces.r0 (later_k p (negsuc 0))) common) (fraction_with (poly_value c.y p) (poles_value c p))
  certificate_here off = equal_products
      (subst (λ g. proper_value g p ≈ times_common (factor_list_value pieces.r0 (later_k p (negsuc 0))) common) (sym goes.carrier) share.carrier_here)
      (equal_to_itself (fraction_with (poly_value c.y p) (poles_value c p)) off)

  pub certificate_next : poles_value c (later_k p (pos 1)) ≢ pos 0
      → certificate c (later_k p (pos 1))
      ≈ fraction_product (times_common (factor_list_value pieces.q0 p) common)
      (fraction_with (poly_value c.y (later_k p (pos 1))) (poles_value c (later_k p (pos 1))))
  certificate_next off = equal_products
      (subst (λ g. proper_value g (later_k p (pos 1)) ≈ times_common (factor_list_value pieces.q0 p) common) (sym goes.carrier) share.carrier_next)
      (equal_to_itself (fraction_with (poly_value c.y (later_k p (pos 1))) (poles_value c (later_k p (pos 1)))) off)

  -- what is s times the one value is G(n, k + 1) - G(n, k)
  pub difference_of_certificates : (s : ℤ) (left : Fraction) → IdentityAt p pieces c s → poles_value c p ≢ pos 0
      → poles_value c (later_k p (pos 1)) ≢ pos 0 → left ≈ times_common s common
      → left ≈ fraction_difference (certificate c (later_k p (pos 1))) (certificate c p)
  difference_of_certificates s left identity here next is =
      equal_chain is (equal_chain
      (difference_of_multiples common (factor_list_value pieces.q0 p) (factor_list_value pieces.r0 (later_k p (negsuc 0))) s (poly_value c.y p)
      (poly_value c.y (later_k p (pos 1))) (poles_value c p) (poles_value c (later_k p (pos 1))) common_defined here next identity)
      (equal_differences (equal_symmetric (certificate_next next)) (equal_symmetric (certificate_here here))))

  place : p.n +ℤ pos 0 ≡ p.n
  place = omega (arith, ints)

  first_multiple : value p ≈ times_common (top_value (top_at pieces 0) p) common
  first_multiple = subst (λ m. value (record p { n = m }) ≈ times_common (top_value (top_at pieces 0) p) common) place (term_multiple 0 (omega arith))

  -- the numbers that the ratio names, by the pieces
  bottom_is : factor_list_value (top_at pieces 0).factors p ≡ factor_list_value c.ratio_bottom p
  bottom_is = ap (λ l. factor_list_value l p) (sym goes.ratio_bottom)

  top_is : factor_list_value pieces.r0 (later_k p (negsuc 0)) ≡ factor_list_value c.ratio_top p
  top_is = sym (ap (λ l. factor_list_value l p) goes.ratio_top ∙ list_later pieces.r0 (negsuc 0) p)

  poly_is : poly_value (top_at pieces 0).poly p ≡ poly_value f.poly p
  poly_is = ap (λ e. poly_value e p) (are.poly 0 (omega arith)) ∙ later_poly_value f.poly 0 p ∙ ap (λ m. poly_value f.poly (record p { n = m })) place

  -- G Rbot P D = F Rtop Y
  pub ratio_holds : poles_value c p ≢ pos 0
      → fraction_product (certificate c p) (of_whole (factor_list_value c.ratio_bottom p *ℤ poly_value f.poly p *ℤ poles_value c p))
      ≈ fraction_product (value p) (of_whole (factor_list_value c.ratio_top p *ℤ poly_value c.y p))
  ratio_holds off =
      let r = factor_list_value pieces.r0 (later_k p (negsuc 0)) in
      let e = poly_value (top_at pieces 0).poly p in
      let b = factor_list_value (top_at pieces 0).factors p in
      let by_pieces = equal_chain (equal_products (certificate_here off) (equal_to_itself (of_whole (b *ℤ e *ℤ poles_value c p)) one_not_zero))
      (equal_chain (ratio_of_multiples common r e b (poly_value c.y p) (poles_value c p) common_defined off)
      (equal_products (equal_symmetric first_multiple) (equal_to_itself (of_whole (r *ℤ poly_value c.y p)) one_not_zero))) in
      subst (λ z. fraction_product (certificate c p) (of_whole (factor_list_value c.ratio_bottom p *ℤ poly_value f.poly p *ℤ poles_value c p))
      ≈ fraction_product (value p) (of_whole (z *ℤ poly_value c.y p))) top_is
      (subst (λ z. fraction_product (certificate c p) (of_whole (factor_list_value c.ratio_bottom p *ℤ z *ℤ poles_value c p))
      ≈ fraction_product (value p) (of_whole (r *ℤ poly_value c.y p))) poly_is
      (subst (λ z. fraction_product (certificate c p) (of_whole (z *ℤ e *ℤ poles_value c p))
      ≈ fraction_product (value p) (of_whole (r *ℤ poly_value c.y p))) bottom_is by_pieces))
