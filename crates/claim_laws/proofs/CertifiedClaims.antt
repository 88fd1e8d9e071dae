-- A claim that goes with the pieces of a term telescopes the term.
use Rattle.std.proofs.Common.{◌≡◌, ℕ, suc, ◌≤◌, length, sym, ◌∙◌, subst, arith}
use Rattle.std.proofs.lemmas.Int.{ints}
use Rattle.std.specs.Prelude.{ℤ, pos, ◌+ℤ◌}
use Rattle.hypergeometric.specs.Point.{Point, later_n}
use Rattle.hypergeometric.specs.Fraction.{Fraction, IsDefined, ◌≈◌}
use Rattle.hypergeometric.specs.ProperTerm.{ProperTerm, IsNonzero, HasFractions}
use Rattle.hypergeometric.specs.TermFacts.{IsLowest, IsProper}
use Rattle.hypergeometric.specs.Claim.{Claim, left_side, shifted_sum, AllDefined}
use Rattle.hypergeometric.specs.Telescopes.{Telescopes, TelescopesAtPoints, HasRatio}
use Rattle.hypergeometric.specs.TermValue.{HasValue}
use Rattle.hypergeometric.proofs.RangeSums.{ranges_from_points}
use Rattle.term_pieces.specs.Pieces.{Pieces, ArePiecesOf, top_at}
use Rattle.term_pieces.specs.PieceValues.{top_value}
use Rattle.term_pieces.proofs.Splits.{times_common}
use Rattle.term_pieces.proofs.CarrierDefined.{carrier_fractions}
use Rattle.claim_laws.specs.Identity.{sum_of_tops}
use Rattle.claim_laws.specs.Certified.{HasPieces, IsCertified}
use Rattle.claim_laws.proofs.IdentityValues.{sum_of_multiples, tops_are, IdentityAt, identity_at}
use Rattle.claim_laws.proofs.Multiples.{multiples_add_up, each_defined}
use Rattle.claim_laws.proofs.SharedMultiples.{common, common_defined, term_multiple, carrier_here, carrier_next, difference_of_certificates, ratio_holds}

nonzero : {f : Fraction} → IsLowest f → IsNonzero f
nonzero {f} h = record { top = h.not_zero; bottom = λ e. omega (arith, ints, e, h.positive) }

pub has_fractions : (f : ProperTerm) → IsProper f → HasFractions f
has_fractions f p = record { scale = nonzero p.scale; n_base = nonzero p.n_base; k_base = nonzero p.k_base }

module _ (f : ProperTerm) (value : Point → Fraction) (pieces : Pieces) (order : ℕ) (c : Claim)
    (parts : HasFractions f) (has : HasValue f value) (are : ArePiecesOf pieces f order) (goes : HasPieces c pieces)
    (count : length c.multipliers ≡ suc order) where
  -- F(n + j, k) is defined for each j up to the order
  defined_up_to : (p : Point) → AllDefined value c.multipliers p → (j : ℕ) → j ≤ order → IsDefined (value (later_n p (pos j)))
  defined_up_to p h j l = each_defined value c.multipliers p h j (omega (arith, l, count))

  -- the left side is a multiple of the one value
  left_multiple : (p : Point) (h : AllDefined value c.multipliers p)
      → left_side value c p
      ≈ times_common (sum_of_multiples (λ j. top_value (top_at pieces j) p) c.multipliers p 0)
      (common f value pieces order c parts has are goes p (defined_up_to p h))
  left_multiple p h =
      let place : p.n +ℤ pos 0 ≡ p.n = omega (arith, ints) in
      let defined = defined_up_to p h in
      let one = common f value pieces order c parts has are goes p defined in
      subst (λ m. shifted_sum value c.multipliers p (record p { n = m })
      ≈ times_common (sum_of_multiples (λ j. top_value (top_at pieces j) p) c.multipliers p 0) one) place
      (multiples_add_up value (λ j. top_value (top_at pieces j) p) one p
      (common_defined f value pieces order c parts has are goes p defined) c.multipliers 0
      (λ i l u. term_multiple f value pieces order c parts has are goes p defined i (omega (arith, u, count))))

  module _ (identity : (p : Point) → IdentityAt p pieces c (sum_of_multiples (λ j. top_value (top_at pieces j) p) c.multipliers p 0)) where
    points_hold : TelescopesAtPoints value c
    points_hold p h here next =
        let defined = defined_up_to p h in
        record {
          carrier_here = carrier_here f value pieces order c parts has are goes p defined;
          carrier_next = carrier_next f value pieces order c parts has are goes p defined;
          equal = difference_of_certificates f value pieces order c parts has are goes p defined
              (sum_of_multiples (λ j. top_value (top_at pieces j) p) c.multipliers p 0) (left_side value c p) (identity p) here next
              (left_multiple p h);
        }

    ratio_at_points : HasRatio value f.poly c
    ratio_at_points p h carrier off = ratio_holds f value pieces order c parts has are goes p (defined_up_to p h) off

    pub claim_telescopes : Telescopes value f.poly c
    claim_telescopes = record {
      points = points_hold;
      ranges = ranges_from_points value c (subst HasFractions (sym (goes.carrier ∙ are.carrier)) (carrier_fractions f order parts)) points_hold;
      ratio = ratio_at_points;
    }

pub certified_telescopes : (f : ProperTerm) (value : Point → Fraction) (pieces : Pieces) (order : ℕ) (c : Claim) → IsProper f → HasValue f value
    → ArePiecesOf pieces f order → IsCertified c pieces order → Telescopes value f.poly c
certified_telescopes f value pieces order c proper has are certified =
    claim_telescopes f value pieces order c (has_fractions f proper) has are certified.goes_with certified.count
    (λ p. subst (λ s. IdentityAt p pieces c s) (tops_are p (top_at pieces) c.multipliers 0)
    (identity_at p pieces c (sum_of_tops (top_at pieces) c.multipliers 0) certified.identity))
