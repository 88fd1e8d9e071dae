-- Pairs hold of every function that has the value of the term, and where there is none, none is.
use Rattle.std.proofs.Common.{◌≡◌, List, [], ◌∷◌, refl, ap, sym, ◌∙◌, subst}
use Rattle.std.specs.List.{AllByRecursion}
use Rattle.ring_laws.specs.Meaning.{Meaning}
use Rattle.poly_laws.specs.Values.{level}
use Rattle.key_laws.specs.KeyEquation.{InsolubleWith}
use Rattle.hypergeometric.specs.Point.{Point}
use Rattle.hypergeometric.specs.Fraction.{Fraction}
use Rattle.hypergeometric.specs.ProperTerm.{ProperTerm}
use Rattle.hypergeometric.specs.TermFacts.{IsProper}
use Rattle.hypergeometric.specs.Claim.{Claim}
use Rattle.hypergeometric.specs.TermValue.{HasValue}
use Rattle.term_pieces.specs.Pieces.{Pieces, ArePiecesOf}
use Rattle.term_pieces.specs.NormalForm.{Normal, IsNormalFormOf}
use Rattle.pole_laws.specs.Orders.{sides_of, IsInsolublePair, pair_top}
use Rattle.gosper_theorem.proofs.NoCertificate.{no_certificate}
use Rattle.claim_laws.proofs.CertifiedClaims.{has_fractions}
use Rattle.pair_laws.specs.CertifiedPairs.{IsCertifiedPair}
use Rattle.pair_laws.specs.Pairs.{IsPair}
use Rattle.pair_laws.proofs.PairClaims.{pair_telescopes, natural_sums_of_pair}
use Rattle.pair_laws.proofs.Companions.{pairs_have_companions}
use Rattle.solved_claims.proofs.Solutions.{solution_certified_pair}
use Rattle.right_claims.specs.Claims.{PrintedForm, printed, Range}
use Rattle.right_claims.specs.KeySolutions.{q_of, b_of}
use Rattle.right_claims.specs.Orders.{IsPairOrder, IsNoPairOrder}
use Rattle.right_claims.specs.Truth.{IsTruePair, IsTrueNoPair}
use Rattle.right_claims.proofs.LeftClaims.{y, multipliers, multipliers_listed, leaves}
use Rattle.right_claims.proofs.OnePieces.{one_normal, one_pair_top}
use Rattle.right_claims.proofs.OrderTruths.{solves, some_multiplier}

module _ (f : ProperTerm) (value : Point → Fraction) (proper : IsProper f) (has : HasValue f value) where
  pub pair_holds : (form : PrintedForm) (c : Claim) (range : Range) → IsPairOrder f form c range → (a : Meaning) → c.multipliers ≡ a ∷ []
      → IsTruePair f value c range a
  pair_holds form c range h a one = record {
    pair = is_pair;
    companion = pairs_have_companions value f.poly a c is_pair;
    sums = λ e is. natural_sums_of_pair f value h.pieces a c proper has h.setting.are_pieces certified e (sym h.range_is ∙ is);
    some = λ z. some_multiplier h.pieces h.normal (pair_top h.pieces) 1 c refl h.left_by
        (subst (AllByRecursion (λ b. b ≡ (level 1).ops.nought)) (sym one) (z, tt));
  }
    where
      first : (multipliers h.pieces h.normal (pair_top h.pieces) 1 c refl h.left_by 0).0 ≡ a
      first = ap (first_of) (sym (multipliers_listed h.pieces h.normal (pair_top h.pieces) 1 c refl h.left_by) ∙ one)
        where
          first_of : List Meaning → Meaning
          first_of [] = (level 1).ops.nought
          first_of (x ∷ xs) = x

      certified : IsCertifiedPair c a h.pieces
      certified = subst (λ b. IsCertifiedPair c b h.pieces) first
          (solution_certified_pair f h.pieces h.normal (y h.pieces h.normal (pair_top h.pieces) 1 c refl h.left_by)
          (multipliers h.pieces h.normal (pair_top h.pieces) 1 c refl h.left_by) c proper h.setting.are_pieces
          (solves f 1 h.pieces h.normal form (pair_top h.pieces) 1 c refl h.setting h.left_by)
          (leaves h.pieces h.normal (pair_top h.pieces) 1 c refl h.left_by f 1 h.setting.are_pieces h.setting.is_normal) h.left_by.goes_with
          (multipliers_listed h.pieces h.normal (pair_top h.pieces) 1 c refl h.left_by))

      is_pair : IsPair value f.poly a c
      is_pair = pair_telescopes f value h.pieces a c proper has h.setting.are_pieces certified

  pub no_pair_holds : (form : PrintedForm) → IsNoPairOrder f form → (pieces : Pieces) (normal : Normal) → ArePiecesOf pieces f 1
      → IsNormalFormOf normal pieces.q0 pieces.r0 → IsTrueNoPair form pieces normal
  no_pair_holds form h pieces normal are is = record {
    own_form = h.setting.form_is ∙ ap printed same;
    insoluble = none;
    no_certificate = λ tops e multipliers u w certificate some j.
        no_certificate f pieces 1 (has_fractions f proper) are normal is tops
        (subst (λ ts. InsolubleWith (level 1) (q_of normal) (b_of normal) (sides_of normal ts)) (sym e) none) multipliers u w certificate some j;
  }
    where
      same : h.normal ≡ normal
      same = one_normal f 1 h.pieces pieces h.setting.are_pieces are h.normal normal h.setting.is_normal is

      none : IsInsolublePair pieces normal
      none = subst (λ n. IsInsolublePair pieces n) same
          (subst (λ ts. InsolubleWith (level 1) (q_of h.normal) (b_of h.normal) (sides_of h.normal ts))
          (one_pair_top f h.pieces pieces h.setting.are_pieces are) h.insoluble)
