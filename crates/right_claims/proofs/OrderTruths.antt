-- Found and empty orders hold of every function that has the value of the term.
use Rattle.std.proofs.Common.{◌≡◌, ℕ, zero, suc, ◌-◌, ◌<◌, List, length, ap, sym, ◌∙◌, subst, arith}
use Rattle.std.specs.List.{AllByRecursion}
use Rattle.std.proofs.lemmas.List.{length-map}
use Rattle.ring_laws.specs.Meaning.{Meaning}
use Rattle.poly_laws.specs.Values.{level}
use Rattle.kernel_laws.specs.Answers.{meant}
use Rattle.key_laws.specs.KeyEquation.{InsolubleWith}
use Rattle.key_laws.specs.DegreeBounds.{coefficient_count}
use Rattle.key_laws.specs.KeyRows.{listing}
use Rattle.hypergeometric.specs.Point.{Point}
use Rattle.hypergeometric.specs.Fraction.{Fraction}
use Rattle.hypergeometric.specs.ProperTerm.{ProperTerm}
use Rattle.hypergeometric.specs.TermFacts.{IsProper}
use Rattle.hypergeometric.specs.Claim.{Claim}
use Rattle.hypergeometric.specs.TermValue.{HasValue}
use Rattle.hypergeometric.specs.Products.{list_polynomial}
use Rattle.term_pieces.specs.Pieces.{Pieces, ArePiecesOf, top_at}
use Rattle.term_pieces.specs.NormalForm.{Normal, IsNormalFormOf}
use Rattle.term_pieces.specs.Tops.{top_polynomial}
use Rattle.pole_laws.specs.Orders.{sides_of, tops_of, IsInsolubleOrder}
use Rattle.gosper_theorem.proofs.NoCertificate.{no_certificate}
use Rattle.claim_laws.specs.Certified.{IsCertified}
use Rattle.claim_laws.proofs.CertifiedClaims.{has_fractions, certified_telescopes}
use Rattle.sum_laws.proofs.NaturalRanges.{certified_sums_vanish}
use Rattle.solved_claims.specs.SolvedClaims.{Solves}
use Rattle.solved_claims.proofs.Solutions.{solution_certified}
use Rattle.right_claims.specs.Claims.{PrintedForm, printed, Range}
use Rattle.right_claims.specs.KeySolutions.{q_of, b_of}
use Rattle.right_claims.specs.Orders.{IsSetting, IsLeftBy, IsFoundOrder, IsEmptyOrder}
use Rattle.right_claims.specs.Truth.{HasNonzero, IsTrueFound, IsTrueEmpty}
use Rattle.right_claims.proofs.LeftClaims.{y, multipliers, least, multipliers_listed, leaves}
use Rattle.right_claims.proofs.Listings.{listing_length}
use Rattle.right_claims.proofs.OnePieces.{one_tops, one_normal}

-- the pieces and the normal form solve what the chosen vector solves
pub solves : (f : ProperTerm) (order : ℕ) (pieces : Pieces) (normal : Normal) (form : PrintedForm) (tops : List Meaning) (count : ℕ) (c : Claim)
    (size : length tops ≡ count) → IsSetting f order pieces normal form → (h : IsLeftBy pieces normal tops count c)
    → Solves pieces normal tops (y pieces normal tops count c size h) (multipliers pieces normal tops count c size h)
solves f order pieces normal form tops count c size s h =
    record { normal_form = s.is_normal; equation = (least pieces normal tops count c size h).solves }

-- one of a list of values
each_listed : (n : ℕ) (g : ℕ → Meaning) → AllByRecursion (λ a. a ≡ (level 1).ops.nought) (listing n g) → (j : ℕ) → j < n
    → g j ≡ (level 1).ops.nought
each_listed zero g all j l = absurd (omega (arith, l))
each_listed (suc n) g all zero l = all.0
each_listed (suc n) g all (suc j) l = each_listed n (λ i. g (suc i)) all.1 j (omega (arith, l))

-- some multiplier isn't zero
pub some_multiplier : (pieces : Pieces) (normal : Normal) (tops : List Meaning) (count : ℕ) (c : Claim) → length tops ≡ count
    → IsLeftBy pieces normal tops count c → HasNonzero c.multipliers
some_multiplier pieces normal tops count c size h all =
    let ends = (least pieces normal tops count c size h).ends in
    ends.here (each_listed count (meant (level 1) (multipliers pieces normal tops count c size h))
    (subst (AllByRecursion (λ a. a ≡ (level 1).ops.nought)) (multipliers_listed pieces normal tops count c size h) all)
    (h.free - coefficient_count h.bound) (omega (arith, ends.within, size, length-map tops ((level 2).ops.product (list_polynomial normal.g)))))

module _ (f : ProperTerm) (value : Point → Fraction) (proper : IsProper f) (has : HasValue f value) where
  pub found_holds : (order : ℕ) (form : PrintedForm) (c : Claim) (range : Range) → IsFoundOrder f order form c range → IsTrueFound f value c range
  found_holds order form c range h = record {
    telescopes = certified_telescopes f value h.pieces order c proper has h.setting.are_pieces certified;
    sums = λ e is. certified_sums_vanish f value h.pieces order c e proper has h.setting.are_pieces certified (sym h.range_is ∙ is);
    some = some_multiplier h.pieces h.normal (tops_of h.pieces order) (suc order) c size h.left_by;
  }
    where
      size : length (tops_of h.pieces order) ≡ suc order
      size = listing_length (suc order) (λ j. top_polynomial (top_at h.pieces j))

      certified : IsCertified c h.pieces order
      certified = solution_certified f h.pieces order h.normal (y h.pieces h.normal (tops_of h.pieces order) (suc order) c size h.left_by)
          (multipliers h.pieces h.normal (tops_of h.pieces order) (suc order) c size h.left_by) c proper h.setting.are_pieces
          (solves f order h.pieces h.normal form (tops_of h.pieces order) (suc order) c size h.setting h.left_by)
          (leaves h.pieces h.normal (tops_of h.pieces order) (suc order) c size h.left_by f order h.setting.are_pieces h.setting.is_normal)
          h.left_by.goes_with (multipliers_listed h.pieces h.normal (tops_of h.pieces order) (suc order) c size h.left_by)

  pub empty_holds : (order : ℕ) (form : PrintedForm) → IsEmptyOrder f order form → (pieces : Pieces) (normal : Normal) → ArePiecesOf pieces f order
      → IsNormalFormOf normal pieces.q0 pieces.r0 → IsTrueEmpty f order form pieces normal
  empty_holds order form h pieces normal are is = record {
    own_form = h.setting.form_is ∙ ap printed same;
    insoluble = none;
    no_certificate = λ tops e multipliers u w certificate some j.
        no_certificate f pieces order (has_fractions f proper) are normal is tops
        (subst (λ ts. InsolubleWith (level 1) (q_of normal) (b_of normal) (sides_of normal ts)) (sym e) none) multipliers u w certificate some j;
  }
    where
      same : h.normal ≡ normal
      same = one_normal f order h.pieces pieces h.setting.are_pieces are h.normal normal h.setting.is_normal is

      none : IsInsolubleOrder pieces normal order
      none = subst (λ n. IsInsolubleOrder pieces n order) same
          (subst (λ ts. InsolubleWith (level 1) (q_of h.normal) (b_of h.normal) (sides_of h.normal ts))
          (one_tops f order h.pieces pieces h.setting.are_pieces are) h.insoluble)
