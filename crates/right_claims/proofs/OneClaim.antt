-- What is right to say of a term at an order, or of its pairs, is one claim only.
use Rattle.std.proofs.Common.{◌≡◌, ℕ, suc, List, refl, ap, sym, ◌∙◌, subst, arith}
use Rattle.std.specs.Prelude.{negsuc}
use Rattle.ring_laws.specs.Meaning.{Meaning}
use Rattle.poly_laws.specs.Values.{level}
use Rattle.key_laws.specs.KeyRows.{listing}
use Rattle.key_laws.specs.KeyEquation.{InsolubleWith}
use Rattle.hypergeometric.specs.ProperTerm.{ProperTerm}
use Rattle.hypergeometric.specs.Claim.{Claim}
use Rattle.term_pieces.specs.Tops.{top_polynomial}
use Rattle.term_pieces.specs.Pieces.{Top, Pieces, top_at}
use Rattle.term_pieces.specs.NormalForm.{Normal}
use Rattle.term_pieces.proofs.OnePieces.{one_r0, one_carrier, one_top}
use Rattle.pole_laws.specs.Orders.{sides_of, tops_of, IsInsolubleOrder, IsInsolublePair, pair_top}
use Rattle.claim_laws.specs.Identity.{list_at_k_plus}
use Rattle.right_claims.specs.Claims.{PrintedForm, printed, Range}
use Rattle.right_claims.specs.Cancelling.{LeavesInOrder}
use Rattle.right_claims.specs.KeySolutions.{q_of, b_of, y_of, multiplier_of}
use Rattle.right_claims.specs.Orders.{IsSetting, IsLeftBy, IsFoundOrder, IsEmptyOrder, IsPairOrder, IsNoPairOrder}
use Rattle.right_claims.proofs.LeftClaims.{soluble}
use Rattle.right_claims.proofs.Listings.{listing_length}
use Rattle.right_claims.proofs.OnePieces.{one_tops, one_normal, one_pair_top}
use Rattle.right_claims.proofs.OneSolution.{bounds, vectors}
use Rattle.right_claims.proofs.OneCancelling.{one_left_over}

-- the multipliers, and what is left of Y and of the poles
module _ (pieces other : Pieces) (normal : Normal) (tops : List Meaning) (count : ℕ) (c d : Claim) (h : IsLeftBy pieces normal tops count c)
    (k : IsLeftBy other normal tops count d) where
  same_bound : h.bound ≡ k.bound
  same_bound = bounds normal tops count h.bound k.bound h.free k.free h.vector k.vector h.chosen k.chosen

  same_vector : h.vector ≡ k.vector
  same_vector = vectors normal tops count h.bound k.bound h.free k.free h.vector k.vector h.chosen k.chosen

  pub multipliers_agree : c.multipliers ≡ d.multipliers
  multipliers_agree = h.multipliers_are ∙ (λ i. listing count (multiplier_of (same_bound i) (same_vector i))) ∙ sym k.multipliers_are

  pub left_agree : (c.y ≡ d.y) × (c.poles ≡ d.poles)
  left_agree = one_left_over normal.poles.factors (y_of h.bound h.vector) c.y d.y c.poles d.poles h.leaves
      (subst (λ t. LeavesInOrder normal.poles.factors t d.y d.poles) (λ i. y_of (sym same_bound i) (sym same_vector i)) k.leaves)

-- so the claims are the same, where the pieces agree
one_left : (pieces other : Pieces) (normal : Normal) (tops : List Meaning) (count : ℕ) (c d : Claim) → pieces.carrier ≡ other.carrier
    → pieces.r0 ≡ other.r0 → top_at pieces 0 ≡ top_at other 0 → IsLeftBy pieces normal tops count c → IsLeftBy other normal tops count d → c ≡ d
one_left pieces other normal tops count c d carriers r0s tops0 h k = λ i. record {
  multipliers = multipliers_agree pieces other normal tops count c d h k i;
  carrier = (h.goes_with.carrier ∙ carriers ∙ sym k.goes_with.carrier) i;
  y = (left_agree pieces other normal tops count c d h k).0 i;
  poles = (left_agree pieces other normal tops count c d h k).1 i;
  ratio_top = (h.goes_with.ratio_top ∙ ap (list_at_k_plus (negsuc 0)) r0s ∙ sym k.goes_with.ratio_top) i;
  ratio_bottom = (h.goes_with.ratio_bottom ∙ ap (λ (t : Top). t.factors) tops0 ∙ sym k.goes_with.ratio_bottom) i;
}

module _ (f : ProperTerm) (order : ℕ) (x y : Pieces) (n m : Normal) (form other : PrintedForm) (p : IsSetting f order x n form)
    (q : IsSetting f order y m other) where
  pub normals : n ≡ m
  normals = one_normal f order x y p.are_pieces q.are_pieces n m p.is_normal q.is_normal

  pub forms_agree : form ≡ other
  forms_agree = p.form_is ∙ ap printed normals ∙ sym q.form_is

pub one_found : (f : ProperTerm) (order : ℕ) (form other : PrintedForm) (c d : Claim) (range ends : Range) → IsFoundOrder f order form c range
    → IsFoundOrder f order other d ends → (form ≡ other) × (c ≡ d) × (range ≡ ends)
one_found f order form other c d range ends h k = (
  forms_agree f order h.pieces k.pieces h.normal k.normal form other h.setting k.setting,
  one_left h.pieces k.pieces h.normal (tops_of h.pieces order) (suc order) c d
      (one_carrier f order h.pieces k.pieces h.setting.are_pieces k.setting.are_pieces)
      (one_r0 f order h.pieces k.pieces h.setting.are_pieces k.setting.are_pieces)
      (one_top f order h.pieces k.pieces h.setting.are_pieces k.setting.are_pieces 0 (omega arith))
      h.left_by
      (subst (λ n. IsLeftBy k.pieces n (tops_of h.pieces order) (suc order) d)
      (sym (normals f order h.pieces k.pieces h.normal k.normal form other h.setting k.setting))
      (subst (λ ts. IsLeftBy k.pieces k.normal ts (suc order) d)
      (sym (one_tops f order h.pieces k.pieces h.setting.are_pieces k.setting.are_pieces)) k.left_by)),
  h.range_is ∙ sym k.range_is,
)

pub one_pair : (f : ProperTerm) (form other : PrintedForm) (c d : Claim) (range ends : Range) → IsPairOrder f form c range
    → IsPairOrder f other d ends → (form ≡ other) × (c ≡ d) × (range ≡ ends)
one_pair f form other c d range ends h k = (
  forms_agree f 1 h.pieces k.pieces h.normal k.normal form other h.setting k.setting,
  one_left h.pieces k.pieces h.normal (pair_top h.pieces) 1 c d
      (one_carrier f 1 h.pieces k.pieces h.setting.are_pieces k.setting.are_pieces)
      (one_r0 f 1 h.pieces k.pieces h.setting.are_pieces k.setting.are_pieces)
      (one_top f 1 h.pieces k.pieces h.setting.are_pieces k.setting.are_pieces 0 (omega arith))
      h.left_by
      (subst (λ n. IsLeftBy k.pieces n (pair_top h.pieces) 1 d)
      (sym (normals f 1 h.pieces k.pieces h.normal k.normal form other h.setting k.setting))
      (subst (λ ts. IsLeftBy k.pieces k.normal ts 1 d)
      (sym (one_pair_top f h.pieces k.pieces h.setting.are_pieces k.setting.are_pieces)) k.left_by)),
  h.range_is ∙ sym k.range_is,
)

pub one_empty : (f : ProperTerm) (order : ℕ) (form other : PrintedForm) → IsEmptyOrder f order form → IsEmptyOrder f order other → form ≡ other
one_empty f order form other h k = forms_agree f order h.pieces k.pieces h.normal k.normal form other h.setting k.setting

pub one_no_pair : (f : ProperTerm) (form other : PrintedForm) → IsNoPairOrder f form → IsNoPairOrder f other → form ≡ other
one_no_pair f form other h k = forms_agree f 1 h.pieces k.pieces h.normal k.normal form other h.setting k.setting

pub not_found : (f : ProperTerm) (order : ℕ) (form other : PrintedForm) (c : Claim) (range : Range) → IsEmptyOrder f order form
    → IsFoundOrder f order other c range → ⊥
not_found f order form other c range h k =
    soluble k.pieces k.normal (tops_of k.pieces order) (suc order) c (listing_length (suc order) (λ j. top_polynomial (top_at k.pieces j))) k.left_by
    (subst (λ n. IsInsolubleOrder k.pieces n order) (normals f order h.pieces k.pieces h.normal k.normal form other h.setting k.setting)
    (subst (λ ts. InsolubleWith (level 1) (q_of h.normal) (b_of h.normal) (sides_of h.normal ts))
    (one_tops f order h.pieces k.pieces h.setting.are_pieces k.setting.are_pieces) h.insoluble))

pub no_pair_not_found : (f : ProperTerm) (form other : PrintedForm) (c : Claim) (range : Range) → IsNoPairOrder f form
    → IsPairOrder f other c range → ⊥
no_pair_not_found f form other c range h k =
    soluble k.pieces k.normal (pair_top k.pieces) 1 c refl k.left_by
    (subst (λ n. IsInsolublePair k.pieces n) (normals f 1 h.pieces k.pieces h.normal k.normal form other h.setting k.setting)
    (subst (λ ts. InsolubleWith (level 1) (q_of h.normal) (b_of h.normal) (sides_of h.normal ts))
    (one_pair_top f h.pieces k.pieces h.setting.are_pieces k.setting.are_pieces) h.insoluble))
