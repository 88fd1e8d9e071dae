-- The pieces of a term at an order agree in all that is used of them: q0, r0, the carrier, and the tops p_0 to p_J.
use Rattle.std.proofs.Common.{◌≡◌, ℕ, suc, ap, sym, subst, arith}
use Rattle.hypergeometric.specs.ProperTerm.{ProperTerm}
use Rattle.term_pieces.specs.Pieces.{Pieces, ArePiecesOf, top_at}
use Rattle.term_pieces.specs.NormalForm.{Normal, IsNormalFormOf}
use Rattle.term_pieces.specs.Tops.{top_polynomial}
use Rattle.term_pieces.proofs.OnePieces.{one_q0, one_r0, one_top}
use Rattle.term_pieces.proofs.OneNormalForm.{one_normal_form}
use Rattle.pole_laws.specs.Orders.{tops_of, pair_top}
use Rattle.right_claims.proofs.Listings.{same_listing}

module _ (f : ProperTerm) (order : ℕ) (x y : Pieces) (p : ArePiecesOf x f order) (q : ArePiecesOf y f order) where
  pub one_tops : tops_of x order ≡ tops_of y order
  one_tops = same_listing (suc order) (λ j. top_polynomial (top_at x j)) (λ j. top_polynomial (top_at y j))
      (λ j l. ap top_polynomial (one_top f order x y p q j (omega (arith, l))))

  pub one_normal : (n m : Normal) → IsNormalFormOf n x.q0 x.r0 → IsNormalFormOf m y.q0 y.r0 → n ≡ m
  one_normal n m a b =
      one_normal_form n m x.q0 x.r0 a (subst (λ t. IsNormalFormOf m t x.r0) (sym (one_q0 f order x y p q)) (subst (λ t. IsNormalFormOf m y.q0 t) (sym (one_r0 f order x y p q)) b))

-- and so the side of a pair
pub one_pair_top : (f : ProperTerm) (x y : Pieces) → ArePiecesOf x f 1 → ArePiecesOf y f 1 → pair_top x ≡ pair_top y
one_pair_top f x y p q =
    let first : top_at x 0 ≡ top_at y 0 = one_top f 1 x y p q 0 (omega arith) in
    let second : top_at x 1 ≡ top_at y 1 = one_top f 1 x y p q 1 (omega arith) in
    cc (ap top_polynomial first, ap top_polynomial second)
