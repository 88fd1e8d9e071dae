-- The pieces of a term at an order are one: p_0 to p_J, q0, r0 and the carrier.
use Rattle.std.specs.Prelude.{◌≡◌, ℕ, zero, suc, ◌≤◌, ◌<◌, List, [], ◌∷◌, length, refl}
use Rattle.std.proofs.Common.{sym, ◌∙◌, arith}
use Rattle.hypergeometric.specs.ProperTerm.{ProperTerm}
use Rattle.term_pieces.specs.Pieces.{Top, Pieces, top_in, ArePiecesOf, top_number, top_forms, q_forms, r_forms, top_at}
use Rattle.term_pieces.proofs.OneList.{one_list}

-- lists of one length with the same item at each place are the same
same_tops : (n : ℕ) (xs ys : List Top) → length xs ≡ n → length ys ≡ n → ((j : ℕ) → j < n → top_in xs j ≡ top_in ys j) → xs ≡ ys
same_tops n [] [] e g h = refl
same_tops n [] (y ∷ ys) e g h = absurd (omega (arith, e, g))
same_tops n (x ∷ xs) [] e g h = absurd (omega (arith, e, g))
same_tops zero (x ∷ xs) (y ∷ ys) e g h = absurd (omega (arith, e))
same_tops (suc n) (x ∷ xs) (y ∷ ys) e g h =
    let rest : xs ≡ ys = same_tops n xs ys (omega (arith, e)) (omega (arith, g)) (λ j l. h (suc j) (omega (arith, l))) in
    λ i. h 0 (omega arith) i ∷ rest i

module _ (f : ProperTerm) (order : ℕ) (x y : Pieces) (p : ArePiecesOf x f order) (q : ArePiecesOf y f order) where
  pub one_q0 : x.q0 ≡ y.q0
  one_q0 = one_list x.q0 y.q0 f.k_base.top (q_forms f order) p.q0 q.q0

  pub one_r0 : x.r0 ≡ y.r0
  one_r0 = one_list x.r0 y.r0 f.k_base.bottom (r_forms f order) p.r0 q.r0

  pub one_carrier : x.carrier ≡ y.carrier
  one_carrier = p.carrier ∙ sym q.carrier

  pub one_top : (j : ℕ) → j ≤ order → top_at x j ≡ top_at y j
  one_top j l = λ i. record {
    poly = (p.poly j l ∙ sym (q.poly j l)) i;
    factors = one_list (top_at x j).factors (top_at y j).factors (top_number f order j) (top_forms f order j) (p.factors j l) (q.factors j l) i;
  }

  pub one_pieces : x ≡ y
  one_pieces =
      let tops : x.tops ≡ y.tops = same_tops (suc order) x.tops y.tops p.count q.count (λ j l. one_top j (omega (arith, l))) in
      λ i. record { tops = tops i; q0 = one_q0 i; r0 = one_r0 i; carrier = one_carrier i }
