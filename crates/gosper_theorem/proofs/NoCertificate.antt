-- Gosper's theorem for an order: where its key equation is insoluble, no fraction U/W is a certificate.
use Rattle.std.specs.Prelude.{◌≡◌, ℕ, ◌<◌, pos, negsuc, List, [], ◌∷◌, map, length, refl}
use Rattle.std.proofs.Common.{ap, sym, ◌∙◌, subst, arith}
use Rattle.std.proofs.lemmas.List.{length-map}
use Rattle.ring_solver.proofs.Read.{reading, ring}
use Rattle.ring_laws.specs.Algebra.{Passing, same_passing}
use Rattle.poly_laws.specs.Values.{level}
use Rattle.poly_laws.proofs.Equal.{level_laws}
use Rattle.poly_laws.proofs.Rings.{solvable}
use Rattle.division_laws.specs.Polynomials.{Polynomial, at_previous}
use Rattle.division_laws.proofs.Shifts.{later_product, later_none}
use Rattle.kernel_laws.specs.Answers.{Vector, meant}
use Rattle.key_laws.specs.KeyEquation.{meanings, combination, Insoluble}
use Rattle.key_laws.specs.Certificates.{IsCertificate}
use Rattle.key_laws.proofs.Poles.{combination_times}
use Rattle.key_laws.proofs.Polynomials.{combination_in, combination_is}
use Rattle.hypergeometric.specs.ProperTerm.{ProperTerm, HasFractions}
use Rattle.hypergeometric.specs.Products.{list_polynomial}
use Rattle.term_pieces.specs.Pieces.{Pieces, ArePiecesOf}
use Rattle.term_pieces.specs.NormalForm.{Normal, IsNormalFormOf}
use Rattle.term_pieces.proofs.NoMatches.{no_match}
use Rattle.pole_laws.specs.Orders.{sides_of}
use Rattle.pole_laws.proofs.Certificates.{sides_in}
use Rattle.pole_laws.proofs.Domains.{in_n_domain}
use Rattle.pole_laws.proofs.FormProducts.{in_k_ring}
use Rattle.pole_laws.proofs.NonzeroNormal.{q_some, r_some}
use Rattle.pole_laws.proofs.NonzeroPieces.{q0_some, r0_some}
use Rattle.pole_laws.proofs.NormalPolynomials.{in_k, shift_by, list_in, above, below, of_q, of_r, of_chains, of_next}
use Rattle.gosper_theorem.proofs.Fractions.{fraction_difference}
use Rattle.gosper_theorem.proofs.InsolubleFractions.{no_rational_solution}
use Rattle.gosper_theorem.proofs.NoSharedPrimes.{no_shared_prime}
use Rattle.gosper_theorem.proofs.ProperLists.{q_proper, r_proper}

abbrev next : Polynomial (level 1) → Polynomial (level 1)
next f = shift_by (pos 1) f

-- with U*C for U
over_chains : (q A u' g b B u w w' : Polynomial (level 1))
    → in_k.sum (in_k.product q (in_k.product (in_k.product u' (in_k.product A g)) w))
    (in_k.neg (in_k.product b (in_k.product (in_k.product u (in_k.product g B)) w')))
    ≡ in_k.product g (in_k.sum (in_k.product (in_k.product q A) (in_k.product u' w)) (in_k.neg (in_k.product (in_k.product b B) (in_k.product u w'))))
over_chains q A u' g b B u w w' = ring (solvable in_k in_k_ring) (q ∷ A ∷ u' ∷ g ∷ b ∷ B ∷ u ∷ w ∷ w' ∷ []) (search reading depth 40 fits 20000) refl

module _ (f : ProperTerm) (pieces : Pieces) (order : ℕ) (fractions : HasFractions f) (are : ArePiecesOf pieces f order) (normal : Normal)
    (is : IsNormalFormOf normal pieces.q0 pieces.r0) (tops : List (Polynomial (level 1)))
    (insoluble : Insoluble (level 1) (list_polynomial normal.q) (list_polynomial normal.r) (sides_of normal (meanings (level 1) tops))) where
  abbrev sides : List (Polynomial (level 1))
  sides = map (in_k.product (list_in normal.g)) tops

  abbrev b : Polynomial (level 1)
  b = shift_by (negsuc 0) (list_in normal.r)

  insoluble_in : Insoluble (level 1) (list_polynomial normal.q) (list_polynomial normal.r) (meanings (level 1) sides)
  insoluble_in =
      subst (λ s. Insoluble (level 1) (list_polynomial normal.q) (list_polynomial normal.r) s) (sym (sides_in (list_in normal.g) tops)) insoluble

  some_r : ¬ (list_polynomial normal.r ≡ (level 2).ops.nought)
  some_r e =
      r_some normal pieces.q0 pieces.r0 is are.r0.sorted (r0_some f pieces order fractions are)
      (ap (λ (t : Polynomial (level 1)). t.0)
      (ap (shift_by (negsuc 0)) (same_passing (level 2) (list_in normal.r) in_k.nought e) ∙ later_none (level 1) (level_laws 1) (negsuc 0)))

  module _ (v : Vector (level 1)) (u w : Polynomial (level 1))
      (certificate : IsCertificate (level 1).ops (list_polynomial pieces.q0) (at_previous (level 1).ops (list_polynomial pieces.r0))
      (combination (level 1).ops (meant (level 1) v) (meanings (level 1) tops)) u.0 w.0) where
    abbrev sum_of_tops : Polynomial (level 1)
    sum_of_tops = combination_in (level 1) (level_laws 1) v tops

    certificate_in : in_k.sum (in_k.product (list_in pieces.q0) (in_k.product (next u) w))
        (in_k.neg (in_k.product (shift_by (negsuc 0) (list_in pieces.r0)) (in_k.product u (next w))))
        ≡ in_k.product sum_of_tops (in_k.product w (next w))
    certificate_in =
        same_passing (level 2)
        (in_k.sum (in_k.product (list_in pieces.q0) (in_k.product (next u) w))
        (in_k.neg (in_k.product (shift_by (negsuc 0) (list_in pieces.r0)) (in_k.product u (next w)))))
        (in_k.product sum_of_tops (in_k.product w (next w)))
        (certificate ∙ ap (λ t. (level 2).ops.product t (in_k.product w (next w)).0) (sym (combination_is (level 1) (level_laws 1) v tops)))

    -- U times the chains, over W, solves the key equation
    rational : fraction_difference (level 1) (level_laws 1) in_n_domain (list_in normal.q) b (in_k.product u (list_in normal.poles)) w
        ≡ in_k.product (combination_in (level 1) (level_laws 1) v sides) (in_k.product w (next w))
    rational =
        ap (λ t. in_k.sum (in_k.product (list_in normal.q) (in_k.product t w)) (in_k.neg (in_k.product b (in_k.product (in_k.product u (list_in normal.poles)) (next w)))))
        (later_product (level 1) (level_laws 1) (pos 1) u (list_in normal.poles)
        ∙ ap (in_k.product (next u)) (of_next normal pieces.q0 pieces.r0 is))
        ∙ ap (λ t. in_k.sum (in_k.product (list_in normal.q) (in_k.product (in_k.product (next u) (in_k.product (above normal pieces.q0 pieces.r0 is) (list_in normal.g))) w))
        (in_k.neg (in_k.product b (in_k.product (in_k.product u t) (next w))))) (of_chains normal pieces.q0 pieces.r0 is)
        ∙ over_chains (list_in normal.q) (above normal pieces.q0 pieces.r0 is) (next u) (list_in normal.g) b (below normal pieces.q0 pieces.r0 is) u w (next w)
        ∙ (λ i. in_k.product (list_in normal.g)
        (in_k.sum (in_k.product (sym (of_q normal pieces.q0 pieces.r0 is are.q0.sorted) i) (in_k.product (next u) w))
        (in_k.neg (in_k.product (sym (of_r normal pieces.q0 pieces.r0 is are.r0.sorted) i) (in_k.product u (next w))))))
        ∙ ap (in_k.product (list_in normal.g)) certificate_in
        ∙ sym (in_k_ring.product_assoc (list_in normal.g) sum_of_tops (in_k.product w (next w)))
        ∙ ap (λ t. in_k.product t (in_k.product w (next w))) (sym (combination_times (level 1) (level_laws 1) v (list_in normal.g) tops))

    pub no_certificate : ¬ (w.0 ≡ (level 2).ops.nought) → (j : ℕ) → j < length tops → (v j).0 ≡ (level 1).ops.nought
    no_certificate some j c =
        ap (λ (t : Passing (level 1)). t.0)
        (no_rational_solution (level 1) (level_laws 1) in_n_domain (list_in normal.q) b sides insoluble_in
        (λ p prime i h. no_shared_prime normal.q normal.r (no_match normal pieces.q0 pieces.r0 is) (q_proper f pieces order normal are is)
        (r_proper f pieces order normal are is)
        (q_some normal pieces.q0 pieces.r0 is are.q0.sorted (q0_some f pieces order fractions are)) some_r is.q.some is.r.some p prime i h)
        v (in_k.product u (list_in normal.poles)) w
        (λ e. some (ap (λ (t : Polynomial (level 1)). t.0) e)) rational j (omega (arith, c, as_many)))
      where
        as_many : length (meanings (level 1) sides) ≡ length tops
        as_many = length-map sides (λ (t : Polynomial (level 1)). t.0) ∙ length-map tops (in_k.product (list_in normal.g))
