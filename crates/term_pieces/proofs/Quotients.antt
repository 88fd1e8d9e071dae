-- A normal form keeps the quotient: q0/r0 is q/r times A/B, and A/B is g at k + 1 over g at k.
use Rattle.std.proofs.Common.{◌≡◌, [], ◌∷◌, refl, ap, sym, ◌∙◌, arith}
use Rattle.std.proofs.lemmas.Int.{ints}
use Rattle.std.specs.Prelude.{ℤ, pos, negsuc, ◌+ℤ◌, ◌*ℤ◌}
use Rattle.ring_solver.proofs.Read.{ring_z, reading_z}
use Rattle.hypergeometric.specs.Point.{Point, later_k}
use Rattle.hypergeometric.specs.LinearForm.{FactorList, factor_list_value}
use Rattle.hypergeometric.specs.FormOrder.{IsSorted}
use Rattle.term_pieces.specs.NormalForm.{Normal, IsNormalFormOf}
use Rattle.term_pieces.specs.Quotients.{value_above, value_below}
use Rattle.term_pieces.proofs.NormalValues.{q_value, r_value, g_value, poles_value, chains_below as product_below, chains_next as product_next}

module _ (normal : Normal) (q0 r0 : FactorList) (is : IsNormalFormOf normal q0 r0) where
  pub q_kept : IsSorted q0.factors → (p : Point) → factor_list_value q0 p ≡ factor_list_value normal.q p *ℤ value_above normal p
  q_kept sorted p = q_value p normal q0 r0 is sorted

  pub r_kept : IsSorted r0.factors → (p : Point) → factor_list_value r0 p ≡ factor_list_value normal.r p *ℤ value_below normal p
  r_kept sorted p = r_value p normal q0 r0 is sorted

  pub chains_here : (p : Point)
      → factor_list_value normal.poles p ≡ factor_list_value normal.g p *ℤ value_below normal (later_k p (negsuc 0))
  chains_here p =
      poles_value p normal q0 r0 is ∙ product_below p normal.matches
      ∙ ap (λ t. t *ℤ value_below normal (later_k p (negsuc 0))) (sym (g_value p normal q0 r0 is))

  pub chains_next : (p : Point)
      → factor_list_value normal.poles (later_k p (pos 1)) ≡ value_above normal p *ℤ factor_list_value normal.g p
  chains_next p =
      poles_value (later_k p (pos 1)) normal q0 r0 is ∙ product_next p normal.matches
      ∙ ap (λ t. value_above normal p *ℤ t) (sym (g_value p normal q0 r0 is))

  -- A(k) g(k) = g(k+1) B(k), since both are the chains at k + 1
  pub quotient_kept : IsSorted q0.factors → IsSorted r0.factors → (p : Point)
      → factor_list_value q0 p *ℤ (factor_list_value normal.r p *ℤ factor_list_value normal.g p)
      ≡ factor_list_value r0 p *ℤ (factor_list_value normal.q p *ℤ factor_list_value normal.g (later_k p (pos 1)))
  quotient_kept q_sorted r_sorted p =
      let q = factor_list_value normal.q p in
      let r = factor_list_value normal.r p in
      let g = factor_list_value normal.g p in
      let next = factor_list_value normal.g (later_k p (pos 1)) in
      let shared = sym (chains_next p) ∙ chains_here (later_k p (pos 1)) ∙ ap (λ k. next *ℤ value_below normal (record p { k = k })) (and_back p.k) in
      ap (λ t. t *ℤ (r *ℤ g)) (q_kept q_sorted p) ∙ grouped q (value_above normal p) r g ∙ ap (λ t. (q *ℤ r) *ℤ t) shared
      ∙ spread q r next (value_below normal p) ∙ ap (λ t. t *ℤ (q *ℤ next)) (sym (r_kept r_sorted p))
    where
      and_back : (k : ℤ) → (k +ℤ pos 1) +ℤ negsuc 0 ≡ k
      and_back k = omega (arith, ints)

      grouped : (q a r g : ℤ) → (q *ℤ a) *ℤ (r *ℤ g) ≡ (q *ℤ r) *ℤ (a *ℤ g)
      grouped q a r g = ring_z (q ∷ a ∷ r ∷ g ∷ []) (search reading_z depth 40 fits 20000) refl

      spread : (q r g b : ℤ) → (q *ℤ r) *ℤ (g *ℤ b) ≡ (r *ℤ b) *ℤ (q *ℤ g)
      spread q r g b = ring_z (q ∷ r ∷ g ∷ b ∷ []) (search reading_z depth 40 fits 20000) refl
