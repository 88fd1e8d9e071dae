-- The values of a normal form's lists: q0 = q * prod s(k), r0 = r * prod s(k-h), and the chains by g.
use Rattle.std.proofs.Common.{◌≡◌, ℕ, zero, suc, List, [], ◌∷◌, ◌++◌, refl, ap, sym, ◌∙◌, arith}
use Rattle.std.proofs.lemmas.Int.{ints}
use Rattle.std.proofs.Math.IntN.{pow}
use Rattle.std.specs.Prelude.{ℤ, pos, negsuc, neg_ℤ, ◌+ℤ◌, ◌*ℤ◌}
use Rattle.ring_solver.proofs.Read.{ring_z, reading_z}
use Rattle.hypergeometric.specs.Point.{Point, values, later_k}
use Rattle.hypergeometric.specs.LinearForm.{LinearForm, Factor, FactorList, form_value, forms_value, factor_list_value}
use Rattle.hypergeometric.specs.FormOrder.{IsSorted}
use Rattle.hypergeometric.specs.FactorLists.{factor_with, power_of}
use Rattle.hypergeometric.specs.Match.{Match}
use Rattle.term_pieces.specs.NormalForm.{Normal, at_earlier_k, form_above, form_below, matched, power_within, forms_before, gosper_forms, chains, IsWithout, IsNormalFormOf}
use Rattle.term_pieces.proofs.FormValues.{later_k_value, joined_value, lone_value}
use Rattle.term_pieces.proofs.ProductValues.{product_value}
use Rattle.term_pieces.proofs.SamePowers.{power_joined, power_once, same_value}

earlier_value : (p : Point) (s : LinearForm) (h : ℕ) → form_value (at_earlier_k s h) p ≡ form_value s (later_k p (neg_ℤ (pos h)))
earlier_value p s h = later_k_value s (neg_ℤ (pos h)) p

longer : (p : Point) (s : LinearForm) (h e : ℕ)
    → forms_value (forms_before s (suc h) e) p ≡ forms_value (forms_before s h e) p *ℤ pow (form_value s (later_k p (neg_ℤ (pos (suc h))))) e
longer p s h e =
    joined_value (forms_before s h e) (factor_with (at_earlier_k s (suc h)) e ∷ []) p
    ∙ ap (λ t. forms_value (forms_before s h e) p *ℤ t) (lone_value (at_earlier_k s (suc h)) e p ∙ ap (λ t. pow t e) (earlier_value p s (suc h)))

module _ (p : Point) where
  -- a list is what is left of it, times what was taken
  pub without_value : (l whole : FactorList) (taken : List Factor) → IsSorted whole.factors → IsWithout l whole taken
      → factor_list_value whole p ≡ factor_list_value l p *ℤ forms_value taken p
  without_value l whole taken sorted is =
      ap (λ s. s *ℤ forms_value whole.factors p) (sym is.scale)
      ∙ ap (λ t. l.scale *ℤ t) (same_value p whole.factors (l.factors ++ taken) sorted powers ∙ joined_value l.factors taken p)
      ∙ grouped l.scale (forms_value l.factors p) (forms_value taken p)
    where
      grouped : (a b c : ℤ) → a *ℤ (b *ℤ c) ≡ (a *ℤ b) *ℤ c
      grouped a b c = ring_z (a ∷ b ∷ c ∷ []) (search reading_z depth 40 fits 20000) refl

      powers : (f : LinearForm) → power_of f whole.factors ≡ power_within f (l.factors ++ taken)
      powers f = omega (arith, is.powers f, power_joined f l.factors taken, power_once f l.factors is.sorted)

  -- s(k-1) .. s(k-h-1) by s(k-1) .. s(k-h), where s(k-h) at k-1 comes last
  chain_below : (s : LinearForm) (h e : ℕ)
      → forms_value (forms_before s (suc h) e) p
      ≡ forms_value (forms_before s h e) p *ℤ pow (form_value (at_earlier_k s h) (later_k p (negsuc 0))) e
  chain_below s h e =
      longer p s h e
      ∙ ap (λ t. forms_value (forms_before s h e) p *ℤ pow t e)
      (ap (λ k. form_value s (record p { k = k })) (same p.k h) ∙ sym (earlier_value (later_k p (negsuc 0)) s h))
    where
      same : (k : ℤ) (h : ℕ) → k +ℤ neg_ℤ (pos (suc h)) ≡ (k +ℤ negsuc 0) +ℤ neg_ℤ (pos h)
      same k h = omega (arith, ints)

  -- at k+1 it is s(k), s(k-1), .., s(k-h)
  chain_next : (s : LinearForm) (h e : ℕ)
      → forms_value (forms_before s (suc h) e) (later_k p (pos 1)) ≡ pow (form_value s p) e *ℤ forms_value (forms_before s h e) p
  chain_next s zero e =
      longer (later_k p (pos 1)) s 0 e ∙ exchanged (pow (form_value s (record p { k = (p.k +ℤ pos 1) +ℤ neg_ℤ (pos 1) })) e)
      ∙ ap (λ k. pow (form_value s (record p { k = k })) e *ℤ pos 1) (same p.k)
    where
      exchanged : (x : ℤ) → pos 1 *ℤ x ≡ x *ℤ pos 1
      exchanged x = ring_z (x ∷ []) (search reading_z depth 40 fits 20000) refl

      same : (k : ℤ) → (k +ℤ pos 1) +ℤ neg_ℤ (pos 1) ≡ k
      same k = omega (arith, ints)
  chain_next s (suc h) e =
      longer (later_k p (pos 1)) s (suc h) e
      ∙ ap (λ t. t *ℤ pow (form_value s (record p { k = (p.k +ℤ pos 1) +ℤ neg_ℤ (pos (suc (suc h))) })) e) (chain_next s h e)
      ∙ ap (λ k. (pow (form_value s p) e *ℤ forms_value (forms_before s h e) p) *ℤ pow (form_value s (record p { k = k })) e) (same p.k h)
      ∙ grouped (pow (form_value s p) e) (forms_value (forms_before s h e) p) (pow (form_value s (later_k p (neg_ℤ (pos (suc h))))) e)
      ∙ ap (λ t. pow (form_value s p) e *ℤ t) (sym (longer p s h e))
    where
      grouped : (a b c : ℤ) → (a *ℤ b) *ℤ c ≡ a *ℤ (b *ℤ c)
      grouped a b c = ring_z (a ∷ b ∷ c ∷ []) (search reading_z depth 40 fits 20000) refl

      same : (k : ℤ) (h : ℕ) → (k +ℤ pos 1) +ℤ neg_ℤ (pos (suc (suc h))) ≡ k +ℤ neg_ℤ (pos (suc h))
      same k h = omega (arith, ints)

  exchange : (a b c d : ℤ) → (a *ℤ b) *ℤ (c *ℤ d) ≡ (a *ℤ c) *ℤ (b *ℤ d)
  exchange a b c d = ring_z (a ∷ b ∷ c ∷ d ∷ []) (search reading_z depth 40 fits 20000) refl

  -- the chains are g times what was taken from r0, at k-1
  pub chains_below : (ms : List Match)
      → forms_value (chains ms) p ≡ forms_value (gosper_forms ms) p *ℤ forms_value (matched form_below ms) (later_k p (negsuc 0))
  chains_below [] = refl
  chains_below (m ∷ ms) =
      joined_value (forms_before m.form (suc m.shift) m.power) (chains ms) p
      ∙ (λ i. chain_below m.form m.shift m.power i *ℤ chains_below ms i)
      ∙ exchange (forms_value (forms_before m.form m.shift m.power) p) (pow (form_value (at_earlier_k m.form m.shift) (later_k p (negsuc 0))) m.power)
      (forms_value (gosper_forms ms) p) (forms_value (matched form_below ms) (later_k p (negsuc 0)))
      ∙ ap (λ t. t *ℤ (pow (form_value (at_earlier_k m.form m.shift) (later_k p (negsuc 0))) m.power *ℤ forms_value (matched form_below ms) (later_k p (negsuc 0))))
      (sym (joined_value (forms_before m.form m.shift m.power) (gosper_forms ms) p))

  -- and at k+1 they are what was taken from q0, times g
  pub chains_next : (ms : List Match)
      → forms_value (chains ms) (later_k p (pos 1)) ≡ forms_value (matched form_above ms) p *ℤ forms_value (gosper_forms ms) p
  chains_next [] = refl
  chains_next (m ∷ ms) =
      joined_value (forms_before m.form (suc m.shift) m.power) (chains ms) (later_k p (pos 1))
      ∙ (λ i. chain_next m.form m.shift m.power i *ℤ chains_next ms i)
      ∙ exchange (pow (form_value m.form p) m.power) (forms_value (forms_before m.form m.shift m.power) p)
      (forms_value (matched form_above ms) p) (forms_value (gosper_forms ms) p)
      ∙ ap (λ t. (pow (form_value m.form p) m.power *ℤ forms_value (matched form_above ms) p) *ℤ t)
      (sym (joined_value (forms_before m.form m.shift m.power) (gosper_forms ms) p))

  one_times : (x : ℤ) → pos 1 *ℤ x ≡ x
  one_times x = ring_z (x ∷ []) (search reading_z depth 40 fits 20000) refl

  module _ (normal : Normal) (q0 r0 : FactorList) (is : IsNormalFormOf normal q0 r0) where
    pub q_value : IsSorted q0.factors → factor_list_value q0 p ≡ factor_list_value normal.q p *ℤ forms_value (matched form_above normal.matches) p
    q_value sorted = without_value normal.q q0 (matched form_above normal.matches) sorted is.q

    pub r_value : IsSorted r0.factors → factor_list_value r0 p ≡ factor_list_value normal.r p *ℤ forms_value (matched form_below normal.matches) p
    r_value sorted = without_value normal.r r0 (matched form_below normal.matches) sorted is.r

    pub g_value : factor_list_value normal.g p ≡ forms_value (gosper_forms normal.matches) p
    g_value = product_value p normal.g (pos 1) (gosper_forms normal.matches) is.g ∙ one_times (forms_value (gosper_forms normal.matches) p)

    pub poles_value : factor_list_value normal.poles p ≡ forms_value (chains normal.matches) p
    poles_value = product_value p normal.poles (pos 1) (chains normal.matches) is.poles ∙ one_times (forms_value (chains normal.matches) p)
