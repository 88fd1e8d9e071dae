-- Where the values of the rows at one value of the variable send only zero to zero, so do the rows.
use Rattle.std.specs.Prelude.{◌≡◌, ℕ, zero, suc, max, ◌<◌, ◌≤◌, List, [], ◌∷◌, map, length, pos, refl}
use Rattle.std.proofs.Common.{ap, sym, ◌∙◌, ⊎_elim, subst, arith}
use Rattle.std.proofs.lemmas.List.Elements.{All-nil, All-cons}
use Rattle.ring_laws.specs.Algebra.{Ops, RingLaws, Algebra, Passing, within, Laws, same_passing}
use Rattle.ring_laws.specs.Division.{DomainLaws}
use Rattle.poly_laws.specs.Lists.{coefficient_at}
use Rattle.poly_laws.specs.PolyAlgebra.{poly_algebra}
use Rattle.poly_laws.proofs.Coefficients.{poly_closed}
use Rattle.poly_laws.proofs.ListLaws.{product_nought}
use Rattle.poly_laws.proofs.OneQuotient.{NoDivisors}
use Rattle.poly_laws.proofs.PolyDomain.{no_divisors_within, poly_domain}
use Rattle.poly_laws.proofs.PolyLaws.{equal_coefficients, coefficient-nought, product_same, poly_ring}
use Rattle.poly_laws.proofs.Trimming.{beyond}
use Rattle.kernel_laws.specs.Rows.{entry_at, dot, InKernel}
use Rattle.kernel_laws.specs.Reduction.{bare}
use Rattle.kernel_laws.specs.Answers.{Vector, meant, AllPivots}
use Rattle.kernel_laws.proofs.Belonging.{kernel_down, kernel_up}
use Rattle.kernel_laws.proofs.Kernels.{first_of, rest_of}
use Rattle.poly_laws.proofs.Rings.{solvable}
use Rattle.kernel_laws.proofs.Totals.{total_scale}
use Rattle.ring_solver.proofs.Read.{reading, ring}
use Rattle.key_laws.specs.EvaluatedRows.{rows_at}
use Rattle.key_laws.proofs.ListValues.{quotient_of, divided, StopsAt, quotient_stops}
use Rattle.key_laws.proofs.PolynomialValues.{polynomials, list_of, polynomial_in, polynomial_at, value_in, rows_in, kernel_in, rows_meant}

module _ (a : Algebra) (l : Laws a) (d : DomainLaws a) (n : ℕ) (rows : List (List (Passing (poly_algebra a)))) (v : Passing a) where
  abbrev base : Ops (Passing a)
  base = within a l.closed

  abbrev P : Ops (Passing (poly_algebra a))
  P = polynomials a l

  P_ring : RingLaws P
  P_ring = poly_ring a l.closed l.ring

  no_divisors : NoDivisors P
  no_divisors = no_divisors_within (poly_algebra a) (poly_closed a l.closed) (poly_domain a l d)

  -- the variable less v, which isn't zero
  abbrev less : Passing (poly_algebra a)
  less = polynomial_in a l (base.neg v ∷ base.unit ∷ [])

  one_not_zero : ¬ (base.unit ≡ base.nought)
  one_not_zero e =
      let no : pos 1 ≡ pos 0 = d.whole_nought (pos 1) (ap (λ (t : Passing a). t.0) (l.ring.whole_one ∙ e)) in
      cc

  less_some : ¬ (less ≡ P.nought)
  less_some e =
      one_not_zero
      (sym (polynomial_at a l (base.neg v ∷ base.unit ∷ []) 1) ∙ ap (λ t. coefficient_at base (list_of a l t) 1) e ∙ coefficient-nought a l.closed l.ring 1)

  -- a polynomial with the value zero is a multiple of it
  quotient_in : Passing (poly_algebra a) → Passing (poly_algebra a)
  quotient_in f = polynomial_in a l (quotient_of base l.ring v (list_of a l f))

  by_quotient : (f : Passing (poly_algebra a)) → value_in a l v f ≡ base.nought → f ≡ P.product less (quotient_in f)
  unfolding quotient_in
  by_quotient f e =
      equal_coefficients a l.closed l.ring f (P.product less (quotient_in f))
      (λ k. sym (product_same a l.closed l.ring less (quotient_in f) (base.neg v ∷ base.unit ∷ []) (quotient_of base l.ring v (list_of a l f))
      (polynomial_at a l (base.neg v ∷ base.unit ∷ [])) (polynomial_at a l (quotient_of base l.ring v (list_of a l f))) k
      ∙ divided base l.ring v (list_of a l f) e k))

  quotient_short : (s : ℕ) (f : Passing (poly_algebra a)) → StopsAt base l.ring v (suc s) (list_of a l f)
      → StopsAt base l.ring v s (list_of a l (quotient_in f))
  unfolding quotient_in
  quotient_short s f h k b =
      polynomial_at a l (quotient_of base l.ring v (list_of a l f)) k ∙ quotient_stops base l.ring v s (list_of a l f) h k b

  moved : (t r w : Passing (poly_algebra a)) → P.product r (P.product t w) ≡ P.product t (P.product r w)
  moved t r w = ring (solvable P P_ring) (t ∷ r ∷ w ∷ []) (search reading depth 40 fits 20000) refl

  -- a factor of each entry of a vector of the kernel cancels
  without_factor : (t : Passing (poly_algebra a)) → ¬ (t ≡ P.nought) → (w u : ℕ → Passing (poly_algebra a))
      → ((k : ℕ) → k < n → w k ≡ P.product t (u k)) → (rs : List (List (Passing (poly_algebra a)))) → InKernel P n rs w → InKernel P n rs u
  without_factor t some w u e [] h = All-nil (λ r. dot P n r u ≡ P.nought)
  without_factor t some w u e (r ∷ rs) h =
      All-cons (λ r. dot P n r u ≡ P.nought) r rs
      (⊎_elim (λ z. absurd (some z)) (λ z. z)
      (no_divisors t (dot P n r u) (sym (total_scale P P_ring n t (λ k. P.product (entry_at P r k) (u k)) (λ k. P.product (entry_at P r k) (w k))
      (λ k b. ap (P.product (entry_at P r k)) (e k b) ∙ moved t (entry_at P r k) (u k)))
      ∙ first_of (λ r. dot P n r w ≡ P.nought) r rs h)))
      (without_factor t some w u e rs (rest_of (λ r. dot P n r w ≡ P.nought) r rs h))

  module _ (only : (w : Vector a) → InKernel base n (rows_in a l v rows) w → (k : ℕ) → k < n → w k ≡ base.nought) where
    descend : (s : ℕ) (w : ℕ → Passing (poly_algebra a)) → InKernel P n rows w
        → ((k : ℕ) → k < n → StopsAt base l.ring v s (list_of a l (w k))) → (k : ℕ) → k < n → w k ≡ P.nought
    descend zero w h short k b =
        equal_coefficients a l.closed l.ring (w k) P.nought (λ i. short k b i (omega arith) ∙ sym (coefficient-nought a l.closed l.ring i))
    descend (suc s) w h short k b =
        let parts : (i : ℕ) → i < n → w i ≡ P.product less (quotient_in (w i)) =
        λ i c. by_quotient (w i) (only (λ j. value_in a l v (w j)) (kernel_in a l v n rows w h) i c) in
        let rest : quotient_in (w k) ≡ P.nought =
        descend s (λ i. quotient_in (w i)) (without_factor less less_some w (λ i. quotient_in (w i)) parts rows h)
        (λ i c. quotient_short s (w i) (short i c)) k b in
        parts k b ∙ ap (P.product less) rest ∙ product_nought P P_ring less

    -- no entry has more coefficients
    most : ℕ → (ℕ → Passing (poly_algebra a)) → ℕ
    most zero w = 0
    most (suc m) w = max (length (list_of a l (w 0))) (most m (λ k. w (suc k)))

    within_most : (m : ℕ) (w : ℕ → Passing (poly_algebra a)) (k : ℕ) → k < m → length (list_of a l (w k)) ≤ most m w
    unfolding most
    within_most zero w k b = absurd (omega arith)
    within_most (suc m) w zero b = omega arith
    within_most (suc m) w (suc k) b = omega (arith, within_most m (λ i. w (suc i)) k (omega (arith, b)))

    pub only_zero : (w : ℕ → Passing (poly_algebra a)) → InKernel P n rows w → (k : ℕ) → k < n → w k ≡ P.nought
    only_zero w h k b =
        descend (most n w) w h (λ i c j e. beyond base (list_of a l (w i)) j (omega (arith, within_most n w i c, e))) k b

  -- where each column of the values has a pivot
  pub pivots_at_one_value : (rank : ℕ) → AllPivots a n 0 (rows_at a.ops v.0 (map (bare (poly_algebra a)) rows)) rank
      → (w : Vector (poly_algebra a)) → InKernel (poly_algebra a).ops n (map (bare (poly_algebra a)) rows) (meant (poly_algebra a) w)
      → (k : ℕ) → k < n → (w k).0 ≡ (poly_algebra a).ops.nought
  pivots_at_one_value rank pivots w h k b =
      ap (λ (t : Passing (poly_algebra a)). t.0)
      (only_zero only w (kernel_up (poly_algebra a) (poly_closed a l.closed) n rows w h) k b)
    where
      only : (u : Vector a) → InKernel base n (rows_in a l v rows) u → (i : ℕ) → i < n → u i ≡ base.nought
      only u g i c =
          same_passing a (u i) base.nought
          (pivots.zero u (subst (λ r. InKernel a.ops n r (meant a u)) (sym (rows_meant a l v rows))
          (kernel_down a l.closed n (rows_in a l v rows) u (meant a u) (λ j. refl) g)) i (omega arith) c)
