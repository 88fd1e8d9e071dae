-- A whole number times a polynomial, by the coefficients.
use Rattle.std.specs.Prelude.{◌≡◌, ℕ, zero, suc, ◌≤◌, ℤ, pos, ◌+ℤ◌, neg_ℤ, List, [], ◌∷◌, map, length, refl}
use Rattle.std.proofs.Common.{ap, sym, ◌∙◌, arith, ⊎_elim}
use Rattle.std.proofs.lemmas.Int.{ints}
use Rattle.std.proofs.lemmas.List.{length-map}
use Rattle.ring_laws.specs.Meaning.{items}
use Rattle.ring_laws.specs.Algebra.{Ops, Algebra, Passing, within, Laws, same_passing}
use Rattle.ring_laws.specs.Division.{DomainLaws, IsTimes}
use Rattle.poly_laws.specs.Lists.{coefficient_at, list_product, SameCoefficients}
use Rattle.poly_laws.specs.PolyAlgebra.{poly_algebra}
use Rattle.poly_laws.proofs.Coefficients.{meanings-scale, meanings_same, coefficients, coefficients_trimmed, meanings-coefficients, poly_closed}
use Rattle.poly_laws.proofs.ListLaws.{sum_nought, product_nought, nought_product, at_scale, times_zero, times_suc}
use Rattle.poly_laws.proofs.PolyDomain.{no_divisors_within}
use Rattle.poly_laws.proofs.PolyLaws.{equal_coefficients, coefficient-whole, product_same, poly_ring}
use Rattle.poly_laws.proofs.Trimming.{beyond, length_within}

-- lists of one length with the same coefficients are the same
pub same_lists : {A : Type 0} (o : Ops A) (xs ys : List A) → length xs ≡ length ys → SameCoefficients o xs ys → xs ≡ ys
same_lists o [] [] n e = refl
same_lists o [] (y ∷ ys) n e = absurd (omega arith)
same_lists o (x ∷ xs) [] n e = absurd (omega arith)
same_lists o (x ∷ xs) (y ∷ ys) n e = cc (e 0, same_lists o xs ys (omega arith) (λ k. e (suc k)))

module _ (a : Algebra) (l : Laws a) where
  abbrev base : Ops (Passing a)
  base = within a l.closed

  abbrev poly : Ops (Passing (poly_algebra a))
  poly = within (poly_algebra a) (poly_closed a l.closed)

  abbrev parts : Passing (poly_algebra a) → List (Passing a)
  parts x = coefficients a l.closed x

  one_times : (x : Passing a) (ys : List (Passing a)) (k : ℕ)
      → coefficient_at base (list_product base (x ∷ []) ys) k ≡ base.product x (coefficient_at base ys k)
  one_times x ys zero = times_zero base l.ring x [] ys
  one_times x ys (suc k) = times_suc base l.ring x [] ys k ∙ sum_nought base l.ring (base.product x (coefficient_at base ys (suc k)))

  -- each coefficient is multiplied
  pub times_at : (w : ℤ) (y : Passing (poly_algebra a)) (k : ℕ)
      → coefficient_at base (parts (poly.product (poly.whole w) y)) k ≡ base.product (base.whole w) (coefficient_at base (parts y) k)
  times_at w y k =
      product_same a l.closed l.ring (poly.whole w) y (base.whole w ∷ []) (parts y) (coefficient-whole a l.closed l.ring w) (λ j. refl) k
      ∙ one_times (base.whole w) (parts y) k

  -- the items of w*y are w times those of y
  scaled_items : (w : ℤ) (x y : Passing (poly_algebra a)) → map (a.ops.product (a.ops.whole w)) (items y.0) ≡ items x.0
      → map (base.product (base.whole w)) (parts y) ≡ parts x
  scaled_items w x y e =
      meanings_same a l.closed (map (base.product (base.whole w)) (parts y)) (parts x) (cc (
        meanings-scale a l.closed (base.whole w) (parts y),
        meanings-coefficients a l.closed y,
        meanings-coefficients a l.closed x,
        e,
      ))

  pub times_where : (w : ℤ) (x y : Passing (poly_algebra a)) → map (a.ops.product (a.ops.whole w)) (items y.0) ≡ items x.0
      → IsTimes (poly_algebra a) w y.0 x.0
  times_where w x y e =
      ap (λ (t : Passing (poly_algebra a)). t.0) (equal_coefficients a l.closed l.ring (poly.product (poly.whole w) y) x
      (λ k. times_at w y k ∙ sym (at_scale base l.ring (base.whole w) (parts y) k)
      ∙ ap (λ t. coefficient_at base t k) (scaled_items w x y e)))

  -- 0 times y is nought
  pub no_times : (y : Passing (poly_algebra a)) → IsTimes (poly_algebra a) (pos 0) y.0 (poly_algebra a).ops.nought
  no_times y = ap (λ (t : Passing (poly_algebra a)). t.0)
      (ap (λ t. poly.product t y) (poly_ring a l.closed l.ring).whole_zero ∙ nought_product poly (poly_ring a l.closed l.ring) y)

  module _ (w : ℤ) (x y : Passing (poly_algebra a)) (is : IsTimes (poly_algebra a) w y.0 x.0) where
    at_each : (k : ℕ) → base.product (base.whole w) (coefficient_at base (parts y) k) ≡ coefficient_at base (parts x) k
    at_each k = sym (times_at w y k)
        ∙ ap (λ t. coefficient_at base (parts t) k) (same_passing (poly_algebra a) (poly.product (poly.whole w) y) x is)

    pub times_items : length (parts x) ≡ length (parts y) → map (a.ops.product (a.ops.whole w)) (items y.0) ≡ items x.0
    times_items n = cc (
      meanings-scale a l.closed (base.whole w) (parts y),
      meanings-coefficients a l.closed y,
      meanings-coefficients a l.closed x,
      same_lists base (map (base.product (base.whole w)) (parts y)) (parts x) (omega (arith, n, length-map (parts y) (base.product (base.whole w))))
          (λ k. at_scale base l.ring (base.whole w) (parts y) k ∙ at_each k),
    )

    no_longer : length (parts x) ≤ length (parts y)
    no_longer = length_within base l.ring (parts x) (length (parts y)) (coefficients_trimmed a l.closed x)
        (λ k h. sym (at_each k) ∙ ap (base.product (base.whole w)) (beyond base (parts y) k h) ∙ product_nought base l.ring (base.whole w))

    module _ (d : DomainLaws a) (some : ¬ (x.0 ≡ (poly_algebra a).ops.nought)) where
      not_none : ¬ (base.whole w ≡ base.nought)
      not_none e =
          let z : w ≡ pos 0 = d.whole_nought w (ap (λ (t : Passing a). t.0) e) in
          some (sym is ∙ ap (λ v. (poly_algebra a).ops.product ((poly_algebra a).ops.whole v) y.0) z ∙ no_times y)

      no_shorter : length (parts y) ≤ length (parts x)
      no_shorter = length_within base l.ring (parts y) (length (parts x)) (coefficients_trimmed a l.closed y)
          (λ k h. ⊎_elim (λ e. absurd (not_none e)) (λ e. e)
          (no_divisors_within a l.closed d (base.whole w) (coefficient_at base (parts y) k) (at_each k ∙ beyond base (parts x) k h)))

      -- over a domain no coefficient is lost
      pub times_length : length (parts x) ≡ length (parts y)
      times_length = omega (arith, no_longer, no_shorter)

-- only one number takes y to x, where y isn't nought
pub one_number : (a : Algebra) (l : Laws a) (d : DomainLaws a) (v w : ℤ) (x y : Passing a) → ¬ (y.0 ≡ a.ops.nought) → IsTimes a v y.0 x.0
    → IsTimes a w y.0 x.0 → v ≡ w
one_number a l d v w x y some p q =
    let o : Ops (Passing a) = within a l.closed in
    let at : (z : ℤ) → IsTimes a z y.0 x.0 → o.product y (o.whole z) ≡ x =
    λ z h. l.ring.product_comm y (o.whole z) ∙ same_passing a (o.product (o.whole z) y) x h in
    let apart : (z : ℤ) → IsTimes a z y.0 x.0 → o.product y (o.whole (z +ℤ neg_ℤ w)) ≡ o.sum x (o.product y (o.whole (neg_ℤ w))) =
    λ z h. ap (o.product y) (l.ring.whole_sum z (neg_ℤ w)) ∙ l.ring.distributes y (o.whole z) (o.whole (neg_ℤ w))
    ∙ ap (λ t. o.sum t (o.product y (o.whole (neg_ℤ w)))) (at z h) in
    let none : o.product y (o.whole (v +ℤ neg_ℤ w)) ≡ o.nought =
    apart v p ∙ sym (apart w q) ∙ ap (λ z. o.product y (o.whole z)) (no_rest w) ∙ ap (o.product y) l.ring.whole_zero
    ∙ product_nought o l.ring y in
    ⊎_elim (λ e. absurd (some (ap (λ (t : Passing a). t.0) e)))
    (λ e. no_difference v w (d.whole_nought (v +ℤ neg_ℤ w) (ap (λ (t : Passing a). t.0) e)))
    (no_divisors_within a l.closed d y (o.whole (v +ℤ neg_ℤ w)) none)
  where
    no_rest : (z : ℤ) → z +ℤ neg_ℤ z ≡ pos 0
    no_rest z = omega (arith, ints)

    no_difference : (u z : ℤ) → u +ℤ neg_ℤ z ≡ pos 0 → u ≡ z
    no_difference u z e = omega (arith, ints)
