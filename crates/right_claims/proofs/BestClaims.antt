-- What the choice of a claim is good for, where the chosen vector leaves it.
use Rattle.std.proofs.Common.{◌≡◌, ℕ, ◌+◌, ◌-◌, ◌<◌, ◌≤◌, List, length, ap, sym, ◌∙◌, subst, arith, inl, inr}
use Rattle.std.proofs.lemmas.List.{length-map}
use Rattle.std.specs.List.{AllByRecursion}
use Rattle.std.specs.Prelude.{◌⊎◌, pos, ◌<ℤ◌}
use Rattle.ring_laws.specs.Meaning.{Meaning}
use Rattle.ring_laws.specs.Algebra.{Ops, Passing}
use Rattle.poly_laws.specs.Values.{level}
use Rattle.division_laws.specs.Polynomials.{Polynomial}
use Rattle.kernel_laws.specs.Rows.{entry_at}
use Rattle.kernel_laws.specs.RowSteps.{HasQuotient}
use Rattle.key_laws.specs.CommonDivisors.{IsCommonDivisor}
use Rattle.key_laws.specs.DegreeBounds.{coefficient_count}
use Rattle.key_laws.specs.Solutions.{IsLeastSolution}
use Rattle.key_laws.proofs.CommonDivisors.{divisor_stays}
use Rattle.poly_divide.specs.Forms.{linear}
use Rattle.reducing.specs.Laws.FactorLists.{laws, linear_is_factor}
use Rattle.reducing.specs.PolynomialRows.{lead_number}
use Rattle.hypergeometric.specs.LinearForm.{LinearForm}
use Rattle.hypergeometric.specs.FormOrder.{IsSorted}
use Rattle.hypergeometric.specs.Claim.{Claim}
use Rattle.hypergeometric.specs.FactorLists.{power_of}
use Rattle.hypergeometric.specs.Products.{list_polynomial}
use Rattle.term_pieces.specs.Pieces.{Pieces}
use Rattle.term_pieces.specs.NormalForm.{Normal}
use Rattle.pole_laws.specs.Orders.{sides_of}
use Rattle.pole_laws.proofs.FormProducts.{forms_in_k}
use Rattle.right_claims.specs.Cancelling.{Divides}
use Rattle.right_claims.specs.Choice.{IsReduced, IsLeastMultiplier, IsBestClaim}
use Rattle.right_claims.specs.KeySolutions.{q_of, b_of, y_of, multiplier_of}
use Rattle.right_claims.specs.Orders.{IsLeftBy}
use Rattle.right_claims.proofs.CommonDivisors.{reduced_solution}
use Rattle.right_claims.proofs.LeastSolutions.{y_value, least_solution}
use Rattle.right_claims.proofs.LeftClaims.{OfZero, OfSome, over}
use Rattle.right_claims.proofs.Listings.{listing_at, listing_length}

abbrev o : Ops Meaning
o = (level 1).ops

module _ (pieces : Pieces) (normal : Normal) (tops : List Meaning) (count : ℕ) (c : Claim) (size : length tops ≡ count)
    (sorted : IsSorted normal.poles.factors) (h : IsLeftBy pieces normal tops count c) where
  abbrev first : ℕ
  first = coefficient_count h.bound

  abbrev Y : Polynomial (level 1)
  Y = y_value normal tops count size h.bound h.free h.vector h.chosen

  as_many : length c.multipliers ≡ count
  as_many = ap length h.multipliers_are ∙ listing_length count (multiplier_of h.bound h.vector)

  entry_is : (j : ℕ) → j < count → entry_at o c.multipliers j ≡ multiplier_of h.bound h.vector j
  entry_is j b = ap (λ ms. entry_at o ms j) h.multipliers_are ∙ listing_at o.nought count (multiplier_of h.bound h.vector) j b

  solution : IsLeastSolution (level 1) (q_of normal) (b_of normal) (sides_of normal tops) (y_of h.bound h.vector) (multiplier_of h.bound h.vector)
      (h.free - coefficient_count h.bound)
  solution = least_solution normal tops count size h.bound h.free h.vector h.chosen

  last_within : h.free - first < count
  last_within = omega (arith, solution.ends.within, size, length-map tops ((level 2).ops.product (list_polynomial normal.g)))

  is_least : IsLeastMultiplier normal tops c (h.free - first)
  is_least = record {
    ends = record {
      within = omega (arith, last_within, as_many);
      here = λ z. solution.ends.here (sym (entry_is (h.free - first) last_within) ∙ z);
      later = λ k a b. entry_is k (omega (arith, b, as_many))
          ∙ solution.ends.later k a (omega (arith, b, as_many, size, length-map tops ((level 2).ops.product (list_polynomial normal.g))));
    };
    positive =
        subst (λ m. pos 0 <ℤ lead_number m) (sym (entry_is (h.free - first) last_within ∙ ap (entry_at o h.vector) back)) h.chosen.signed.positive;
    least = solution.least;
  }
    where
      back : first + (h.free - first) ≡ h.free
      back = omega (arith, h.chosen.by_steps.first_free.from)

  abbrev Over : Type 0
  Over = OfSome normal.poles.factors Y c.y c.poles ⊎ OfZero Y c.y c.poles

  none_divides : Over → AllByRecursion (λ x. ¬ (Divides x.form c.y)) c.poles
  none_divides (inl s) = s.outcome.none_divides
  none_divides (inr z) = subst (AllByRecursion (λ x. ¬ (Divides x.form c.y))) (sym z.poles_are) tt

  powers : Over → (s : LinearForm) → power_of s c.poles ≤ power_of s normal.poles.factors
  powers (inl s) f = omega (arith, s.outcome.powers f)
  powers (inr z) f = omega (arith, ap (power_of f) z.poles_are)

  -- a common divisor of the multipliers and of what is left of Y is one of Y too
  of_whole : (t : Passing (level 1)) → Over → IsCommonDivisor (level 1) count (multiplier_of h.bound h.vector) c.y t.0
      → IsCommonDivisor (level 1) count (multiplier_of h.bound h.vector) Y.0 t.0
  of_whole t (inl s) d =
      divisor_stays (level 1) laws count (multiplier_of h.bound h.vector) Y s.outcome.value (forms_in_k s.outcome.gone) t
      (ap (λ (x : Polynomial (level 1)). x.0) s.outcome.of_y)
      (subst (λ y. IsCommonDivisor (level 1) count (multiplier_of h.bound h.vector) y t.0) s.outcome.value_is d)
  of_whole t (inr z) d = subst (λ y. IsCommonDivisor (level 1) count (multiplier_of h.bound h.vector) y t.0) z.left_is d

  of_claim : (t : Passing (level 1)) → IsCommonDivisor (level 1) (length c.multipliers) (entry_at o c.multipliers) c.y t.0
      → IsCommonDivisor (level 1) count (multiplier_of h.bound h.vector) Y.0 t.0
  of_claim t d = of_whole t (over pieces normal tops count c size h sorted) (record {
    of_multipliers = λ j b. subst (HasQuotient (level 1) t.0) (entry_is j b) (d.of_multipliers j (omega (arith, b, as_many)));
    of_y = d.of_y;
  })

  reduced : IsReduced (length c.multipliers) (entry_at o c.multipliers) c.y
  reduced =
      let whole = reduced_solution normal tops count size h.bound h.free h.vector h.chosen in
      record {
        numbers = λ n l d. whole.numbers n l (of_claim (o.whole (pos n), laws.closed.whole (pos n)) d);
        forms = λ u v p d. whole.forms u v p (of_claim (linear (pos u) v, (linear_is_factor u v p.from_one).0) d);
      }

  pub best : IsBestClaim normal tops c
  best = record {
    last = h.free - first;
    least = is_least;
    no_pole_divides = none_divides (over pieces normal tops count c size h sorted);
    within_chains = powers (over pieces normal tops count c size h sorted);
    reduced = reduced;
  }
