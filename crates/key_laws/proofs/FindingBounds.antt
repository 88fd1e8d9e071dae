-- How the degree bound follows from the degrees, and from the quotient of B - A by the leading coefficient.
use Rattle.std.specs.Prelude.{◌≡◌, ℕ, ◌+◌, ◌<◌, ◌≤◌, max, ℤ, pos, ◌+ℤ◌, neg_ℤ, List, Option, Some, None}
use Rattle.std.proofs.Common.{ap, sym, ◌∙◌, ⊎_elim, subst, arith}
use Rattle.std.proofs.lemmas.Bool.{cases_lt}
use Rattle.std.proofs.lemmas.Int.{ints}
use Rattle.ring_laws.specs.Meaning.{Meaning}
use Rattle.ring_laws.specs.Algebra.{Ops, Algebra, Passing, within, Laws, same_passing}
use Rattle.ring_laws.specs.Division.{DomainLaws}
use Rattle.division_laws.specs.Polynomials.{coefficient_of, coefficient_before}
use Rattle.key_laws.specs.DegreeBounds.{IsGreatestDegree, Agree, IsCandidate, by_degrees, one_above, by_leads, IsBoundAt, greatest, no_candidate}
use Rattle.poly_laws.specs.PolyAlgebra.{poly_algebra}
use Rattle.poly_laws.proofs.Fitting.{item_at}
use Rattle.poly_laws.proofs.OneQuotient.{cancel}
use Rattle.kernel_laws.proofs.Cancelling.{cancel_factor}
use Rattle.key_laws.proofs.OneBound.{one_degree}
use Rattle.division_laws.proofs.Polynomials.{part}

-- the candidate that the degrees give where the leading coefficients differ, and where they agree
abbrev pub IsDegreeDifference : Ops Meaning → List Meaning → ℕ → ℕ → Option ℕ → Type 0
IsDegreeDifference o sides m more (Some e) = (d : ℕ) × IsGreatestDegree o sides d × (e + m ≡ d + more)
IsDegreeDifference o sides m more None = (d e : ℕ) → IsGreatestDegree o sides d → ¬ (e + m ≡ d + more)

-- the whole number e with e*L = B - A, where there is one
abbrev pub IsLeadQuotient : Ops Meaning → (q b : Meaning) → ℕ → Option ℕ → Type 0
IsLeadQuotient o q b m (Some e) = o.product (o.whole (pos e)) (coefficient_of o q m) ≡ o.sum (coefficient_before o b m) (o.neg (coefficient_before o q m))
IsLeadQuotient o q b m None =
    (e : ℕ) → ¬ (o.product (o.whole (pos e)) (coefficient_of o q m) ≡ o.sum (coefficient_before o b m) (o.neg (coefficient_before o q m)))

abbrev pub greater : Option ℕ → Option ℕ → Option ℕ
greater None y = y
greater (Some x) None = Some x
greater (Some x) (Some y) = Some (max x y)

module _ (o : Ops Meaning) (q b : Meaning) (sides : List Meaning) (m : ℕ) where
  -- where the leading coefficients differ
  pub bound_by_degrees : ¬ Agree o q b m → (found : Option ℕ) → IsDegreeDifference o sides m 0 found → IsBoundAt o q b sides m found
  bound_by_degrees differ (Some e) h = greatest (by_degrees differ h.1 (omega (arith, h.2))) most
    where
      most : (i : ℕ) → IsCandidate o q b sides m i → i ≤ e
      most i (by_degrees {d} n g p) = omega (arith, h.2, p, one_degree o sides d h.0 g h.1)
      most i (one_above same g p) = absurd (differ same)
      most i (by_leads same p) = absurd (differ same)
  bound_by_degrees differ None h = no_candidate none
    where
      none : (i : ℕ) → ¬ IsCandidate o q b sides m i
      none i (by_degrees {d} n g p) = h d i g (omega (arith, p))
      none i (one_above same g p) = differ same
      none i (by_leads same p) = differ same

  -- where they agree, and one number at most is the quotient of the leads
  module _ (same : Agree o q b m) (one : (d e : ℕ) → IsLeadQuotient o q b m (Some d) → IsLeadQuotient o q b m (Some e) → d ≡ e) where
    pub bound_by_both : (by_degree by_lead : Option ℕ) → IsDegreeDifference o sides m 1 by_degree → IsLeadQuotient o q b m by_lead
        → IsBoundAt o q b sides m (greater by_degree by_lead)
    bound_by_both None None h k = no_candidate none
      where
        none : (i : ℕ) → ¬ IsCandidate o q b sides m i
        none i (by_degrees n g p) = n same
        none i (one_above {d} s g p) = h d i g (omega (arith, p))
        none i (by_leads s p) = k i p
    bound_by_both None (Some y) h k = greatest (by_leads same k) most
      where
        most : (i : ℕ) → IsCandidate o q b sides m i → i ≤ y
        most i (by_degrees n g p) = absurd (n same)
        most i (one_above {d} s g p) = absurd (h d i g (omega (arith, p)))
        most i (by_leads s p) = omega (arith, one i y p k)
    bound_by_both (Some x) None h k = greatest (one_above same h.1 (omega (arith, h.2))) most
      where
        most : (i : ℕ) → IsCandidate o q b sides m i → i ≤ x
        most i (by_degrees n g p) = absurd (n same)
        most i (one_above {d} s g p) = omega (arith, h.2, p, one_degree o sides d h.0 g h.1)
        most i (by_leads s p) = absurd (k i p)
    bound_by_both (Some x) (Some y) h k = ⊎_elim from_lead from_degree (cases_lt x y)
      where
        most : (i : ℕ) → IsCandidate o q b sides m i → i ≤ max x y
        most i (by_degrees n g p) = absurd (n same)
        most i (one_above {d} s g p) = omega (arith, h.2, p, one_degree o sides d h.0 g h.1)
        most i (by_leads s p) = omega (arith, one i y p k)

        from_lead : x < y → IsBoundAt o q b sides m (Some (max x y))
        from_lead c =
            let top : y ≡ max x y = omega (arith, c) in
            greatest (subst (IsCandidate o q b sides m) top (by_leads same k)) most

        from_degree : y ≤ x → IsBoundAt o q b sides m (Some (max x y))
        from_degree c =
            let top : x ≡ max x y = omega (arith, c) in
            greatest (subst (IsCandidate o q b sides m) top (one_above same h.1 (omega (arith, h.2)))) most

module _ (a : Algebra) (l : Laws a) (d : DomainLaws a) where
  abbrev base : Ops (Passing a)
  base = within a l.closed

  -- the whole numbers stand apart in a domain
  pub one_whole : (i j : ℕ) → base.whole (pos i) ≡ base.whole (pos j) → i ≡ j
  one_whole i j e =
      let apart : ℤ = pos i +ℤ neg_ℤ (pos j) in
      let back : apart +ℤ pos j ≡ pos i = omega (arith, ints) in
      let none : base.whole apart ≡ base.nought =
      cancel base l.ring (base.whole apart) base.nought (base.whole (pos j))
      (sym (l.ring.whole_sum apart (pos j)) ∙ ap base.whole back ∙ e ∙ sym (l.ring.nought_sum (base.whole (pos j)))) in
      let zero : apart ≡ pos 0 = d.whole_nought apart (ap (λ (t : Passing a). t.0) none) in
      omega (arith, ints, zero)

  module _ (q b : Passing (poly_algebra a)) (m : ℕ) (some : ¬ (coefficient_of a.ops q.0 m ≡ a.ops.nought)) where
    lead : Passing a
    lead = part a l q m

    lead_is : coefficient_of a.ops q.0 m ≡ lead.0
    unfolding lead
    lead_is = item_at a l.closed l.ring l.magnitudes q m

    lead_some : ¬ (lead ≡ base.nought)
    lead_some e = some (lead_is ∙ ap (λ (t : Passing a). t.0) e)

    abbrev pub lead_difference : Meaning
    lead_difference = a.ops.sum (coefficient_before a.ops b.0 m) (a.ops.neg (coefficient_before a.ops q.0 m))

    -- a quotient is the only one
    pub one_quotient : (x y : Passing a) → a.ops.product x.0 (coefficient_of a.ops q.0 m) ≡ lead_difference
        → a.ops.product y.0 (coefficient_of a.ops q.0 m) ≡ lead_difference → x ≡ y
    one_quotient x y h k =
        cancel_factor a l d x y lead lead_some
        (same_passing a (base.product x lead) (base.product y lead)
        (ap (a.ops.product x.0) (sym lead_is) ∙ h ∙ sym k ∙ ap (a.ops.product y.0) lead_is))

    pub one_lead : (i j : ℕ) → IsLeadQuotient a.ops q.0 b.0 m (Some i) → IsLeadQuotient a.ops q.0 b.0 m (Some j) → i ≡ j
    one_lead i j h k = one_whole i j (one_quotient (base.whole (pos i)) (base.whole (pos j)) h k)

    -- a quotient that is no whole number of at least 0: there is none
    pub no_lead : (x : Passing a) → a.ops.product x.0 (coefficient_of a.ops q.0 m) ≡ lead_difference
        → ((i : ℕ) → ¬ (x.0 ≡ a.ops.whole (pos i))) → IsLeadQuotient a.ops q.0 b.0 m None
    no_lead x h never i k = never i (ap (λ (t : Passing a). t.0) (one_quotient x (base.whole (pos i)) h k))
