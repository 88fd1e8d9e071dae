-- Which candidates for the degree bound a coefficient that isn't zero gives.
use Rattle.std.specs.Prelude.{◌≡◌, ℕ, zero, suc, ◌+◌, ◌-◌, ◌≤◌, ◌⊎◌, pos, Option, Some, None, List, [], ◌∷◌, refl}
use Rattle.std.proofs.Common.{ap, sym, ◌∙◌, inl, inr, ⊎_elim, arith}
use Rattle.ring_laws.specs.Meaning.{Meaning}
use Rattle.ring_laws.specs.Algebra.{Ops, Algebra, Passing, within, Laws, same_passing}
use Rattle.ring_laws.specs.Division.{DomainLaws}
use Rattle.poly_laws.specs.Lists.{coefficient_at}
use Rattle.poly_laws.specs.PolyAlgebra.{poly_algebra}
use Rattle.poly_laws.proofs.Fitting.{item_at}
use Rattle.poly_laws.proofs.ListLaws.{nought_product, neg_nought}
use Rattle.poly_laws.proofs.OneQuotient.{equal_by}
use Rattle.kernel_laws.specs.Reduction.{bare}
use Rattle.poly_laws.proofs.Trimming.{zero_or_not}
use Rattle.division_laws.specs.Polynomials.{coefficient_before}
use Rattle.key_laws.specs.DegreeBounds.{HaveZeros, IsGreatestDegree, Agree, IsCandidate, by_degrees, one_above, by_leads, IsBoundAt, greatest, no_candidate, coefficient_count}
use Rattle.poly_laws.proofs.ShiftedTops.{EndsBy}
use Rattle.division_laws.proofs.Polynomials.{list_of, part, part_nought}
use Rattle.key_laws.proofs.GreatestDegrees.{greatest_from}

-- a candidate is below the count of a bound
pub below_bound : (o : Ops Meaning) (q b : Meaning) (sides : List Meaning) (m : ℕ) (bound : Option ℕ) → IsBoundAt o q b sides m bound
    → (e : ℕ) → IsCandidate o q b sides m e → suc e ≤ coefficient_count bound
below_bound o q b sides m (Some g) (greatest c h) e k = omega (arith, h e k)
below_bound o q b sides m None (no_candidate h) e k = absurd (h e k)

module _ (a : Algebra) (l : Laws a) (d : DomainLaws a) where
  abbrev base : Ops (Passing a)
  base = within a l.closed

  before : (f : Passing (poly_algebra a)) (i : ℕ)
      → coefficient_before a.ops f.0 i ≡ (coefficient_at base (base.nought ∷ list_of a l f) i).0
  before f zero = refl
  before f (suc i) = item_at a l.closed l.ring l.magnitudes f i

  pub agree_or_not : (x y : Passing a) → (x ≡ y) ⊎ ¬ (x ≡ y)
  agree_or_not x y =
      ⊎_elim (λ z. inl (equal_by base l.ring x y z)) (λ m. inr (λ e. m (ap (λ t. base.sum t (base.neg y)) e ∙ l.ring.sum_neg y)))
      (zero_or_not base l.ring (base.sum x (base.neg y)))

  -- at the power 0 there is none before
  pub none_before : (m e : ℕ) → m ≡ 0 → e ≡ 0 → (x : Passing a) (us vs : List (Passing a))
      → base.product (base.whole (pos e)) x ≡ base.sum (coefficient_at base (base.nought ∷ us) m) (base.neg (coefficient_at base (base.nought ∷ vs) m))
  none_before zero zero f g x us vs =
      ap (λ t. base.product t x) l.ring.whole_zero ∙ nought_product base l.ring x
      ∙ sym (ap (base.sum base.nought) (neg_nought base l.ring) ∙ l.ring.nought_sum base.nought)
  none_before zero (suc e) f g x us vs = absurd (omega arith)
  none_before (suc m) e f g x us vs = absurd (omega arith)

  module _ (q b : Passing (poly_algebra a)) (sides : List (Passing (poly_algebra a))) (m : ℕ)
      (is_degree : IsGreatestDegree a.ops (q.0 ∷ b.0 ∷ []) m) where
    abbrev meanings : List Meaning
    meanings = bare (poly_algebra a) sides

    abbrev Candidate : ℕ → Type 0
    Candidate e = IsCandidate a.ops q.0 b.0 meanings m e

    pub ends_q : EndsBy base l.ring (list_of a l q) m
    ends_q k c = part_nought a l q k (is_degree.above k c).0

    pub ends_b : EndsBy base l.ring (list_of a l b) m
    ends_b k c = part_nought a l b k (is_degree.above k c).1.0

    agree : part a l q m ≡ part a l b m → Agree a.ops q.0 b.0 m
    agree e = item_at a l.closed l.ring l.magnitudes q m ∙ ap (λ (t : Passing a). t.0) e ∙ sym (item_at a l.closed l.ring l.magnitudes b m)

    agree_up : Agree a.ops q.0 b.0 m → part a l q m ≡ part a l b m
    agree_up e =
        same_passing a (part a l q m) (part a l b m)
        (sym (item_at a l.closed l.ring l.magnitudes q m) ∙ e ∙ item_at a l.closed l.ring l.magnitudes b m)

    -- a candidate from e on
    pub record CandidateFrom (e : ℕ) : Type 0 where
      pub place : ℕ
      pub candidate : IsCandidate a.ops q.0 b.0 (bare (poly_algebra a) sides) m place
      pub from : e ≤ place

    pub differ_up : (e : ℕ) → ¬ (part a l q m ≡ part a l b m) → ¬ HaveZeros a.ops meanings (m + e) → CandidateFrom e
    differ_up e differ some =
        let g = greatest_from a l sides (m + e) some in
        let back : (g.degree - m) + m ≡ g.degree = omega (arith, g.from) in
        record {
          place = g.degree - m;
          candidate = by_degrees (λ h. differ (agree_up h)) g.is_greatest back;
          from = omega (arith, g.from);
        }

    pub agree_above : (e n : ℕ) → part a l q m ≡ part a l b m → suc n ≡ m + e → ¬ HaveZeros a.ops meanings n → CandidateFrom e
    agree_above e n same p some =
        let g = greatest_from a l sides n some in
        let back : (suc g.degree - m) + m ≡ suc g.degree = omega (arith, g.from) in
        record {
          place = suc g.degree - m;
          candidate = one_above (agree same) g.is_greatest back;
          from = omega (arith, g.from);
        }

    pub lead_above : (e : ℕ) → part a l q m ≡ part a l b m
        → base.product (base.whole (pos e)) (part a l q m)
        ≡ base.sum (coefficient_at base (base.nought ∷ list_of a l b) m) (base.neg (coefficient_at base (base.nought ∷ list_of a l q) m))
        → CandidateFrom e
    lead_above e same h = record {
      place = e;
      candidate = by_leads (agree same) (cc (
        item_at a l.closed l.ring l.magnitudes q m,
        before b m,
        before q m,
        ap (λ (t : Passing a). t.0) h,
      ));
      from = omega arith;
    }
