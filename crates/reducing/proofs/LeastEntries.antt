-- The first entry of least degree, one entry after the other.
use Rattle.std.proofs.Common.{◌≡◌, ℕ, ◌+◌, ◌<◌, ◌≤◌, Bool, true, false, IsTrue, IsFalse, List, refl, sym, ap, subst, arith, Option, Some, None, ⊎_elim}
use Rattle.std.proofs.lemmas.Bool.{cases_lt}
use Rattle.ring_laws.specs.Meaning.{Meaning}
use Rattle.whole_roots.specs.Differences.{polynomials}
use Rattle.kernel_laws.specs.Rows.{entry_at}
use Rattle.reducing.specs.PolynomialRows.{degree, degree_at, IsNonzeroAt, IsLeastOf}
use Rattle.reducing.specs.PolynomialAnswers.{LeastOf}

pub refused : {P : Type 0} (b : Bool) → b ≡ false → (P → IsTrue b) → ¬ P
refused b e f p = cc (e, f p)

false_from : (b : Bool) → ¬ (IsTrue b) → IsFalse b
false_from true n = absurd (n refl)
false_from false n = refl

module _ (row : List Meaning) (n : ℕ) where
  abbrev IsZero : Meaning → Type 0
  IsZero m = IsTrue (polynomials.ops.is_nought m)

  abbrev entry : ℕ → Meaning
  entry k = entry_at polynomials.ops row k

  not_both : (m : Meaning) → IsZero m → ¬ (IsFalse (polynomials.ops.is_nought m))
  not_both m h k = cc (h, k)

  at_last : (P : ℕ → Type 0) → P n → ((k : ℕ) → k < n → P k) → (k : ℕ) → k < n + 1 → P k
  at_last P p h k b = ⊎_elim (λ c. h k c) (λ c. subst P (omega (arith, b, c)) p) (cases_lt k n)

  pub least_zero : (least : Option ℕ) (m : Meaning) → entry n ≡ m → IsZero m → LeastOf row n least → LeastOf row (n + 1) least
  least_zero (Some place) m e z h = record {
    within = omega (arith, h.within);
    nonzero = h.nonzero;
    least = at_last (λ k. IsNonzeroAt row k → degree_at row place ≤ degree_at row k)
        (λ c. absurd (not_both (entry n) (subst IsZero (sym e) z) c)) h.least;
    first = h.first;
  }
  least_zero None m e z h = at_last (λ k. IsZero (entry k)) (subst IsZero (sym e) z) h

  nonzero_at : (m : Meaning) → entry n ≡ m → ¬ (IsZero m) → IsNonzeroAt row n
  nonzero_at m e z = subst (λ t. IsFalse (polynomials.ops.is_nought t)) (sym e) (false_from (polynomials.ops.is_nought m) z)

  pub least_first : (m : Meaning) → entry n ≡ m → ¬ (IsZero m) → LeastOf row n None → IsLeastOf row (n + 1) n
  least_first m e z h = record {
    within = omega arith;
    nonzero = nonzero_at m e z;
    least = at_last (λ k. IsNonzeroAt row k → degree_at row n ≤ degree_at row k) (λ c. omega arith) (λ k b c. absurd (not_both (entry k) (h k b) c));
    first = λ k b c. absurd (not_both (entry k) (h k b) c);
  }

  pub least_next : (place w v : ℕ) (m p : Meaning) → entry n ≡ m → entry place ≡ p → ¬ (IsZero m) → w ≡ degree m → v ≡ degree p → w < v
      → IsLeastOf row n place → IsLeastOf row (n + 1) n
  least_next place w v m p e f z g i b h =
      let lesser : degree_at row n < degree_at row place = omega (arith, b, g, i, ap degree e, ap degree f) in
      record {
        within = omega arith;
        nonzero = nonzero_at m e z;
        least = at_last (λ k. IsNonzeroAt row k → degree_at row n ≤ degree_at row k) (λ c. omega arith)
            (λ k d c. omega (arith, lesser, h.least k d c));
        first = λ k d c. omega (arith, lesser, h.least k d c);
      }

  pub least_stays : (place w v : ℕ) (m p : Meaning) → entry n ≡ m → entry place ≡ p → w ≡ degree m → v ≡ degree p → v ≤ w
      → IsLeastOf row n place → IsLeastOf row (n + 1) place
  least_stays place w v m p e f g i b h =
      let no_less : degree_at row place ≤ degree_at row n = omega (arith, b, g, i, ap degree e, ap degree f) in
      record {
        within = omega (arith, h.within);
        nonzero = h.nonzero;
        least = at_last (λ k. IsNonzeroAt row k → degree_at row place ≤ degree_at row k) (λ c. no_less) h.least;
        first = h.first;
      }
