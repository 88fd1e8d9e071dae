-- Over 1 or -1 an even number of times, a running fraction stays.
use Rattle.std.proofs.Common.{◌≡◌, ◌≢◌, ℕ, zero, suc, ◌+◌, ◌*◌, ◌/◌, ◌%◌, refl, ap, sym, ◌∙◌, subst, arith, [], ◌∷◌, Result, Ok, Err}
use Rattle.std.proofs.lemmas.Int.{ints, unsigned_abs-mul}
use Rattle.std.specs.Prelude.{ℤ, pos, negsuc, ◌*ℤ◌, ◌<ℤ◌, unsigned_abs, replicate}
use Rattle.std.specs.Int.{◌∣◌}
use Rattle.ring_solver.proofs.Integers.{integers}
use Rattle.ring_solver.proofs.Linear.{from1}
use Rattle.ring_solver.proofs.Read.{ring_z, reading_z}
use Rattle.ring_laws.specs.Answer.{fault_weaker}
use Rattle.ring_laws.specs.declared.faults.RingFault.{RingFault}
use Rattle.poly_fraction.specs.Fractions.{RingFraction}
use Rattle.hypergeometric.specs.Fraction.{Fraction, fraction_product}
use Rattle.hypergeometric.proofs.FractionLaws.{product_not_zero}
use Rattle.proper_term.specs.Fields.{number_fraction, number_fraction_of}
use Rattle.proper_term.specs.Runs.{IsInLowestTerms, IsReduced, Runs, RunsInBounds, GivesRun}

square : (z : ℤ) → unsigned_abs z ≡ 1 → z *ℤ z ≡ pos 1
square (pos m) e = ap (λ n. pos (n * n)) e
square (negsuc m) e = ap (λ n. pos (n * n)) e

positive_not_zero : (b : ℤ) → pos 0 <ℤ b → b ≢ pos 0
positive_not_zero b h e = omega (arith, ints, h, e)

module _ (r : Fraction) (v : ℤ) (unit : unsigned_abs v ≡ 1) (lowest : IsInLowestTerms r) where
  abbrev over : Fraction
  over = number_fraction (pos 1) v

  -- r over v
  abbrev between : Fraction
  between = number_fraction (r.top *ℤ v) r.bottom

  not_zero : v ≢ pos 0
  not_zero e = omega (arith, ints, unit, e)

  there : IsReduced between (fraction_product r over)
  there = record {
    same = record {
      left_defined = positive_not_zero r.bottom lowest.positive;
      right_defined = product_not_zero r.bottom v (positive_not_zero r.bottom lowest.positive) not_zero;
      cross = cross r.top r.bottom v (square v unit);
    };
    lowest = record {
      positive = lowest.positive;
      coprime = λ d p q. lowest.coprime d (subst (λ t. d ∣ t) (same_size r.top) p) q;
    };
  }
    where
      cross : (a b v : ℤ) → v *ℤ v ≡ pos 1 → (a *ℤ v) *ℤ (b *ℤ v) ≡ (a *ℤ pos 1) *ℤ b
      cross a b v e = from1 integers (a *ℤ b) e (ring_z (a ∷ b ∷ v ∷ []) (search reading_z depth 40 fits 20000) refl)

      same_size : (a : ℤ) → unsigned_abs (a *ℤ v) ≡ unsigned_abs a
      same_size a = unsigned_abs-mul a v ∙ ap (λ t. unsigned_abs a * t) unit ∙ once (unsigned_abs a)
        where
          once : (a : ℕ) → a * 1 ≡ a
          once a = omega arith

  back : IsReduced r (fraction_product between over)
  back = record {
    same = record {
      left_defined = positive_not_zero r.bottom lowest.positive;
      right_defined = product_not_zero r.bottom v (positive_not_zero r.bottom lowest.positive) not_zero;
      cross = cross r.top r.bottom v;
    };
    lowest = lowest;
  }
    where
      cross : (a b v : ℤ) → a *ℤ (b *ℤ v) ≡ ((a *ℤ v) *ℤ pos 1) *ℤ b
      cross a b v = ring_z (a ∷ b ∷ v ∷ []) (search reading_z depth 40 fits 20000) refl

  steps : (q rest : ℕ) → 2 * suc q + rest ≡ suc (suc (2 * q + rest))
  steps q rest = omega arith

  none : (rest : ℕ) → rest ≡ 2 * 0 + rest
  none rest = omega arith

  runs_on : (q rest : ℕ) (s : Fraction) → Runs r (replicate rest over) s → Runs r (replicate (2 * q + rest) over) s
  runs_on zero rest s h = subst (λ n. Runs r (replicate n over) s) (none rest) h
  runs_on (suc q) rest s h = subst (λ n. Runs r (replicate n over) s) (sym (steps q rest)) (between, there, (r, back, runs_on q rest s h))

  bounds_on : (q rest : ℕ) → RunsInBounds r (replicate (2 * q + rest) over) → RunsInBounds r (replicate rest over)
  bounds_on zero rest b = subst (λ n. RunsInBounds r (replicate n over)) (sym (none rest)) b
  bounds_on (suc q) rest b = bounds_on q rest ((((subst (λ n. RunsInBounds r (replicate n over)) (steps q rest) b).1 between there).1) r back)

  halves : (count : ℕ) → 2 * (count / 2) + count % 2 ≡ count
  halves count = omega arith

  -- the answer for the last digit of the count is that for the count
  pub by_last_digit : {T : Type 0} (fraction : T → RingFraction) (count : ℕ) (result : Result T RingFault)
      → GivesRun fraction r (replicate (count % 2) over) result → GivesRun fraction r (replicate count over) result
  by_last_digit fraction count (Ok f) h =
      subst (λ n. Runs r (replicate n over) (number_fraction_of (fraction f))) (halves count) (runs_on (count / 2) (count % 2) (number_fraction_of
      (fraction f)) h)
  by_last_digit fraction count (Err fault) h =
      fault_weaker fault (λ n b. n (bounds_on (count / 2) (count % 2) (subst (λ m. RunsInBounds r (replicate m over)) (sym (halves count)) b))) h
