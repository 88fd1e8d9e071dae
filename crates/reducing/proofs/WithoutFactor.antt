-- Taking a form out of a row of the code, as often as it divides every entry.
use Rattle.std.proofs.Common.{◌≡◌, ℕ, zero, suc, ◌+◌, ◌<◌, List, [], ◌∷◌, map, length, get_or, refl, sym, ap, ◌∙◌, subst, arith, Result, Ok, Err, Some, Vec, IsErrAnd}
use Rattle.std.proofs.lemmas.List.{length-map}
use Rattle.ring_laws.specs.Meaning.{Meaning}
use Rattle.ring_laws.specs.Algebra.{Passing}
use Rattle.ring_laws.specs.Answer.{OnFault, fault_weaker}
use Rattle.ring_laws.specs.declared.faults.RingFault.{RingFault}
use Rattle.poly_laws.proofs.Coefficients.{meanings_same}
use Rattle.whole_roots.specs.Differences.{polynomials}
use Rattle.kernel_laws.specs.Rows.{entry_at}
use Rattle.kernel_laws.specs.RowSteps.{Quotients, NoQuotients, QuotientsInBounds}
use Rattle.reducing.specs.RowAnswer.{GivesRow}
use Rattle.reducing.specs.TakenOut.{raised_to, times_row, TakenOut}
use Rattle.reducing.specs.Laws.ScaledRows.{scaled, scaled_is}
use Rattle.reducing.specs.Laws.RowPowers.{PowerOf, power_is, is_power, no_power, power_more}
use Rattle.reducing.specs.PolynomialRows.{Row, meant, OfRows, DivisionOfPolynomials}
use Rattle.reducing.specs.Laws.FactorLists.{laws, domain, P}
use Rattle.reducing.specs.PolynomialAnswers.{IsMost, FactorInBounds}
use Rattle.reducing.proofs.Polynomials.{Zn, sense, senses, row_of, row_meant}

same_rows : (x y : Row) → meant x ≡ meant y → x ≡ y
same_rows x y e = meanings_same polynomials laws.closed x y e

pub row_is : (row : List Zn) (x : Row) → senses row ≡ meant x → x ≡ row_of row
row_is row x e = same_rows x (row_of row) (sym e ∙ row_meant row)

-- ---- one form: the row is what is left times a power of it
abbrev pub IsLeft : Meaning → ℕ → List Zn → List Zn → Type 0
IsLeft t power row rest = senses row ≡ times_row polynomials (raised_to polynomials.ops t power) (row_of rest)

pub products_are : (t : Meaning) (quotients : List Zn)
    → map (λ q. polynomials.ops.product (sense q) t) quotients ≡ times_row polynomials t (row_of quotients)
products_are t [] = refl
products_are t (q ∷ qs) = ap (λ s. polynomials.ops.product (sense q) t ∷ s) (products_are t qs)

-- the quotients of the entries, as products and as a row of any size
products_of : (t : Meaning) (row quotients : List Zn) → Quotients polynomials t (senses row) (senses quotients)
    → senses row ≡ map (λ q. polynomials.ops.product (sense q) t) quotients
products_of t [] [] h = refl
products_of t [] (q ∷ qs) h = absurd h
products_of t (f ∷ fs) [] h = absurd h
products_of t (f ∷ fs) (q ∷ qs) h = cc (h.0, products_of t fs qs h.1)

pub entry_of_times : (t : Meaning) (row : Row) (k : ℕ) → k < length row
    → entry_at polynomials.ops (times_row polynomials t row) k ≡ polynomials.ops.product (get_or row k P.nought).0 t
entry_of_times t [] k b = absurd (omega arith)
entry_of_times t (x ∷ xs) zero b = refl
entry_of_times t (x ∷ xs) (suc k) b = entry_of_times t xs k (omega arith)

none_of : (t : Meaning) (row : List Meaning) → NoQuotients polynomials t row → (quotients : Row) → ¬ (row ≡ times_row polynomials t quotients)
none_of t row h quotients e =
    h.none (record {
      quotient = get_or quotients h.index P.nought;
      is = sym (ap (λ ms. entry_at polynomials.ops ms h.index) e ∙ entry_of_times t quotients h.index
          (omega (arith, h.within, ap length e, length-map quotients (λ (w : Passing polynomials). polynomials.ops.product w.0 t))));
    })

module _ (t : Passing polynomials) where
  abbrev form : Meaning
  form = t.0

  left_power : (power : ℕ) (row rest : List Zn) → IsLeft form power row rest → PowerOf polynomials laws domain t power (row_of row) (row_of rest)
  left_power power row rest e = power_is polynomials laws domain t power (row_of row) (row_of rest) (sym (row_meant row) ∙ e)

  power_left : (power : ℕ) (row rest : List Zn) → PowerOf polynomials laws domain t power (row_of row) (row_of rest) → IsLeft form power row rest
  power_left power row rest e = row_meant row ∙ is_power polynomials laws domain t power (row_of row) (row_of rest) e

  pub left_first : (row : List Zn) → IsLeft form 0 row row
  left_first row = power_left 0 row row (no_power polynomials laws domain t (row_of row))

  quotients_row : (rest quotients : List Zn) → senses rest ≡ map (λ q. polynomials.ops.product (sense q) form) quotients
      → row_of rest ≡ scaled polynomials laws domain t (row_of quotients)
  quotients_row rest quotients e =
      scaled_is polynomials laws domain t (row_of rest) (row_of quotients) (sym (row_meant rest) ∙ e ∙ products_are form quotients)

  pub left_more : (power : ℕ) (row rest quotients : List Zn) → IsLeft form power row rest
      → Quotients polynomials form (senses rest) (senses quotients) → IsLeft form (power + 1) row quotients
  left_more power row rest quotients e f =
      power_left (power + 1) row quotients (power_more polynomials laws domain t power (row_of row) (row_of rest) (row_of quotients)
      (left_power power row rest e) (quotients_row rest quotients (products_of form rest quotients f)))

  -- what is left, which the form doesn't divide
  pub taken_out : (power : ℕ) (row rest : List Zn) → IsLeft form power row rest
      → ((quotients : Row) → ¬ (senses rest ≡ times_row polynomials form quotients)) → OfRows (TakenOut polynomials form) (senses row) (senses rest)
  taken_out power row rest e n = record {
    row = row_of row;
    row_is = row_meant row;
    result = row_of rest;
    result_is = row_meant rest;
    holds = record { power = power; times = sym (row_meant row) ∙ e; no_more = λ quotients f. n quotients (row_meant rest ∙ f) };
  }

  pub none_taken : (power : ℕ) (row rest : List Zn) → IsLeft form power row rest → NoQuotients polynomials form (senses rest)
      → OfRows (TakenOut polynomials form) (senses row) (senses rest)
  none_taken power row rest e n = taken_out power row rest e (none_of form (senses rest) n)

  -- after the greatest power the form divides no more
  pub most_taken : (power : ℕ) (row rest : List Zn) → IsMost form power (senses row) → IsLeft form power row rest
      → (quotients : Row) → ¬ (senses rest ≡ times_row polynomials form quotients)
  most_taken power row rest n e quotients f =
      n quotients (row_meant row ∙ is_power polynomials laws domain t (power + 1) (row_of row) quotients
      (power_more polynomials laws domain t power (row_of row) (row_of rest) quotients (left_power power row rest e)
      (scaled_is polynomials laws domain t (row_of rest) quotients (sym (row_meant rest) ∙ f))))

  pub fault_left : (power : ℕ) (row rest : List Zn) (fault : RingFault) → IsLeft form power row rest
      → OnFault (¬ (QuotientsInBounds DivisionOfPolynomials polynomials form (senses rest))) fault
      → OnFault (¬ (FactorInBounds form (senses row))) fault
  fault_left power row rest fault e k =
      fault_weaker fault (λ n s. n (subst (QuotientsInBounds DivisionOfPolynomials polynomials form) (sym (row_meant rest))
      (s (row_of row) (row_meant row) power (row_of rest) (sym (row_meant row) ∙ e)))) k

pub fault_row : {Z : Type 0} (R : List Meaning → Type 0) (InBounds : Type 0) (r : Result (Vec Zn Z) RingFault) (fault : RingFault)
    → IsErrAnd r (λ e. e ≡ fault) → OnFault (¬ InBounds) fault → GivesRow sense R InBounds r
fault_row R InBounds (Ok v) fault e h = absurd e
fault_row R InBounds (Err d) fault e h = subst (OnFault (¬ InBounds)) (sym e) h

pub same_some : {A : Type 0} (x y : A) → Some x ≡ Some y → x ≡ y
same_some x y e = cc
