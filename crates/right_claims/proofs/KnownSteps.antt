-- The steps of elimination on the two key rows of the binomial coefficient at the order 1 give the vector (-1, -2, 1).
use Rattle.std.proofs.Common.{ℕ, zero, suc, ◌<◌, ◌≤◌, [], ◌∷◌, List, refl, arith, inl, inr}
use Rattle.std.proofs.lemmas.Int.{ints}
use Rattle.std.proofs.lemmas.List.Elements.{All-nil}
use Rattle.std.proofs.Math.Nat.{one-dvd}
use Rattle.std.proofs.lemmas.Nat.Gcd.{dvd_refl}
use Rattle.std.specs.Prelude.{pos, negsuc, IsTrue}
use Rattle.ring_laws.specs.Meaning.{Meaning, listed}
use Rattle.ring_laws.specs.Algebra.{Passing}
use Rattle.poly_laws.specs.Values.{level}
use Rattle.whole_roots.specs.Differences.{polynomials}
use Rattle.kernel_laws.specs.Rows.{entry_at}
use Rattle.kernel_laws.specs.RowSteps.{divided}
use Rattle.kernel_laws.specs.Elimination.{Run, begin, pass, climb, changes, IsCandidate, entry}
use Rattle.kernel_laws.specs.BackSubstitution.{begin as first_vector, step, quotient}
use Rattle.kernel_laws.specs.Pivots.{IsPivotColumn}
use Rattle.kernel_laws.specs.Answers.{VectorOf}
use Rattle.reducing.specs.TakenOut.{none}
use Rattle.reducing.specs.PolynomialRows.{meant, IsLeast, IsNonzeroAt, degree_at, divides, PolynomialSplit, polynomial_reduction}
use Rattle.right_claims.proofs.KnownReductions.{no_factors}
use Rattle.right_claims.proofs.KnownRows.{const, of_k, rows}
use Rattle.right_claims.proofs.KnownReducedRows.{number_in, second_left, third_row, fourth_row, fifth_row, first_stays, second_reduced, third_stays, fourth_stays, fifth_stays}

-- the parts of -2 and of 1
lone_least : (x : Passing polynomials) → IsNonzeroAt (meant (x ∷ [])) 0 → IsLeast (meant (x ∷ [])) 0
lone_least x some = record { within = omega arith; nonzero = some; least = at; first = λ k b. absurd (omega (arith, b)) }
  where
    at : (k : ℕ) → k < 1 → IsNonzeroAt (meant (x ∷ [])) k → degree_at (meant (x ∷ [])) 0 ≤ degree_at (meant (x ∷ [])) k
    at zero b h = omega arith
    at (suc k) b h = absurd (omega (arith, b))

pub split_first : PolynomialSplit (const (negsuc 1)) (const (negsuc 1)) (const (pos 1))
split_first = record {
  is_core = record {
    value = number_in (negsuc 1) refl;
    value_is = refl;
    rest = number_in (negsuc 0) refl;
    reduced = divides (number_in (negsuc 0) refl ∷ []) []
        (record { content = 2; is_content = record { divides = (dvd_refl 2, tt); greatest = λ d h. h.0 }; not_zero = λ e. cc; times = refl })
        (record { place = 0; least = lone_least (number_in (negsuc 0) refl) refl; factors = no_factors (negsuc 0) (λ z. omega (arith, ints, z)) refl }) none;
    core_is = inr refl;
    positive = omega (arith, ints);
  };
  plain_part = number_in (negsuc 1) refl;
  plain_is = refl;
  product = refl;
}

pub split_second : PolynomialSplit (const (pos 1)) (const (pos 1)) (const (pos 1))
split_second = record {
  is_core = record {
    value = number_in (pos 1) refl;
    value_is = refl;
    rest = number_in (pos 1) refl;
    reduced = divides (number_in (pos 1) refl ∷ []) []
        (record { content = 1; is_content = record { divides = (one-dvd 1, tt); greatest = λ d h. h.0 }; not_zero = λ e. cc; times = refl })
        (record { place = 0; least = lone_least (number_in (pos 1) refl) refl; factors = no_factors (pos 1) (λ z. omega (arith, ints, z)) refl }) none;
    core_is = inl refl;
    positive = omega (arith, ints);
  };
  plain_part = number_in (pos 1) refl;
  plain_is = refl;
  product = refl;
}

-- all columns: two pivot rows
abbrev pub pivots : List (ℕ × List Meaning)
pivots = (0, of_k) ∷ (1, meant third_row) ∷ []

after_first : Run (level 1) polynomial_reduction rows 1 (meant third_row ∷ []) ((0, of_k) ∷ []) (const (pos 1))
after_first = climb [] (meant second_left ∷ []) of_k (const (negsuc 1)) (begin (first_stays, (second_reduced, tt)))
    (record { within = omega arith; candidate = refl; least = λ k b h. omega arith; first = λ k b. absurd (omega (arith, b)) })
    (changes refl (record { middle = third_row; divided = divided (meant third_row) (refl, (refl, (refl, tt))); reduced = third_stays }), tt) split_first

pub after_all : Run (level 1) polynomial_reduction rows 3 [] pivots (const (pos 1))
after_all = pass (climb [] [] (meant third_row) (const (pos 1)) after_first
    (record { within = omega arith; candidate = refl; least = least_of; first = λ k b. absurd (omega (arith, b)) }) tt split_second)
    (All-nil (λ row. IsTrue ((level 1).ops.is_nought (entry_at (level 1).ops row 2))))
  where
    least_of : (k : ℕ) → k < 1 → IsCandidate (level 1) 1 (meant third_row ∷ []) k
        → polynomial_reduction.weight (entry (level 1) (meant third_row ∷ []) 0 1) ≤ polynomial_reduction.weight (entry (level 1) (meant third_row ∷ []) k 1)
    least_of zero b h = omega arith
    least_of (suc k) b h = absurd (omega (arith, b))

-- the last column is none of a pivot
pub no_pivot : ¬ (IsPivotColumn 2 pivots)
no_pivot (inl e) = omega (arith, e)
no_pivot (inr (inl e)) = omega (arith, e)
no_pivot (inr (inr e)) = absurd e

-- the vector by the steps
abbrev pub vector_by_steps : VectorOf (level 1) polynomial_reduction 3 rows 2 (meant fifth_row)
vector_by_steps = record {
  pivots = pivots;
  ran = record { open_rows = []; divisor = const (pos 1); run = after_all };
  is_free = no_pivot;
  back = step
      (step first_vector
      (record {
        plain = const (pos 1);
        core = const (pos 1);
        split = split_second;
        rest = const (negsuc 1);
        middle = listed [] ∷ listed [] ∷ const (pos 1) ∷ [];
        by_core = quotient (number_in (negsuc 1) refl) refl;
        entry = const (negsuc 1);
        last = listed [] ∷ listed [] ∷ const (pos 1) ∷ [];
        by_plain = quotient (number_in (negsuc 1) refl) refl;
        reduced = fourth_stays;
      }))
      (record {
        plain = const (negsuc 1);
        core = const (pos 1);
        split = split_first;
        rest = const (pos 2);
        middle = meant fourth_row;
        by_core = quotient (number_in (pos 2) refl) refl;
        entry = const (negsuc 0);
        last = meant fourth_row;
        by_plain = quotient (number_in (negsuc 0) refl) refl;
        reduced = fifth_stays;
      });
}
