-- The rows that elimination reduces on the key rows of the binomial coefficient at the order 1, each reduced.
use Rattle.std.proofs.Common.{◌≡◌, ℕ, zero, suc, ◌<◌, ◌≤◌, [], ◌∷◌, List, refl, ap, sym, arith}
use Rattle.std.proofs.lemmas.Int.{ints}
use Rattle.std.proofs.Math.Nat.{one-dvd}
use Rattle.std.specs.Prelude.{ℤ, pos, negsuc, IsTrue}
use Rattle.ring_laws.specs.Meaning.{Meaning, number, listed}
use Rattle.ring_laws.specs.Algebra.{Passing}
use Rattle.poly_divide.specs.Forms.{linear}
use Rattle.whole_roots.specs.Differences.{polynomials}
use Rattle.reducing.specs.TakenOut.{times_row, none, next}
use Rattle.reducing.specs.PolynomialRows.{Row, meant, IsLeast, IsNonzeroAt, degree_at, divides, PolynomialsReduced}
use Rattle.right_claims.proofs.KnownReductions.{stays_as_it_is, factors_of_n_and_one}
use Rattle.reducing.proofs.Constants.{no_form_divides}
use Rattle.right_claims.proofs.KnownRows.{const, of_k, n_and_one, minus_n_and_one, of_one}

abbrev pub number_in : (z : ℤ) → IsTrue (polynomials.passes (listed (number z ∷ []))) → Passing polynomials
number_in z p = (listed (number z ∷ []), p)

abbrev pub nothing : Passing polynomials
nothing = (listed [], refl)

-- the row of k^1 stays
abbrev pub first_row : Row
first_row = number_in (negsuc 1) refl ∷ number_in (pos 1) refl ∷ nothing ∷ []

first_least : IsLeast (meant first_row) 0
first_least = record { within = omega arith; nonzero = refl; least = least_of; first = λ k b. absurd (omega (arith, b)) }
  where
    least_of : (k : ℕ) → k < 3 → IsNonzeroAt (meant first_row) k → degree_at (meant first_row) 0 ≤ degree_at (meant first_row) k
    least_of k b h = omega arith

pub first_stays : PolynomialsReduced of_k of_k
first_stays = stays_as_it_is first_row 0 (negsuc 1) (λ z. omega (arith, ints, z)) refl refl
    (record { divides = (one-dvd 2, (one-dvd 1, tt)); greatest = λ d h. h.1.0 }) first_least refl

-- n + 1 is taken out of the row of k^0
abbrev pub second_row : Row
second_row = (n_and_one, refl) ∷ (minus_n_and_one, refl) ∷ (minus_n_and_one, refl) ∷ []

abbrev pub second_left : Row
second_left = number_in (pos 1) refl ∷ number_in (negsuc 0) refl ∷ number_in (negsuc 0) refl ∷ []

second_least : IsLeast (meant second_row) 0
second_least = record { within = omega arith; nonzero = refl; least = least_of; first = λ k b. absurd (omega (arith, b)) }
  where
    least_of : (k : ℕ) → k < 3 → IsNonzeroAt (meant second_row) k → degree_at (meant second_row) 0 ≤ degree_at (meant second_row) k
    least_of zero b h = omega arith
    least_of (suc zero) b h = omega arith
    least_of (suc (suc zero)) b h = omega arith
    least_of (suc (suc (suc k))) b h = absurd (omega (arith, b))

pub second_reduced : PolynomialsReduced of_one (meant second_left)
second_reduced = record {
  row = second_row;
  row_is = refl;
  result = second_left;
  result_is = refl;
  holds = divides second_row (((1, pos 1), 1) ∷ [])
      (record {
        content = 1;
        is_content = record {
          divides = (one-dvd 1, (one-dvd 1, (one-dvd 1, (one-dvd 1, (one-dvd 1, (one-dvd 1, tt))))));
          greatest = λ d h. h.0;
        };
        not_zero = λ e. cc;
        times = refl;
      })
      (record { place = 0; least = second_least; factors = factors_of_n_and_one })
      (next (record { power = 1; times = refl; no_more = no_more }) none);
}
  where
    no_more : (quotients : Row) → ¬ (meant second_left ≡ times_row polynomials (linear (pos 1) (pos 1)) quotients)
    no_more [] e = cc
    no_more (q ∷ qs) e =
        no_form_divides (pos 1) (λ z. omega (arith, ints, z)) refl 1 (pos 1) (omega arith) (record { quotient = q; is = sym (heads e) })
      where
        heads : const (pos 1) ∷ const (negsuc 0) ∷ const (negsuc 0) ∷ []
            ≡ polynomials.ops.product q.0 (linear (pos 1) (pos 1)) ∷ times_row polynomials (linear (pos 1) (pos 1)) qs
            → const (pos 1) ≡ polynomials.ops.product q.0 (linear (pos 1) (pos 1))
        heads p = ap head_of p
          where
            head_of : List Meaning → Meaning
            head_of [] = listed []
            head_of (x ∷ xs) = x

-- the second row cleared: y_0 gone, a_0 + 2 a_1
abbrev pub third_row : Row
third_row = nothing ∷ number_in (pos 1) refl ∷ number_in (pos 2) refl ∷ []

third_least : IsLeast (meant third_row) 1
third_least = record { within = omega arith; nonzero = refl; least = λ k b h. omega arith; first = first_of }
  where
    first_of : (k : ℕ) → k < 1 → IsNonzeroAt (meant third_row) k → degree_at (meant third_row) 1 < degree_at (meant third_row) k
    first_of zero b h = cc
    first_of (suc k) b h = absurd (omega (arith, b))

pub third_stays : PolynomialsReduced (meant third_row) (meant third_row)
third_stays = stays_as_it_is third_row 1 (pos 1) (λ z. omega (arith, ints, z)) refl refl
    (record { divides = (one-dvd 1, (one-dvd 2, tt)); greatest = λ d h. h.0 }) third_least refl

-- back: a_0 is -2, and y_0 is -1
abbrev pub fourth_row : Row
fourth_row = nothing ∷ number_in (negsuc 1) refl ∷ number_in (pos 1) refl ∷ []

abbrev pub fifth_row : Row
fifth_row = number_in (negsuc 0) refl ∷ number_in (negsuc 1) refl ∷ number_in (pos 1) refl ∷ []

fourth_least : IsLeast (meant fourth_row) 1
fourth_least = record { within = omega arith; nonzero = refl; least = λ k b h. omega arith; first = first_of }
  where
    first_of : (k : ℕ) → k < 1 → IsNonzeroAt (meant fourth_row) k → degree_at (meant fourth_row) 1 < degree_at (meant fourth_row) k
    first_of zero b h = cc
    first_of (suc k) b h = absurd (omega (arith, b))

pub fourth_stays : PolynomialsReduced (meant fourth_row) (meant fourth_row)
fourth_stays = stays_as_it_is fourth_row 1 (negsuc 1) (λ z. omega (arith, ints, z)) refl refl
    (record { divides = (one-dvd 2, (one-dvd 1, tt)); greatest = λ d h. h.1.0 }) fourth_least refl

pub fifth_stays : PolynomialsReduced (meant fifth_row) (meant fifth_row)
fifth_stays = stays_as_it_is fifth_row 0 (negsuc 0) (λ z. omega (arith, ints, z)) refl refl
    (record { divides = (one-dvd 1, (one-dvd 2, (one-dvd 1, tt))); greatest = λ d h. h.0 })
    (record { within = omega arith; nonzero = refl; least = λ k b h. omega arith; first = λ k b. absurd (omega (arith, b)) }) refl
