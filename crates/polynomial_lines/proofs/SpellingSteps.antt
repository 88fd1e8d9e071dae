-- The steps of writing and reading a polynomial by its monomials.
use Rattle.std.specs.Prelude.{◌≡◌, pos, length, List, [], ◌∷◌, ◌++◌, map}
use Rattle.std.specs.List.{AllByRecursion}
use Rattle.std.proofs.Common.{refl, ap, sym, ◌∙◌, subst}
use Rattle.ring_laws.specs.Meaning.{Meaning}
use Rattle.poly_laws.specs.Values.{level}
use Rattle.exact_texts.specs.Sums.{IsMonomial}
use Rattle.polynomial_sums.specs.PolynomialSums.{Letter, letter_n, letter_k, letter_x, monomials_of, times, IsFree}
use Rattle.polynomial_sums.proofs.Bounds.{monomials_within}
use Rattle.polynomial_sums.proofs.Placing.{all_times_none}
use Rattle.spelled.specs.Monomials.{MonomialValue, monomial_of}
use Rattle.spelled.specs.declared.monomials.Monomial as declared

-- the monomial 1
abbrev pub one : MonomialValue
one = record { coefficient = pos 1; n_power = 0; k_power = 0; x_power = 0 }

pub one_free : (ls : List Letter) → IsFree ls one
one_free [] = tt
one_free (letter_n ∷ ls) = (refl, one_free ls)
one_free (letter_k ∷ ls) = (refl, one_free ls)
one_free (letter_x ∷ ls) = (refl, one_free ls)

-- the monomials that are appended to none are those of the polynomial
pub all_pushed : (ls letters : List Letter) (p : Meaning) (old new : List declared.Monomial) → letters ≡ ls → old ≡ []
    → map monomial_of new ≡ map monomial_of old ++ map (times one) (monomials_of letters p) → map monomial_of new ≡ monomials_of ls p
all_pushed ls letters p old new e none h =
    h ∙ ap (λ t. map monomial_of t ++ map (times one) (monomials_of letters p)) none ∙ all_times_none (pos 1) (monomials_of letters p)
    ∙ ap (λ t. monomials_of t p) e

pub are_monomials : (ls : List Letter) (p : Meaning) (ms : List MonomialValue) → (level (length ls)).ops.Fits p → ms ≡ monomials_of ls p
    → AllByRecursion IsMonomial ms
are_monomials ls p ms fits e = subst (AllByRecursion IsMonomial) (sym e) (monomials_within ls p fits)

-- monomials that were read are those of the polynomial times 1
pub all_read : (ls letters : List Letter) (p : Meaning) (ms : List MonomialValue) → letters ≡ ls → ms ≡ monomials_of ls p
    → ms ≡ map (times one) (monomials_of letters p)
all_read ls letters p ms e h = h ∙ ap (λ t. monomials_of t p) (sym e) ∙ sym (all_times_none (pos 1) (monomials_of letters p))
