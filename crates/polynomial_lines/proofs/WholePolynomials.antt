-- A polynomial by its list of coefficients.
use Rattle.std.specs.Prelude.{◌≡◌, ℕ, zero, suc, ◌≤◌, List, [], ◌∷◌, map, length, get_or}
use Rattle.std.specs.List.{AllByRecursion}
use Rattle.std.proofs.Common.{ap, sym, ◌∙◌, subst}
use Rattle.std.proofs.lemmas.Bool.{and_parts}
use Rattle.ring_laws.specs.Meaning.{Meaning, number, several, parted, listed, items, joined-parted}
use Rattle.ring_laws.specs.Algebra.{Algebra}
use Rattle.poly_laws.specs.Lists.{trimmed, is_trimmed}
use Rattle.poly_laws.specs.PolyAlgebra.{every_passes}
use Rattle.poly_laws.specs.Values.{level}
use Rattle.poly_laws.proofs.Trimming.{trimmed_already}
use Rattle.hypergeometric.specs.TermFacts.{IsPolynomial}
use Rattle.polynomial_sums.specs.PolynomialSums.{Letter, falling, monomials_of, times, IsFree, HasLetters}
use Rattle.polynomial_sums.proofs.Levels.{trimmed_alike}
use Rattle.spelled.specs.Monomials.{MonomialValue}
use Rattle.polynomial_lines.specs.Coefficients.{AreCoefficients}

each_fits : (Fits : Meaning → Type 0) (d : Meaning) (cs : List Meaning) → ((k : ℕ) → Fits (get_or cs k d)) → AllByRecursion Fits cs
each_fits Fits d [] h = tt
each_fits Fits d (c ∷ cs) h = (h zero, each_fits Fits d cs (λ k. h (suc k)))

are_coefficients : (n : ℕ) (p : Meaning) → IsPolynomial (suc n) p → AreCoefficients n (items p)
are_coefficients n (number z) h = let p = h.passes in absurd cc
are_coefficients n (several xs) h =
    let p = and_parts (every_passes (level n).passes (parted xs)) (is_trimmed (level n).ops (parted xs)) h.passes in
    record { passes = p.0; trimmed = p.1; fits = each_fits (level n).ops.Fits (level n).ops.nought (parted xs) h.fits.1 }

listed_again : (n : ℕ) (p : Meaning) → IsPolynomial (suc n) p → listed (items p) ≡ p
listed_again n (number z) h = let p = h.passes in absurd cc
listed_again n (several xs) h = ap several (joined-parted xs)

-- what holds where monomials are those of coefficients holds where they are those of a polynomial
pub of_coefficients : (n : ℕ) (l : Letter) (ls letters : List Letter) (monomials : List MonomialValue) (Q : List Meaning → Type 0) → letters ≡ l ∷ ls
    → ((powers : MonomialValue) (cs : List Meaning) → AreCoefficients n cs → length cs ≤ 256 → IsFree (l ∷ ls) powers
    → monomials ≡ map (times powers) (falling l (monomials_of ls) cs 0) → Q cs)
    → (powers : MonomialValue) (p : Meaning) → IsPolynomial (suc n) p → IsFree letters powers
    → monomials ≡ map (times powers) (monomials_of letters p) → Q (items p)
of_coefficients n l ls letters monomials Q e read powers p has free m =
    read powers (items p) (are_coefficients n p has) has.fits.0 (subst (λ t. IsFree t powers) e free)
    (m ∙ ap (λ t. map (times powers) (monomials_of t p)) e)

-- the coefficients of a polynomial are trimmed, short, and make it
module _ (n : ℕ) (a : Algebra) (h : HasLetters n a) (p : Meaning) (has : IsPolynomial (suc n) p) (cs : List Meaning) (are : cs ≡ items p) where
  already : trimmed a.ops cs ≡ items p
  already = ap (trimmed a.ops) are ∙ trimmed_already a.ops (items p) (trimmed_alike n a h (items p) ∙ (are_coefficients n p has).trimmed)

  pub made : listed (trimmed a.ops cs) ≡ p
  made = ap listed already ∙ listed_again n p has

  pub short : length (trimmed a.ops cs) ≤ 256
  short = subst (λ t. length t ≤ 256) (sym already) has.fits.0
