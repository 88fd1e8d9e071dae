-- The monomials of a polynomial are within bounds, and its text tells it.
use Rattle.std.specs.Prelude.{ℕ, IsTrue, zero, suc, ◌+◌, ◌^◌, ◌<◌, ◌≤◌, ℤ, pos, negsuc, unsigned_abs, List, [], ◌∷◌, map, length, get_or}
use Rattle.std.specs.List.{AllByRecursion}
use Rattle.std.proofs.Common.{refl, arith, lit<, lit≤}
use Rattle.ring_laws.specs.Meaning.{Meaning, items}
use Rattle.ring_laws.specs.Wholes.{number_of}
use Rattle.poly_laws.specs.Values.{level}
use Rattle.exact_texts.specs.Lines.{AreWithinLine}
use Rattle.exact_texts.specs.Sums.{Monomial, IsMonomial}
use Rattle.exact_texts.proofs.SumLists.{sum_determines}
use Rattle.exact_texts.specs.Lists.{AreItems}
use Rattle.exact_texts.proofs.SumItems.{sums_within_line, sums_are_items}
use Rattle.polynomial_sums.specs.PolynomialSums.{Letter, letter_n, letter_k, letter_x, with_power, constant, falling, monomials_of, polynomials, in_n, in_n_k, in_n_k_x, AreDistinct}
use Rattle.polynomial_sums.proofs.Powers.{all_append}
use Rattle.polynomial_sums.proofs.Telling.{monomials_told}

constant_within : (z : ℤ) → unsigned_abs z < 2 ^ 127 → AllByRecursion IsMonomial (constant z)
constant_within (pos zero) h = tt
constant_within (pos (suc n)) h = (record { not_zero = λ e. cc; number = h; n_power = lit< tt; k_power = lit< tt; x_power = lit< tt }, tt)
constant_within (negsuc n) h = (record { not_zero = λ e. cc; number = h; n_power = lit< tt; k_power = lit< tt; x_power = lit< tt }, tt)

one_set : (l : Letter) (i : ℕ) (m : Monomial) → i < 256 → IsMonomial m → IsMonomial (with_power l i m)
one_set letter_n i m h p = record { not_zero = p.not_zero; number = p.number; n_power = h; k_power = p.k_power; x_power = p.x_power }
one_set letter_k i m h p = record { not_zero = p.not_zero; number = p.number; n_power = p.n_power; k_power = h; x_power = p.x_power }
one_set letter_x i m h p = record { not_zero = p.not_zero; number = p.number; n_power = p.n_power; k_power = p.k_power; x_power = h }

set_within : (l : Letter) (i : ℕ) (ms : List Monomial) → i < 256 → AllByRecursion IsMonomial ms → AllByRecursion IsMonomial (map (with_power l i) ms)
set_within l i [] h p = tt
set_within l i (m ∷ ms) h p = (one_set l i m h p.0, set_within l i ms h p.1)

falling_within : (l : Letter) (inner : Meaning → List Monomial) (Fits : Meaning → Type 0) (d : Meaning)
    → ((c : Meaning) → Fits c → AllByRecursion IsMonomial (inner c)) → (cs : List Meaning) (i : ℕ) → i + length cs ≤ 256
    → ((k : ℕ) → Fits (get_or cs k d)) → AllByRecursion IsMonomial (falling l inner cs i)
falling_within l inner Fits d h [] i small fits = tt
falling_within l inner Fits d h (c ∷ cs) i small fits =
    all_append IsMonomial (falling l inner cs (suc i)) (map (with_power l i) (inner c))
    (falling_within l inner Fits d h cs (suc i) (omega arith) (λ k. fits (suc k)))
    (set_within l i (inner c) (omega arith) (h c (fits zero)))

-- each monomial has a text
pub monomials_within : (ls : List Letter) (c : Meaning) → (level (length ls)).ops.Fits c → AllByRecursion IsMonomial (monomials_of ls c)
monomials_within [] c h = constant_within (number_of c) h
monomials_within (l ∷ ls) c h = falling_within l (monomials_of ls) (level (length ls)).ops.Fits (level (length ls)).ops.nought (monomials_within ls)
    (items c) 0 (omega (arith, h.0)) h.1

-- no coefficient is one that fits
nought_fits : (l : ℕ) → (level l).ops.Fits (level l).ops.nought
nought_fits zero = lit< tt
nought_fits (suc l) = (lit≤ tt, λ k. nought_fits l)

nought_passes : (l : ℕ) → IsTrue ((level l).passes (level l).ops.nought)
nought_passes zero = refl
nought_passes (suc l) = refl

-- the text of a polynomial is in one line, and tells it
pub polynomials_within_line : (ls : List Letter) → AreDistinct ls → AreWithinLine (polynomials ls)
polynomials_within_line ls distinct = record {
  some = ((level (length ls)).ops.nought, record { passes = nought_passes (length ls); fits = nought_fits (length ls) });
  within = λ p k. sums_within_line.within (monomials_of ls p) (monomials_within ls p k.fits);
  determined = λ p q k m e. (monomials_told ls distinct).told p q k.passes m.passes
      (sum_determines (monomials_of ls p) (monomials_of ls q) (monomials_within ls p k.fits) (monomials_within ls q m.fits) e);
}

-- and it can stand in a list
pub polynomials_are_items : (ls : List Letter) → AreItems (polynomials ls)
polynomials_are_items ls = record {
  commas = λ p k. sums_are_items.commas (monomials_of ls p) (monomials_within ls p k.fits);
  semicolons = λ p k. sums_are_items.semicolons (monomials_of ls p) (monomials_within ls p k.fits);
  not_none = λ p k. sums_are_items.not_none (monomials_of ls p) (monomials_within ls p k.fits);
}

-- the letters are distinct
pub n_distinct : AreDistinct in_n
n_distinct = (tt, tt)

pub n_k_distinct : AreDistinct in_n_k
n_k_distinct = (((λ e. cc), tt), (tt, tt))

pub n_k_x_distinct : AreDistinct in_n_k_x
n_k_x_distinct = (((λ e. cc), ((λ e. cc), tt)), (((λ e. cc), tt), (tt, tt)))

pub n_k_within_line : AreWithinLine (polynomials in_n_k)
n_k_within_line = polynomials_within_line in_n_k n_k_distinct

pub n_k_x_within_line : AreWithinLine (polynomials in_n_k_x)
n_k_x_within_line = polynomials_within_line in_n_k_x n_k_x_distinct
