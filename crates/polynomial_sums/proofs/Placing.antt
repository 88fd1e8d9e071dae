-- Monomials that are multiplied by powers of other letters: level by level, the power of each letter goes over to the powers in front.
use Rattle.std.specs.Prelude.{◌≡◌, ℕ, suc, ◌+◌, ℤ, List, [], ◌∷◌, ◌++◌, map}
use Rattle.std.proofs.Common.{refl, ap, sym, ◌∙◌, arith}
use Rattle.std.proofs.lemmas.List.{map-append}
use Rattle.ring_laws.specs.Meaning.{Meaning}
use Rattle.exact_texts.specs.Sums.{Monomial}
use Rattle.polynomial_sums.specs.PolynomialSums.{Letter, letter_n, letter_k, letter_x, power_in, with_power, falling, monomials_of, IsFresh, IsFree, times}
use Rattle.polynomial_sums.proofs.Powers.{HavePower, other_power}
use Rattle.polynomial_sums.proofs.Letters.{monomials_apart}

-- a power of a letter that neither has is set in the one or in the other
times_set : (l : Letter) (i : ℕ) (powers m : Monomial) → power_in l powers ≡ 0 → power_in l m ≡ 0
    → times powers (with_power l i m) ≡ times (with_power l i powers) m
times_set letter_n i powers m p h = ap (λ q. record (times powers m) { n_power = q }) (omega (arith, p, h))
times_set letter_k i powers m p h = ap (λ q. record (times powers m) { k_power = q }) (omega (arith, p, h))
times_set letter_x i powers m p h = ap (λ q. record (times powers m) { x_power = q }) (omega (arith, p, h))

pub all_times_set : (l : Letter) (i : ℕ) (powers : Monomial) (ms : List Monomial) → power_in l powers ≡ 0 → HavePower l 0 ms
    → map (times powers) (map (with_power l i) ms) ≡ map (times (with_power l i powers)) ms
all_times_set l i powers [] p h = refl
all_times_set l i powers (m ∷ ms) p h =
    let first = times_set l i powers m p h.0 in
    let rest = all_times_set l i powers ms p h.1 in
    λ j. first j ∷ rest j

-- powers without other letters are without them after a power of a letter is set
pub free_set : (l : Letter) (i : ℕ) (ls : List Letter) (powers : Monomial) → IsFresh l ls → IsFree ls powers → IsFree ls (with_power l i powers)
free_set l i [] powers h p = tt
free_set l i (j ∷ ls) powers h p = (other_power j l i powers (λ e. h.0 (sym e)) ∙ p.0, free_set l i ls powers h.1 p.1)

from_zero : (n : ℕ) → 0 + n ≡ n
from_zero n = omega arith

one_times : (c : ℤ) (m : Monomial) → times (record { coefficient = c; n_power = 0; k_power = 0; x_power = 0 }) m ≡ m
one_times c m =
    λ i. record { coefficient = m.coefficient; n_power = from_zero m.n_power i; k_power = from_zero m.k_power i; x_power = from_zero m.x_power i }

-- a monomial without powers changes none
pub all_times_none : (c : ℤ) (ms : List Monomial) → map (times (record { coefficient = c; n_power = 0; k_power = 0; x_power = 0 })) ms ≡ ms
all_times_none c [] = refl
all_times_none c (m ∷ ms) =
    let first = one_times c m in
    let rest = all_times_none c ms in
    λ i. first i ∷ rest i

-- the monomials of coefficients, the first apart from the others
pub falling_times : (l : Letter) (ls : List Letter) (powers : Monomial) (c : Meaning) (cs : List Meaning) (i : ℕ) → IsFresh l ls
    → power_in l powers ≡ 0
    → map (times powers) (falling l (monomials_of ls) (c ∷ cs) i)
    ≡ map (times powers) (falling l (monomials_of ls) cs (suc i)) ++ map (times (with_power l i powers)) (monomials_of ls c)
falling_times l ls powers c cs i fresh p =
    map-append (times powers) (falling l (monomials_of ls) cs (suc i)) (map (with_power l i) (monomials_of ls c))
    ∙ ap (λ t. map (times powers) (falling l (monomials_of ls) cs (suc i)) ++ t)
    (all_times_set l i powers (monomials_of ls c) p (monomials_apart l ls fresh c))
