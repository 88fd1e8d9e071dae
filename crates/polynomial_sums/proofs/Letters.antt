-- Monomials in other letters have the power 0 of a letter, and those that are set begin with their power.
use Rattle.std.specs.Prelude.{◌≡◌, ◌≢◌, ℕ, zero, suc, ◌≤◌, ℤ, pos, negsuc, List, [], ◌∷◌, map}
use Rattle.std.proofs.Common.{refl}
use Rattle.ring_laws.specs.Meaning.{Meaning, items}
use Rattle.ring_laws.specs.Wholes.{number_of}
use Rattle.exact_texts.specs.Sums.{Monomial}
use Rattle.polynomial_sums.specs.PolynomialSums.{Letter, letter_n, letter_k, letter_x, power_in, with_power, constant, falling, monomials_of, IsFresh}
use Rattle.polynomial_sums.proofs.Powers.{HavePower, HaveAtLeast, all_set, all_append, more_powers, fewer, others_stay}

no_power : (l : Letter) (c : ℤ) → power_in l (record { coefficient = c; n_power = 0; k_power = 0; x_power = 0 }) ≡ 0
no_power letter_n c = refl
no_power letter_k c = refl
no_power letter_x c = refl

constant_apart : (l : Letter) (z : ℤ) → HavePower l 0 (constant z)
constant_apart l (pos zero) = tt
constant_apart l (pos (suc n)) = (no_power l (pos (suc n)), tt)
constant_apart l (negsuc n) = (no_power l (negsuc n), tt)

-- monomials of coefficients in another letter
falling_apart : (l j : Letter) (inner : Meaning → List Monomial) → l ≢ j → ((c : Meaning) → HavePower l 0 (inner c)) → (cs : List Meaning) (i : ℕ)
    → HavePower l 0 (falling j inner cs i)
-- monomials of coefficients in another letter
falling_apart l j inner h a [] i = tt
-- monomials of coefficients in another letter
falling_apart l j inner h a (c ∷ cs) i = all_append (λ m. power_in l m ≡ 0) (falling j inner cs (suc i)) (map (with_power j i) (inner c))
    (falling_apart l j inner h a cs (suc i)) (others_stay l j i 0 (inner c) h (a c))

-- monomials in other letters have the power 0 of a letter
pub monomials_apart : (l : Letter) (ls : List Letter) → IsFresh l ls → (c : Meaning) → HavePower l 0 (monomials_of ls c)
monomials_apart l [] h c = constant_apart l (number_of c)
monomials_apart l (j ∷ ls) h c = falling_apart l j (monomials_of ls) h.0 (monomials_apart l ls h.1) (items c) 0

-- coefficients from a power on have at least that power
pub falling_from : (l : Letter) (inner : Meaning → List Monomial) (cs : List Meaning) (i : ℕ) → HaveAtLeast l i (falling l inner cs i)
falling_from l inner [] i = tt
falling_from l inner (c ∷ cs) i = all_append (λ m. i ≤ power_in l m) (falling l inner cs (suc i)) (map (with_power l i) (inner c))
    (fewer l i (falling l inner cs (suc i)) (falling_from l inner cs (suc i)))
    (more_powers l i (map (with_power l i) (inner c)) (all_set l i (inner c)))
