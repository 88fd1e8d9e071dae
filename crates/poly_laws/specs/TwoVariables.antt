-- Polynomials in k over those in n: their operations, the two variables, powers, and which of them are numbers.
use Rattle.std.specs.Prelude.{ℕ, zero, suc, ℤ, pos, List, [], ◌∷◌, Option, Some, None}
use Rattle.ring_laws.specs.Meaning.{Meaning, number, listed, items}
use Rattle.ring_laws.specs.Algebra.{Ops}
use Rattle.ring_laws.specs.Wholes.{number_of}
use Rattle.poly_laws.specs.Values.{level}

-- the operations on polynomials in k over those in n
abbrev pub in_n_and_k : Ops Meaning
in_n_and_k = (level 2).ops

-- the variable n, as a polynomial in k over those in n
abbrev pub poly_n : Meaning
poly_n = listed (listed (number (pos 0) ∷ number (pos 1) ∷ []) ∷ [])

-- the variable k, as a polynomial in k over those in n
abbrev pub poly_k : Meaning
poly_k = listed (listed [] ∷ listed (number (pos 1) ∷ []) ∷ [])

-- a polynomial in k over those in n to a natural power; to the power 0 it is 1
abbrev pub poly_power : Meaning → ℕ → Meaning
poly_power p zero = in_n_and_k.unit
poly_power p (suc e) = in_n_and_k.product p (poly_power p e)

-- the number that a polynomial is, where it is one
abbrev pub constant_in_n : List Meaning → Option ℤ
constant_in_n [] = Some (pos 0)
constant_in_n (c ∷ []) = Some (number_of c)
constant_in_n (c ∷ d ∷ cs) = None

-- the number that a polynomial in k over those in n is, where it is one
abbrev pub constant_in_k : List Meaning → Option ℤ
constant_in_k [] = Some (pos 0)
constant_in_k (c ∷ []) = constant_in_n (items c)
constant_in_k (c ∷ d ∷ cs) = None
