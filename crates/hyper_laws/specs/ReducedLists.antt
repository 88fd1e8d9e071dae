-- The one complete list of polynomial solutions that is printed (the reduced echelon form of the coefficients): the degrees rise, no polynomial
-- has a term at the degree of another, and each is made primitive with a positive leading coefficient.
use Rattle.std.specs.Prelude.{◌≡◌, ℕ, ◌<◌, pos, ◌<ℤ◌, unsigned_abs, IsTrue, List, [], ◌∷◌, length}
use Rattle.std.specs.Int.{◌∣◌}
use Rattle.std.specs.List.{AllByRecursion}
use Rattle.ring_laws.specs.Meaning.{Meaning, items}
use Rattle.poly_laws.specs.Values.{level}
use Rattle.hyper_laws.specs.DegreeBounds.{HasDegree, coefficient_in_n}

-- no whole number above 1 divides each coefficient; so the polynomial isn't zero
abbrev pub IsPrimitive : Meaning → Type 0
IsPrimitive c = (d : ℕ) → ((power : ℕ) → d ∣ unsigned_abs (coefficient_in_n c (pos power))) → d ≡ 1

-- the leading coefficient is positive
abbrev pub HasPositiveLead : Meaning → Type 0
HasPositiveLead c = (degree : ℕ) → HasDegree c degree → pos 0 <ℤ coefficient_in_n c (pos degree)

-- a polynomial in n that is primitive and has a positive leading coefficient
pub record IsNormalized (c : Meaning) : Type 0 where
  pub polynomial : IsTrue ((level 1).passes c)
  pub primitive : IsPrimitive c
  pub positive : HasPositiveLead c

-- d has a greater degree than c, and no term at the degree of c
pub record IsAbove (c d : Meaning) : Type 0 where
  pub greater : length (items c) < length (items d)
  pub no_term : (degree : ℕ) → HasDegree c degree → coefficient_in_n d (pos degree) ≡ pos 0

-- each polynomial is above those before it
abbrev pub AreRisingAbove : List Meaning → Type 0
AreRisingAbove [] = Unit {0}
AreRisingAbove (c ∷ cs) = AllByRecursion (IsAbove c) cs × AreRisingAbove cs

-- the list is reduced: of all lists that span the same polynomials only one is
pub record AreReduced (cs : List Meaning) : Type 0 where
  pub each : AllByRecursion IsNormalized cs
  pub rising : AreRisingAbove cs
