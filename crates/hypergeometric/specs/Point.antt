-- The points at which terms have values: whole numbers n and k.
use Rattle.std.specs.Prelude.{ℤ, ◌+ℤ◌, List, [], ◌∷◌}

-- whole numbers n and k, at which forms, polynomials, terms, trees and claims have values
pub record Point : Type 0 where
  pub n : ℤ
  pub k : ℤ

-- the point with this n and this k
abbrev pub point : ℤ → ℤ → Point
point n k = record { n = n; k = k }

-- what the variables of a polynomial in k over those in n stand for at a point: k, then n
abbrev pub values : Point → List ℤ
values p = p.k ∷ p.n ∷ []

-- what the variable of a polynomial in n alone stands for at a point
abbrev pub values_in_n : Point → List ℤ
values_in_n p = p.n ∷ []

-- the point with n + j in place of n
abbrev pub later_n : Point → ℤ → Point
later_n p j = record p { n = p.n +ℤ j }

-- the point with k + j in place of k
abbrev pub later_k : Point → ℤ → Point
later_k p j = record p { k = p.k +ℤ j }
