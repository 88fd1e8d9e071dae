-- What is said of a box: the two sums of the companion identity in lowest terms, both 0 for an empty box, or the first point at which something
-- is undefined, n rising and then k.
use Rattle.std.specs.Prelude.{◌≡◌, pos, ◌<ℤ◌, ◌⊎◌}
use Rattle.ring_laws.specs.Meaning.{Meaning}
use Rattle.hypergeometric.specs.Point.{Point}
use Rattle.hypergeometric.specs.Fraction.{Fraction, of_whole}
use Rattle.hypergeometric.specs.Claim.{Claim}
use Rattle.hypergeometric.specs.Divisors.{lowest_terms}
use Rattle.pair_laws.specs.Companion.{Box, IsInBox, HasPoints, IsClearAt, IsClearBox, left_sum, right_sum}

-- what is said of a box: two sums, or a point
pub data BoxSums : Type 0 where
  sides : (left right : Fraction) → BoxSums
  undefined_at : (p : Point) → BoxSums

-- the first point comes before the other one
abbrev pub ComesBefore : Point → Point → Type 0
ComesBefore q p = (q.n <ℤ p.n) ⊎ ((q.n ≡ p.n) × (q.k <ℤ p.k))

-- the point is in the box, something is undefined there, and nothing is at the points of the box before it
pub record IsFirstUndefined (value : Point → Fraction) (a : Meaning) (c : Claim) (b : Box) (p : Point) : Type 0 where
  pub inside : IsInBox b p
  pub undefined : ¬ IsClearAt value a c p
  pub before : (q : Point) → IsInBox b q → ComesBefore q p → IsClearAt value a c q

-- the box has points and is clear, and these are its two sums in lowest terms
pub record AreSides (value : Point → Fraction) (a : Meaning) (c : Claim) (b : Box) (left right : Fraction) : Type 0 where
  pub some : HasPoints b
  pub clear : IsClearBox value a c b
  pub left_is : left ≡ lowest_terms (left_sum a c b)
  pub right_is : right ≡ lowest_terms (right_sum value b)

-- what is right to say of a box
abbrev pub AreBoxSums : (Point → Fraction) → Meaning → Claim → Box → BoxSums → Type 0
AreBoxSums value a c b (sides left right) =
    ((¬ HasPoints b) × (left ≡ of_whole (pos 0)) × (right ≡ of_whole (pos 0))) ⊎ AreSides value a c b left right
AreBoxSums value a c b (undefined_at p) = IsFirstUndefined value a c b p
