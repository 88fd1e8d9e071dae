-- The companion identity of a pair (A=B chapter 7): the sum of Q(n+1,k) - Q(n,k) over a box, in both directions.
use Rattle.std.specs.Prelude.{◌≡◌, ◌≢◌, ℤ, pos, ◌+ℤ◌, ◌≤ℤ◌}
use Rattle.ring_laws.specs.Meaning.{Meaning}
use Rattle.hypergeometric.specs.Point.{Point, later_k}
use Rattle.hypergeometric.specs.Fraction.{Fraction, ◌≈◌, of_whole, fraction_difference, fraction_product, fraction_inverse}
use Rattle.hypergeometric.specs.ProperTerm.{value_in_n}
use Rattle.hypergeometric.specs.Claim.{Claim, poles_value, certificate}
use Rattle.sum_laws.specs.NaturalSums.{sum_between}
use Rattle.pair_laws.specs.Pairs.{BothDefined}

-- the points with n and k from those of the first point to the last, and all else as it is at the first point
pub record Box : Type 0 where
  pub first : Point
  pub last_n : ℤ
  pub last_k : ℤ

-- the point is one of the box
pub record IsInBox (b : Box) (p : Point) : Type 0 where
  pub from_n : b.first.n ≤ℤ p.n
  pub to_n : p.n ≤ℤ b.last_n
  pub from_k : b.first.k ≤ℤ p.k
  pub to_k : p.k ≤ℤ b.last_k
  pub others : p ≡ record b.first { n = p.n; k = p.k }

-- the box isn't empty
pub record HasPoints (b : Box) : Type 0 where
  pub some_n : b.first.n ≤ℤ b.last_n
  pub some_k : b.first.k ≤ℤ b.last_k

-- nothing of the companion identity is undefined at the point
pub record IsClearAt (value : Point → Fraction) (a : Meaning) (c : Claim) (p : Point) : Type 0 where
  pub both : BothDefined value p
  pub pole_here : poles_value c p ≢ pos 0
  pub pole_next : poles_value c (later_k p (pos 1)) ≢ pos 0
  pub multiplier : value_in_n a p ≢ pos 0

-- nothing of the companion identity is undefined at the points of the box
abbrev pub IsClearBox : (Point → Fraction) → Meaning → Claim → Box → Type 0
IsClearBox value a c b = (p : Point) → IsInBox b p → IsClearAt value a c p

-- (G(n,k1+1) - G(n,k0)) / a(n), at the point with n and k0
abbrev pub companion_summand : Meaning → Claim → ℤ → Point → Fraction
companion_summand a c k1 p =
    fraction_product (fraction_difference (certificate c (record p { k = k1 +ℤ pos 1 })) (certificate c p))
    (fraction_inverse (of_whole (value_in_n a p)))

-- the sum of these over n from n0 to n1
abbrev pub left_sum : Meaning → Claim → Box → Fraction
left_sum a c b = sum_between (λ n. companion_summand a c b.last_k (record b.first { n = n })) b.first.n b.last_n

-- Q(n1+1,k) - Q(n0,k), at the point with n0 and k
abbrev pub column_summand : (Point → Fraction) → ℤ → Point → Fraction
column_summand value n1 p = fraction_difference (value (record p { n = n1 +ℤ pos 1 })) (value p)

-- the sum of these over k from k0 to k1
abbrev pub right_sum : (Point → Fraction) → Box → Fraction
right_sum value b = sum_between (λ k. column_summand value b.last_n (record b.first { k = k })) b.first.k b.last_k

-- the two sums are equal over each box that isn't empty and has no undefined point
abbrev pub HasCompanion : (Point → Fraction) → Meaning → Claim → Type 0
HasCompanion value a c = (b : Box) → HasPoints b → IsClearBox value a c b → left_sum a c b ≈ right_sum value b
