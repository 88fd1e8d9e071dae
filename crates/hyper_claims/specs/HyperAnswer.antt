-- The right claims for a recurrence: all normal pairs in order, all their roots in order, and for each root a complete list of polynomials.
use Rattle.std.specs.Prelude.{◌≡◌, ℕ, suc, ◌<◌, pos, ◌-ℤ◌, List, [], ◌∷◌, ◌++◌, length, get_or, slice_get, Some}
use Rattle.std.specs.List.{AllZip}
use Rattle.ring_laws.specs.Meaning.{Meaning}
use Rattle.poly_laws.specs.Values.{level}
use Rattle.poly_laws.specs.Shift.{poly_shift}
use Rattle.hypergeometric.specs.Fraction.{Fraction}
use Rattle.hypergeometric.specs.LinearForm.{Factor}
use Rattle.whole_roots.specs.LinearFactors.{Entry, AreLinearFactors}
use Rattle.hyper_laws.specs.PolynomialSolutions.{AreComplete}
use Rattle.hyper_laws.specs.Cases.{Case, case_polynomials, case_equation, IsBarren, IsGreatestDegree, HasNoRoot}
use Rattle.hyper_laws.specs.Solutions.{IsFirstPlace}
use Rattle.hyper_laws.specs.ReducedLists.{AreReduced}
use Rattle.hyper_laws.specs.Quotients.{SameQuotient}
use Rattle.hyper_laws.specs.FactorProducts.{product_of_factors}
use Rattle.hyper_claims.specs.Pairs.{chosen, Choice, AreNormalChoices}
use Rattle.hyper_claims.specs.Roots.{AreProfileRoots}
use Rattle.hyper_claims.specs.Claims.{HyperClaim, no_root, barren, solution, again, case_of}

-- the claim is one of the case, with the polynomial c; a solution begins at the first place
abbrev pub Gives : List Factor → List Factor → Fraction → HyperClaim → Meaning → Type 0
Gives a b z (no_root a1 b1) c = ⊥
Gives a b z (barren a1 b1 z1) c = ⊥
Gives a b z (solution a1 b1 z1 from c1) c = (a1 ≡ a) × (b1 ≡ b) × (z1 ≡ z) × (c1 ≡ c) × IsFirstPlace (product_of_factors b) from
Gives a b z (again earlier a1 b1 z1 c1) c = (a1 ≡ a) × (b1 ≡ b) × (z1 ≡ z) × (c1 ≡ c)

-- the claims of the roots of a pair
pub data ClaimsOfRoots (ps : List Meaning) (a b : List Factor) : List Fraction → List HyperClaim → Type 0 where
  no_roots : ClaimsOfRoots ps a b [] []
  barren_root : {z : Fraction} {zs : List Fraction} {claims : List HyperClaim} → IsBarren ps (case_of a b z)
      → ClaimsOfRoots ps a b zs claims → ClaimsOfRoots ps a b (z ∷ zs) (barren a b z ∷ claims)
  solved_root : {z : Fraction} {zs : List Fraction} (c : Meaning) (cs : List Meaning) (first : List HyperClaim) {claims : List HyperClaim}
      → AreComplete (case_equation ps (case_of a b z)) (c ∷ cs) → AreReduced (c ∷ cs) → AllZip (Gives a b z) first (c ∷ cs)
      → ClaimsOfRoots ps a b zs claims → ClaimsOfRoots ps a b (z ∷ zs) (first ++ claims)

-- the polynomials P_i of a pair
abbrev pub pair_polynomials : List Meaning → List Factor → List Factor → List Meaning
pair_polynomials ps a b = case_polynomials (product_of_factors a) (product_of_factors b) 0 ps

-- the claims of the pairs
pub data ClaimsOfPairs (ps : List Meaning) (a_factors b_factors : List Entry) : List Choice → List HyperClaim → Type 0 where
  no_pairs : ClaimsOfPairs ps a_factors b_factors [] []
  rootless : {x : Choice} {xs : List Choice} {claims : List HyperClaim}
      → HasNoRoot ps (product_of_factors (chosen a_factors x.a)) (product_of_factors (chosen b_factors x.b))
      → ClaimsOfPairs ps a_factors b_factors xs claims
      → ClaimsOfPairs ps a_factors b_factors (x ∷ xs) (no_root (chosen a_factors x.a) (chosen b_factors x.b) ∷ claims)
  rooted : {x : Choice} {xs : List Choice} (degree : ℕ) (z : Fraction) (zs : List Fraction) (first : List HyperClaim) {claims : List HyperClaim}
      → IsGreatestDegree (pair_polynomials ps (chosen a_factors x.a) (chosen b_factors x.b)) degree
      → AreProfileRoots degree (pair_polynomials ps (chosen a_factors x.a) (chosen b_factors x.b)) (z ∷ zs)
      → ClaimsOfRoots ps (chosen a_factors x.a) (chosen b_factors x.b) (z ∷ zs) first
      → ClaimsOfPairs ps a_factors b_factors xs claims
      → ClaimsOfPairs ps a_factors b_factors (x ∷ xs) (first ++ claims)

-- at the place stands a solution with the quotient of this case
pub record IsSameSolution (claims : List HyperClaim) (k : Case) (c : Meaning) (place : ℕ) : Type 0 where
  pub a : List Factor
  pub b : List Factor
  pub z : Fraction
  pub from : ℕ
  pub polynomial : Meaning
  pub is : slice_get claims place ≡ Some (solution a b z from polynomial)
  pub same : SameQuotient (case_of a b z) polynomial k c

-- a solution has none before it with its quotient; `again` names the first that there is, which stands before it
abbrev pub IsRightlyNamed : List HyperClaim → ℕ → HyperClaim → Type 0
IsRightlyNamed claims place (no_root a b) = Unit {0}
IsRightlyNamed claims place (barren a b z) = Unit {0}
IsRightlyNamed claims place (solution a b z from c) = (j : ℕ) → j < place → ¬ (IsSameSolution claims (case_of a b z) c j)
IsRightlyNamed claims place (again earlier a b z c) =
    (earlier < place) × IsSameSolution claims (case_of a b z) c earlier × ((j : ℕ) → j < earlier → ¬ (IsSameSolution claims (case_of a b z) c j))

-- p_d(n-d+1), of whose linear factors b is made
abbrev pub shifted_last : List Meaning → ℕ → Meaning
shifted_last ps order = poly_shift (level 0).ops (pos 1 -ℤ pos order) (get_or ps order (level 1).ops.nought)

-- the claims of p_0(n) y(n) + .. + p_d(n) y(n+d) = 0 are these: a is made of linear factors of p_0(n), and b of linear factors of p_d(n-d+1)
pub record IsHyperAnswer (ps : List Meaning) (claims : List HyperClaim) : Type 0 where
  pub order : ℕ
  pub size : length ps ≡ suc order
  pub a_factors : List Entry
  pub of_first : AreLinearFactors (get_or ps 0 (level 1).ops.nought) a_factors
  pub b_factors : List Entry
  pub of_last : AreLinearFactors (shifted_last ps order) b_factors
  pub choices : List Choice
  pub are_choices : AreNormalChoices a_factors b_factors choices
  pub of_pairs : ClaimsOfPairs ps a_factors b_factors choices claims
  pub named : (place : ℕ) (claim : HyperClaim) → slice_get claims place ≡ Some claim → IsRightlyNamed claims place claim
