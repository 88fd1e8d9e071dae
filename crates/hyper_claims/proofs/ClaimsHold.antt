-- Each claim of a right answer holds.
use Rattle.std.proofs.Common.{◌≡◌, ◌≢◌, ℕ, suc, ◌<◌, List, [], ◌∷◌, ◌++◌, length, get_or, sym, subst, arith}
use Rattle.std.proofs.lemmas.Int.{ints}
use Rattle.std.specs.List.{AllByRecursion, AllZip}
use Rattle.std.specs.Prelude.{pos}
use Rattle.ring_laws.specs.Meaning.{Meaning}
use Rattle.poly_laws.specs.Values.{level}
use Rattle.hypergeometric.specs.Fraction.{Fraction}
use Rattle.hypergeometric.specs.LinearForm.{Factor}
use Rattle.whole_roots.specs.LinearFactors.{Entry}
use Rattle.hyper_laws.specs.PolynomialSolutions.{Solves}
use Rattle.hyper_laws.specs.Cases.{case_equation, IsInProfile}
use Rattle.hyper_laws.specs.Solutions.{IsSolution}
use Rattle.hyper_laws.specs.FactorProducts.{product_of_factors}
use Rattle.hyper_laws.proofs.Solving.{equation_gives_solution, free_from}
use Rattle.hyper_laws.proofs.Barren.{listed_are_not_zero}
use Rattle.hyper_claims.specs.Pairs.{chosen, Choice}
use Rattle.hyper_claims.specs.Roots.{IsProfileRoot}
use Rattle.hyper_claims.specs.Claims.{HyperClaim, no_root, barren, solution, again, case_of, Holds}
use Rattle.hyper_claims.specs.HyperAnswer.{Gives, ClaimsOfRoots, no_roots, barren_root, solved_root, pair_polynomials, ClaimsOfPairs, no_pairs, rootless, rooted, IsHyperAnswer}

joined : {X : Type 0} (P : X → Type 0) (xs ys : List X) → AllByRecursion P xs → AllByRecursion P ys → AllByRecursion P (xs ++ ys)
joined P [] ys h i = i
joined P (x ∷ xs) ys h i = (h.0, joined P xs ys h.1 i)

from_places : {X : Type 0} (P : X → Type 0) (d : X) (xs : List X) → ((k : ℕ) → k < length xs → P (get_or xs k d)) → AllByRecursion P xs
from_places P d [] h = tt
from_places P d (x ∷ xs) h = (h 0 (omega arith), from_places P d xs (λ k b. h (suc k) (omega (arith, b))))

bottom_not_zero : (z : Fraction) → IsInProfile z → z.bottom ≢ pos 0
bottom_not_zero z p e = omega (arith, ints, p.bottom_is, p.from_one, e)

-- what holds of equal things
moved : {A B : Type 0} (P : List Factor → List Factor → A → B → Type 0) {a a1 b b1 : List Factor} {z z1 : A} {c c1 : B}
    → a1 ≡ a → b1 ≡ b → z1 ≡ z → c1 ≡ c → P a b z c → P a1 b1 z1 c1
moved P {a} {a1} {b} {b1} {z} {z1} {c} {c1} e f g h whole =
    subst (λ x. P x b1 z1 c1) (sym e) (subst (λ x. P a x z1 c1) (sym f) (subst (λ x. P a b x c1) (sym g) (subst (P a b z) (sym h) whole)))

module _ (ps : List Meaning) (a b : List Factor) (z : Fraction) (profile : IsInProfile z) where
  abbrev equation : List Meaning
  equation = case_equation ps (case_of a b z)

  -- a claim with a polynomial that solves the equation, and isn't zero
  one_holds : (claim : HyperClaim) (c : Meaning) → Gives a b z claim c → Solves equation c → c ≢ (level 1).ops.nought → Holds ps claim
  one_holds (no_root a1 b1) c g s n = absurd g
  one_holds (barren a1 b1 z1) c g s n = absurd g
  one_holds (solution a1 b1 z1 from c1) c g s n =
      let P : List Factor → List Factor → Fraction → Meaning → Type 0 = λ x y w d. IsSolution ps (case_of x y w) d (pos from) in
      let free = free_from (product_of_factors b) from g.4 in
      let whole : P a b z c = record {
        not_zero = n;
        free = free;
        satisfies = equation_gives_solution (case_of a b z) c (pos from) (bottom_not_zero z profile) free ps s;
      } in
      moved P g.0 g.1 g.2 g.3 whole
  one_holds (again earlier a1 b1 z1 c1) c g s n =
      let P : List Factor → List Factor → Fraction → Meaning → Type 0 =
      λ x y w d. Solves (case_equation ps (case_of x y w)) d × (d ≢ (level 1).ops.nought) in
      let whole : P a b z c = (s, n) in
      moved P g.0 g.1 g.2 g.3 whole

  each_holds : (claims : List HyperClaim) (cs : List Meaning) → AllZip (Gives a b z) claims cs → AllByRecursion (Solves equation) cs
      → AllByRecursion (λ c. c ≢ (level 1).ops.nought) cs → AllByRecursion (Holds ps) claims
  each_holds [] [] g s n = tt
  each_holds [] (c ∷ cs) g s n = absurd g
  each_holds (x ∷ xs) [] g s n = absurd g
  each_holds (x ∷ xs) (c ∷ cs) g s n = (one_holds x c g.0 s.0 n.0, each_holds xs cs g.1 s.1 n.1)

of_roots : (ps : List Meaning) (a b : List Factor) (zs : List Fraction) (claims : List HyperClaim) → AllByRecursion IsInProfile zs
    → ClaimsOfRoots ps a b zs claims → AllByRecursion (Holds ps) claims
of_roots ps a b _ _ p no_roots = tt
of_roots ps a b _ _ p (barren_root {z} {zs} {claims} h r) = (h, of_roots ps a b zs claims p.1 r)
of_roots ps a b _ _ p (solved_root {z} {zs} c cs first {claims} w s g r) =
    joined (Holds ps) first claims
    (each_holds ps a b z p.0 first (c ∷ cs) g w.each
    (from_places (λ d. d ≢ (level 1).ops.nought) (level 1).ops.nought (c ∷ cs) (listed_are_not_zero (case_equation ps (case_of a b z)) (c ∷ cs) w)))
    (of_roots ps a b zs claims p.1 r)

profiles : (degree : ℕ) (fs : List Meaning) (zs : List Fraction) → AllByRecursion (IsProfileRoot degree fs) zs → AllByRecursion IsInProfile zs
profiles degree fs [] h = tt
profiles degree fs (z ∷ zs) h = (h.0.profile, profiles degree fs zs h.1)

of_pairs : (ps : List Meaning) (a_factors b_factors : List Entry) (xs : List Choice) (claims : List HyperClaim)
    → ClaimsOfPairs ps a_factors b_factors xs claims → AllByRecursion (Holds ps) claims
of_pairs ps a_factors b_factors _ _ no_pairs = tt
of_pairs ps a_factors b_factors _ _ (rootless {x} {xs} {claims} h r) = (h, of_pairs ps a_factors b_factors xs claims r)
of_pairs ps a_factors b_factors _ _ (rooted {x} {xs} degree z zs first {claims} g w h r) =
    joined (Holds ps) first claims
    (of_roots ps (chosen a_factors x.a) (chosen b_factors x.b) (z ∷ zs) first
    (profiles degree (pair_polynomials ps (chosen a_factors x.a) (chosen b_factors x.b)) (z ∷ zs) w.each) h)
    (of_pairs ps a_factors b_factors xs claims r)

pub claims_hold : (ps : List Meaning) (claims : List HyperClaim) → IsHyperAnswer ps claims → AllByRecursion (Holds ps) claims
claims_hold ps claims h = of_pairs ps h.a_factors h.b_factors h.choices claims h.of_pairs
