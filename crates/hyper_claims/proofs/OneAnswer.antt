-- A recurrence has at most one right answer.
use Rattle.std.proofs.Common.{◌≡◌, ℕ, zero, suc, ◌<◌, List, [], ◌∷◌, get_or, refl, ap, sym, ◌∙◌, subst, arith, ⊎_elim, ◌⊎◌, inl, inr}
use mathlib.Core.Path.{ap₂}
use Rattle.std.proofs.lemmas.Bool.{cases_lt, cases_order}
use Rattle.std.specs.List.{AllZip}
use Rattle.std.specs.Prelude.{slice_get, Some, None}
use Rattle.ring_laws.specs.Meaning.{Meaning}
use Rattle.poly_laws.specs.Values.{level}
use Rattle.hypergeometric.specs.Fraction.{Fraction}
use Rattle.hypergeometric.specs.LinearForm.{Factor}
use Rattle.whole_roots.specs.LinearFactors.{AreLinearFactors}
use Rattle.hyper_laws.specs.Cases.{Case}
use Rattle.hyper_laws.specs.Solutions.{IsFirstPlace}
use Rattle.hyper_laws.specs.FactorProducts.{product_of_factors}
use Rattle.hyper_claims.specs.Pairs.{AreNormalChoices}
use Rattle.hyper_claims.specs.Claims.{HyperClaim, no_root, barren, solution, again, case_of}
use Rattle.hyper_claims.specs.HyperAnswer.{shifted_last, Gives, ClaimsOfPairs, IsSameSolution, IsRightlyNamed, IsHyperAnswer}
use Rattle.hyper_claims.proofs.OneOrder.{one_list_of_choices, one_list_of_factors}
use Rattle.hyper_claims.proofs.AlikeClaims.{BothGive, Alike, alike_pairs}

-- ---- a claim with a polynomial is a solution from the first place on, or repeats one
abbrev Solved : List Factor → List Factor → Fraction → Meaning → HyperClaim → Type 0
Solved a b z c x = (from : ℕ) × (x ≡ solution a b z from c) × IsFirstPlace (product_of_factors b) from

abbrev Repeated : List Factor → List Factor → Fraction → Meaning → HyperClaim → Type 0
Repeated a b z c x = (earlier : ℕ) × (x ≡ again earlier a b z c)

kind_of : (a b : List Factor) (z : Fraction) (x : HyperClaim) (c : Meaning) → Gives a b z x c → Solved a b z c x ⊎ Repeated a b z c x
kind_of a b z (no_root a1 b1) c g = absurd g
kind_of a b z (barren a1 b1 z1) c g = absurd g
kind_of a b z (solution a1 b1 z1 from c1) c g = inl (from, cc (g.0, g.1, g.2, g.3), g.4)
kind_of a b z (again earlier a1 b1 z1 c1) c g = inr (earlier, cc (g.0, g.1, g.2, g.3))

one_place : (b : Meaning) (from other : ℕ) → IsFirstPlace b from → IsFirstPlace b other → from ≡ other
one_place b from other h k = omega (arith, h.least other k.above, k.least from h.above)

moved : (xs ys : List HyperClaim) (k : Case) (c : Meaning) (j : ℕ) → slice_get xs j ≡ slice_get ys j → IsSameSolution xs k c j
    → IsSameSolution ys k c j
moved xs ys k c j e h =
    record { a = h.a; b = h.b; z = h.z; from = h.from; polynomial = h.polynomial; is = sym e ∙ h.is; same = h.same }

-- ---- two lists place by place
record AlikeAt (xs ys : List HyperClaim) (n : ℕ) : Type 0 where
  x : HyperClaim
  y : HyperClaim
  first : slice_get xs n ≡ Some x
  second : slice_get ys n ≡ Some y
  alike : Alike x y

alike_at : (xs ys : List HyperClaim) (n : ℕ) → AllZip Alike xs ys → (slice_get xs n ≡ slice_get ys n) ⊎ AlikeAt xs ys n
alike_at [] [] n h = inl refl
alike_at [] (y ∷ ys) n h = absurd h
alike_at (x ∷ xs) [] n h = absurd h
alike_at (x ∷ xs) (y ∷ ys) zero h = inr (record { x = x; y = y; first = refl; second = refl; alike = h.0 })
alike_at (x ∷ xs) (y ∷ ys) (suc n) h =
    ⊎_elim (λ e. inl e) (λ k. inr (record { x = k.x; y = k.y; first = k.first; second = k.second; alike = k.alike })) (alike_at xs ys n h.1)

places_decide : (xs ys : List HyperClaim) → ((n : ℕ) → slice_get xs n ≡ slice_get ys n) → xs ≡ ys
places_decide [] [] h = refl
places_decide [] (y ∷ ys) h = let e : None ≡ Some y = h 0 in cc
places_decide (x ∷ xs) [] h = let e : Some x ≡ None = h 0 in cc
places_decide (x ∷ xs) (y ∷ ys) h =
    let e : Some x ≡ Some y = h 0 in let head : x ≡ y = cc in ap₂ (λ z zs. z ∷ zs) head (places_decide xs ys (λ n. h (suc n)))

abbrev AreNamed : List HyperClaim → Type 0
AreNamed xs = (place : ℕ) (claim : HyperClaim) → slice_get xs place ≡ Some claim → IsRightlyNamed xs place claim

module _ (xs ys : List HyperClaim) (alike : AllZip Alike xs ys) (named : AreNamed xs) (other_named : AreNamed ys) where
  abbrev Agree : ℕ → Type 0
  Agree n = (j : ℕ) → j < n → slice_get xs j ≡ slice_get ys j

  -- where all places before agree, claims of one case with one polynomial are the same
  same_claim : (n : ℕ) (x y : HyperClaim) → slice_get xs n ≡ Some x → slice_get ys n ≡ Some y → Agree n → BothGive x y → x ≡ y
  same_claim n x y p q before g = by (kind_of g.a g.b g.z x g.c g.first) (kind_of g.a g.b g.z y g.c g.second)
    where
      k : Case
      k = case_of g.a g.b g.z

      by : Solved g.a g.b g.z g.c x ⊎ Repeated g.a g.b g.z g.c x → Solved g.a g.b g.z g.c y ⊎ Repeated g.a g.b g.z g.c y → x ≡ y
      by (inl s) (inl t) =
          s.1 ∙ ap (λ from. solution g.a g.b g.z from g.c) (one_place (product_of_factors g.b) s.0 t.0 s.2 t.2) ∙ sym t.1
      by (inl s) (inr t) =
          let here = named n (solution g.a g.b g.z s.0 g.c) (p ∙ ap Some s.1) in
          let there = other_named n (again t.0 g.a g.b g.z g.c) (q ∙ ap Some t.1) in
          absurd (here t.0 there.0 (moved ys xs k g.c t.0 (sym (before t.0 there.0)) there.1))
      by (inr s) (inl t) =
          let here = named n (again s.0 g.a g.b g.z g.c) (p ∙ ap Some s.1) in
          let there = other_named n (solution g.a g.b g.z t.0 g.c) (q ∙ ap Some t.1) in
          absurd (there s.0 here.0 (moved xs ys k g.c s.0 (before s.0 here.0) here.1))
      by (inr s) (inr t) =
          let here = named n (again s.0 g.a g.b g.z g.c) (p ∙ ap Some s.1) in
          let there = other_named n (again t.0 g.a g.b g.z g.c) (q ∙ ap Some t.1) in
          let same : s.0 ≡ t.0 =
          ⊎_elim (λ e. e)
          (λ o. absurd (⊎_elim (λ b. there.2 s.0 b (moved xs ys k g.c s.0 (before s.0 here.0) here.1))
          (λ b. here.2 t.0 b (moved ys xs k g.c t.0 (sym (before t.0 there.0)) there.1)) o))
          (cases_order s.0 t.0) in
          s.1 ∙ ap (λ e. again e g.a g.b g.z g.c) same ∙ sym t.1

  same_place : (n : ℕ) → Agree n → slice_get xs n ≡ slice_get ys n
  same_place n before =
      ⊎_elim (λ e. e)
      (λ k. k.first ∙ ap Some (⊎_elim (λ e. e) (λ g. same_claim n k.x k.y k.first k.second before g) k.alike) ∙ sym k.second)
      (alike_at xs ys n alike)

  agree : (n : ℕ) → Agree n
  agree zero j b = absurd (omega (arith, b))
  agree (suc n) j b =
      ⊎_elim (λ c. agree n j c)
      (λ c. let same : n ≡ j = omega (arith, b, c) in subst (λ i. slice_get xs i ≡ slice_get ys i) same (same_place n (agree n)))
      (cases_lt j n)

  pub same_claims : xs ≡ ys
  same_claims = places_decide xs ys (λ n. same_place n (agree n))

-- ---- whole answers
pub one_answer : (ps : List Meaning) (xs ys : List HyperClaim) → IsHyperAnswer ps xs → IsHyperAnswer ps ys → xs ≡ ys
one_answer ps xs ys h k =
    let o : k.order ≡ h.order = omega (arith, h.size, k.size) in
    let a : k.a_factors ≡ h.a_factors =
    one_list_of_factors (get_or ps 0 (level 1).ops.nought) k.a_factors h.a_factors k.of_first h.of_first in
    let b : k.b_factors ≡ h.b_factors =
    one_list_of_factors (shifted_last ps h.order) k.b_factors h.b_factors
    (subst (λ order. AreLinearFactors (shifted_last ps order) k.b_factors) o k.of_last)
    h.of_last in
    let normal : AreNormalChoices h.a_factors h.b_factors k.choices =
    subst (λ e. AreNormalChoices e h.b_factors k.choices) a (subst (λ e. AreNormalChoices k.a_factors e k.choices) b k.are_choices) in
    let c : k.choices ≡ h.choices = one_list_of_choices h.a_factors h.b_factors k.choices h.choices normal h.are_choices in
    let pairs : ClaimsOfPairs ps h.a_factors h.b_factors h.choices ys =
    subst (λ e. ClaimsOfPairs ps h.a_factors h.b_factors e ys) c
    (subst (λ e. ClaimsOfPairs ps e h.b_factors k.choices ys) a (subst (λ e. ClaimsOfPairs ps k.a_factors e k.choices ys) b k.of_pairs)) in
    same_claims xs ys (alike_pairs ps h.a_factors h.b_factors h.choices xs ys h.of_pairs pairs) h.named k.named
