-- Degrees and the degree bound, for polynomials of the code by what they mean.
use Rattle.std.specs.Prelude.{◌≡◌, ℕ, suc, ◌+◌, ◌-◌, ◌<◌, ◌≤◌, max, IsTrue, IsFalse, ◌⊎◌, Option, Some, None, List, [], ◌∷◌, map, length, refl, zero}
use Rattle.std.proofs.Common.{rules, ap, sym, ◌∙◌, ⊎_elim, subst, arith, get_or, drop, drop-cons, inl, inr}
use Rattle.std.proofs.lemmas.List.{length-map}
use Rattle.ring_laws.specs.Meaning.{Meaning, items, listed, parted-joined}
use Rattle.ring_laws.specs.Algebra.{Algebra, Laws}
use Rattle.ring_laws.specs.Division.{DomainLaws}
use Rattle.poly_laws.specs.PolyAlgebra.{poly_algebra, is_empty}
use Rattle.kernel_laws.specs.Answers.{Vector, meant}
use Rattle.kernel_laws.specs.Reduction.{bare}
use Rattle.division_laws.specs.Polynomials.{Polynomial}
use Rattle.key_laws.specs.DegreeBounds.{IsGreatestDegree, IsDegreeBound, IsWithin}
use Rattle.key_laws.specs.KeyEquation.{SolvesWith}
use Rattle.key_laws.specs.KeyRows.{longest}
use Rattle.key_laws.proofs.Degrees.{greatest_degree, no_degree}
use Rattle.key_laws.proofs.DegreeBound.{solutions_are_within}
use Rattle.key_laws.proofs.FindingBounds.{IsDegreeDifference}
use Rattle.key_laws.proofs.OneBound.{one_degree}
use Rattle.key_laws.proofs.ValuesOfCode.{values_of, bare_values}

-- a list of coefficients is as long as what its polynomial means
pub as_long : {E : Type 0} (value : E → Meaning) (list : List E) (m : Meaning) → listed (map value list) ≡ m → length list ≡ length (items m)
as_long value list m e = sym (length-map list value) ∙ ap length (sym (parted-joined (map value list))) ∙ ap (λ t. length (items t)) e

module _ {T : Type 0} (meaning : T → Meaning) where
  abbrev pub longest_of : List T → ℕ
  longest_of xs = longest (map items (map meaning xs))

  -- one length more
  pub one_longer : (n : ℕ) (xs : List T) (i : ℕ) (x : T) → i < length xs → x ≡ get_or xs i x
      → max (max n (length (items (meaning x)))) (longest_of (drop (i + 1) xs)) ≡ max n (longest_of (drop i xs))
  one_longer n xs i x b e =
      let next : suc i ≡ i + 1 = omega arith in
      let split : longest_of (drop i xs) ≡ max (length (items (meaning (get_or xs i x)))) (longest_of (drop (suc i) xs)) =
      ap longest_of (drop-cons xs i x b) in
      let here : length (items (meaning x)) ≡ length (items (meaning (get_or xs i x))) = ap (λ t. length (items (meaning t))) e in
      let rest : longest_of (drop (suc i) xs) ≡ longest_of (drop (i + 1) xs) = ap (λ k. longest_of (drop k xs)) next in
      omega (arith, split, here, rest)

  module _ (a : Algebra) (l : Laws a) (passes : (x : T) → IsTrue ((poly_algebra a).passes (meaning x))) where
    same : (xs : List T) → bare (poly_algebra a) (values_of (poly_algebra a) meaning passes xs) ≡ map meaning xs
    same xs = bare_values (poly_algebra a) meaning passes xs

    -- the greatest degree is one less than the greatest length, and there is none where all lists are empty
    pub degree_of : (xs : List T) (d : ℕ) → longest_of xs ≡ suc d → IsGreatestDegree a.ops (map meaning xs) d
    degree_of xs d e =
        subst (λ s. IsGreatestDegree a.ops s d) (same xs)
        (greatest_degree a l (values_of (poly_algebra a) meaning passes xs) d (ap (λ s. longest (map items s)) (same xs) ∙ e))

    pub none_of : (xs : List T) → longest_of xs ≡ 0 → (d : ℕ) → ¬ IsGreatestDegree a.ops (map meaning xs) d
    none_of xs e d g =
        no_degree a l (values_of (poly_algebra a) meaning passes xs) (ap (λ s. longest (map items s)) (same xs) ∙ e) d
        (subst (λ s. IsGreatestDegree a.ops s d) (sym (same xs)) g)

    -- what the lengths give
    pub difference_is : (xs : List T) (m more n : ℕ) → n ≡ longest_of xs → ¬ (n ≡ 0) → m ≤ n - 1 + more
        → IsDegreeDifference a.ops (map meaning xs) m more (Some (n - 1 + more - m))
    difference_is xs m more n e some b =
        let one : longest_of xs ≡ suc (n - 1) = omega (arith, e, some) in
        (n - 1, degree_of xs (n - 1) one, omega (arith, b))

    pub difference_isnt : (xs : List T) (m more n : ℕ) → n ≡ longest_of xs → (n ≡ 0) ⊎ (n - 1 + more < m)
        → IsDegreeDifference a.ops (map meaning xs) m more None
    difference_isnt xs m more n e h d k g p =
        ⊎_elim (λ z. none_of xs (sym e ∙ z) d g)
        (λ b. ⊎_elim (λ z. none_of xs (sym e ∙ z) d g)
        (λ some.
        let one : longest_of xs ≡ suc (n - 1) = omega (arith, e, some) in
        let is : d ≡ n - 1 = one_degree a.ops (map meaning xs) d (n - 1) g (degree_of xs (n - 1) one) in
        absurd (omega (arith, b, is, p))) (zero_or_some n)) h
      where
        zero_or_some : (k : ℕ) → (k ≡ 0) ⊎ ¬ (k ≡ 0)
        zero_or_some zero = inl refl
        zero_or_some (suc k) = inr (λ z. omega (arith, z))

    -- every solution is within the bound
    pub code_within : DomainLaws a → (q b : T) (sides : List T) (bound : Option ℕ) → IsDegreeBound a.ops (meaning q) (meaning b)
        (map meaning sides) bound
        → (y : Polynomial a) (multipliers : Vector a) → SolvesWith a.ops (meaning q) (meaning b) (map meaning sides) y.0 (meant a multipliers)
        → IsWithin a.ops bound y.0
    code_within dl q b sides bound h y multipliers e =
        solutions_are_within a l dl (meaning q, passes q) (meaning b, passes b) (values_of (poly_algebra a) meaning passes sides) bound
        (subst (λ s. IsDegreeBound a.ops (meaning q) (meaning b) s bound) (sym (same sides)) h) y multipliers
        (subst (λ s. SolvesWith a.ops (meaning q) (meaning b) s y.0 (meant a multipliers)) (sym (same sides)) e)

-- a polynomial that isn't zero has a coefficient
pub some_items : (xs : List Meaning) → IsFalse (is_empty xs) → 1 ≤ length xs
some_items [] h = absurd (search rules)
some_items (x ∷ xs) h = omega arith
