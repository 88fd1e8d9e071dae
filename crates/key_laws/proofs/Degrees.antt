-- The greatest degree of polynomials, from the lengths of their lists.
use Rattle.std.specs.Prelude.{◌≡◌, ℕ, suc, ◌≤◌, IsTrue, List, [], ◌∷◌, map, length}
use Rattle.std.proofs.Common.{ap, sym, ◌∙◌, ⊎_elim, subst, arith}
use Rattle.std.proofs.lemmas.Bool.{cases_lt}
use Rattle.std.proofs.lemmas.List.{length-map}
use Rattle.ring_laws.specs.Meaning.{Meaning, items}
use Rattle.ring_laws.specs.Algebra.{Ops, Algebra, Passing, within, Laws}
use Rattle.poly_laws.specs.Lists.{coefficient_at, is_trimmed}
use Rattle.poly_laws.specs.PolyAlgebra.{poly_algebra}
use Rattle.poly_laws.proofs.Coefficients.{meanings-coefficients, coefficients_trimmed}
use Rattle.poly_laws.proofs.Trimming.{beyond, last_not}
use Rattle.kernel_laws.specs.Reduction.{bare}
use Rattle.key_laws.specs.DegreeBounds.{HaveZeros, IsGreatestDegree}
use Rattle.key_laws.specs.KeyRows.{longest}
use Rattle.division_laws.proofs.Polynomials.{part_nought, nought_part, list_of}

module _ (a : Algebra) (l : Laws a) where
  abbrev base : Ops (Passing a)
  base = within a l.closed

  abbrev lists : List (Passing (poly_algebra a)) → List (List Meaning)
  lists fs = map items (bare (poly_algebra a) fs)

  as_long : (f : Passing (poly_algebra a)) → length (items f.0) ≡ length (list_of a l f)
  as_long f = ap length (sym (meanings-coefficients a l.closed f)) ∙ length-map (list_of a l f) (λ (t : Passing a). t.0)

  -- no list has a coefficient past the longest
  zeros_past : (fs : List (Passing (poly_algebra a))) (i : ℕ) → longest (lists fs) ≤ i → HaveZeros a.ops (bare (poly_algebra a) fs) i
  zeros_past [] i h = tt
  zeros_past (f ∷ fs) i h =
      (nought_part a l f i (beyond base (list_of a l f) i (omega (arith, h, as_long f))), zeros_past fs i (omega (arith, h)))

  last_stays : (xs : List (Passing a)) (d : ℕ) → IsTrue (is_trimmed base xs) → length xs ≡ suc d → ¬ (coefficient_at base xs d ≡ base.nought)
  last_stays [] d h e = absurd (omega (arith, e))
  last_stays (x ∷ xs) d h e =
      let same : length xs ≡ d = omega (arith, e) in
      subst (λ i. ¬ (coefficient_at base (x ∷ xs) i ≡ base.nought)) same (last_not base l.ring x xs h)

  some_at : (fs : List (Passing (poly_algebra a))) (d : ℕ) → longest (lists fs) ≡ suc d → ¬ HaveZeros a.ops (bare (poly_algebra a) fs) d
  some_at [] d e zeros = absurd (omega (arith, e))
  some_at (f ∷ fs) d e zeros =
      ⊎_elim
      (λ b. some_at fs d (omega (arith, e, b)) zeros.1)
      (λ b. last_stays (list_of a l f) d (coefficients_trimmed a l.closed f) (omega (arith, e, b, as_long f)) (part_nought a l f d zeros.0))
      (cases_lt (length (items f.0)) (longest (lists fs)))

  -- the greatest degree is one less than the greatest length
  pub greatest_degree : (fs : List (Passing (poly_algebra a))) (d : ℕ) → longest (map items (bare (poly_algebra a) fs)) ≡ suc d
      → IsGreatestDegree a.ops (bare (poly_algebra a) fs) d
  greatest_degree fs d e = record { lead = some_at fs d e; above = λ i b. zeros_past fs i (omega (arith, e, b)) }

  -- and there is none where all lists are empty
  pub no_degree : (fs : List (Passing (poly_algebra a))) → longest (map items (bare (poly_algebra a) fs)) ≡ 0
      → (d : ℕ) → ¬ IsGreatestDegree a.ops (bare (poly_algebra a) fs) d
  no_degree fs e d g = g.lead (zeros_past fs d (omega (arith, e)))
