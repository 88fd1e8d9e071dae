-- The parts of a polynomial are one plain part and one core, whose product it is.
-- These are lemmas: they stand in specs/, since the laws that `Reducing` names rest on them.
use Rattle.std.specs.Prelude.{◌≡◌, ℕ, zero, suc, ◌-◌, ℤ, pos, negsuc, neg_ℤ, ◌<ℤ◌, not, List, [], ◌∷◌, map, length, IsTrue, refl}
use Rattle.std.proofs.Common.{ap, sym, ◌∙◌, subst, arith, ⊎_elim}
use Rattle.std.proofs.lemmas.Int.{ints}
use Rattle.std.proofs.lemmas.List.{length-map}
use Rattle.ring_laws.specs.Meaning.{Meaning, items, parted-joined}
use Rattle.ring_laws.specs.Algebra.{Passing, same_passing}
use Rattle.ring_laws.specs.Wholes.{number_of, is_zero, whole_algebra}
use Rattle.poly_laws.specs.Lists.{coefficient_at, trimmed, is_trimmed}
use Rattle.poly_laws.proofs.Coefficients.{coefficients_trimmed, meanings-is_trimmed, meanings-coefficients, coefficients}
use Rattle.poly_laws.proofs.Trimming.{trimmed_already}
use Rattle.ring_laws.specs.WholeLaws.{whole_laws}
use Rattle.whole_roots.specs.Differences.{polynomials}
use Rattle.kernel_laws.specs.Reduction.{Splits, ReductionLaws}
use Rattle.kernel_laws.proofs.Cancelling.{cancel_factor}
use Rattle.reducing.specs.PolynomialRows.{Reduced, degree, lead_number, IsCore, PolynomialSplit, polynomial_reduction}
use Rattle.reducing.specs.Laws.FactorLists.{laws, domain, P}
use Rattle.reducing.specs.Laws.OnePolynomialRow.{one_reduced, polynomials_reduce, one_row}

-- ---- the coefficients of the negative
zero_negative : (z : ℤ) → is_zero (neg_ℤ z) ≡ is_zero z
zero_negative (pos zero) = refl
zero_negative (pos (suc n)) = refl
zero_negative (negsuc n) = refl

abbrev negatives : List Meaning → List Meaning
negatives xs = map whole_algebra.ops.neg xs

negatives_trimmed : (xs : List Meaning) → is_trimmed whole_algebra.ops (negatives xs) ≡ is_trimmed whole_algebra.ops xs
negatives_trimmed [] = refl
negatives_trimmed (x ∷ []) = ap not (zero_negative (number_of x))
negatives_trimmed (x ∷ y ∷ ys) = negatives_trimmed (y ∷ ys)

trimmed_items : (f : Passing polynomials) → IsTrue (is_trimmed whole_algebra.ops (items f.0))
trimmed_items f = sym (ap (is_trimmed whole_algebra.ops) (meanings-coefficients whole_algebra whole_laws.closed f))
    ∙ meanings-is_trimmed whole_algebra whole_laws.closed (coefficients whole_algebra whole_laws.closed f)
    ∙ coefficients_trimmed whole_algebra whole_laws.closed f

-- the coefficients of -f are those of f with the other sign
pub items_negative : (f : Passing polynomials) → items (polynomials.ops.neg f.0) ≡ negatives (items f.0)
items_negative f = parted-joined (trimmed whole_algebra.ops (negatives (items f.0)))
    ∙ trimmed_already whole_algebra.ops (negatives (items f.0)) (negatives_trimmed (items f.0) ∙ trimmed_items f)

coefficient_negative : (xs : List Meaning) (k : ℕ)
    → number_of (coefficient_at whole_algebra.ops (negatives xs) k) ≡ neg_ℤ (number_of (coefficient_at whole_algebra.ops xs k))
coefficient_negative [] k = refl
coefficient_negative (x ∷ xs) zero = refl
coefficient_negative (x ∷ xs) (suc k) = coefficient_negative xs k

-- the leading number of -f is that of f with the other sign
pub lead_negative : (f : Passing polynomials) → lead_number (polynomials.ops.neg f.0) ≡ neg_ℤ (lead_number f.0)
lead_negative f =
    ap (λ xs. number_of (coefficient_at whole_algebra.ops xs (length xs - 1))) (items_negative f)
    ∙ ap (λ n. number_of (coefficient_at whole_algebra.ops (negatives (items f.0)) (n - 1))) (length-map (items f.0) whole_algebra.ops.neg)
    ∙ coefficient_negative (items f.0) (degree f.0)

-- the leading number of zero isn't positive
pub lead_of_zero : (f : Meaning) → f ≡ polynomials.ops.nought → ¬ (pos 0 <ℤ lead_number f)
lead_of_zero f e h = omega (arith, ints, h, ap lead_number e)

-- ---- the parts
polynomial_splits : (x plain core : Meaning) → PolynomialSplit x plain core → Splits polynomials x plain core
polynomial_splits x plain core h = record {
  plain_passes = subst (λ t. IsTrue (polynomials.passes t)) (sym h.plain_is) h.plain_part.1;
  core_passes = core_passes h.is_core;
  is = h.product;
}
  where
    core_passes : IsCore x core → IsTrue (polynomials.passes core)
    core_passes c = ⊎_elim (λ e. subst (λ t. IsTrue (polynomials.passes t)) (sym e) c.rest.1)
        (λ e. subst (λ t. IsTrue (polynomials.passes t)) (sym e) (P.neg c.rest).1) c.core_is

-- of a polynomial and its negative only one has a positive lead
opposite : (f : Passing polynomials) (x y : Meaning) → x ≡ f.0 → y ≡ polynomials.ops.neg f.0 → pos 0 <ℤ lead_number x → ¬ (pos 0 <ℤ lead_number y)
opposite f x y d e h k = omega (arith, ints, h, k, ap lead_number d, ap lead_number e, lead_negative f)

-- a polynomial has one core
pub one_core : (x core other : Meaning) → IsCore x core → IsCore x other → core ≡ other
one_core x core other h k =
    ⊎_elim (λ d. ⊎_elim (both_same d) (first_same d) k.core_is) (λ d. ⊎_elim (last_same d) (both_negative d) k.core_is) h.core_is
  where
    values : k.value ≡ h.value
    values = same_passing polynomials k.value h.value (sym k.value_is ∙ h.value_is)

    same_head : {a b : Passing polynomials} → a ∷ [] ≡ b ∷ [] → a.0 ≡ b.0
    same_head e = cc

    rests : k.rest.0 ≡ h.rest.0
    rests = same_head (one_reduced (h.value ∷ []) (k.rest ∷ []) (h.rest ∷ [])
        (subst (λ v. Reduced (v ∷ []) (k.rest ∷ [])) values k.reduced) h.reduced)

    both_same : core ≡ h.rest.0 → other ≡ k.rest.0 → core ≡ other
    both_same d e = d ∙ sym (e ∙ rests)

    first_same : core ≡ h.rest.0 → other ≡ polynomials.ops.neg k.rest.0 → core ≡ other
    first_same d e = absurd (opposite h.rest core other d (e ∙ ap polynomials.ops.neg rests) h.positive k.positive)

    last_same : core ≡ polynomials.ops.neg h.rest.0 → other ≡ k.rest.0 → core ≡ other
    last_same d e = absurd (opposite h.rest other core (e ∙ rests) d k.positive h.positive)

    both_negative : core ≡ polynomials.ops.neg h.rest.0 → other ≡ polynomials.ops.neg k.rest.0 → core ≡ other
    both_negative d e = d ∙ sym (e ∙ ap polynomials.ops.neg rests)

one_split : (x plain core other rest : Meaning) → PolynomialSplit x plain core → PolynomialSplit x other rest → (plain ≡ other) × (core ≡ rest)
one_split x plain core other rest h k = (plains, cores)
  where
    cores : core ≡ rest
    cores = one_core x core rest h.is_core k.is_core

    divisor : Passing polynomials
    divisor = (core, (polynomial_splits x plain core h).core_passes)

    not_zero : ¬ (divisor ≡ P.nought)
    not_zero e = lead_of_zero core (ap (λ (v : Passing polynomials). v.0) e) h.is_core.positive

    plains : plain ≡ other
    plains = h.plain_is
        ∙ ap (λ (v : Passing polynomials). v.0)
        (cancel_factor polynomials laws domain h.plain_part k.plain_part divisor not_zero
        (same_passing polynomials (P.product h.plain_part divisor) (P.product k.plain_part divisor)
        (ap (λ t. polynomials.ops.product t core) (sym h.plain_is) ∙ h.product ∙ sym k.product
        ∙ ap (λ t. polynomials.ops.product other t) (sym cores) ∙ ap (λ t. polynomials.ops.product t core) k.plain_is)))
        ∙ sym k.plain_is

-- a row of polynomials is a multiple of its one reduced row, and an entry splits in one way
pub polynomial_reduction_laws : ReductionLaws polynomials polynomial_reduction
polynomial_reduction_laws = record { reduces = polynomials_reduce; one_row = one_row; splits = polynomial_splits; one_split = one_split }
