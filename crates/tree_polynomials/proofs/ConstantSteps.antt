-- The steps in which a constant is sought, by the node that stands there.
use Rattle.std.proofs.Common.{◌≡◌, ℕ, zero, suc, refl, ap, sym, ◌∙◌, [], true, false, arith}
use Rattle.std.proofs.lemmas.Int.{ints}
use Rattle.std.proofs.Math.Dec.{eqb-suc-zero}
use Rattle.std.specs.Prelude.{ℤ, pos, negsuc, ◌<ℤ◌, ◌≢◌, unsigned_abs, if◌then◌else◌, Option, Some, None, Result, Ok, Err}
use Rattle.steps.specs.Found.{where_some}
use Rattle.steps.specs.Operations.{of_fraction}
use Rattle.steps.specs.Steps.{gives, makes, limited, within_limit, ◌then◌}
use Rattle.steps.specs.TermFaults.{TermRefusal, TermSteps}
use Rattle.steps.specs.declared.limits.LimitName.TheVariants.{Exponent}
use Rattle.steps.proofs.StepLaws.{then_assoc}
use Rattle.hypergeometric.specs.Fraction.{Fraction}
use Rattle.hypergeometric.specs.Divisors.{lowest_terms, raised_fraction, size_of_top, size_of_bottom}
use Rattle.hypergeometric.specs.PrimitiveForm.{is_zero}
use Rattle.grammar.specs.Tree.{Tree, sum_of, power_of, Parts, no_parts, part}
use Rattle.term_classes.specs.TreePolynomial.{constant_of}
use Rattle.term_classes.specs.Finding.{find_polynomial, find_node_constant, power_made}
use Rattle.proper_term.specs.Fields.{number_fraction}
use Rattle.tree_polynomials.specs.ConstantCases.{limited_constant, find_exponent, find_power, find_negative}

zero_test : (z : ℤ) → z ≢ pos 0 → is_zero z ≡ false
zero_test (pos zero) h = absurd (h refl)
zero_test (pos (suc n)) h = eqb-suc-zero n
zero_test (negsuc n) h = eqb-suc-zero n

-- a negative power turns the fraction over
pub negative_power : (at : ℕ) (z : ℤ) (times : ℕ) (f : Fraction) → z <ℤ pos 0 → times ≡ unsigned_abs z → f.top ≢ pos 0
    → power_made at (pos times) (number_fraction f.bottom f.top) ≡ power_made at z f
negative_power at (pos n) times f below e some = absurd (omega (arith, ints, below))
negative_power at (negsuc n) times f below e some =
    ap (λ t. power_made at (pos t) (number_fraction f.bottom f.top)) e
    ∙ sym (ap (λ b. if b then gives None else makes at (of_fraction (size_of_top (raised_fraction f (negsuc n)))
    (size_of_bottom (raised_fraction f (negsuc n)))) (Some (lowest_terms (raised_fraction f (negsuc n))))) (zero_test f.top some))

-- what follows from a constant within its limit
limited_then : {B : Type 0} (c : ℤ) (f : ℤ → TermSteps (Option B))
    → (limited_constant c then (λ d. where_some d f)) ≡ (within_limit Exponent (unsigned_abs c) c then (λ c1. f c))
limited_then {B} c f = by (limited Exponent (unsigned_abs c) c)
  where
    kept : Result ℤ TermRefusal → TermSteps ℤ
    kept o = record { outcome = o; operations = [] }

    by : (o : Result ℤ TermRefusal) → ((kept o then (λ c1. gives (Some c))) then (λ d. where_some d f)) ≡ (kept o then (λ c1. f c))
    by (Ok c1) = refl
    by (Err r) = refl

-- the exponent of a power, and then its base
pub power_case : (at : ℕ) (base e : Tree)
    → find_node_constant at (power_of base e) ≡ (find_exponent e then (λ c. where_some c (find_power at base)))
power_case at base e = sym (then_assoc (find_polynomial e) (λ p. where_some (constant_of p) limited_constant)
    (λ c. where_some c (find_power at base))
    ∙ ap (λ f. find_polynomial e then f) (λ i p. by (constant_of p) i))
  where
    by : (c : Option ℤ) → (where_some c limited_constant then (λ d. where_some d (find_power at base)))
        ≡ where_some c (λ c. within_limit Exponent (unsigned_abs c) c then (λ c1. find_power at base c))
    by None = refl
    by (Some c) = limited_then c (find_power at base)

pub sum_case : (at : ℕ) (parts : Parts) → find_node_constant at (sum_of parts) ≡ find_negative parts
sum_case at no_parts = refl
sum_case at (part false t parts) = refl
sum_case at (part true t no_parts) = refl
sum_case at (part true t (part turned s parts)) = refl
