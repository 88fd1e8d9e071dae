-- The product of fractions, one factor after another, and when its counterpart is in bounds.
use Rattle.std.proofs.Common.{◌≡◌, ℕ, ◌+◌, ◌*◌, ◌<◌, ◌≤◌, List, [], ◌∷◌, Bool, true, false, ◌&&◌, ◌||◌, length, get_or, drop, refl, ap, sym, ◌∙◌, arith, subst, true≢false}
use Rattle.std.proofs.Math.Nat.{mul-le-mul, mul-le-mul_left, mul-le-mul_right}
use Rattle.std.proofs.lemmas.Int.{unsigned_abs-mul}
use Rattle.std.proofs.lemmas.List.{drop_more}
use Rattle.std.specs.Prelude.{ℤ, pos, ◌*ℤ◌, unsigned_abs}
use Rattle.ring_laws.specs.Answer.{OnFault}
use Rattle.ring_laws.specs.Wholes.{number_of, whole_algebra}
use Rattle.ring_laws.specs.declared.faults.RingFault.{RingFault}
use Rattle.steps.specs.Answers.{HasCause}
use Rattle.steps.specs.Operations.{Counterpart, IsInBounds, of_fraction}
use Rattle.steps.specs.Steps.{makes}
use Rattle.steps.specs.TermFaults.{fault_of, term_cause}
use Rattle.steps.proofs.AnswerLaws.{ring_cause, made_too_large}
use Rattle.poly_fraction.specs.Fractions.{RingFraction, FractionProductInBounds}
use Rattle.hypergeometric.specs.Fraction.{Fraction, of_whole, fraction_product}
use Rattle.hypergeometric.specs.Divisors.{nonzero_size, size_of_top, size_of_bottom}
use Rattle.hypergeometric.specs.PrimitiveForm.{is_zero}
use Rattle.hypergeometric.proofs.FractionPowers.{product_assoc, one_product}
use Rattle.term_classes.specs.Finding.{FractionFactor, divides_by_zero, factor_fraction, product_of_fractions, top_sizes, bottom_sizes}
use Rattle.proper_term.specs.Fields.{number_fraction_of}
use Rattle.tree_polynomials.specs.Factors.{factor_of, factors_of}
use Rattle.tree_polynomials.specs.declared.factors.Factor.{Factor}

-- the factor at an index comes next
next_factor : (factors : List Factor) (i : ℕ) (x : Factor) → i < length factors → x ≡ get_or factors i x
    → factors_of (drop i factors) ≡ factor_of x ∷ factors_of (drop (i + 1) factors)
next_factor factors i x below is =
    ap factors_of (drop_more factors i x below) ∙ ap (λ y. factor_of y ∷ factors_of (drop (i + 1) factors)) (sym is)

some_size : (z : ℤ) → 1 ≤ nonzero_size z
some_size z = omega arith

magnitude_below : (z : ℤ) → unsigned_abs z ≤ nonzero_size z
magnitude_below z = omega arith

magnitudes_below : (a b : ℤ) → unsigned_abs a * unsigned_abs b ≤ nonzero_size a * nonzero_size b
magnitudes_below a b = mul-le-mul (magnitude_below a) (magnitude_below b)

-- the size of a product is at most the product of the sizes
product_size : (a b : ℤ) → nonzero_size (a *ℤ b) ≤ nonzero_size a * nonzero_size b
product_size a b =
    let sizes : 1 * 1 ≤ nonzero_size a * nonzero_size b = mul-le-mul (some_size a) (some_size b) in
    omega (arith, sizes, magnitudes_below a b, unsigned_abs-mul a b)

-- a refused product of two fractions is out of bounds
pub product_fault : (at : ℕ) (f g : RingFraction) (fault : RingFault) → OnFault (¬ FractionProductInBounds whole_algebra f g) fault
    → HasCause (makes at (of_fraction (size_of_top (number_fraction_of f) * size_of_top (number_fraction_of g))
    (size_of_bottom (number_fraction_of f) * size_of_bottom (number_fraction_of g))) (fraction_product (number_fraction_of f) (number_fraction_of g)))
    (term_cause (fault_of at fault))
product_fault at f g fault h =
    ring_cause (makes at counterpart product) at (¬ FractionProductInBounds whole_algebra f g) fault h
    (λ out. made_too_large at counterpart (λ small. out (record {
      top = omega (arith, small.0, magnitudes_below (number_of f.top) (number_of g.top));
      bottom = omega (arith, small.1, magnitudes_below (number_of f.bottom) (number_of g.bottom));
    })))
  where
    counterpart : Counterpart
    counterpart = of_fraction (size_of_top (number_fraction_of f) * size_of_top (number_fraction_of g))
        (size_of_bottom (number_fraction_of f) * size_of_bottom (number_fraction_of g))

    product : Fraction
    product = fraction_product (number_fraction_of f) (number_fraction_of g)

more_size : (a b : ℕ) → 1 ≤ a → 1 ≤ b → 1 ≤ a * b
more_size a b h k =
    let sizes : 1 * 1 ≤ a * b = mul-le-mul h k in
    omega (arith, sizes)

some_tops : (xs : List FractionFactor) → 1 ≤ top_sizes xs
some_tops [] = omega arith
some_tops (x ∷ xs) = more_size (size_of_top (factor_fraction x)) (top_sizes xs) (omega arith) (some_tops xs)

some_bottoms : (xs : List FractionFactor) → 1 ≤ bottom_sizes xs
some_bottoms [] = omega arith
some_bottoms (x ∷ xs) = more_size (size_of_bottom (factor_fraction x)) (bottom_sizes xs) (omega arith) (some_bottoms xs)

-- the product so far and the factors that are left make the whole product
pub record IsLeft (done : Fraction) (rest all : List FractionFactor) : Type 0 where
  pub product : fraction_product done (product_of_fractions rest) ≡ product_of_fractions all
  pub top : size_of_top done * top_sizes rest ≤ top_sizes all
  pub bottom : size_of_bottom done * bottom_sizes rest ≤ bottom_sizes all
  pub some : divides_by_zero rest ≡ false

-- the factor at an index is the first that is left
pub left_at : (done : Fraction) (factors : List Factor) (i : ℕ) (x : Factor) → i < length factors → x ≡ get_or factors i x
    → IsLeft done (factors_of (drop i factors)) (factors_of factors)
    → IsLeft done (factor_of x ∷ factors_of (drop (i + 1) factors)) (factors_of factors)
left_at done factors i x below is h = subst (λ (xs : List FractionFactor). IsLeft done xs (factors_of factors)) (next_factor factors i x below is) h

pub all_left : (all : List FractionFactor) → divides_by_zero all ≡ false → IsLeft (of_whole (pos 1)) all all
all_left all some = record {
  product = one_product (product_of_fractions all);
  top = omega arith;
  bottom = omega arith;
  some = some;
}

pub first_some : (b c : Bool) → (b || c) ≡ false → b ≡ false
first_some true c e = absurd (true≢false e)
first_some false c e = refl

rest_some : (b c : Bool) → (b || c) ≡ false → c ≡ false
rest_some true c e = absurd (true≢false e)
rest_some false c e = e

-- a product of sizes that a third leaves at most the whole
shared : (p d f t all : ℕ) → p ≤ d * f → d * (f * t) ≤ all → p * t ≤ all
shared p d f t all small whole =
    let grown : p * t ≤ (d * f) * t = mul-le-mul_right t small in
    let same : (d * f) * t ≡ d * (f * t) = omega arith in
    omega (arith, grown, same, whole)

within : (d f t all : ℕ) → 1 ≤ t → d * (f * t) ≤ all → d * f ≤ all
within d f t all some whole =
    let grown : (d * f) * 1 ≤ (d * f) * t = mul-le-mul_left (d * f) some in
    let same : (d * f) * t ≡ d * (f * t) = omega arith in
    omega (arith, grown, same, whole)

module _ (done : Fraction) (x : FractionFactor) (rest all : List FractionFactor) (h : IsLeft done (x ∷ rest) all) where
  pub one_less : IsLeft (fraction_product done (factor_fraction x)) rest all
  one_less = record {
    product = product_assoc done (factor_fraction x) (product_of_fractions rest) ∙ h.product;
    top = shared (size_of_top (fraction_product done (factor_fraction x))) (size_of_top done) (size_of_top (factor_fraction x)) (top_sizes rest)
        (top_sizes all) (product_size done.top (factor_fraction x).top) h.top;
    bottom = shared (size_of_bottom (fraction_product done (factor_fraction x))) (size_of_bottom done) (size_of_bottom (factor_fraction x))
        (bottom_sizes rest) (bottom_sizes all) (product_size done.bottom (factor_fraction x).bottom) h.bottom;
    some = rest_some (x.0 && is_zero x.1.top) (divides_by_zero rest) h.some;
  }

  -- where the whole product is in bounds, that with the next factor is
  pub next_in_bounds : IsInBounds (of_fraction (top_sizes all) (bottom_sizes all))
      → IsInBounds (of_fraction (size_of_top done * size_of_top (factor_fraction x)) (size_of_bottom done * size_of_bottom (factor_fraction x)))
  next_in_bounds b =
      let top = within (size_of_top done) (size_of_top (factor_fraction x)) (top_sizes rest) (top_sizes all) (some_tops rest) h.top in
      let bottom =
      within (size_of_bottom done) (size_of_bottom (factor_fraction x)) (bottom_sizes rest) (bottom_sizes all) (some_bottoms rest) h.bottom in
      (omega (arith, top, b.0), omega (arith, bottom, b.1))
