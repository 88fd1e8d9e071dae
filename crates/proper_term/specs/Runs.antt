-- The running fraction of a product: each product is brought to lowest terms before the next factor comes.
use Rattle.std.specs.Prelude.{◌≡◌, ℕ, pos, ◌<ℤ◌, unsigned_abs, List, [], ◌∷◌, Result, Ok, Err}
use Rattle.std.specs.Int.{◌∣◌}
use Rattle.ring_laws.specs.Answer.{OnFault}
use Rattle.ring_laws.specs.declared.faults.RingFault.{RingFault}
use Rattle.poly_fraction.specs.Fractions.{RingFraction}
use Rattle.hypergeometric.specs.Fraction.{Fraction, ◌≈◌, of_whole, fraction_product}
use Rattle.hypergeometric.specs.TermFacts.{IsNumber}
use Rattle.proper_term.specs.Fields.{number_fraction_of}

-- a positive denominator, and no common divisor above 1
pub record IsInLowestTerms (f : Fraction) : Type 0 where
  pub positive : pos 0 <ℤ f.bottom
  pub coprime : (d : ℕ) → d ∣ unsigned_abs f.top → d ∣ unsigned_abs f.bottom → d ≡ 1

-- f is g in lowest terms
pub record IsReduced (f g : Fraction) : Type 0 where
  pub same : f ≈ g
  pub lowest : IsInLowestTerms f

-- numerator and denominator are below 2^127 in magnitude
pub record AreNumbers (f : Fraction) : Type 0 where
  pub top : IsNumber f.top
  pub bottom : IsNumber f.bottom

-- from r, the product with each factor in turn is in bounds before it is brought to lowest terms
abbrev pub RunsInBounds : Fraction → List Fraction → Type 0
RunsInBounds r [] = Unit {0}
RunsInBounds r (x ∷ xs) = AreNumbers (fraction_product r x) × ((s : Fraction) → IsReduced s (fraction_product r x) → RunsInBounds s xs)

-- from r, the products with each factor in turn, brought to lowest terms, end at s
abbrev pub Runs : Fraction → List Fraction → Fraction → Type 0
Runs r [] s = r ≡ s
Runs r (x ∷ xs) s = (t : Fraction) × IsReduced t (fraction_product r x) × Runs t xs s

-- where the run from r ends; `TooLarge` comes only where the run isn't in bounds
abbrev pub GivesRun : {T : Type 0} → (T → RingFraction) → Fraction → List Fraction → Result T RingFault → Type 0
GivesRun fraction r xs (Ok f) = Runs r xs (number_fraction_of (fraction f))
GivesRun fraction r xs (Err fault) = OnFault (¬ RunsInBounds r xs) fault

-- the product of all factors
abbrev pub product_of : List Fraction → Fraction
product_of [] = of_whole (pos 1)
product_of (x ∷ xs) = fraction_product x (product_of xs)
