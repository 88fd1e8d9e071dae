-- When the value of a term at a point is in bounds: where the running fraction of its factors is.
use Rattle.std.specs.Prelude.{ℕ, ◌+◌, ◌*◌, ◌^◌, ◌<◌, ℤ, pos, negsuc, suc, unsigned_abs, List, [], ◌∷◌, ◌++◌, replicate}
use Rattle.ring_laws.specs.Meaning.{Meaning, items}
use Rattle.ring_laws.specs.Wholes.{number_of}
use Rattle.hypergeometric.specs.Point.{Point}
use Rattle.hypergeometric.specs.Fraction.{Fraction, of_whole, reciprocal, natural_power}
use Rattle.hypergeometric.specs.LinearForm.{Factor, form_value}
use Rattle.hypergeometric.specs.ProperTerm.{ProperTerm, poly_value, IsDefinedAt, NoneNegative}
use Rattle.proper_term.specs.Cancelled.{arguments_at, left_over, quotients}
use Rattle.proper_term.specs.Runs.{RunsInBounds}

-- x0 + v*x1 + v^2*x2 + .. of the sizes of the items
abbrev pub sizes : {A : Type 0} → (A → ℕ) → ℕ → List A → ℕ
sizes f v [] = 0
sizes f v (x ∷ xs) = f x + v * sizes f v xs

-- the sum of |coefficient| * |n|^i
abbrev pub size_in_n : Point → Meaning → ℕ
size_in_n p poly = sizes (λ z. unsigned_abs (number_of z)) (unsigned_abs p.n) (items poly)

-- the sum of |coefficient| * |n|^i * |k|^j over all coefficients
abbrev pub size_at : Point → Meaning → ℕ
size_at p poly = sizes (size_in_n p) (unsigned_abs p.k) (items poly)

-- a power of a fraction other than 0
abbrev pub base_power : Fraction → ℤ → Fraction
base_power f (pos n) = natural_power f n
base_power f (negsuc n) = natural_power (reciprocal f) (suc n)

-- one over the value of each form, as often as its power says
abbrev pub divisors : List Factor → Point → List Fraction
divisors [] p = []
divisors (x ∷ xs) p = replicate x.power (record { top = pos 1; bottom = form_value x.form p }) ++ divisors xs p

-- the factors of the quotient of the factorials, without common ones
abbrev pub factorial_factors : ProperTerm → Point → List Fraction
factorial_factors f p =
    quotients (left_over (arguments_at p f.up) (arguments_at p f.down)) (left_over (arguments_at p f.down) (arguments_at p f.up))

-- all factors, in the order in which the scale is multiplied by them
abbrev pub value_factors : ProperTerm → Point → List Fraction
value_factors f p =
    factorial_factors f p ++ (of_whole (poly_value f.poly p) ∷ base_power f.n_base p.n ∷ base_power f.k_base p.k ∷ divisors f.over p)

-- the polynomial's value, as one operation, and the run of the factors are in bounds
pub record IsRunInBounds (f : ProperTerm) (p : Point) : Type 0 where
  pub poly : size_at p f.poly < 2 ^ 127
  pub run : RunsInBounds f.scale (value_factors f p)

-- where the term isn't defined, or a factorial below is that of a negative number, nothing is counted
abbrev pub ValueInBounds : ProperTerm → Point → Type 0
ValueInBounds f p = IsDefinedAt f p → NoneNegative f.down p → IsRunInBounds f p
