-- Where the value of a term is defined, and which forms are then not negative.
use Rattle.std.proofs.Common.{◌≢◌, ℕ, zero, suc, ◌≤◌, refl, ap, sym, ◌∙◌, List, [], ◌∷◌, arith, subst}
use Rattle.std.proofs.lemmas.Int.{ints}
use Rattle.std.specs.Prelude.{ℤ, pos, negsuc, ◌*ℤ◌, ◌≤ℤ◌}
use Rattle.std.specs.List.{AllByRecursion}
use Rattle.hypergeometric.specs.Point.{Point}
use Rattle.hypergeometric.specs.Fraction.{Fraction, IsDefined, of_whole, fraction_product, fraction_inverse, natural_power, whole_power}
use Rattle.hypergeometric.specs.LinearForm.{LinearForm, Factor, form_value, factorial_value, inverse_factorial_value, product_over}
use Rattle.hypergeometric.specs.ProperTerm.{ProperTerm, NoneNegative, NoneZero, poly_value, proper_value}
use Rattle.hypergeometric.specs.FactorLists.{power_of, without}
use Rattle.hypergeometric.proofs.SameValues.{times_zero, zero_times}
use Rattle.hypergeometric.proofs.SharedForms.{AllSome, power_by, without_by}

-- a defined product has defined factors
pub left_defined : (f g : Fraction) → IsDefined (fraction_product f g) → IsDefined f
left_defined f g d z = d (ap (λ b. b *ℤ g.bottom) z ∙ zero_times g.bottom)

pub right_defined : (f g : Fraction) → IsDefined (fraction_product f g) → IsDefined g
right_defined f g d z = d (ap (λ b. f.bottom *ℤ b) z ∙ times_zero f.bottom)

-- and so has a power
pub base_defined : (f : Fraction) (power : ℕ) → 1 ≤ power → IsDefined (natural_power f power) → IsDefined f
base_defined f zero h d = absurd (omega (arith, h))
base_defined f (suc m) h d = left_defined f (natural_power f m) d

factorial_natural : (z : ℤ) → IsDefined (factorial_value z) → pos 0 ≤ℤ z
factorial_natural (pos m) d = omega (arith, ints)
factorial_natural (negsuc m) d = absurd (d refl)

inverse_not_zero : (z : ℤ) → IsDefined (fraction_inverse (of_whole z)) → z ≢ pos 0
inverse_not_zero z d e = d (ap (λ z. z *ℤ pos 1) e ∙ zero_times (pos 1))

module _ (p : Point) where
  up_natural : (xs : List Factor) → AllSome xs → IsDefined (product_over factorial_value xs p) → NoneNegative xs p
  up_natural [] h d = tt
  up_natural (x ∷ xs) h d = (
    factorial_natural (form_value x.form p) (base_defined (factorial_value (form_value x.form p)) x.power h.0
        (left_defined (natural_power (factorial_value (form_value x.form p)) x.power) (product_over factorial_value xs p) d)),
    up_natural xs h.1 (right_defined (natural_power (factorial_value (form_value x.form p)) x.power) (product_over factorial_value xs p) d),
  )

  over_not_zero : (xs : List Factor) → AllSome xs → IsDefined (product_over (λ z. fraction_inverse (of_whole z)) xs p) → NoneZero xs p
  over_not_zero [] h d = tt
  over_not_zero (x ∷ xs) h d =
      let first : Fraction = fraction_inverse (of_whole (form_value x.form p)) in
      let rest : Fraction = product_over (λ z. fraction_inverse (of_whole z)) xs p in (
        inverse_not_zero (form_value x.form p) (base_defined first x.power h.0 (left_defined (natural_power first x.power) rest d)),
        over_not_zero xs h.1 (right_defined (natural_power first x.power) rest d),
      )

  -- where the value of a term with powers of at least 1 is defined
  pub value_defined : (s : ProperTerm) → AllSome s.up → AllSome s.over → IsDefined (proper_value s p) → NoneNegative s.up p × NoneZero s.over p
  value_defined s up over d =
      let over_value : Fraction = product_over (λ z. fraction_inverse (of_whole z)) s.over p in
      let down_value : Fraction = product_over inverse_factorial_value s.down p in
      let up_value : Fraction = product_over factorial_value s.up p in
      let lists : Fraction = fraction_product up_value (fraction_product down_value over_value) in
      let k_power : Fraction = whole_power s.k_base p.k in
      let n_power : Fraction = whole_power s.n_base p.n in
      let given : Fraction = of_whole (poly_value s.poly p) in
      let defined : IsDefined lists = right_defined k_power lists (right_defined n_power (fraction_product k_power lists)
      (right_defined given (fraction_product n_power (fraction_product k_power lists))
      (right_defined s.scale (fraction_product given (fraction_product n_power (fraction_product k_power lists))) d))) in (
        up_natural s.up up (left_defined up_value (fraction_product down_value over_value) defined),
        over_not_zero s.over over (right_defined down_value over_value (right_defined up_value (fraction_product down_value over_value) defined)),
      )

  abbrev IsNatural : Factor → Type 0
  IsNatural x = pos 0 ≤ℤ form_value x.form p

  pub none_to_all : (xs : List Factor) → NoneNegative xs p → AllByRecursion IsNatural xs
  none_to_all [] h = tt
  none_to_all (x ∷ xs) h = (h.0, none_to_all xs h.1)

  pub all_to_none : (xs : List Factor) → AllByRecursion IsNatural xs → NoneNegative xs p
  all_to_none [] h = tt
  all_to_none (x ∷ xs) h = (h.0, all_to_none xs h.1)

  -- a form that stands in a list without negative values
  natural_in : (f : LinearForm) (ys : List Factor) → 1 ≤ power_of f ys → NoneNegative ys p → pos 0 ≤ℤ form_value f p
  natural_in f [] some h = absurd (omega (arith, some))
  natural_in f (y ∷ ys) some h = power_by (λ m. 1 ≤ m → pos 0 ≤ℤ form_value f p) f y ys
      (λ e s. subst (λ g. pos 0 ≤ℤ form_value g p) (sym e) h.0) (λ e s. natural_in f ys s h.1) some

  -- what is left and what was taken aren't negative, so nothing is
  pub parts_natural : (xs ys : List Factor) → AllSome xs → NoneNegative (without xs ys) p → NoneNegative ys p → NoneNegative xs p
  parts_natural [] ys some left taken = tt
  parts_natural (x ∷ xs) ys some left taken = without_by (λ zs. NoneNegative zs p → NoneNegative (x ∷ xs) p) x xs ys
      (λ e h. (natural_in x.form ys (omega (arith, e, some.0)) taken, parts_natural xs ys some.1 h taken))
      (λ e h. (h.0, parts_natural xs ys some.1 h.1 taken)) left
