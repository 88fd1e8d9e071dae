-- Terms multiplied by a value, and what multiplies a part of a product.
use Rattle.std.proofs.Common.{◌≡◌, ℕ, ◌+◌, ap, sym, ◌∙◌, List, [], ◌∷◌}
use Rattle.std.proofs.lemmas.Bool.{cond_both}
use Rattle.std.specs.Prelude.{ℤ, pos}
use Rattle.hypergeometric.specs.Point.{Point}
use Rattle.hypergeometric.specs.Fraction.{Fraction, of_whole, fraction_product, natural_power, whole_power}
use Rattle.hypergeometric.specs.LinearForm.{LinearForm, Factor, form_value, product_over}
use Rattle.hypergeometric.specs.ProperTerm.{ProperTerm, proper_value, IsNonzero, HasFractions}
use Rattle.hypergeometric.specs.FactorLists as lists
use Rattle.hypergeometric.specs.Divisors.{lowest_terms, raised_fraction}
use Rattle.hypergeometric.proofs.Lookups.{same_form_found}
use Rattle.hypergeometric.proofs.SameValues.{◌≅◌, same, same_itself, same_chain, same_products}
use Rattle.hypergeometric.proofs.FractionPowers.{product_comm, product_assoc, product_one, power_of_sum}
use Rattle.hypergeometric.proofs.NonzeroPowers.{product_nonzero}
use Rattle.hypergeometric.proofs.LowestTerms.{lowest_same, lowest_nonzero, raised_same, raised_nonzero}

-- the value of s' is that of s times v, and the scale and the bases of s' aren't 0
pub record IsTimes (s s' : ProperTerm) (v : Point → Fraction) : Type 0 where
  pub fractions : HasFractions s'
  pub value : (p : Point) → proper_value s' p ≅ fraction_product (proper_value s p) (v p)

pub times_nothing : (s : ProperTerm) → HasFractions s → IsTimes s s (λ p. of_whole (pos 1))
times_nothing s h = record { fractions = h; value = λ p. same (sym (product_one (proper_value s p))) }

pub times_both : (s t r : ProperTerm) (u v : Point → Fraction) → IsTimes s t u → IsTimes t r v → IsTimes s r (λ p. fraction_product (u p) (v p))
times_both s t r u v e q = record {
  fractions = q.fractions;
  value = λ p. same_chain (q.value p) (same_chain (same_products (e.value p) (same_itself (v p)))
      (same (product_assoc (proper_value s p) (u p) (v p))));
}

pub times_same : (s t : ProperTerm) (u v : Point → Fraction) → IsTimes s t u → ((p : Point) → u p ≅ v p) → IsTimes s t v
times_same s t u v given e = record {
  fractions = given.fractions;
  value = λ p. same_chain (given.value p) (same_products (same_itself (proper_value s p)) (e p));
}

-- a factor that stands first in a product, moved last; and one that stands last in the second factor
pub moved_last : (x y z : Fraction) → fraction_product (fraction_product x y) z ≡ fraction_product (fraction_product x z) y
moved_last x y z = product_assoc x y z ∙ ap (fraction_product x) (product_comm y z) ∙ sym (product_assoc x z y)

pub deeper : (a : Fraction) {y : Fraction} (z x : Fraction) → y ≅ fraction_product z x → fraction_product a y
    ≅ fraction_product (fraction_product a z) x
deeper a {y} z x e = same_chain (same_products (same_itself a) e) (same (sym (product_assoc a z x)))

pub outer : (r : Fraction) {y : Fraction} (z x : Fraction) → y ≅ fraction_product z x → fraction_product y r
    ≅ fraction_product (fraction_product z r) x
outer r {y} z x e = same_chain (same_products e (same_itself r)) (same (moved_last z x r))

-- one more factor of a list
pub factor_times : (f : ℤ → Fraction) (a : LinearForm) (power : ℕ) (xs : List Factor) (p : Point)
    → product_over f (lists.with_factor a power xs) p ≡ fraction_product (product_over f xs p) (natural_power (f (form_value a p)) power)
factor_times f a power [] p = product_comm (natural_power (f (form_value a p)) power) (of_whole (pos 1))
factor_times f a power (x ∷ xs) p =
    cond_both (lists.same_form a x.form) (lists.factor_with x.form (x.power + power) ∷ xs) (x ∷ lists.with_factor a power xs)
    (λ ys. product_over f ys p ≡ fraction_product (product_over f (x ∷ xs) p) (natural_power (f (form_value a p)) power))
    (λ e. ap (λ given. fraction_product given (product_over f xs p)) (power_of_sum (f (form_value x.form p)) x.power power)
    ∙ moved_last (natural_power (f (form_value x.form p)) x.power) (natural_power (f (form_value x.form p)) power) (product_over f xs p)
    ∙ ap (λ y. fraction_product (product_over f (x ∷ xs) p) (natural_power (f (form_value y p)) power)) (sym (same_form_found a x.form e)))
    (λ e. ap (fraction_product (natural_power (f (form_value x.form p)) x.power)) (factor_times f a power xs p)
    ∙ sym (product_assoc (natural_power (f (form_value x.form p)) x.power) (product_over f xs p) (natural_power (f (form_value a p)) power)))

-- a fraction times another one to a power, in lowest terms
pub power_multiplied : (f g : Fraction) (w : ℤ) → IsNonzero f → IsNonzero g → lowest_terms (fraction_product f (raised_fraction g w))
    ≅ fraction_product f (whole_power g w)
power_multiplied f g w p q =
    same_chain (lowest_same (fraction_product f (raised_fraction g w)) (product_nonzero f (raised_fraction g w) p (raised_nonzero g w q)).bottom)
    (same_products (same_itself f) (raised_same g w q))

pub multiplied_nonzero : (f g : Fraction) (w : ℤ) → IsNonzero f → IsNonzero g → IsNonzero (lowest_terms (fraction_product f (raised_fraction g w)))
multiplied_nonzero f g w p q = lowest_nonzero (fraction_product f (raised_fraction g w))
    (product_nonzero f (raised_fraction g w) p (raised_nonzero g w q))
