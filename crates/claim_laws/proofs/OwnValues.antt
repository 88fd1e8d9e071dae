-- A term has its own value.
use Rattle.std.proofs.Common.{◌≡◌, ◌≤◌, List, [], ◌∷◌, refl, sym, ◌∙◌, subst, arith}
use Rattle.std.proofs.lemmas.Int.{ints}
use Rattle.std.specs.List.{AllByRecursion}
use Rattle.std.specs.Prelude.{ℤ, pos, negsuc, ◌*ℤ◌, ◌≤ℤ◌}
use Rattle.ring_solver.proofs.Read.{ring_z, reading_z}
use Rattle.hypergeometric.specs.Point.{Point}
use Rattle.hypergeometric.specs.Fraction.{IsDefined, ◌≈◌, of_whole, natural_power}
use Rattle.hypergeometric.specs.LinearForm.{Factor, form_value, factorial, factorial_value, inverse_factorial_value, product_over}
use Rattle.hypergeometric.specs.FormOrder.{IsFactor}
use Rattle.hypergeometric.specs.ProperTerm.{ProperTerm, NoneNegative, IsDefinedAt, proper_value}
use Rattle.hypergeometric.specs.TermFacts.{IsProper}
use Rattle.hypergeometric.specs.TermValue.{HasValue}
use Rattle.hypergeometric.proofs.Definedness.{proper_value_defined}
use Rattle.hypergeometric.proofs.FractionLaws.{one_not_zero, equal_to_itself, equal_symmetric, equal_products}
use Rattle.hypergeometric.proofs.DefinedValues.{left_defined, right_defined, base_defined, value_defined}
use Rattle.hypergeometric.proofs.FractionPowers.{product_one}
use Rattle.hypergeometric.proofs.SharedForms.{AllSome, all_more}
use Rattle.hypergeometric.proofs.PlainTerms.{natural_power_of_one}
use Rattle.term_pieces.proofs.Factorials.{inverse_factorial_times}
use Rattle.term_pieces.proofs.TimesPowers.{equal_powers}
use Rattle.claim_laws.specs.OwnValues.{guard_value, own_value}
use Rattle.claim_laws.proofs.CertifiedClaims.{has_fractions}

-- x!/x! is 1 from 0 on
guard_one : (z : ℤ) → pos 0 ≤ℤ z → guard_value z ≈ of_whole (pos 1)
guard_one (pos m) h = record {
  left_defined = λ e. (inverse_factorial_times (pos m) 0).left_defined (sym (once (pos (factorial m))) ∙ e);
  right_defined = one_not_zero;
  cross = same (pos (factorial m));
}
  where
    once : (x : ℤ) → pos 1 *ℤ x ≡ x
    once x = ring_z (x ∷ []) (search reading_z depth 40 fits 20000) refl

    same : (x : ℤ) → (x *ℤ pos 1) *ℤ pos 1 ≡ pos 1 *ℤ (pos 1 *ℤ x)
    same x = ring_z (x ∷ []) (search reading_z depth 40 fits 20000) refl
guard_one (negsuc m) h = absurd (omega (arith, ints, h))

guard_natural : (z : ℤ) → IsDefined (guard_value z) → pos 0 ≤ℤ z
guard_natural (pos m) d = omega (arith, ints)
guard_natural (negsuc m) d = absurd (left_defined (factorial_value (negsuc m)) (inverse_factorial_value (negsuc m)) d refl)

module _ (p : Point) where
  guards_one : (xs : List Factor) → NoneNegative xs p → product_over guard_value xs p ≈ of_whole (pos 1)
  guards_one [] h = equal_to_itself (of_whole (pos 1)) one_not_zero
  guards_one (x ∷ xs) (h, hs) =
      equal_products
      (subst (λ z. natural_power (guard_value (form_value x.form p)) x.power ≈ z) (natural_power_of_one x.power)
      (equal_powers x.power (guard_one (form_value x.form p) h)))
      (guards_one xs hs)

  guards_natural : (xs : List Factor) → AllSome xs → IsDefined (product_over guard_value xs p) → NoneNegative xs p
  guards_natural [] some d = tt
  guards_natural (x ∷ xs) some d =
      let one = natural_power (guard_value (form_value x.form p)) x.power in (
        guard_natural (form_value x.form p)
            (base_defined (guard_value (form_value x.form p)) x.power some.0 (left_defined one (product_over guard_value xs p) d)),
        guards_natural xs some.1 (right_defined one (product_over guard_value xs p) d),
      )

factors_some : (xs : List Factor) → AllByRecursion IsFactor xs → AllSome xs
factors_some xs h = all_more IsFactor (λ x. 1 ≤ x.power) (λ x p. p.some) xs h

module _ (f : ProperTerm) (proper : IsProper f) where
  value_is_own : (p : Point) → IsDefinedAt f p → proper_value f p ≈ own_value f p
  value_is_own p d =
      let own = proper_value f p in
      subst (λ z. z ≈ own_value f p) (product_one own)
      (equal_products (equal_to_itself own (proper_value_defined f p (has_fractions f proper) d)) (equal_symmetric (guards_one p f.guard d.guard)))

  own_defined : (p : Point) → IsDefined (own_value f p) → IsDefinedAt f p
  own_defined p d =
      let lists = value_defined p f (factors_some f.up proper.up.each) (factors_some f.over proper.over.each)
      (left_defined (proper_value f p) (product_over guard_value f.guard p) d) in
      record {
        up = lists.0;
        guard = guards_natural p f.guard (factors_some f.guard proper.guard.each)
            (right_defined (proper_value f p) (product_over guard_value f.guard p) d);
        over = lists.1;
      }

  pub has_own_value : HasValue f (own_value f)
  has_own_value = record {
    defined = λ p. ((λ d. (value_is_own p d).right_defined), own_defined p);
    equal = value_is_own;
  }
