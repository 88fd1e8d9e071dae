-- The product over a list is that over what is left of it, times that over the forms taken from it.
use Rattle.std.proofs.Common.{◌≡◌, ◌≢◌, ◌+◌, ◌-◌, ◌≤◌, refl, ap, sym, ◌∙◌, List, [], ◌∷◌, arith, subst, ◌⊎◌, inl, inr}
use Rattle.std.specs.Prelude.{ℤ, pos}
use Rattle.std.specs.List.{AllByRecursion}
use Rattle.hypergeometric.specs.Point.{Point}
use Rattle.hypergeometric.specs.Fraction.{Fraction, of_whole, fraction_product, natural_power}
use Rattle.hypergeometric.specs.LinearForm.{LinearForm, Factor, form_value, product_over}
use Rattle.hypergeometric.specs.FormOrder.{NoFormTwice}
use Rattle.hypergeometric.specs.FactorLists.{power_of, without}
use Rattle.hypergeometric.proofs.FractionPowers.{one_product, products_exchange, power_of_sum}
use Rattle.hypergeometric.proofs.NonzeroPowers.{product_moved}
use Rattle.hypergeometric.proofs.SharedForms.{IsAbsent, power_here, power_later, same_or_other, absent_power, without_by}

module _ (f : ℤ → Fraction) (p : Point) where
  abbrev value_of : LinearForm → Fraction
  value_of l = f (form_value l p)

  -- each entry of the first list to the power that its form has in the second
  abbrev taken : List Factor → List Factor → Fraction
  taken [] ys = of_whole (pos 1)
  taken (x ∷ xs) ys = fraction_product (natural_power (value_of x.form) (power_of x.form ys)) (taken xs ys)

  -- no entry has a greater power in the second list
  abbrev pub AtMost : List Factor → List Factor → Type 0
  AtMost ys xs = AllByRecursion (λ x. power_of x.form ys ≤ x.power) xs

  split : (xs ys : List Factor) → AtMost ys xs → product_over f xs p ≡ fraction_product (product_over f (without xs ys) p) (taken xs ys)
  split [] ys h = sym (one_product (of_whole (pos 1)))
  split (x ∷ xs) ys h = without_by
      (λ zs. product_over f (x ∷ xs) p ≡ fraction_product (product_over f zs p) (taken (x ∷ xs) ys)) x xs ys
      (λ e. ap (λ t. fraction_product (natural_power (value_of x.form) x.power) t) (split xs ys h.1)
      ∙ ap (λ given. fraction_product (natural_power (value_of x.form) given) (fraction_product (product_over f (without xs ys) p) (taken xs ys)))
      (all_taken e)
      ∙ product_moved (natural_power (value_of x.form) (power_of x.form ys)) (product_over f (without xs ys) p) (taken xs ys))
      (λ e. ap (λ t. fraction_product (natural_power (value_of x.form) x.power) t) (split xs ys h.1)
      ∙ ap (λ t. fraction_product t (fraction_product (product_over f (without xs ys) p) (taken xs ys)))
      (ap (natural_power (value_of x.form)) parts ∙ power_of_sum (value_of x.form) (x.power - power_of x.form ys) (power_of x.form ys))
      ∙ products_exchange (natural_power (value_of x.form) (x.power - power_of x.form ys)) (natural_power (value_of x.form) (power_of x.form ys))
      (product_over f (without xs ys) p) (taken xs ys))
    where
      all_taken : x.power - power_of x.form ys ≡ 0 → x.power ≡ power_of x.form ys
      all_taken e = omega (arith, e, h.0)

      parts : x.power ≡ x.power - power_of x.form ys + power_of x.form ys
      parts = omega (arith, h.0)

  -- a form that doesn't stand in the first list takes nothing from it
  takes_nothing : (b : Factor) (xs ys : List Factor) → IsAbsent b.form xs → taken xs (b ∷ ys) ≡ taken xs ys
  takes_nothing b [] ys h = refl
  takes_nothing b (x ∷ xs) ys h = λ i. fraction_product (natural_power (value_of x.form) (power_later x.form b ys h.0 i))
      (takes_nothing b xs ys h.1 i)

  -- one that stands in it takes its power
  takes_power : (b : Factor) (xs ys : List Factor) → NoFormTwice xs → 1 ≤ power_of b.form xs → power_of b.form ys ≡ 0
      → taken xs (b ∷ ys) ≡ fraction_product (natural_power (value_of b.form) b.power) (taken xs ys)
  takes_power b [] ys h some none = absurd (omega (arith, some))
  takes_power b (x ∷ xs) ys h some none = by (same_or_other b.form x.form)
      (λ there. takes_power b xs ys h.1 there none)
    where
      here : b.form ≡ x.form → taken (x ∷ xs) (b ∷ ys) ≡ fraction_product (natural_power (value_of b.form) b.power) (taken (x ∷ xs) ys)
      here e =
          let absent : IsAbsent b.form xs = subst (λ l. IsAbsent l xs) (sym e) h.0 in
          let nothing : power_of x.form ys ≡ 0 = ap (λ l. power_of l ys) (sym e) ∙ none in
          (λ i. fraction_product (natural_power (value_of (sym e i)) (power_here x.form b ys (sym e) i)) (takes_nothing b xs ys absent i))
          ∙ ap (fraction_product (natural_power (value_of b.form) b.power))
          (sym (ap (λ given. fraction_product (natural_power (value_of x.form) given) (taken xs ys)) nothing ∙ one_product (taken xs ys)))

      there : b.form ≢ x.form → taken xs (b ∷ ys) ≡ fraction_product (natural_power (value_of b.form) b.power) (taken xs ys)
          → taken (x ∷ xs) (b ∷ ys) ≡ fraction_product (natural_power (value_of b.form) b.power) (taken (x ∷ xs) ys)
      there apart e =
          (λ i. fraction_product (natural_power (value_of x.form) (power_later x.form b ys (λ s. apart (sym s)) i)) (e i))
          ∙ product_moved (natural_power (value_of x.form) (power_of x.form ys)) (natural_power (value_of b.form) b.power) (taken xs ys)

      by : (b.form ≡ x.form) ⊎ (b.form ≢ x.form)
          → (1 ≤ power_of b.form xs → taken xs (b ∷ ys) ≡ fraction_product (natural_power (value_of b.form) b.power) (taken xs ys))
          → taken (x ∷ xs) (b ∷ ys) ≡ fraction_product (natural_power (value_of b.form) b.power) (taken (x ∷ xs) ys)
      by (inl e) rest = here e
      by (inr apart) rest = there apart (rest (subst (λ m. 1 ≤ m) (power_later b.form x xs apart) some))

  takes_all : (xs ys : List Factor) → NoFormTwice xs → NoFormTwice ys → AllByRecursion (λ b. 1 ≤ power_of b.form xs) ys → taken xs ys
      ≡ product_over f ys p
  takes_all xs [] h distinct some = none xs
    where
      none : (xs : List Factor) → taken xs [] ≡ of_whole (pos 1)
      none [] = refl
      none (x ∷ xs) = one_product (taken xs []) ∙ none xs
  takes_all xs (b ∷ ys) h distinct some =
      takes_power b xs ys h some.0 (absent_power b.form ys distinct.0)
      ∙ ap (fraction_product (natural_power (value_of b.form) b.power)) (takes_all xs ys h distinct.1 some.1)

  -- the product over a list, where the forms of the second stand in it with powers that are no less
  pub product_parts : (xs ys : List Factor) → NoFormTwice xs → NoFormTwice ys → AllByRecursion (λ b. 1 ≤ power_of b.form xs) ys → AtMost ys xs
      → product_over f xs p ≡ fraction_product (product_over f (without xs ys) p) (product_over f ys p)
  product_parts xs ys h distinct some below =
      split xs ys below ∙ ap (fraction_product (product_over f (without xs ys) p)) (takes_all xs ys h distinct some)
