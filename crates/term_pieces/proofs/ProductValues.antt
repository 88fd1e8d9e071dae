-- The value of a list that is a product of forms is the number times the values of all the forms.
use Rattle.std.proofs.Common.{◌≡◌, ◌≢◌, ℕ, zero, suc, ◌+◌, Bool, true, false, List, [], ◌∷◌, refl, ap, sym, ◌∙◌, subst, arith, inl, inr}
use Rattle.std.proofs.lemmas.Bool.{false≢true}
use Rattle.std.proofs.lemmas.Int.{ints}
use Rattle.std.proofs.Math.IntN.{pow, pow-succ'}
use Rattle.std.specs.List.{AllByRecursion}
use Rattle.std.specs.Prelude.{ℤ, pos, ◌+ℤ◌, ◌*ℤ◌, cond}
use Rattle.ring_solver.proofs.Read.{ring_z, reading_z}
use Rattle.hypergeometric.specs.Point.{Point, values}
use Rattle.hypergeometric.specs.LinearForm.{LinearForm, Factor, FactorList, form_value, forms_value, factor_list_value}
use Rattle.hypergeometric.specs.FormOrder.{IsBefore, IsSorted}
use Rattle.hypergeometric.specs.FactorLists.{same_form, power_of}
use Rattle.hypergeometric.specs.Forms.{multiple}
use Rattle.hypergeometric.specs.PrimitiveForm.{content_of_form, primitive_form}
use Rattle.hypergeometric.proofs.Lookups.{same_form_found, same_form_itself}
use Rattle.hypergeometric.proofs.OnlyLowest.{content_multiple}
use Rattle.term_pieces.specs.Products.{power_among, contents_of, IsProductOf}
use Rattle.term_pieces.proofs.FormValues.{pow_of_product}

-- forms that aren't the same by the test are not the same
pub not_same : (f g : LinearForm) → same_form f g ≡ false → f ≢ g
not_same f g e h = false≢true (sym e ∙ same_form_itself f g h)

pub pow_of_sum : (z : ℤ) (a b : ℕ) → pow z (a + b) ≡ pow z a *ℤ pow z b
unfolding pow lib.IntN.one
pow_of_sum z zero b = let same : 0 + b ≡ b = omega arith in ap (pow z) same ∙ one_times (pow z b)
  where
    one_times : (x : ℤ) → x ≡ pos 1 *ℤ x
    one_times x = ring_z (x ∷ []) (search reading_z depth 40 fits 20000) refl
pow_of_sum z (suc a) b =
    let same : suc a + b ≡ suc (a + b) = omega arith in
    ap (pow z) same ∙ pow-succ' z (a + b) ∙ ap (λ t. z *ℤ t) (pow_of_sum z a b) ∙ grouped z (pow z a) (pow z b)
    ∙ ap (λ t. t *ℤ pow z b) (sym (pow-succ' z a))
  where
    grouped : (z x y : ℤ) → z *ℤ (x *ℤ y) ≡ (z *ℤ x) *ℤ y
    grouped z x y = ring_z (z ∷ x ∷ y ∷ []) (search reading_z depth 40 fits 20000) refl

pow_of_zero : (z : ℤ) → pow z 0 ≡ pos 1
unfolding pow lib.IntN.one
pow_of_zero z = refl

-- a form is its content times its primitive form
content_value : (f : LinearForm) (p : Point) → form_value f p ≡ content_of_form f *ℤ form_value (primitive_form f) p
content_value f p = ap (λ g. form_value g p) (sym (content_multiple f)) ∙ times (content_of_form f) (primitive_form f)
  where
    spread : (c a b o n k : ℤ) → ((c *ℤ a) *ℤ n +ℤ (c *ℤ b) *ℤ k) +ℤ c *ℤ o ≡ c *ℤ ((a *ℤ n +ℤ b *ℤ k) +ℤ o)
    spread c a b o n k = ring_z (c ∷ a ∷ b ∷ o ∷ n ∷ k ∷ []) (search reading_z depth 40 fits 20000) refl

    times : (c : ℤ) (g : LinearForm) → form_value (multiple c g) p ≡ c *ℤ form_value g p
    times c g = spread c g.n_slope g.k_slope g.offset p.n p.k

-- the list without the forms whose primitive form this is
abbrev without_form : LinearForm → List Factor → List Factor
without_form f [] = []
without_form f (x ∷ xs) = cond (same_form f (primitive_form x.form)) (without_form f xs) (x ∷ without_form f xs)

power_gone : (f : LinearForm) (xs : List Factor) → power_among f (without_form f xs) ≡ 0
power_gone f [] = refl
power_gone f (x ∷ xs) = by (same_form f (primitive_form x.form)) refl (power_gone f xs)
  where
    by : (b : Bool) → same_form f (primitive_form x.form) ≡ b → power_among f (without_form f xs) ≡ 0
        → power_among f (cond b (without_form f xs) (x ∷ without_form f xs)) ≡ 0
    by true e h = h
    by false e h = ap (λ b. cond b x.power 0 + power_among f (without_form f xs)) e ∙ omega (arith, h)

power_without : (f g : LinearForm) (xs : List Factor) → f ≢ g → power_among g (without_form f xs) ≡ power_among g xs
power_without f g [] other = refl
power_without f g (x ∷ xs) other = by (same_form f (primitive_form x.form)) refl (power_without f g xs other)
  where
    unlike : (b : Bool) → same_form g (primitive_form x.form) ≡ b → f ≡ primitive_form x.form → b ≡ false
    unlike true e p = absurd (other (p ∙ sym (same_form_found g (primitive_form x.form) e)))
    unlike false e p = refl

    by : (b : Bool) → same_form f (primitive_form x.form) ≡ b → power_among g (without_form f xs) ≡ power_among g xs
        → power_among g (cond b (without_form f xs) (x ∷ without_form f xs)) ≡ cond (same_form g (primitive_form x.form)) x.power 0 + power_among g xs
    by true e h =
        let none = unlike (same_form g (primitive_form x.form)) refl (same_form_found f (primitive_form x.form) e) in
        h ∙ sym (ap (λ b. cond b x.power 0 + power_among g xs) none ∙ omega arith)
    by false e h = ap (λ t. cond (same_form g (primitive_form x.form)) x.power 0 + t) h

module _ (p : Point) where
  -- the product of the primitive forms
  abbrev primitives_value : List Factor → ℤ
  primitives_value [] = pos 1
  primitives_value (x ∷ xs) = pow (form_value (primitive_form x.form) p) x.power *ℤ primitives_value xs

  by_contents : (xs : List Factor) → forms_value xs p ≡ contents_of xs *ℤ primitives_value xs
  by_contents [] = refl
  by_contents (x ∷ xs) =
      ap (λ t. pow t x.power *ℤ forms_value xs p) (content_value x.form p)
      ∙ ap (λ t. t *ℤ forms_value xs p) (pow_of_product (content_of_form x.form) (form_value (primitive_form x.form) p) x.power)
      ∙ ap (λ t. (pow (content_of_form x.form) x.power *ℤ pow (form_value (primitive_form x.form) p) x.power) *ℤ t) (by_contents xs)
      ∙ exchange (pow (content_of_form x.form) x.power) (pow (form_value (primitive_form x.form) p) x.power) (contents_of xs) (primitives_value xs)
    where
      exchange : (a b c d : ℤ) → (a *ℤ b) *ℤ (c *ℤ d) ≡ (a *ℤ c) *ℤ (b *ℤ d)
      exchange a b c d = ring_z (a ∷ b ∷ c ∷ d ∷ []) (search reading_z depth 40 fits 20000) refl

  -- one form taken out, with all its powers
  taken_out : (f : LinearForm) (xs : List Factor)
      → primitives_value xs ≡ pow (form_value f p) (power_among f xs) *ℤ primitives_value (without_form f xs)
  taken_out f [] = ap (λ t. t *ℤ pos 1) (sym (pow_of_zero (form_value f p)))
  taken_out f (x ∷ xs) = by (same_form f (primitive_form x.form)) refl (taken_out f xs)
    where
      grouped : (a b c : ℤ) → a *ℤ (b *ℤ c) ≡ (a *ℤ b) *ℤ c
      grouped a b c = ring_z (a ∷ b ∷ c ∷ []) (search reading_z depth 40 fits 20000) refl

      moved : (a b c : ℤ) → a *ℤ (b *ℤ c) ≡ b *ℤ (a *ℤ c)
      moved a b c = ring_z (a ∷ b ∷ c ∷ []) (search reading_z depth 40 fits 20000) refl

      by : (b : Bool) → same_form f (primitive_form x.form) ≡ b
          → primitives_value xs ≡ pow (form_value f p) (power_among f xs) *ℤ primitives_value (without_form f xs)
          → pow (form_value (primitive_form x.form) p) x.power *ℤ primitives_value xs
          ≡ pow (form_value f p) (cond b x.power 0 + power_among f xs) *ℤ primitives_value (cond b (without_form f xs) (x ∷ without_form f xs))
      by true e h =
          ap (λ g. pow (form_value g p) x.power *ℤ primitives_value xs) (sym (same_form_found f (primitive_form x.form) e))
          ∙ ap (λ t. pow (form_value f p) x.power *ℤ t) h
          ∙ grouped (pow (form_value f p) x.power) (pow (form_value f p) (power_among f xs)) (primitives_value (without_form f xs))
          ∙ ap (λ t. t *ℤ primitives_value (without_form f xs)) (sym (pow_of_sum (form_value f p) x.power (power_among f xs)))
      by false e h =
          let same : power_among f xs ≡ 0 + power_among f xs = omega arith in
          ap (λ t. pow (form_value (primitive_form x.form) p) x.power *ℤ t) h
          ∙ moved (pow (form_value (primitive_form x.form) p) x.power) (pow (form_value f p) (power_among f xs)) (primitives_value (without_form f xs))
          ∙ ap (λ given. pow (form_value f p) given *ℤ (pow (form_value (primitive_form x.form) p) x.power *ℤ primitives_value (without_form f xs))) same

  -- where no form has a power
  nothing : (xs : List Factor) → ((f : LinearForm) → power_among f xs ≡ 0) → primitives_value xs ≡ pos 1
  nothing [] h = refl
  nothing (x ∷ xs) h =
      let own = same_form_itself (primitive_form x.form) (primitive_form x.form) refl in
      let both = ap (λ b. cond b x.power 0 + power_among (primitive_form x.form) xs) (sym own) ∙ h (primitive_form x.form) in
      let none : x.power ≡ 0 = omega (arith, both) in
      let rest = nothing xs (λ f. omega (arith, h f)) in
      ap (λ given. pow (form_value (primitive_form x.form) p) given *ℤ primitives_value xs) none
      ∙ ap (λ t. t *ℤ primitives_value xs) (pow_of_zero (form_value (primitive_form x.form) p)) ∙ ap (λ t. pos 1 *ℤ t) rest

before_itself : (f : LinearForm) → ¬ IsBefore f f
before_itself f (inl h) = omega (arith, ints, h)
before_itself f (inr (inl h)) = omega (arith, ints, h.1)
before_itself f (inr (inr h)) = omega (arith, ints, h.2)

pub not_among : (f : LinearForm) (ys : List Factor) → AllByRecursion (λ y. IsBefore f y.form) ys → power_of f ys ≡ 0
not_among f [] h = refl
not_among f (y ∷ ys) (h, hs) = by (same_form f y.form) refl (not_among f ys hs)
  where
    by : (b : Bool) → same_form f y.form ≡ b → power_of f ys ≡ 0 → cond b y.power (power_of f ys) ≡ 0
    by true e none = absurd (before_itself f (subst (IsBefore f) (sym (same_form_found f y.form e)) h))
    by false e none = none

module _ (p : Point) where
  sorted_value : (ys forms : List Factor) → IsSorted ys → ((f : LinearForm) → power_of f ys ≡ power_among f forms)
      → forms_value ys p ≡ primitives_value p forms
  sorted_value [] forms sorted h = sym (nothing p forms (λ f. sym (h f)))
  sorted_value (y ∷ ys) forms (first, sorted) h =
      ap (λ t. pow (form_value y.form p) y.power *ℤ t) (sorted_value ys (without_form y.form forms) sorted left)
      ∙ ap (λ given. pow (form_value y.form p) given *ℤ primitives_value p (without_form y.form forms)) own
      ∙ sym (taken_out p y.form forms)
    where
      own : y.power ≡ power_among y.form forms
      own = ap (λ b. cond b y.power (power_of y.form ys)) (sym (same_form_itself y.form y.form refl)) ∙ h y.form

      left : (f : LinearForm) → power_of f ys ≡ power_among f (without_form y.form forms)
      left f = by (same_form f y.form) refl
        where
          by : (b : Bool) → same_form f y.form ≡ b → power_of f ys ≡ power_among f (without_form y.form forms)
          by true e =
              let is = same_form_found f y.form e in
              ap (λ g. power_of g ys) is ∙ not_among y.form ys first ∙ sym (power_gone y.form forms)
              ∙ ap (λ g. power_among g (without_form y.form forms)) (sym is)
          by false e =
              ap (λ b. cond b y.power (power_of f ys)) (sym e) ∙ h f ∙ sym (power_without y.form f forms (λ q. not_same f y.form e (sym q)))

  pub product_value : (l : FactorList) (number : ℤ) (forms : List Factor) → IsProductOf l number forms
      → factor_list_value l p ≡ number *ℤ forms_value forms p
  product_value l number forms is =
      ap (λ s. s *ℤ forms_value l.factors p) is.scale
      ∙ ap (λ t. (number *ℤ contents_of forms) *ℤ t) (sorted_value l.factors forms is.sorted is.powers)
      ∙ grouped number (contents_of forms) (primitives_value p forms) ∙ ap (λ t. number *ℤ t) (sym (by_contents p forms))
    where
      grouped : (a b c : ℤ) → (a *ℤ b) *ℤ c ≡ a *ℤ (b *ℤ c)
      grouped a b c = ring_z (a ∷ b ∷ c ∷ []) (search reading_z depth 40 fits 20000) refl
