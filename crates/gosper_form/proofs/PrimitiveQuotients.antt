-- The lists q0 and r0 of a plain term's pieces are a quotient that has a normal form within bounds.
use Rattle.std.proofs.Common.{◌≡◌, ◌≢◌, ℕ, zero, suc, ◌+◌, ◌*◌, ◌≤◌, Bool, true, false, cond, List, [], ◌∷◌, refl, ap, sym, ◌∙◌, subst, arith, mul-le-mul}
use Rattle.std.proofs.lemmas.Int.{ints, unsigned_abs-mul}
use Rattle.std.specs.List.{AllByRecursion}
use Rattle.std.specs.Prelude.{ℤ, pos, negsuc, ◌*ℤ◌, unsigned_abs, ◌^◌}
use Rattle.hypergeometric.specs.LinearForm.{LinearForm, Factor, FactorList}
use Rattle.hypergeometric.specs.FormOrder.{IsForm, IsPrimitive}
use Rattle.hypergeometric.specs.FactorLists.{same_form, power_of}
use Rattle.hypergeometric.specs.PrimitiveForm.{content_of_form, primitive_form}
use Rattle.hypergeometric.specs.ProperTerm.{ProperTerm}
use Rattle.hypergeometric.specs.TermFacts.{IsPlain}
use Rattle.hypergeometric.proofs.Contents.{content_not_zero}
use Rattle.hypergeometric.proofs.Lookups.{same_form_found, same_form_itself}
use Rattle.hypergeometric.proofs.OnlyLowest.{content_multiple}
use Rattle.hypergeometric.proofs.PrimitiveForms.{IsNotZero}
use Rattle.hypergeometric.proofs.PrimitiveParts.{primitive_is}
use Rattle.term_pieces.specs.Products.{power_among, IsProductOf}
use Rattle.term_pieces.specs.NormalForm.{at_earlier_k}
use Rattle.term_pieces.specs.Pieces.{q_forms, r_forms}
use Rattle.gosper_form.specs.NormalLists.{IsFormQuotient}
use Rattle.gosper_form.proofs.QuotientForms.{IsClose, AllClose, q_close, r_close}

-- what is said of each form that a list has is so of each of its items
each_item : (P : LinearForm → Type 0) (xs : List Factor) → AllByRecursion (λ x. x.power ≢ 0) xs
    → ((f : LinearForm) → power_of f xs ≢ 0 → P f) → AllByRecursion (λ x. P x.form) xs
each_item P [] some h = tt
each_item P (x ∷ xs) some h = (h x.form here, each_item P xs some.1 (λ f there. h f (still f there)))
  where
    here : power_of x.form (x ∷ xs) ≢ 0
    here none = some.0 (sym (ap (λ b. cond b x.power (power_of x.form xs)) (same_form_itself x.form x.form refl)) ∙ none)

    still : (f : LinearForm) → power_of f xs ≢ 0 → power_of f (x ∷ xs) ≢ 0
    still f there = by (same_form f x.form)
      where
        by : (b : Bool) → cond b x.power (power_of f xs) ≢ 0
        by true = some.0
        by false = there

-- a form with a power among others is the primitive part of one of them
abbrev IsPrimitivePart : LinearForm → Type 0
IsPrimitivePart g = (f : LinearForm) × IsClose f × (g ≡ primitive_form f)

part_among : (g : LinearForm) (xs : List Factor) → AllClose xs → power_among g xs ≢ 0 → IsPrimitivePart g
part_among g [] close some = absurd (some refl)
part_among g (x ∷ xs) close some = by (same_form g (primitive_form x.form)) refl (part_among g xs close.1)
  where
    by : (b : Bool) → same_form g (primitive_form x.form) ≡ b → (power_among g xs ≢ 0 → IsPrimitivePart g) → IsPrimitivePart g
    by true e later = (x.form, close.0, same_form_found g (primitive_form x.form) e)
    by false e later = later (λ none. some (ap (λ b. cond b x.power 0 + power_among g xs) e ∙ omega (arith, none)))

-- the numbers of a primitive part are no greater than those of the form
module _ (f : LinearForm) (close : IsClose f) where
  not_zero : IsNotZero f
  not_zero none = close.has_k none.0

  some_content : 1 ≤ unsigned_abs (content_of_form f)
  some_content = positive (content_of_form f) (content_not_zero f not_zero)
    where
      positive : (z : ℤ) → z ≢ pos 0 → 1 ≤ unsigned_abs z
      positive (pos zero) h = absurd (h refl)
      positive (pos (suc m)) h = omega arith
      positive (negsuc m) h = omega arith

  no_greater : (part whole : ℤ) → content_of_form f *ℤ part ≡ whole → unsigned_abs part ≤ unsigned_abs whole
  no_greater part whole is =
      let more : 1 * unsigned_abs part ≤ unsigned_abs (content_of_form f) * unsigned_abs part = mul-le-mul some_content (omega arith) in
      omega (arith, more, sym (unsigned_abs-mul (content_of_form f) part) ∙ ap unsigned_abs is)

  part_close : (unsigned_abs (primitive_form f).k_slope ≤ 8) × (unsigned_abs (primitive_form f).n_slope ≤ 8)
      × (unsigned_abs (primitive_form f).offset ≤ 2 ^ 22)
  part_close = (
    omega (arith, close.k_slope, no_greater _ _ (ap (λ g. g.k_slope) (content_multiple f))),
    omega (arith, close.n_slope, no_greater _ _ (ap (λ g. g.n_slope) (content_multiple f))),
    omega (arith, close.offset, no_greater _ _ (ap (λ g. g.offset) (content_multiple f))),
  )

-- a primitive part is primitive, and within bounds at k - 1
part_primitive : (g : LinearForm) → IsPrimitivePart g → IsPrimitive g
part_primitive g (f, close, is) = subst IsPrimitive (sym is) (primitive_is f (not_zero f close))

part_earlier : (g : LinearForm) → IsPrimitivePart g → IsForm (at_earlier_k g 1)
part_earlier g (f, close, is) = subst (λ h. IsForm (at_earlier_k h 1)) (sym is) record {
  n_slope = omega (arith, (part_close f close).1);
  k_slope = omega (arith, (part_close f close).0);
  offset = omega (arith, ints, (part_close f close).0, (part_close f close).2);
}

-- the forms of a product
parts_of_product : (l : FactorList) (number : ℤ) (forms : List Factor) → IsProductOf l number forms → AllClose forms
    → AllByRecursion (λ x. IsPrimitivePart x.form) l.factors
parts_of_product l number forms is close =
    each_item IsPrimitivePart l.factors is.some (λ g some. part_among g forms close (λ none. some (is.powers g ∙ none)))

each_weaker : (P Q : LinearForm → Type 0) (xs : List Factor) → ((f : LinearForm) → P f → Q f) → AllByRecursion (λ x. P x.form) xs
    → AllByRecursion (λ x. Q x.form) xs
each_weaker P Q [] h p = tt
each_weaker P Q (x ∷ xs) h p = (h x.form p.0, each_weaker P Q xs h p.1)

pub quotient_of_products : (q0 r0 : FactorList) (f : ProperTerm) (order : ℕ) → IsPlain f → order ≤ 6
    → IsProductOf q0 f.k_base.top (q_forms f order) → IsProductOf r0 f.k_base.bottom (r_forms f order) → IsFormQuotient q0 r0
quotient_of_products q0 r0 f order plain low above below = record {
  primitive = each_weaker IsPrimitivePart IsPrimitive q0.factors part_primitive
      (parts_of_product q0 f.k_base.top (q_forms f order) above (q_close f order plain low));
  earlier = each_weaker IsPrimitivePart (λ g. IsForm (at_earlier_k g 1)) r0.factors part_earlier
      (parts_of_product r0 f.k_base.bottom (r_forms f order) below (r_close f order plain low));
}
