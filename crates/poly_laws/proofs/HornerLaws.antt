-- Horner's rule keeps the operations on lists of coefficients.
use Rattle.std.specs.Prelude.{◌≡◌, ℤ, pos, ◌+ℤ◌, ◌*ℤ◌, neg_ℤ, Bool, true, false, cond, IsTrue, List, [], ◌∷◌, map, refl}
use Rattle.std.proofs.Common.{ap, sym, ◌∙◌}
use mathlib.Core.Path.{ap₂}
use Rattle.ring_laws.specs.Algebra.{Ops}
use Rattle.ring_solver.proofs.Read.{ring_z, reading_z}
use Rattle.poly_laws.specs.Lists.{list_sum, list_product, in_front, trimmed}
use Rattle.poly_laws.specs.Values.{horner, KeepsOps}

module _ {A : Type 0} (o : Ops A) (f : A → ℤ) (k : KeepsOps o f) (v : ℤ) where
  abbrev sum_at : List A → ℤ
  sum_at xs = horner f v xs

  pub horner_sum : (xs ys : List A) → horner f v (list_sum o xs ys) ≡ horner f v xs +ℤ horner f v ys
  horner_sum [] ys = ring_z (sum_at ys ∷ []) (search reading_z depth 40 fits 20000) refl
  horner_sum (x ∷ xs) [] = ring_z (v ∷ f x ∷ sum_at xs ∷ []) (search reading_z depth 40 fits 20000) refl
  horner_sum (x ∷ xs) (y ∷ ys) =
      ap₂ (λ (s t : ℤ). s +ℤ v *ℤ t) (k.sum x y) (horner_sum xs ys)
      ∙ ring_z (v ∷ f x ∷ f y ∷ sum_at xs ∷ sum_at ys ∷ []) (search reading_z depth 40 fits 20000) refl

  pub horner_scale : (x : A) (ys : List A) → horner f v (map (o.product x) ys) ≡ f x *ℤ horner f v ys
  horner_scale x [] = ring_z (f x ∷ []) (search reading_z depth 40 fits 20000) refl
  horner_scale x (y ∷ ys) =
      ap₂ (λ (s t : ℤ). s +ℤ v *ℤ t) (k.product x y) (horner_scale x ys)
      ∙ ring_z (v ∷ f x ∷ f y ∷ sum_at ys ∷ []) (search reading_z depth 40 fits 20000) refl

  pub horner_neg : (xs : List A) → horner f v (map o.neg xs) ≡ neg_ℤ (horner f v xs)
  horner_neg [] = refl
  horner_neg (x ∷ xs) =
      ap₂ (λ (s t : ℤ). s +ℤ v *ℤ t) (k.neg x) (horner_neg xs)
      ∙ ring_z (v ∷ f x ∷ sum_at xs ∷ []) (search reading_z depth 40 fits 20000) refl

  pub horner_product : (xs ys : List A) → horner f v (list_product o xs ys) ≡ horner f v xs *ℤ horner f v ys
  horner_product [] ys = ring_z (sum_at ys ∷ []) (search reading_z depth 40 fits 20000) refl
  horner_product (x ∷ xs) ys =
      horner_sum (map (o.product x) ys) (o.nought ∷ list_product o xs ys)
      ∙ ap₂ ◌+ℤ◌ (horner_scale x ys) (ap₂ (λ (s t : ℤ). s +ℤ v *ℤ t) k.nought (horner_product xs ys))
      ∙ ring_z (v ∷ f x ∷ sum_at xs ∷ sum_at ys ∷ []) (search reading_z depth 40 fits 20000) refl

  pub horner_one : (x : A) → horner f v (x ∷ []) ≡ f x
  horner_one x = ring_z (v ∷ f x ∷ []) (search reading_z depth 40 fits 20000) refl

  kept_in_front : (b : Bool) (x : A) → (IsTrue b → f x ≡ pos 0) → horner f v (cond b [] (x ∷ [])) ≡ f x
  kept_in_front true x h = sym (h refl)
  kept_in_front false x h = horner_one x

  pub horner_in_front : (x : A) (t : List A) → horner f v (in_front o x t) ≡ f x +ℤ v *ℤ horner f v t
  horner_in_front x [] = kept_in_front (o.is_nought x) x (k.is_nought x) ∙ sym (horner_one x)
  horner_in_front x (y ∷ ys) = refl

  -- trimming does not matter
  pub horner_trimmed : (xs : List A) → horner f v (trimmed o xs) ≡ horner f v xs
  horner_trimmed [] = refl
  horner_trimmed (x ∷ xs) = horner_in_front x (trimmed o xs) ∙ ap (λ (t : ℤ). f x +ℤ v *ℤ t) (horner_trimmed xs)
