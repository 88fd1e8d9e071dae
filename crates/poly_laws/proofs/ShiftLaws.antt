-- A shift of the outermost variable by w is the value at the first value plus w.
use Rattle.std.specs.Prelude.{◌≡◌, ℤ, pos, ◌+ℤ◌, ◌*ℤ◌, List, [], ◌∷◌, map, refl}
use Rattle.std.proofs.Common.{ap, ◌∙◌}
use mathlib.Core.Path.{ap₂}
use Rattle.ring_laws.specs.Meaning.{Meaning, items}
use Rattle.ring_laws.specs.Algebra.{Ops}
use Rattle.ring_solver.proofs.Read.{ring_z, reading_z}
use Rattle.poly_laws.specs.Lists.{list_sum}
use Rattle.poly_laws.specs.Shift.{raised_by, list_shift, poly_shift}
use Rattle.poly_laws.specs.Values.{horner, KeepsOps, value_at, tower}
use Rattle.poly_laws.proofs.HornerLaws.{horner_sum, horner_scale}
use Rattle.poly_laws.proofs.Keeps.{of_list, value_at_keeps}

identity : (v x t r : ℤ) → (x +ℤ v *ℤ pos 0) +ℤ (t *ℤ r +ℤ (pos 0 +ℤ v *ℤ r)) ≡ x +ℤ (v +ℤ t) *ℤ r
identity v x t r = ring_z (v ∷ x ∷ t ∷ r ∷ []) (search reading_z depth 40 fits 20000) refl

module _ {A : Type 0} (o : Ops A) (f : A → ℤ) (k : KeepsOps o f) (v : ℤ) (t : A) where
  at_raised : (x : A) (ys : List A) → horner f v (raised_by o t x ys) ≡ f x +ℤ (v +ℤ f t) *ℤ horner f v ys
  at_raised x ys =
      horner_sum o f k v (x ∷ []) (list_sum o (map (o.product t) ys) (o.nought ∷ ys))
      ∙ ap (λ (z : ℤ). (f x +ℤ v *ℤ pos 0) +ℤ z)
      (horner_sum o f k v (map (o.product t) ys) (o.nought ∷ ys)
      ∙ ap₂ (λ (y z : ℤ). y +ℤ (z +ℤ v *ℤ horner f v ys)) (horner_scale o f k v t ys) k.nought)
      ∙ identity v (f x) (f t) (horner f v ys)

  -- the value of the shifted list
  pub horner_shift : (xs : List A) → horner f v (list_shift o t xs) ≡ horner f (v +ℤ f t) xs
  horner_shift [] = refl
  horner_shift (x ∷ xs) = at_raised x (list_shift o t xs) ∙ ap (λ (z : ℤ). f x +ℤ (v +ℤ f t) *ℤ z) (horner_shift xs)

pub value_at_shift : (v w : ℤ) (rest : List ℤ) (m : Meaning) → value_at (v ∷ rest) (poly_shift (tower rest).ops w m) ≡ value_at ((v +ℤ w) ∷ rest) m
value_at_shift v w rest m =
    let o : Ops Meaning = (tower rest).ops in
    let k : KeepsOps (tower rest).ops (value_at rest) = value_at_keeps rest in
    of_list o (value_at rest) k v (list_shift o (o.whole w) (items m))
    ∙ horner_shift o (value_at rest) k v (o.whole w) (items m)
    ∙ ap (λ (z : ℤ). horner (value_at rest) (v +ℤ z) (items m)) (k.whole w)
