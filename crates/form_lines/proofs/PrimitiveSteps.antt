-- The tests of forms and of their order.
use Rattle.std.specs.Prelude.{◌≡◌, ◌≢◌, ◌↔◌, ℤ, pos, ◌*ℤ◌, List, [], ◌∷◌, Some, None}
use Rattle.std.specs.List.{AllByRecursion}
use Rattle.std.proofs.Common.{ap, sym, subst, ◌∙◌, arith, inl, inr}
use Rattle.std.proofs.lemmas.Int.{ints}
use Rattle.hypergeometric.specs.LinearForm.{LinearForm, Factor}
use Rattle.hypergeometric.specs.Forms.{form_with, multiple}
use Rattle.hypergeometric.specs.FormOrder.{IsBefore, IsPrimitive, IsSorted, NoFormTwice, AreFactors}
use Rattle.hypergeometric.proofs.SortedForms.{all_after}
use Rattle.document_text.specs.WellFormed.{ArePrimitiveFactors}
use Rattle.form_lines.specs.Orders.{FollowInTurn}

once : (f : LinearForm) → multiple (pos 1) f ≡ f
once f = λ i. form_with (one f.n_slope i) (one f.k_slope i) (one f.offset i)
  where
    one : (a : ℤ) → pos 1 *ℤ a ≡ a
    one a = omega (arith, ints)

-- the factor of the primitive form tells whether the form is primitive
pub primitive_test : (f p : LinearForm) (e : ℤ) → f ≡ multiple e p → IsPrimitive p
    → ((c : ℤ) (g : LinearForm) → f ≡ multiple c g → IsPrimitive g → (e ≡ c) × (p ≡ g)) → (e ≡ pos 1) ↔ IsPrimitive f
primitive_test f p e is primitive only = (
  λ h. subst IsPrimitive (sym (is ∙ ap (λ c. multiple c p) h ∙ once p)) primitive,
  λ h. (only (pos 1) f (sym (once f)) h).0,
)

-- forms that follow in turn are in order
all_behind : (f : LinearForm) (xs : List Factor) → FollowInTurn (Some f) xs → AllByRecursion (λ y. IsBefore f y.form) xs × IsSorted xs
all_behind f [] h = (tt, tt)
all_behind f (x ∷ xs) h =
    let rest = all_behind x.form xs h.1 in
    ((h.0, all_after f x.form h.0 xs rest.0), rest)

in_turn : (f : LinearForm) (xs : List Factor) → AllByRecursion (λ y. IsBefore f y.form) xs → IsSorted xs → FollowInTurn (Some f) xs
in_turn f [] h s = tt
in_turn f (x ∷ xs) h s = (h.0, in_turn x.form xs s.0 s.1)

pub order_test : (xs : List Factor) → FollowInTurn None xs ↔ IsSorted xs
order_test [] = (λ h. h, λ h. h)
order_test (x ∷ xs) = (λ h. all_behind x.form xs h.1, λ s. (tt, in_turn x.form xs s.0 s.1))

differ : (f g : LinearForm) → IsBefore f g → g ≢ f
differ f g b e = by (subst (λ h. IsBefore f h) e b)
  where
    by : IsBefore f f → ⊥
    by (inl a) = omega (arith, ints, a)
    by (inr (inl a)) = omega (arith, ints, a.1)
    by (inr (inr a)) = omega (arith, ints, a.2)

all_differ : (f : LinearForm) (xs : List Factor) → AllByRecursion (λ y. IsBefore f y.form) xs → AllByRecursion (λ y. y.form ≢ f) xs
all_differ f [] h = tt
all_differ f (x ∷ xs) h = (differ f x.form h.0, all_differ f xs h.1)

-- in a list in order no form stands twice
none_twice : (xs : List Factor) → IsSorted xs → NoFormTwice xs
none_twice [] h = tt
none_twice (x ∷ xs) h = (all_differ x.form xs h.0, none_twice xs h.1)

pub primitive_has : (xs : List Factor) → ArePrimitiveFactors xs → AreFactors xs
primitive_has xs p = record { each = p.each; distinct = none_twice xs p.sorted }
