-- That two lists are a form quotient is proved in one way.
-- Lemmas: they stand here, and not in proofs/, since a ghost field names them.
use Rattle.std.specs.Prelude.{◌≡◌, pos, ◌<ℤ◌, ◌⊎◌}
use Rattle.std.specs.List.{AllByRecursion, AllByRecursion-prop}
use Rattle.std.proofs.Common.{arith, inl, inr}
use Rattle.std.proofs.lemmas.Int.{ints}
use Rattle.std.proofs.Props.{props}
use Rattle.hypergeometric.specs.LinearForm.{LinearForm, FactorList}
use Rattle.hypergeometric.specs.FormOrder.{IsForm, IsPositiveFirst, IsPrimitive}
use Rattle.term_pieces.specs.NormalForm.{at_earlier_k}
use Rattle.gosper_form.specs.NormalLists.{IsFormQuotient}

-- one of two facts that exclude each other
either_once : {A B : Type 0} → IsProp A → IsProp B → (A → B → ⊥) → IsProp (A ⊎ B)
either_once a b apart (inl x) (inl y) = λ i. inl (a x y i)
either_once a b apart (inl x) (inr y) = absurd (apart x y)
either_once a b apart (inr x) (inl y) = absurd (apart y x)
either_once a b apart (inr x) (inr y) = λ i. inr (b x y i)

module _ (f : LinearForm) where
  by_k : IsProp (pos 0 <ℤ f.k_slope)
  by_k = Prim.hlevel props

  by_n : IsProp ((f.k_slope ≡ pos 0) × (pos 0 <ℤ f.n_slope))
  by_n = Prim.hlevel props

  by_offset : IsProp ((f.k_slope ≡ pos 0) × (f.n_slope ≡ pos 0) × (pos 0 <ℤ f.offset))
  by_offset = Prim.hlevel props

  first_once : IsProp (IsPositiveFirst f)
  first_once = either_once by_k (either_once by_n by_offset (λ a b. omega (arith, ints, a.1, b.1))) apart
    where
      apart : pos 0 <ℤ f.k_slope
          → ((f.k_slope ≡ pos 0) × (pos 0 <ℤ f.n_slope)) ⊎ ((f.k_slope ≡ pos 0) × (f.n_slope ≡ pos 0) × (pos 0 <ℤ f.offset)) → ⊥
      apart a (inl b) = omega (arith, ints, a, b.0)
      apart a (inr b) = omega (arith, ints, a, b.0)

primitive_once : (f : LinearForm) → IsProp (IsPrimitive f)
primitive_once f = Prim.hlevel (props, first_once)

form_once : (f : LinearForm) → IsProp (IsForm f)
form_once f = Prim.hlevel props

-- two proofs that two lists are a form quotient are the same
pub form_quotient_once : (q0 r0 : FactorList) → IsProp (IsFormQuotient q0 r0)
form_quotient_once q0 r0 = λ u v i. record {
  primitive = AllByRecursion-prop (λ x. IsPrimitive x.form) (λ x. primitive_once x.form) q0.factors u.primitive v.primitive i;
  earlier = AllByRecursion-prop (λ x. IsForm (at_earlier_k x.form 1)) (λ x. form_once (at_earlier_k x.form 1)) r0.factors u.earlier v.earlier i;
}
