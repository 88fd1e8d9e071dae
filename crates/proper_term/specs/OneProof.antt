-- That a term keeps the facts of every proper term is proved in one way.
-- Lemmas: they stand here, and not in proofs/, since ghost fields name them.
use Rattle.std.specs.Prelude.{◌≡◌, ◌≢◌, pos, ◌<ℤ◌}
use Rattle.std.specs.List.{AllByRecursion-prop}
use Rattle.std.proofs.Common.{arith, inl, inr}
use Rattle.std.proofs.lemmas.Int.{ints}
use Rattle.std.proofs.Props.{props}
use Rattle.poly_laws.specs.Values.{level}
use Rattle.hypergeometric.specs.LinearForm.{LinearForm, FactorList}
use Rattle.hypergeometric.specs.FormOrder.{IsPositiveFirst, IsPrimitive}
use Rattle.hypergeometric.specs.TermFacts.{IsPolynomial, IsLowest, IsNotConstant, IsProper}
use Rattle.hypergeometric.specs.ProperTerm.{ProperTerm}
use Rattle.hypergeometric.specs.OneProof.{factors_once}
use Rattle.proper_term.specs.Fields.{HaveUnitScales}

-- the three cases of a positive first number exclude each other
first_once : (f : LinearForm) → IsProp (IsPositiveFirst f)
first_once f = cases
  where
    cases : (u v : IsPositiveFirst f) → u ≡ v
    cases (inl a) (inl b) = λ i. inl (once a b i)
      where
        once : IsProp (pos 0 <ℤ f.k_slope)
        once = Prim.hlevel props
    cases (inl a) (inr (inl b)) = absurd (omega (arith, ints, a, b.0))
    cases (inl a) (inr (inr b)) = absurd (omega (arith, ints, a, b.0))
    cases (inr (inl a)) (inl b) = absurd (omega (arith, ints, b, a.0))
    cases (inr (inl a)) (inr (inl b)) = λ i. inr (inl (once a b i))
      where
        once : IsProp ((f.k_slope ≡ pos 0) × (pos 0 <ℤ f.n_slope))
        once = Prim.hlevel props
    cases (inr (inl a)) (inr (inr b)) = absurd (omega (arith, ints, a.1, b.1))
    cases (inr (inr a)) (inl b) = absurd (omega (arith, ints, b, a.0))
    cases (inr (inr a)) (inr (inl b)) = absurd (omega (arith, ints, b.1, a.1))
    cases (inr (inr a)) (inr (inr b)) = λ i. inr (inr (once a b i))
      where
        once : IsProp ((f.k_slope ≡ pos 0) × (f.n_slope ≡ pos 0) × (pos 0 <ℤ f.offset))
        once = Prim.hlevel props

primitive_once : (f : LinearForm) → IsProp (IsPrimitive f)
primitive_once f = Prim.hlevel (props, first_once)

divisor_once : (f : LinearForm) → IsProp (IsPrimitive f × IsNotConstant f)
divisor_once f = Prim.hlevel (props, primitive_once)

polynomial_once : (f : ProperTerm) → IsProp (IsPolynomial 2 f.poly)
polynomial_once f = Prim.hlevel props

not_zero_once : (f : ProperTerm) → IsProp (f.poly ≢ (level 2).ops.nought)
not_zero_once f = Prim.hlevel props

lowest_once : (f : ProperTerm) → IsProp (IsLowest f.scale × IsLowest f.n_base × IsLowest f.k_base)
lowest_once f = Prim.hlevel props

-- any two proofs that the numbers before the forms of the four lists are 1 are equal
pub scales_once : (up down over guard : FactorList) → IsProp (HaveUnitScales up down over guard)
scales_once up down over guard = Prim.hlevel props

-- any two proofs that a term keeps what every proper term keeps are equal
pub proper_once : (f : ProperTerm) → IsProp (IsProper f)
proper_once f = λ u v.
    let fractions = lowest_once f (u.scale, u.n_base, u.k_base) (v.scale, v.n_base, v.k_base) in
    λ i. record {
      poly = polynomial_once f u.poly v.poly i;
      poly_not_zero = not_zero_once f u.poly_not_zero v.poly_not_zero i;
      scale = (fractions i).0;
      n_base = (fractions i).1;
      k_base = (fractions i).2;
      up = factors_once f.up u.up v.up i;
      down = factors_once f.down u.down v.down i;
      over = factors_once f.over u.over v.over i;
      over_primitive = AllByRecursion-prop (λ x. IsPrimitive x.form × IsNotConstant x.form) (λ x. divisor_once x.form) f.over u.over_primitive
          v.over_primitive i;
      guard = factors_once f.guard u.guard v.guard i;
    }
