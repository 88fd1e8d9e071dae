-- A common divisor of the multipliers and of what is left of Y is one of the multipliers and of Y.
use Rattle.std.specs.Prelude.{◌≡◌, ℕ, zero, suc, List, [], ◌∷◌, map, refl}
use Rattle.std.proofs.Common.{ap, sym, ◌∙◌}
use Rattle.ring_laws.specs.Meaning.{Meaning}
use Rattle.ring_laws.specs.Algebra.{Ops, RingLaws, Algebra, Passing, within, Laws, same_passing}
use Rattle.poly_laws.specs.Lists.{coefficient_at, list_product}
use Rattle.poly_laws.specs.PolyAlgebra.{poly_algebra}
use Rattle.poly_laws.proofs.Fitting.{item_at}
use Rattle.poly_laws.proofs.ListLaws.{times_scale, times_same_left}
use Rattle.poly_laws.proofs.PolyLaws.{coefficient-product}
use Rattle.kernel_laws.specs.RowSteps.{HasQuotient}
use Rattle.key_laws.specs.CommonDivisors.{IsCommonDivisor}
use Rattle.division_laws.specs.Polynomials.{coefficient_of}
use Rattle.division_laws.proofs.Polynomials.{polynomials, list_of, part}

-- t divides each coefficient: then the list is t times another
module _ {A : Type 0} (o : Ops A) (l : RingLaws o) (t : A) where
  pub record Multiple (xs : List A) : Type 0 where
    pub quotients : List A
    pub is : (k : ℕ) → coefficient_at o (map (o.product t) quotients) k ≡ coefficient_at o xs k

  pub multiple_of : (xs : List A) → ((k : ℕ) → (q : A) × (o.product q t ≡ coefficient_at o xs k)) → Multiple xs
  multiple_of [] h = record { quotients = []; is = λ k. refl }
  multiple_of (x ∷ xs) h =
      let rest = multiple_of xs (λ k. h (suc k)) in
      record { quotients = (h 0).0 ∷ rest.quotients; is = each rest }
    where
      each : (rest : Multiple xs) (k : ℕ) → coefficient_at o (map (o.product t) ((h 0).0 ∷ rest.quotients)) k ≡ coefficient_at o (x ∷ xs) k
      each rest zero = l.product_comm t (h 0).0 ∙ (h 0).1
      each rest (suc k) = rest.is k

  -- so is each coefficient of a product
  pub product_divided : (xs ys : List A) → Multiple xs → (k : ℕ) → (q : A) × (o.product q t ≡ coefficient_at o (list_product o xs ys) k)
  product_divided xs ys m k = (
    coefficient_at o (list_product o m.quotients ys) k,
    l.product_comm (coefficient_at o (list_product o m.quotients ys) k) t ∙ sym (times_scale o l t m.quotients ys k)
        ∙ times_same_left o l (map (o.product t) m.quotients) xs ys m.is k,
  )

module _ (a : Algebra) (l : Laws a) where
  abbrev base : Ops (Passing a)
  base = within a l.closed

  up : (t : Passing a) (f : Passing (poly_algebra a)) → ((i : ℕ) → HasQuotient a t.0 (coefficient_of a.ops f.0 i))
      → (k : ℕ) → (q : Passing a) × (base.product q t ≡ part a l f k)
  up t f h k = (
    (h k).quotient,
    same_passing a (base.product (h k).quotient t) (part a l f k) ((h k).is ∙ item_at a l.closed l.ring l.magnitudes f k),
  )

  pub divisor_stays : (count : ℕ) (multipliers : ℕ → Meaning) (y left x : Passing (poly_algebra a)) (t : Passing a)
      → y.0 ≡ (poly_algebra a).ops.product left.0 x.0 → IsCommonDivisor a count multipliers left.0 t.0 → IsCommonDivisor a count multipliers y.0 t.0
  divisor_stays count multipliers y left x t of_y common = record {
    of_multipliers = common.of_multipliers;
    of_y = λ i.
        let whole = product_divided base l.ring t (list_of a l left) (list_of a l x)
        (multiple_of base l.ring t (list_of a l left) (up t left common.of_y)) i in
        record {
          quotient = whole.0;
          is =
              ap (λ (z : Passing a). z.0) (whole.1 ∙ sym (coefficient-product a l.closed l.ring left x i))
              ∙ sym (item_at a l.closed l.ring l.magnitudes ((polynomials a l).product left x) i)
              ∙ ap (λ f. coefficient_of a.ops f i) (sym of_y);
        };
  }
