-- Values at n, .., n + J that are tops times one common value, of which a carrier's values at k and k + 1 are multiples too. Such values
-- may be multiplied.
use Rattle.std.proofs.Common.{◌≡◌, ℕ, ◌≤◌, sym, subst}
use Rattle.std.specs.Prelude.{ℤ, pos, ◌*ℤ◌}
use Rattle.hypergeometric.specs.Fraction.{Fraction, ◌≈◌, of_whole, fraction_product}
use Rattle.hypergeometric.proofs.FractionLaws.{one_not_zero, equal_to_itself, equal_products}
use Rattle.hypergeometric.proofs.FractionPowers.{products_exchange, one_product}

-- x times the value h
abbrev pub times_common : ℤ → Fraction → Fraction
times_common x h = fraction_product (of_whole x) h

pub record Splits (order : ℕ) (value : ℕ → Fraction) (top : ℕ → ℤ) (here next : Fraction) (r q : ℤ) : Type 0 where
  pub common : Fraction
  pub tops : (j : ℕ) → j ≤ order → value j ≈ times_common (top j) common
  pub carrier_here : here ≈ times_common r common
  pub carrier_next : next ≈ times_common q common

-- multiples of two values, multiplied
times_both : (x y : ℤ) (g h : Fraction) → fraction_product (times_common x g) (times_common y h) ≡ times_common (x *ℤ y) (fraction_product g h)
times_both x y g h = products_exchange (of_whole x) g (of_whole y) h

pub multiplied : (f f' g g' : Fraction) (x x' : ℤ) → f ≈ times_common x g → f' ≈ times_common x' g'
    → fraction_product f f' ≈ times_common (x *ℤ x') (fraction_product g g')
multiplied f f' g g' x x' p p' = subst (λ z. fraction_product f f' ≈ z) (times_both x x' g g') (equal_products p p')

pub splits_product : (order : ℕ) (v v' : ℕ → Fraction) (t t' : ℕ → ℤ) (h h' n n' : Fraction) (r r' q q' : ℤ) → Splits order v t h n r q → Splits order v' t' h' n' r' q'
    → Splits order (λ j. fraction_product (v j) (v' j)) (λ j. t j *ℤ t' j) (fraction_product h h') (fraction_product n n') (r *ℤ r') (q *ℤ q')
splits_product order v v' t t' h h' n n' r r' q q' a b = record {
  common = fraction_product a.common b.common;
  tops = λ j l. multiplied (v j) (v' j) a.common b.common (t j) (t' j) (a.tops j l) (b.tops j l);
  carrier_here = multiplied h h' a.common b.common r r' a.carrier_here b.carrier_here;
  carrier_next = multiplied n n' a.common b.common q q' a.carrier_next b.carrier_next;
}

-- what is 1 everywhere
pub splits_one : (order : ℕ)
    → Splits order (λ j. of_whole (pos 1)) (λ j. pos 1) (of_whole (pos 1)) (of_whole (pos 1)) (pos 1) (pos 1)
splits_one order = record {
  common = of_whole (pos 1);
  tops = λ j l. same;
  carrier_here = same;
  carrier_next = same;
}
  where
    same : of_whole (pos 1) ≈ times_common (pos 1) (of_whole (pos 1))
    same = subst (λ z. of_whole (pos 1) ≈ z) (sym (one_product (of_whole (pos 1)))) (equal_to_itself (of_whole (pos 1)) one_not_zero)
