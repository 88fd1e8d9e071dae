-- The whole numbers have no divisors of zero. It stands here, and not in proofs/, since `Whole` names the last of these lemmas.
use Rattle.std.specs.Prelude.{◌≡◌, zero, suc, ℤ, pos, negsuc, unsigned_abs, refl}
use Rattle.std.proofs.Common.{ap, inl, inr, ⊎_elim}
use Rattle.ring_solver.proofs.Linear.{product_zero}
use Rattle.ring_laws.specs.Meaning.{number, several}
use Rattle.ring_laws.specs.Algebra.{Passing}
use Rattle.ring_laws.specs.Wholes.{whole_algebra, number_of}
use Rattle.ring_laws.specs.Division.{DomainLaws}

-- a number of magnitude 0 is 0
pub abs_nought : (z : ℤ) → unsigned_abs z ≡ 0 → z ≡ pos 0
abs_nought (pos zero) e = refl
abs_nought (pos (suc n)) e = cc
abs_nought (negsuc n) e = cc

number_is : (x : Passing whole_algebra) → number_of x.0 ≡ pos 0 → x.0 ≡ number (pos 0)
number_is (number z, h) e = ap number e
number_is (several xs, h) e = cc

-- a product of whole numbers is 0 only where a factor is
pub whole_domain : DomainLaws whole_algebra
whole_domain = record {
  no_divisors = λ x y e.
      ⊎_elim (λ h. inl (number_is x h)) (λ h. inr (number_is y h)) (product_zero (number_of x.0) (number_of y.0) (ap number_of e));
  whole_nought = λ w e. ap number_of e;
}
