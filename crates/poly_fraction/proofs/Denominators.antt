-- The product of two values of a domain that aren't zero isn't zero, and neither is one.
use Rattle.std.proofs.lemmas.Int.{ints}
use Rattle.std.proofs.Common.{arith, pos, ◌≡◌, Bool, true, false, IsTrue, IsFalse, refl, ap, sym, ◌∙◌, ⊎_elim, true≢false}
use Rattle.ring_laws.specs.Meaning.{Meaning}
use Rattle.ring_laws.specs.Algebra.{Algebra, Passing, Laws, same_passing}
use Rattle.ring_laws.specs.Division.{DomainLaws}

module _ (a : Algebra) (l : Laws a) (d : DomainLaws a) where
  is_nought_at : (x : Passing a) → x.0 ≡ a.ops.nought → IsTrue (a.ops.is_nought x.0)
  is_nought_at x e = (l.ring.is_nought x).1 (same_passing a x (a.ops.nought, l.closed.nought) e)

  pub isnt_nought : (x : Passing a) → IsFalse (a.ops.is_nought x.0) → ¬ (x.0 ≡ a.ops.nought)
  isnt_nought x h e = true≢false (sym (is_nought_at x e) ∙ h)

  decided : (x y : Passing a) (b : Bool) → a.ops.is_nought (a.ops.product x.0 y.0) ≡ b → IsFalse (a.ops.is_nought x.0)
      → IsFalse (a.ops.is_nought y.0) → IsFalse b
  decided x y false e h k = refl
  decided x y true e h k =
      absurd (⊎_elim (isnt_nought x h) (isnt_nought y k)
      (d.no_divisors x y (ap (λ (t : Passing a). t.0) ((l.ring.is_nought (a.ops.product x.0 y.0, l.closed.product x y)).0 e))))

  pub product_not_zero : (x y : Passing a) (m : Meaning) → m ≡ a.ops.product x.0 y.0 → IsFalse (a.ops.is_nought x.0)
      → IsFalse (a.ops.is_nought y.0) → IsFalse (a.ops.is_nought m)
  product_not_zero x y m e h k = ap a.ops.is_nought e ∙ decided x y (a.ops.is_nought (a.ops.product x.0 y.0)) refl h k

  pub unit_not_zero : (m : Meaning) → m ≡ a.ops.unit → IsFalse (a.ops.is_nought m)
  unit_not_zero m e = ap a.ops.is_nought e ∙ by_ (a.ops.is_nought a.ops.unit) refl
    where
      one_is_zero : pos 1 ≡ pos 0 → IsFalse true
      one_is_zero e = absurd (omega (arith, ints, e))

      by_ : (b : Bool) → a.ops.is_nought a.ops.unit ≡ b → IsFalse b
      by_ false h = refl
      by_ true h = one_is_zero (d.whole_nought (pos 1) (ap (λ (t : Passing a). t.0) (l.ring.whole_one
          ∙ (l.ring.is_nought (a.ops.unit, l.closed.unit)).0 h)))
