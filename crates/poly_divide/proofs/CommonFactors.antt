-- A sum of two multiples has one quotient by the common factor: the sum of the other factors.
use Rattle.std.proofs.Common.{◌≡◌, IsTrue, IsFalse, ap, sym, ◌∙◌, Option, Some, None, Ok, IsSome, refl, subst, ⊎_elim}
use Rattle.ring_laws.specs.Meaning.{Meaning}
use Rattle.ring_laws.specs.Algebra.{Ops, Algebra, Passing, within, Laws, same_passing}
use Rattle.ring_laws.specs.Division.{DomainLaws, Divides}
use Rattle.poly_laws.proofs.OneQuotient.{equal_by, neg_product}
use Rattle.poly_laws.proofs.PolyDomain.{no_divisors_within}

module _ (a : Algebra) (l : Laws a) (laws : DomainLaws a) where
  abbrev base : Ops (Passing a)
  base = within a l.closed

  -- the sum of the other factors is a quotient
  pub is_quotient : (c x y : Passing a) → base.product (base.sum x y) c ≡ base.sum (base.product c x) (base.product c y)
  is_quotient c x y = l.ring.product_comm (base.sum x y) c ∙ l.ring.distributes c x y

  -- a factor that isn't zero cancels
  pub cancel_factor : (x y c : Passing a) → ¬ (c ≡ base.nought) → base.product x c ≡ base.product y c → x ≡ y
  cancel_factor x y c n e = equal_by base l.ring x y (⊎_elim (λ h. h) (λ h. absurd (n h))
      (no_divisors_within a l.closed laws (base.sum x (base.neg y)) c difference))
    where
      difference : base.product (base.sum x (base.neg y)) c ≡ base.nought
      difference = cc (
        l.ring.product_comm (base.sum x (base.neg y)) c,
        l.ring.distributes c x (base.neg y),
        l.ring.product_comm c x,
        l.ring.product_comm c (base.neg y),
        neg_product base l.ring y c,
        e,
        l.ring.sum_neg (base.product y c),
      )

  not_nought : (c : Passing a) → IsFalse (a.ops.is_nought c.0) → ¬ (c ≡ base.nought)
  not_nought c h e = cc (h, (l.ring.is_nought c).1 e)

  -- so it is what a division gives
  pub only_quotient : {T : Type 0} (meaning : T → Meaning) (InBounds : Type 0) (c x y : Passing a) (s : Meaning) (q : T)
      → IsTrue (a.passes (meaning q)) → (r : Option T) → r ≡ Some q → IsFalse (a.ops.is_nought c.0)
      → s ≡ a.ops.sum (a.ops.product c.0 x.0) (a.ops.product c.0 y.0) → Divides meaning a InBounds s c.0 (Ok r) → meaning q ≡ a.ops.sum x.0 y.0
  only_quotient meaning InBounds c x y s q p r u h e d =
      let v : Passing a = (meaning q, p) in
      let f : a.ops.product (meaning q) c.0 ≡ s = subst (λ t. Divides meaning a InBounds s c.0 (Ok t)) u d in
      ap (λ (t : Passing a). t.0) (cancel_factor v (base.sum x y) c (not_nought c h)
      (same_passing a (base.product v c) (base.product (base.sum x y) c) (f ∙ e ∙ sym (ap (λ (t : Passing a). t.0) (is_quotient c x y)))))

  -- and a division doesn't answer that there is none
  pub some_quotient : {T : Type 0} (meaning : T → Meaning) (InBounds : Type 0) (c x y : Passing a) (s : Meaning) (r : Option T)
      → s ≡ a.ops.sum (a.ops.product c.0 x.0) (a.ops.product c.0 y.0) → Divides meaning a InBounds s c.0 (Ok r) → IsSome r
  some_quotient meaning InBounds c x y s (Some q) e h = refl
  some_quotient meaning InBounds c x y s None e h = absurd (h (base.sum x y) (ap (λ (v : Passing a). v.0) (is_quotient c x y) ∙ sym e))
