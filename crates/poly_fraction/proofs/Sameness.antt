-- Fractions that are the same as a third are the same.
use Rattle.std.proofs.Common.{◌≡◌, [], ◌∷◌, refl, ap, ◌∙◌}
use Rattle.ring_laws.specs.Algebra.{Algebra, Ops, Passing, Laws, within, same_passing}
use Rattle.ring_laws.specs.Division.{DomainLaws}
use Rattle.ring_solver.proofs.Read.{ring, reading}
use Rattle.poly_laws.proofs.OneQuotient.{cancelled}
use Rattle.poly_laws.proofs.PolyDomain.{no_divisors_within}
use Rattle.poly_laws.proofs.Rings.{solvable}
use Rattle.poly_fraction.specs.Fractions.{RingFraction, AreSame, IsFraction}
use Rattle.poly_fraction.proofs.Denominators.{isnt_nought}

module _ (a : Algebra) (l : Laws a) where
  abbrev o : Ops (Passing a)
  o = within a l.closed

  turned : (x y z : Passing a) → o.product (o.product x y) z ≡ o.product (o.product x z) y
  turned x y z = ring (solvable o l.ring) (x ∷ y ∷ z ∷ []) (search reading depth 40 fits 20000) refl

  -- a*d = c*b and c*f = e*d give (a*f)*d = (e*b)*d
  crossed : (a0 b c d e f : Passing a) → o.product a0 d ≡ o.product c b → o.product c f ≡ o.product e d
      → o.product (o.product a0 f) d ≡ o.product (o.product e b) d
  crossed a0 b c d e f p q =
      turned a0 f d ∙ ap (λ t. o.product t f) p ∙ turned c b f ∙ ap (λ t. o.product t b) q ∙ turned e d b

  pub same_transitive : (dom : DomainLaws a) (f g h : RingFraction) → IsFraction a f → IsFraction a g → IsFraction a h → AreSame a.ops f g
      → AreSame a.ops g h → AreSame a.ops f h
  same_transitive dom f g h i j k p q =
      let ft : Passing a = (f.top, i.top) in
      let fb : Passing a = (f.bottom, i.bottom) in
      let gt : Passing a = (g.top, j.top) in
      let gb : Passing a = (g.bottom, j.bottom) in
      let ht : Passing a = (h.top, k.top) in
      let hb : Passing a = (h.bottom, k.bottom) in
      ap (λ (t : Passing a). t.0)
      (cancelled o l.ring (no_divisors_within a l.closed dom) (o.product ft hb) (o.product ht fb) gb
      (λ e. isnt_nought a l dom gb j.nonzero (ap (λ (t : Passing a). t.0) e))
      (crossed ft fb gt gb ht hb (same_passing a (o.product ft gb) (o.product gt fb) p) (same_passing a (o.product gt hb) (o.product ht gb) q)))
