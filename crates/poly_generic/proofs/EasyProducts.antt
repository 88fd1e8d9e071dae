-- A product with nought, and a product with its factors exchanged.
use Rattle.std.proofs.Common.{◌≡◌, List, [], ◌∷◌, length, map, ap, sym, ◌∙◌, subst, arith, refl, Result, Ok, Err, Vec, Bool, true}
use Rattle.std.specs.Bool.{◌==◌}
use Rattle.std.specs.Vec.{vec_len}
use Rattle.ring_laws.specs.Algebra.{Algebra, Ops, Passing, Laws, within, same_passing, ProductInBounds}
use Rattle.ring_laws.specs.Answer.{Gives, GivesInBounds, fault_weaker}
use Rattle.ring_laws.specs.Meaning.{Meaning, listed}
use Rattle.ring_laws.specs.declared.faults.RingFault.{RingFault}
use Rattle.poly_laws.proofs.ListLaws.{nought_product}

pub counted_none : {T Z : Type 0} (list : Vec T Z) (b : Bool) → b ≡ (vec_len list == 0) → b ≡ true → length list.items ≡ 0
counted_none list b e h = grind (arith, e, h)

pub no_items : {T : Type 0} (meaning : T → Meaning) (xs : List T) → length xs ≡ 0 → listed (map meaning xs) ≡ listed []
no_items meaning [] e = refl
no_items meaning (x ∷ xs) e = absurd (omega arith)

module _ {Q : Type 0} (a : Algebra) (l : Laws a) (mean : Q → Meaning) where
  abbrev o : Ops (Passing a)
  o = within a l.closed

  abbrev first : {x y : Passing a} → x ≡ y → x.0 ≡ y.0
  first e = ap (λ (t : Passing a). t.0) e

  pub exchanged : (x y : Passing a) (r : Result Q RingFault) → GivesInBounds mean (ProductInBounds a y.0 x.0) (a.ops.product y.0 x.0) r
      → GivesInBounds mean (ProductInBounds a x.0 y.0) (a.ops.product x.0 y.0) r
  exchanged x y (Ok q) h = (
    subst a.ops.Fits (first (l.ring.product_comm (o.magnitude y) (o.magnitude x))) h.0,
    h.1
        ∙ first (l.ring.product_comm y x),
  )
  exchanged x y (Err fault) h =
      fault_weaker fault (λ n f. n (subst a.ops.Fits (first (l.ring.product_comm (o.magnitude x) (o.magnitude y))) f)) h

  pub with_nought : (x y : Passing a) (r : Result Q RingFault) → x.0 ≡ a.ops.nought → Gives mean a.ops.nought r
      → GivesInBounds mean (ProductInBounds a x.0 y.0) (a.ops.product x.0 y.0) r
  with_nought x y r e h = go r h
    where
      same : x ≡ o.nought
      same = same_passing a x o.nought e

      none : o.product (o.magnitude x) (o.magnitude y) ≡ o.nought
      none = ap (λ t. o.product t (o.magnitude y)) (ap o.magnitude same ∙ l.magnitudes.of_nought) ∙ nought_product o l.ring (o.magnitude y)

      go : (r : Result Q RingFault) → Gives mean a.ops.nought r → GivesInBounds mean (ProductInBounds a x.0 y.0) (a.ops.product x.0 y.0) r
      go (Ok q) h = (
        subst a.ops.Fits (sym (first none)) l.magnitudes.fits_nought,
        h
            ∙ sym (first (ap (λ t. o.product t y) same ∙ nought_product o l.ring y)),
      )
      go (Err fault) h = fault_weaker fault absurd h
