-- A product factor by factor, over any ring: what is reached after some of them, and where a step is in bounds.
use Rattle.std.specs.Prelude.{◌≡◌, IsTrue, List, [], ◌∷◌, ◌++◌, Result, Ok, Err, IfOk, IfErr, refl}
use Rattle.std.proofs.Common.{ap, sym, ◌∙◌, subst}
use Rattle.std.specs.List.{AllByRecursion}
use Rattle.ring_laws.specs.Meaning.{Meaning}
use Rattle.ring_laws.specs.Algebra.{Ops, Algebra, Passing, Laws, within}
use Rattle.ring_laws.specs.Answer.{OnFault, fault_weaker}
use Rattle.ring_laws.specs.declared.faults.RingFault.{RingFault}
use Rattle.poly_laws.specs.Powers.{power_in, nonzero_magnitude, IsBound}
use Rattle.poly_laws.proofs.PowerBounds.{bounded_unit, bounded_product, bounded_power, bounded_self, part_fits}
use Rattle.poly_laws.proofs.Powers.{product_unit}
use Rattle.poly_laws.proofs.Squaring.{power_first, magnitude_first}
use Rattle.poly_generic.specs.PowerAnswer.{GivesTimes}
use Rattle.key_sides.specs.Powers.{Power, product_of, counterpart_of, PowersInBounds}

-- all values belong to the ring
abbrev pub AllPass : Algebra → List Power → Type 0
AllPass a xs = AllByRecursion (λ x. IsTrue (a.passes x.base)) xs

-- m is m0 times what is done, which times what is left is all; and so for a bound of what is done
pub record Multiplied (a : Algebra) (m0 : Meaning) (all : List Power) (m : Meaning) (left : List Power) : Type 0 where
  pub done : Passing a
  pub bound : Passing a
  pub bounds : IsBound a bound done.0
  pub so_far : m ≡ a.ops.product m0 done.0
  pub product : a.ops.product done.0 (product_of a.ops left) ≡ product_of a.ops all
  pub counterpart : a.ops.product bound.0 (counterpart_of a.ops left) ≡ counterpart_of a.ops all

-- no bound of m0 times the counterpart fits
abbrev pub IsOut : Algebra → Meaning → Meaning → Type 0
IsOut a m0 counterpart = (b : Passing a) → IsBound a b m0 → ¬ a.ops.Fits (a.ops.product b.0 counterpart)

module _ (a : Algebra) (l : Laws a) (distinct : ¬ (a.ops.unit ≡ a.ops.nought)) where
  abbrev o : Ops (Passing a)
  o = within a l.closed

  first : (x y : Passing a) → x ≡ y → x.0 ≡ y.0
  first x y e = ap (λ (t : Passing a). t.0) e

  abbrev pub values_in : (xs : List Power) → AllPass a xs → Passing a
  values_in [] h = o.unit
  values_in (x ∷ xs) h = o.product (power_in o (x.base, h.0) x.power) (values_in xs h.1)

  pub values_first : (xs : List Power) (h : AllPass a xs) → (values_in xs h).0 ≡ product_of a.ops xs
  values_first [] h = refl
  values_first (x ∷ xs) h = λ i. a.ops.product (power_first a l (x.base, h.0) x.power i) (values_first xs h.1 i)

  abbrev pub bounds_in : (xs : List Power) → AllPass a xs → Passing a
  bounds_in [] h = o.unit
  bounds_in (x ∷ xs) h = o.product (power_in o (nonzero_magnitude o (x.base, h.0)) x.power) (bounds_in xs h.1)

  pub bounds_first : (xs : List Power) (h : AllPass a xs) → (bounds_in xs h).0 ≡ counterpart_of a.ops xs
  bounds_first [] h = refl
  bounds_first (x ∷ xs) h = λ i.
      a.ops.product ((power_first a l (nonzero_magnitude o (x.base, h.0)) x.power
      ∙ ap (λ t. power_in a.ops t x.power) (magnitude_first a l (x.base, h.0))) i) (bounds_first xs h.1 i)

  pub bounded : (xs : List Power) (h : AllPass a xs) → IsBound a (bounds_in xs h) (values_in xs h).0
  bounded [] h = bounded_unit a l distinct
  bounded (x ∷ xs) h =
      bounded_product a l distinct (power_in o (nonzero_magnitude o (x.base, h.0)) x.power) (power_in o (x.base, h.0) x.power) (bounds_in xs h.1)
      (values_in xs h.1)
      (bounded_power a l distinct (nonzero_magnitude o (x.base, h.0)) (x.base, h.0) x.power (bounded_self a l distinct (x.base, h.0)))
      (bounded xs h.1)

  pub joined_pass : (xs ys : List Power) → AllPass a xs → AllPass a ys → AllPass a (xs ++ ys)
  joined_pass [] ys h k = k
  joined_pass (x ∷ xs) ys h k = (h.0, joined_pass xs ys h.1 k)

  joined_values : (xs ys : List Power) (h : AllPass a xs) (k : AllPass a ys)
      → values_in (xs ++ ys) (joined_pass xs ys h k) ≡ o.product (values_in xs h) (values_in ys k)
  unfolding joined_pass
  joined_values [] ys h k = sym (l.ring.unit_product (values_in ys k))
  joined_values (x ∷ xs) ys h k =
      ap (o.product (power_in o (x.base, h.0) x.power)) (joined_values xs ys h.1 k)
      ∙ sym (l.ring.product_assoc (power_in o (x.base, h.0) x.power) (values_in xs h.1) (values_in ys k))

  joined_bounds : (xs ys : List Power) (h : AllPass a xs) (k : AllPass a ys)
      → bounds_in (xs ++ ys) (joined_pass xs ys h k) ≡ o.product (bounds_in xs h) (bounds_in ys k)
  unfolding joined_pass
  joined_bounds [] ys h k = sym (l.ring.unit_product (bounds_in ys k))
  joined_bounds (x ∷ xs) ys h k =
      ap (o.product (power_in o (nonzero_magnitude o (x.base, h.0)) x.power)) (joined_bounds xs ys h.1 k)
      ∙ sym (l.ring.product_assoc (power_in o (nonzero_magnitude o (x.base, h.0)) x.power) (bounds_in xs h.1) (bounds_in ys k))

  -- the product of two lists is that of both
  pub product_joined : (xs ys : List Power) → AllPass a xs → AllPass a ys
      → product_of a.ops (xs ++ ys) ≡ a.ops.product (product_of a.ops xs) (product_of a.ops ys)
  product_joined xs ys h k =
      sym (values_first (xs ++ ys) (joined_pass xs ys h k)) ∙ first (values_in (xs ++ ys) (joined_pass xs ys h k)) (o.product (values_in xs h) (values_in ys k))
      (joined_values xs ys h k) ∙ (λ i. a.ops.product (values_first xs h i) (values_first ys k i))

  counterpart_joined : (xs ys : List Power) → AllPass a xs → AllPass a ys
      → counterpart_of a.ops (xs ++ ys) ≡ a.ops.product (counterpart_of a.ops xs) (counterpart_of a.ops ys)
  counterpart_joined xs ys h k =
      sym (bounds_first (xs ++ ys) (joined_pass xs ys h k)) ∙ first (bounds_in (xs ++ ys) (joined_pass xs ys h k)) (o.product (bounds_in xs h) (bounds_in ys k))
      (joined_bounds xs ys h k) ∙ (λ i. a.ops.product (bounds_first xs h i) (bounds_first ys k i))

  pub start : (m0 : Passing a) (all : List Power) → AllPass a all → Multiplied a m0.0 all m0.0 all
  start m0 all h = record {
    done = o.unit;
    bound = o.unit;
    bounds = bounded_unit a l distinct;
    so_far = sym (first (o.product m0 o.unit) m0 (product_unit o l.ring m0));
    product =
        ap (a.ops.product a.ops.unit) (sym (values_first all h))
        ∙ first (o.product o.unit (values_in all h)) (values_in all h) (l.ring.unit_product (values_in all h)) ∙ values_first all h;
    counterpart =
        ap (a.ops.product a.ops.unit) (sym (bounds_first all h))
        ∙ first (o.product o.unit (bounds_in all h)) (bounds_in all h) (l.ring.unit_product (bounds_in all h)) ∙ bounds_first all h;
  }

  module _ (m0 : Passing a) (all : List Power) (m : Meaning) (xs left : List Power) (h : AllPass a xs) (k : AllPass a left)
      (r : Multiplied a m0.0 all m (xs ++ left)) where
    -- several factors more
    pub more_done : (m' : Meaning) → m' ≡ a.ops.product m (product_of a.ops xs) → Multiplied a m0.0 all m' left
    more_done m' e = record {
      done = o.product r.done (values_in xs h);
      bound = o.product r.bound (bounds_in xs h);
      bounds = bounded_product a l distinct r.bound r.done (bounds_in xs h) (values_in xs h) r.bounds (bounded xs h);
      so_far =
          e ∙ (λ i. a.ops.product (r.so_far i) (sym (values_first xs h) i))
          ∙ first (o.product (o.product m0 r.done) (values_in xs h)) (o.product m0 (o.product r.done (values_in xs h)))
          (l.ring.product_assoc m0 r.done (values_in xs h));
      product =
          ap (a.ops.product (o.product r.done (values_in xs h)).0) (sym (values_first left k))
          ∙ first (o.product (o.product r.done (values_in xs h)) (values_in left k)) (o.product r.done (o.product (values_in xs h) (values_in left k)))
          (l.ring.product_assoc r.done (values_in xs h) (values_in left k))
          ∙ ap (a.ops.product r.done.0) ((λ i. a.ops.product (values_first xs h i) (values_first left k i)) ∙ sym (product_joined xs left h k))
          ∙ r.product;
      counterpart =
          ap (a.ops.product (o.product r.bound (bounds_in xs h)).0) (sym (bounds_first left k))
          ∙ first (o.product (o.product r.bound (bounds_in xs h)) (bounds_in left k)) (o.product r.bound (o.product (bounds_in xs h) (bounds_in left k)))
          (l.ring.product_assoc r.bound (bounds_in xs h) (bounds_in left k))
          ∙ ap (a.ops.product r.bound.0) ((λ i. a.ops.product (bounds_first xs h i) (bounds_first left k i)) ∙ sym (counterpart_joined xs left h k))
          ∙ r.counterpart;
    }

    -- where they are refused, all are out of bounds
    pub more_fault : (fault : RingFault) → OnFault (IsOut a m (counterpart_of a.ops xs)) fault → OnFault (IsOut a m0.0 (counterpart_of a.ops all)) fault
    more_fault fault out = fault_weaker fault refuted out
      where
        refuted : IsOut a m (counterpart_of a.ops xs) → IsOut a m0.0 (counterpart_of a.ops all)
        refuted out b bounds fits =
            out (o.product b r.bound) (subst (IsBound a (o.product b r.bound)) (sym r.so_far) here) (subst (λ t. a.ops.Fits (a.ops.product (o.product b r.bound).0 t))
            (bounds_first xs h) (part_fits a l distinct (o.product (o.product b r.bound) (bounds_in xs h))
            (o.product (o.product m0 r.done) (values_in xs h)) (bounds_in left k) (values_in left k)
            (bounded_product a l distinct (o.product b r.bound) (o.product m0 r.done) (bounds_in xs h) (values_in xs h) here (bounded xs h))
            (bounded left k) (subst a.ops.Fits whole fits)))
          where
            here : IsBound a (o.product b r.bound) (o.product m0 r.done).0
            here = bounded_product a l distinct b m0 r.bound r.done bounds r.bounds

            whole : a.ops.product b.0 (counterpart_of a.ops all) ≡ (o.product (o.product (o.product b r.bound) (bounds_in xs h)) (bounds_in left k)).0
            whole =
                ap (a.ops.product b.0) (sym r.counterpart
                ∙ ap (a.ops.product r.bound.0) (counterpart_joined xs left h k ∙ sym (λ i. a.ops.product (bounds_first xs h i) (bounds_first left k i))))
                ∙ first (o.product b (o.product r.bound (o.product (bounds_in xs h) (bounds_in left k))))
                (o.product (o.product (o.product b r.bound) (bounds_in xs h)) (bounds_in left k))
                (sym (l.ring.product_assoc b r.bound (o.product (bounds_in xs h) (bounds_in left k)))
                ∙ sym (l.ring.product_assoc (o.product b r.bound) (bounds_in xs h) (bounds_in left k)))

  -- one factor alone
  pub one_product : (x : Power) → IsTrue (a.passes x.base) → product_of a.ops (x ∷ []) ≡ power_in a.ops x.base x.power
  one_product x h =
      let y = power_in o (x.base, h) x.power in
      ap (λ t. a.ops.product t a.ops.unit) (sym (power_first a l (x.base, h) x.power)) ∙ first (o.product y o.unit) y (product_unit o l.ring y)
      ∙ power_first a l (x.base, h) x.power

  pub one_counterpart : (x : Power) → IsTrue (a.passes x.base)
      → counterpart_of a.ops (x ∷ []) ≡ power_in a.ops (nonzero_magnitude a.ops x.base) x.power
  one_counterpart x h =
      let y = power_in o (nonzero_magnitude o (x.base, h)) x.power in
      let e : y.0 ≡ power_in a.ops (nonzero_magnitude a.ops x.base) x.power =
      power_first a l (nonzero_magnitude o (x.base, h)) x.power ∙ ap (λ t. power_in a.ops t x.power) (magnitude_first a l (x.base, h)) in
      ap (λ t. a.ops.product t a.ops.unit) (sym e) ∙ first (o.product y o.unit) y (product_unit o l.ring y) ∙ e

  module _ (m0 : Passing a) (all : List Power) (m : Meaning) (x : Power) (left : List Power) (h : IsTrue (a.passes x.base)) (k : AllPass a left)
      (r : Multiplied a m0.0 all m (x ∷ left)) where
    -- one factor more
    pub one_done : (m' : Meaning) → m' ≡ a.ops.product m (power_in a.ops x.base x.power) → Multiplied a m0.0 all m' left
    one_done m' e = more_done m0 all m (x ∷ []) left (h, tt) k r m' (e ∙ ap (a.ops.product m) (sym (one_product x h)))

    pub one_fault : (fault : RingFault) → OnFault (IsOut a m (power_in a.ops (nonzero_magnitude a.ops x.base) x.power)) fault
        → OnFault (IsOut a m0.0 (counterpart_of a.ops all)) fault
    one_fault fault out =
        more_fault m0 all m (x ∷ []) left (h, tt) k r fault (subst (λ t. OnFault (IsOut a m t) fault) (sym (one_counterpart x h)) out)

  -- past the last factor
  pub all_done : (m0 : Passing a) (all : List Power) (m : Meaning) → Multiplied a m0.0 all m [] → m ≡ a.ops.product m0.0 (product_of a.ops all)
  all_done m0 all m r =
      r.so_far ∙ ap (a.ops.product m0.0) (sym (first (o.product r.done o.unit) r.done (product_unit o l.ring r.done)) ∙ r.product)

  -- a product from 1 is the product
  pub from_unit : (xs : List Power) → AllPass a xs → (m : Meaning) → m ≡ a.ops.product a.ops.unit (product_of a.ops xs) → m ≡ product_of a.ops xs
  from_unit xs h m e =
      e ∙ ap (a.ops.product a.ops.unit) (sym (values_first xs h)) ∙ first (o.product o.unit (values_in xs h)) (values_in xs h)
      (l.ring.unit_product (values_in xs h)) ∙ values_first xs h

  pub out_of_bounds : (xs : List Power) → AllPass a xs → (fault : RingFault) → OnFault (IsOut a a.ops.unit (counterpart_of a.ops xs)) fault
      → OnFault (¬ PowersInBounds a xs) fault
  out_of_bounds xs h fault out =
      fault_weaker fault
      (λ out fits. out o.unit (bounded_unit a l distinct) (subst a.ops.Fits
      (sym (ap (a.ops.product a.ops.unit) (sym (bounds_first xs h)) ∙ first (o.product o.unit (bounds_in xs h)) (bounds_in xs h)
      (l.ring.unit_product (bounds_in xs h)) ∙ bounds_first xs h)) fits)) out

  -- what is multiplied from 1
  pub from_one : {T : Type 0} (mean : T → Meaning) (xs : List Power) → AllPass a xs → (r : Result T RingFault) (one : Meaning) → one ≡ a.ops.unit
      → GivesTimes mean a one (product_of a.ops xs) (counterpart_of a.ops xs) r
      → IfOk r (λ v. mean v ≡ product_of a.ops xs) × IfErr r (OnFault (¬ PowersInBounds a xs))
  from_one mean xs h (Ok v) one e g = (from_unit xs h (mean v) (g ∙ ap (λ t. a.ops.product t (product_of a.ops xs)) e), tt)
  from_one mean xs h (Err fault) one e g = (tt, out_of_bounds xs h fault (subst (λ t. OnFault (IsOut a t (counterpart_of a.ops xs)) fault) e g))
