-- Bounds of magnitudes: bounds of two values bound their product, and where a product of bounds fits, each part of it is in bounds.
use Rattle.std.specs.Prelude.{◌≡◌, ℕ, zero, suc, Bool, true, false, cond, refl}
use Rattle.std.proofs.Common.{ap, sym, ◌∙◌, subst, ⊎_elim, true≢false}
use Rattle.ring_laws.specs.Algebra.{Algebra, Ops, Laws, Passing, within, same_passing, ProductInBounds}
use Rattle.poly_laws.specs.Powers.{power_in, nonzero_magnitude, IsBound}

-- the ring has more than one meaning
module _ (a : Algebra) (l : Laws a) (distinct : ¬ (a.ops.unit ≡ a.ops.nought)) where
  abbrev pub o : Ops (Passing a)
  o = within a l.closed

  same : (x y : Passing a) → x.0 ≡ y.0 → x ≡ y
  same x y e = same_passing a x y e

  first : (x y : Passing a) → x ≡ y → x.0 ≡ y.0
  first x y e = ap (λ (t : Passing a). t.0) e

  -- a bound is its own magnitude, also as what belongs to the ring
  own : (b : Passing a) (m : Passing a) → IsBound a b m.0 → o.magnitude b ≡ b
  own b m h = same (o.magnitude b) b h.magnitude

  pub bounded_unit : IsBound a o.unit a.ops.unit
  bounded_unit =
      let e : o.magnitude o.unit ≡ o.unit = ap o.magnitude (sym l.ring.whole_one) ∙ l.magnitudes.of_whole _ ∙ l.ring.whole_one in
      record {
        covers = subst (λ (t : Passing a). a.ops.Covers a.ops.unit t.0) (sym e) (l.magnitudes.covers_same o.unit);
        magnitude = first (o.magnitude o.unit) o.unit e;
        not_zero = distinct;
      }

  left : (b x c : Passing a) → o.magnitude c ≡ c → o.Covers b (o.magnitude x) → o.Covers (o.product b c) (o.product (o.magnitude x) c)
  left b x c e h = subst (λ (t : Passing a). o.Covers (o.product b t) (o.product (o.magnitude x) t)) e (l.magnitudes.covers_product b (o.magnitude x) c h)

  right : (x c y : Passing a) → o.Covers c (o.magnitude y) → o.Covers (o.product (o.magnitude x) c) (o.product (o.magnitude x) (o.magnitude y))
  right x c y h =
      subst (λ (t : Passing a). o.Covers t (o.product (o.magnitude x) (o.magnitude y))) (l.ring.product_comm c (o.magnitude x))
      (subst (λ (t : Passing a). o.Covers (o.product c (o.magnitude x)) t) (l.ring.product_comm (o.magnitude y) (o.magnitude x))
      (l.magnitudes.covers_product c (o.magnitude y) x h))

  -- bounds cover the product of the magnitudes
  pub covers_both : (b x c y : Passing a) → IsBound a b x.0 → IsBound a c y.0 → o.Covers (o.product b c) (o.product (o.magnitude x) (o.magnitude y))
  covers_both b x c y h k = l.magnitudes.covers_trans (o.product b c) (o.product (o.magnitude x) c) (o.product (o.magnitude x) (o.magnitude y))
      (left b x c (own c y k) h.covers) (right x c y k.covers)

  pub bounded_product : (b x c y : Passing a) → IsBound a b x.0 → IsBound a c y.0 → IsBound a (o.product b c) (o.product x y).0
  bounded_product b x c y h k =
      let eb = own b x h in
      let ec = own c y k in
      let whole : o.magnitude (o.product b c) ≡ o.product b c =
      ap o.magnitude (sym (λ i. o.product (eb i) (ec i))) ∙ l.magnitudes.of_product b c ∙ (λ i. o.product (eb i) (ec i)) in
      record {
        covers = l.magnitudes.covers_trans (o.product b c) (o.product (o.magnitude x) (o.magnitude y)) (o.magnitude (o.product x y)) (covers_both b x c y h k)
            (l.magnitudes.product_covers x y);
        magnitude = first (o.magnitude (o.product b c)) (o.product b c) whole;
        not_zero = λ e. ⊎_elim (λ z. h.not_zero (first b o.nought (sym eb ∙ z))) (λ z. k.not_zero (first c o.nought (sym ec ∙ z)))
            (l.magnitudes.factors b c ((λ i. o.product (eb i) (ec i)) ∙ same (o.product b c) o.nought e));
      }

  -- the magnitude bounds, and one bounds zero
  pub bounded_self : (x : Passing a) → IsBound a (nonzero_magnitude o x) x.0
  bounded_self x = by (a.ops.is_nought x.0) refl
    where
      by : (b : Bool) → o.is_nought x ≡ b → IsBound a (cond b o.unit (o.magnitude x)) x.0
      by true e =
          let z : x ≡ o.nought = (l.ring.is_nought x).0 e in
          let u : o.magnitude o.unit ≡ o.unit = same (o.magnitude o.unit) o.unit bounded_unit.magnitude in
          let n : o.magnitude x ≡ o.nought = ap o.magnitude z ∙ l.magnitudes.of_nought in
          record {
            covers = subst (λ (t : Passing a). o.Covers o.unit t) (sym n) (subst (λ (t : Passing a). o.Covers t o.nought)
                (l.ring.nought_sum (o.magnitude o.unit) ∙ u) (l.magnitudes.part_covered o.nought o.unit));
            magnitude = bounded_unit.magnitude;
            not_zero = bounded_unit.not_zero;
          }
      by false e = record {
        covers = l.magnitudes.covers_same (o.magnitude x);
        magnitude = first (o.magnitude (o.magnitude x)) (o.magnitude x) (l.magnitudes.of_magnitude x);
        not_zero = λ h. true≢false (sym (sym e ∙ (l.ring.is_nought x).1 (l.magnitudes.only_nought x (same (o.magnitude x) o.nought h))));
      }

  pub bounded_power : (b x : Passing a) (n : ℕ) → IsBound a b x.0 → IsBound a (power_in o b n) (power_in o x n).0
  bounded_power b x zero h = bounded_unit
  bounded_power b x (suc n) h = bounded_product b x (power_in o b n) (power_in o x n) h (bounded_power b x n h)

  -- where a bound times what isn't zero fits, the bound fits
  pub part_fits : (b x c y : Passing a) → IsBound a b x.0 → IsBound a c y.0 → o.Fits (o.product b c) → o.Fits b
  part_fits b x c y h k f =
      subst o.Fits (own b x h) (l.magnitudes.fits_factor b c (subst o.Fits (sym (λ i. o.product (own b x h i) (own c y k i))) f)
      (λ z. k.not_zero (first c o.nought z)))

  -- where the product of bounds fits, the product is in bounds
  pub in_bounds : (b x c y : Passing a) → IsBound a b x.0 → IsBound a c y.0 → o.Fits (o.product b c) → ProductInBounds a x.0 y.0
  in_bounds b x c y h k f =
      let e : o.magnitude (o.product (o.magnitude x) (o.magnitude y)) ≡ o.product (o.magnitude x) (o.magnitude y) = l.magnitudes.of_product x y in
      subst o.Fits e (l.magnitudes.fits_covered (o.product b c) (o.product (o.magnitude x) (o.magnitude y)) f
      (subst (λ (t : Passing a). o.Covers (o.product b c) t) (sym e) (covers_both b x c y h k)))
