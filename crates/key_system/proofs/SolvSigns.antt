-- The sign of a vector: it or its negative has a positive lead where an entry isn't zero.
use Rattle.std.specs.Prelude.{◌≡◌, ℕ, zero, suc, ◌<◌, ℤ, pos, negsuc, ◌*ℤ◌, ◌<ℤ◌, ◌⊎◌, IsTrue, IfOk, Result, Ok, Err, Vec, List, map, length, refl, ⊤}
use Rattle.std.proofs.Common.{ap, sym, ◌∙◌, subst, arith, get_or, inl, inr, ⊎_elim}
use Rattle.std.proofs.lemmas.Int.{ints}
use Rattle.std.proofs.lemmas.List.{length-map, get_or-map}
use Rattle.ring_laws.specs.Meaning.{Meaning}
use Rattle.ring_laws.specs.Algebra.{Ops, Algebra, Passing, within, Laws}
use Rattle.ring_laws.specs.declared.faults.RingFault.{RingFault}
use Rattle.ring_laws.specs.declared.wholes.Sign.{Sign}
use Rattle.ring_laws.specs.declared.wholes.Sign.TheVariants.{Negative, Zero, Positive}
use Rattle.poly_laws.proofs.OneQuotient.{cancel, neg_product}
use Rattle.poly_generic.specs.ListAnswer.{GivesList}
use Rattle.poly_generic.proofs.ListLemmas.{at_item}
use Rattle.kernel_laws.specs.Rows.{entry_at}
use Rattle.form_rings.specs.Forms.{Forms, FormLaws}
use Rattle.form_rings.specs.Signs.{sign_of}
use Rattle.key_system.specs.Solved.{IsSigned}

negative : (z : ℤ) → sign_of z ≡ Negative → pos 0 <ℤ (negsuc 0 *ℤ z)
negative (pos zero) e = cc
negative (pos (suc n)) e = cc
negative (negsuc n) e = omega (arith, ints)

positive : (z : ℤ) → ¬ (sign_of z ≡ Negative) → ¬ (z ≡ pos 0) → pos 0 <ℤ z
positive (pos zero) n m = absurd (m refl)
positive (pos (suc k)) n m = omega (arith, ints)
positive (negsuc k) n m = absurd (n refl)

pub none_negative : (s : Sign) (z : ℤ) → s ≡ sign_of z → (s ≡ Zero) ⊎ (s ≡ Positive) → ¬ (sign_of z ≡ Negative)
none_negative s z e h n = ⊎_elim (λ k. cc (e, k, n)) (λ k. cc (e, k, n)) h

module _ (a : Algebra) (l : Laws a) (forms : Forms) (fl : FormLaws a forms) where
  abbrev base : Ops (Passing a)
  base = within a l.closed

  minus_one : base.whole (negsuc 0) ≡ base.neg base.unit
  minus_one =
      cancel base l.ring (base.whole (negsuc 0)) (base.neg base.unit) base.unit
      (ap (base.sum (base.whole (negsuc 0))) (sym l.ring.whole_one) ∙ sym (l.ring.whole_sum (negsuc 0) (pos 1)) ∙ l.ring.whole_zero
      ∙ sym (l.ring.sum_neg base.unit) ∙ l.ring.sum_comm base.unit (base.neg base.unit))

  negative_is : (x : Passing a) → base.neg x ≡ base.product (base.whole (negsuc 0)) x
  negative_is x =
      sym (ap (λ t. base.product t x) minus_one ∙ neg_product base l.ring base.unit x ∙ ap base.neg (l.ring.unit_product x))

  lead_of_negative : (x : Passing a) → forms.lead (a.ops.neg x.0) ≡ negsuc 0 *ℤ forms.lead x.0
  lead_of_negative x =
      ap (λ (t : Passing a). forms.lead t.0) (negative_is x) ∙ fl.lead_product (base.whole (negsuc 0)) x
      ∙ ap (λ z. z *ℤ forms.lead x.0) (fl.lead_whole (negsuc 0))

  module _ {E : Type 0} (value : E → Meaning) (passes : (x : E) → IsTrue (a.passes (value x))) (xs : List E) (column : ℕ) (x : E)
      (b : column < length xs) (e : x ≡ get_or xs column x) where
    entry_is : entry_at a.ops (map value xs) column ≡ value x
    entry_is = at_item a.ops value xs column x b e

    -- the vector stays
    pub kept : ¬ (entry_at a.ops (map value xs) column ≡ a.ops.nought) → ¬ (sign_of (forms.lead (value x)) ≡ Negative)
        → IsSigned a forms (map value xs) (map value xs) column
    kept some n = record {
      is = inl refl;
      positive = subst (λ t. pos 0 <ℤ forms.lead t) (sym entry_is)
          (positive (forms.lead (value x)) n (λ z. some (entry_is ∙ fl.lead_zero (value x, passes x) z)));
    }

    -- each entry is negated
    pub turned : {Z : Type 0} (r : Result (Vec E Z) RingFault) → sign_of (forms.lead (value x)) ≡ Negative
        → GivesList value ⊤ (map a.ops.neg (map value xs)) r → IfOk r (λ signed. IsSigned a forms (map value xs) (map value signed.items) column)
    turned (Err fault) s h = tt
    turned (Ok signed) s h =
        let here : entry_at a.ops (map a.ops.neg (map value xs)) column ≡ a.ops.neg (value x) =
        get_or-map a.ops.neg (map value xs) column a.ops.nought a.ops.nought (omega (arith, b, length-map xs value)) ∙ ap a.ops.neg entry_is in
        record {
          is = inr h;
          positive = subst (λ v. pos 0 <ℤ forms.lead (entry_at a.ops v column)) (sym h)
              (subst (λ t. pos 0 <ℤ forms.lead t) (sym here)
              (subst (λ z. pos 0 <ℤ z) (sym (lead_of_negative (value x, passes x))) (negative (forms.lead (value x)) s)));
        }
