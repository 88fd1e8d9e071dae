-- Constants, negated and to constant powers, as values of trees.
use Rattle.std.proofs.Common.{◌≡◌, ◌≢◌, ℕ, refl, ap, sym, ◌∙◌, List, [], ◌∷◌, Bool, true, false, Option, Some, None, subst, true≢false}
use Rattle.std.proofs.lemmas.Bool.{cond_both, eqb-true}
use Rattle.std.proofs.lemmas.Option.{same_Some, none-some}
use Rattle.std.specs.Prelude.{ℤ, pos, negsuc, ◌+ℤ◌, ◌*ℤ◌, neg_ℤ, unsigned_abs, if◌then◌else◌, nat_eq, Ok}
use lib.IntN.{*ℤ_comm}
use Rattle.ring_solver.proofs.Read.{ring_z, reading_z}
use Rattle.ring_laws.specs.Meaning.{Meaning, items}
use Rattle.ring_laws.specs.Wholes.{number_of}
use Rattle.ring_laws.specs.WholeDomain.{abs_nought}
use Rattle.poly_laws.specs.Values.{value_at, horner}
use Rattle.poly_laws.specs.TwoVariables.{constant_in_n, constant_in_k}
use Rattle.steps.specs.Operations.{Counterpart, of_fraction}
use Rattle.steps.specs.TermFaults.{Improper}
use Rattle.steps.specs.Steps.{gives, makes, ◌then◌}
use Rattle.steps.proofs.StepLaws.{same_Ok}
use Rattle.hypergeometric.specs.Point.{Point, point, values, values_in_n}
use Rattle.hypergeometric.specs.Fraction.{Fraction, IsDefined, of_whole, fraction_negative, fraction_product, whole_power}
use Rattle.hypergeometric.specs.ProperTerm.{poly_value, IsNonzero}
use Rattle.hypergeometric.specs.Divisors.{lowest_terms, raised_fraction, size_of_top, size_of_bottom}
use Rattle.hypergeometric.specs.PrimitiveForm.{is_zero}
use Rattle.hypergeometric.proofs.PlainTerms.{whole_power_of_one}
use Rattle.hypergeometric.proofs.Definedness.{natural_power_defined}
use Rattle.hypergeometric.proofs.SameValues.{◌≅◌, same, same_itself, same_chain, same_symmetric, same_products, same_whole_powers}
use Rattle.hypergeometric.proofs.FractionPowers.{fraction_same, whole_power_of_product, natural_then_whole}
use Rattle.hypergeometric.proofs.NonzeroPowers.{power_then_power}
use Rattle.hypergeometric.proofs.LowestTerms.{lowest_same, lowest_bottom_zero, raised_same, raised_natural, raised_nonzero}
use Rattle.grammar.specs.Tree.{Tree}
use Rattle.term_classes.specs.TreeValue.{tree_value}
use Rattle.term_classes.specs.Finding.{power_made, negative_of}
use Rattle.term_classes.proofs.PolynomialParts.{power_value}

-- a polynomial that is a constant has its value at each point
module _ (p : Point) where
  and_nothing : (v x : ℤ) → x +ℤ v *ℤ pos 0 ≡ x
  and_nothing v x = ring_z (v ∷ x ∷ []) (search reading_z depth 40 fits 20000) refl

  pub in_n_value : (xs : List Meaning) (z : ℤ) → constant_in_n xs ≡ Some z → horner number_of p.n xs ≡ z
  in_n_value [] z e = same_Some (pos 0) z e
  in_n_value (c ∷ []) z e = and_nothing p.n (number_of c) ∙ same_Some (number_of c) z e
  in_n_value (c ∷ d ∷ cs) z e = absurd (none-some z e)

  in_k_value : (xs : List Meaning) (z : ℤ) → constant_in_k xs ≡ Some z → horner (value_at (values_in_n p)) p.k xs ≡ z
  in_k_value [] z e = same_Some (pos 0) z e
  in_k_value (c ∷ []) z e = and_nothing p.k (horner number_of p.n (items c)) ∙ in_n_value (items c) z e
  in_k_value (c ∷ d ∷ cs) z e = absurd (none-some z e)

  pub constant_value : (poly : Meaning) (z : ℤ) → constant_in_k (items poly) ≡ Some z → poly_value poly p ≡ z
  constant_value poly z e = in_k_value (items poly) z e

-- a tree, its node, or the product of its parts to each power is the fraction to that power
pub record IsConstant (f : Fraction) (value : ℤ → Point → Fraction) : Type 0 where
  pub defined : IsDefined f
  pub power : (w : ℤ) (p : Point) → value w p ≅ whole_power f w

negative_product : (f : Fraction) → fraction_product (of_whole (negsuc 0)) f ≡ fraction_negative f
negative_product f = fraction_same (minus f.top) (once f.bottom)
  where
    minus : (a : ℤ) → negsuc 0 *ℤ a ≡ neg_ℤ a
    minus a = ring_z (a ∷ []) (search reading_z depth 40 fits 20000) refl

    once : (a : ℤ) → pos 1 *ℤ a ≡ a
    once a = ring_z (a ∷ []) (search reading_z depth 40 fits 20000) refl

pub negated_constant : (t : Tree) (g : Option Fraction) (f : Fraction) → negative_of g ≡ Some f
    → ((h : Fraction) → g ≡ Some h → IsConstant h (tree_value t))
    → IsConstant f (λ w p. fraction_product (whole_power (of_whole (negsuc 0)) w) (tree_value t w p))
negated_constant t None f e h = absurd (none-some f e)
negated_constant t (Some g) f e h = subst (λ f. IsConstant f (λ w p. fraction_product (whole_power (of_whole (negsuc 0)) w) (tree_value t w p)))
    (same_Some (fraction_negative g) f e) (record {
      defined = (h g refl).defined;
      power = λ w p. same_chain (same_products (same_itself (whole_power (of_whole (negsuc 0)) w)) ((h g refl).power w p))
          (same (sym (whole_power_of_product (of_whole (negsuc 0)) g w) ∙ ap (λ x. whole_power x w) (negative_product g)));
    })

pub unless_given : (b : Bool) (counterpart : Counterpart) (at : ℕ) (r g : Fraction)
    → (if b then gives {P = ℕ} {R = Improper} None else makes at counterpart (Some r)).outcome ≡ Ok (Some g) → (b ≡ false) × (r ≡ g)
unless_given true counterpart at r g e = absurd (none-some g (same_Ok None (Some g) e))
unless_given false counterpart at r g e = (refl, same_Some r g (same_Ok (Some r) (Some g) e))

pub not_zero : (z : ℤ) → is_zero z ≡ false → z ≢ pos 0
not_zero z e h = true≢false (sym (ap is_zero h) ∙ e)

-- a constant to a constant power
module _ (base : Tree) (f : Fraction) (h : IsConstant f (tree_value base)) where
  constant_power : (c w : ℤ) (p : Point) (other : Fraction) → ((w : ℤ) → whole_power (whole_power f c) w ≅ whole_power f (c *ℤ w))
      → power_value base (Some c) w p other ≅ whole_power (whole_power f c) w
  constant_power c w p other twice =
      cond_both (nat_eq (unsigned_abs c) 0) (of_whole (pos 1)) (tree_value base (w *ℤ c) p) (λ v. v ≅ whole_power (whole_power f c) w)
      (λ e. same (sym (whole_power_of_one w) ∙ ap (λ c. whole_power (whole_power f c) w) (sym (abs_nought c (eqb-true (unsigned_abs c) 0 e)))))
      (λ e. same_chain (h.power (w *ℤ c) p) (same_chain (same (ap (whole_power f) (*ℤ_comm w c))) (same_symmetric (twice w))))

  lowered : (c : ℤ) (r : Fraction) (other : ℤ → Point → Fraction) → IsDefined r → r ≅ whole_power f c
      → ((w : ℤ) → whole_power (whole_power f c) w ≅ whole_power f (c *ℤ w))
      → IsConstant (lowest_terms r) (λ w p. power_value base (Some c) w p (other w p))
  lowered c r other d e twice = record {
    defined = λ z. d (lowest_bottom_zero r z);
    power = λ w p. same_chain (constant_power c w p (other w p) twice)
        (same_whole_powers w (same_chain (same_symmetric e) (same_symmetric (lowest_same r d))));
  }

  pub power_made_has : (at : ℕ) (c : ℤ) (g : Fraction) (other : ℤ → Point → Fraction) → (power_made at c f).outcome ≡ Ok (Some g)
      → IsConstant g (λ w p. power_value base (Some c) w p (other w p))
  power_made_has at (pos c) g other e =
      subst (λ g. IsConstant g (λ w p. power_value base (Some (pos c)) w p (other w p))) (same_Some (lowest_terms (raised_fraction f (pos c))) g
      (same_Ok (Some (lowest_terms (raised_fraction f (pos c)))) (Some g) e))
      (lowered (pos c) (raised_fraction f (pos c)) other (subst IsDefined (sym (raised_natural f c)) (natural_power_defined f c h.defined))
      (same (raised_natural f c))
      (λ w. same (natural_then_whole f c w)))
  power_made_has at (negsuc c) g other e =
      let u = unless_given (is_zero f.top) (of_fraction (size_of_top (raised_fraction f (negsuc c)))
      (size_of_bottom (raised_fraction f (negsuc c)))) at
      (lowest_terms (raised_fraction f (negsuc c))) g e in
      let nonzero : IsNonzero f = record { top = not_zero f.top u.0; bottom = h.defined } in
      subst (λ g. IsConstant g (λ w p. power_value base (Some (negsuc c)) w p (other w p))) u.1
      (lowered (negsuc c) (raised_fraction f (negsuc c)) other (raised_nonzero f (negsuc c) nonzero).bottom (raised_same f (negsuc c) nonzero)
      (λ w. power_then_power f (negsuc c) w nonzero.top))
