-- Products and powers of constants that are found in a tree.
use Rattle.std.proofs.Common.{◌≡◌, ℕ, refl, ap, sym, ◌∙◌, List, ◌∷◌, Bool, true, false, ◌&&◌, ◌||◌, Option, Some, None, subst, true≢false}
use Rattle.std.proofs.lemmas.Option.{same_Some, none-some}
use Rattle.std.specs.Prelude.{ℤ, neg_ℤ, unsigned_abs, Ok}
use Rattle.ring_laws.specs.Meaning.{Meaning, items}
use Rattle.poly_laws.specs.TwoVariables.{constant_in_k}
use Rattle.steps.specs.Found.{where_some, in_front}
use Rattle.steps.specs.Operations.{of_fraction}
use Rattle.steps.specs.Steps.{gives, within_limit, ◌then◌}
use Rattle.steps.specs.TermFaults.{TermSteps}
use Rattle.steps.specs.declared.limits.LimitName.TheVariants.{Exponent}
use Rattle.steps.proofs.StepLaws.{then_gave, same_Ok}
use Rattle.hypergeometric.specs.Point.{Point}
use Rattle.hypergeometric.specs.Fraction.{Fraction, of_whole, fraction_product, whole_power}
use Rattle.hypergeometric.specs.ProperTerm.{poly_value, IsNonzero}
use Rattle.hypergeometric.specs.Divisors.{lowest_terms}
use Rattle.hypergeometric.specs.PrimitiveForm.{is_zero}
use Rattle.hypergeometric.proofs.FractionLaws.{one_not_zero, product_not_zero}
use Rattle.hypergeometric.proofs.SameValues.{◌≅◌, same, same_chain, same_symmetric, same_products, same_whole_powers}
use Rattle.hypergeometric.proofs.FractionPowers.{whole_power_of_product}
use Rattle.hypergeometric.proofs.NonzeroPowers.{inverse_is_reciprocal, negated_exponent}
use Rattle.hypergeometric.proofs.LowestTerms.{lowest_same, lowest_bottom_zero}
use Rattle.grammar.specs.Tree.{Tree, Node, Parts, part}
use Rattle.term_classes.specs.TreePolynomial.{node_polynomial}
use Rattle.term_classes.specs.TreeValue.{tree_value, node_value, product_value, part_power}
use Rattle.term_classes.specs.Finding.{FractionFactor, divides_by_zero, factor_fraction, product_of_fractions, product_made, power_made, fraction_of_whole, find_constant, find_node_constant, find_constants, top_sizes, bottom_sizes}
use Rattle.term_classes.proofs.PolynomialValues.{node_has}
use Rattle.term_classes.proofs.PolynomialParts.{power_value}
use Rattle.term_classes.proofs.ConstantPowers.{IsConstant, constant_value, power_made_has, unless_given, not_zero}

abbrev pub FoundIn : Tree → Type 0
FoundIn t = (f : Fraction) → (find_constant t).outcome ≡ Ok (Some f) → IsConstant f (tree_value t)

-- a factor, or one that is divided by and isn't 0
factor_has : (turned : Bool) (f : Fraction) (t : Tree) → IsConstant f (tree_value t) → (turned && is_zero f.top) ≡ false
    → IsConstant (factor_fraction (turned, f)) (λ w p. tree_value t (part_power turned w) p)
factor_has false f t h e = h
factor_has true f t h e =
    let nonzero : IsNonzero f = record { top = not_zero f.top e; bottom = h.defined } in
    record {
      defined = nonzero.top;
      power = λ w p. same_chain (h.power (neg_ℤ w) p)
          (same_chain (negated_exponent f w nonzero.top) (same_whole_powers w (inverse_is_reciprocal f nonzero)));
    }

neither : (b c : Bool) → (b || c) ≡ false → (b ≡ false) × (c ≡ false)
neither true c e = absurd (true≢false e)
neither false c e = (refl, e)

abbrev FactorsFoundIn : Parts → Type 0
FactorsFoundIn parts = (fs : List FractionFactor) → (find_constants parts).outcome ≡ Ok (Some fs) → divides_by_zero fs ≡ false
    → IsConstant (product_of_fractions fs) (product_value parts)

both_factors : (f g : Fraction) (u v : ℤ → Point → Fraction) → IsConstant f u → IsConstant g v
    → IsConstant (fraction_product f g) (λ w p. fraction_product (u w p) (v w p))
both_factors f g u v e q = record {
  defined = product_not_zero f.bottom g.bottom e.defined q.defined;
  power = λ w p. same_chain (same_products (e.power w p) (q.power w p)) (same (sym (whole_power_of_product f g w)));
}

-- a factor in front of the others
in_front_has : (turned : Bool) (f : Fraction) (t : Tree) (parts : Parts) (gs : Option (List FractionFactor)) (fs : List FractionFactor)
    → (find_constants parts).outcome ≡ Ok gs → in_front (turned, f) gs ≡ Some fs → divides_by_zero fs ≡ false
    → IsConstant f (tree_value t) → FactorsFoundIn parts → IsConstant (product_of_fractions fs) (product_value (part turned t parts))
in_front_has turned f t parts None fs found e d h rest = absurd (none-some fs e)
in_front_has turned f t parts (Some gs) fs found e d h rest =
    let same_list : (turned, f) ∷ gs ≡ fs = same_Some ((turned, f) ∷ gs) fs e in
    let parted = neither (turned && is_zero f.top) (divides_by_zero gs) (ap divides_by_zero same_list ∙ d) in
    subst (λ fs. IsConstant (product_of_fractions fs) (product_value (part turned t parts))) same_list
    (both_factors (factor_fraction (turned, f)) (product_of_fractions gs) (λ w p. tree_value t (part_power turned w) p) (product_value parts)
    (factor_has turned f t h parted.0) (rest gs found parted.1))

pub one_factor_has : (turned : Bool) (t : Tree) (a : Option Fraction) (parts : Parts) (fs : List FractionFactor)
    → (where_some a (λ f1. find_constants parts then (λ fs. gives (in_front (turned, f1) fs)))).outcome ≡ Ok (Some fs)
    → divides_by_zero fs ≡ false → ((f : Fraction) → a ≡ Some f → IsConstant f (tree_value t)) → FactorsFoundIn parts
    → IsConstant (product_of_fractions fs) (product_value (part turned t parts))
one_factor_has turned t None parts fs e d h rest = absurd (none-some fs (same_Ok None (Some fs) e))
one_factor_has turned t (Some f) parts fs e d h rest =
    let g = then_gave (find_constants parts) (λ fs. gives (in_front (turned, f) fs)) (Some fs) e in
    in_front_has turned f t parts g.value fs g.first (same_Ok (in_front (turned, f) g.value) (Some fs) g.second) d (h f refl) rest

pub product_found : (at : ℕ) (parts : Parts) (a : Option (List FractionFactor)) (f : Fraction) → (find_constants parts).outcome ≡ Ok a
    → (product_made at a).outcome ≡ Ok (Some f) → FactorsFoundIn parts → IsConstant f (product_value parts)
product_found at parts None f found e rest = absurd (none-some f (same_Ok None (Some f) e))
product_found at parts (Some fs) f found e rest =
    let u = unless_given (divides_by_zero fs) (of_fraction (top_sizes fs) (bottom_sizes fs)) at (lowest_terms (product_of_fractions fs)) f e in
    let h = rest fs found u.0 in
    subst (λ f. IsConstant f (product_value parts)) u.1 (record {
      defined = λ z. h.defined (lowest_bottom_zero (product_of_fractions fs) z);
      power = λ w p. same_chain (h.power w p) (same_whole_powers w (same_symmetric (lowest_same (product_of_fractions fs) h.defined)));
    })

some_power : (at : ℕ) (base : Tree) (c : ℤ) (a : Option Fraction) (f : Fraction) (other : ℤ → Point → Fraction)
    → (find_constant base).outcome ≡ Ok a → (where_some a (power_made at c)).outcome ≡ Ok (Some f) → FoundIn base
    → IsConstant f (λ w p. power_value base (Some c) w p (other w p))
some_power at base c None f other found e h = absurd (none-some f (same_Ok None (Some f) e))
some_power at base c (Some g) f other found e h = power_made_has base g (h g found) at c f other e

pub power_found : (at : ℕ) (base : Tree) (c : Option ℤ) (f : Fraction) (other : ℤ → Point → Fraction)
    → (where_some c (λ c. within_limit Exponent (unsigned_abs c) c then (λ c1.
    find_constant base then (λ f. where_some f (power_made at c))))).outcome ≡ Ok (Some f) → FoundIn base
    → IsConstant f (λ w p. power_value base c w p (other w p))
power_found at base None f other e h = absurd (none-some f (same_Ok None (Some f) e))
power_found at base (Some c) f other e h =
    let g = then_gave (within_limit Exponent (unsigned_abs c) c) (λ c1. find_constant base then (λ f. where_some f (power_made at c)))
    (Some f) e in
    let b = then_gave (find_constant base) (λ f. where_some f (power_made at c)) (Some f) g.second in
    some_power at base c b.value f other b.first b.second h

whole_given : (q : Meaning) (c : Option ℤ) (f : Fraction) → fraction_of_whole c ≡ Some f → constant_in_k (items q) ≡ c
    → (value : ℤ → Point → Fraction) → ((w : ℤ) (p : Point) → value w p ≅ whole_power (of_whole (poly_value q p)) w) → IsConstant f value
whole_given q None f e constant value h = absurd (none-some f e)
whole_given q (Some z) f e constant value h = subst (λ f. IsConstant f value) (same_Some (of_whole z) f e) (record {
  defined = one_not_zero;
  power = λ w p. same_chain (h w p) (same (ap (λ z. whole_power (of_whole z) w) (constant_value p q z constant)));
})

-- by its polynomial, or else by its other cases
pub constant_or : (at : ℕ) (node : Node) (p : Option Meaning) (f : Fraction) → node_polynomial node ≡ p
    → (elim p as (λ _. TermSteps (Option Fraction)) [
      | Some q ↦ gives (fraction_of_whole (constant_in_k (items q)))
      | None ↦ find_node_constant at node
    ]).outcome ≡ Ok (Some f)
    → ((find_node_constant at node).outcome ≡ Ok (Some f) → IsConstant f (node_value node)) → IsConstant f (node_value node)
constant_or at node None f is e h = h e
constant_or at node (Some q) f is e h =
    whole_given q (constant_in_k (items q)) f (same_Ok (fraction_of_whole (constant_in_k (items q))) (Some f) e) refl (node_value node)
    (node_has node q is)
