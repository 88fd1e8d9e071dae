-- The class of a tree has its tree's value, and the class of a quotient that of the quotient.
use Rattle.std.proofs.Common.{◌≡◌, ap, ◌∙◌, [], ◌∷◌, arith, subst}
use Rattle.std.specs.Prelude.{ℤ, pos, negsuc, ◌*ℤ◌, Ok}
use Rattle.poly_laws.specs.TwoVariables.{in_n_and_k}
use Rattle.poly_laws.proofs.Keeps.{value_at_keeps}
use Rattle.steps.specs.Steps.{gives, ◌then◌}
use Rattle.steps.proofs.StepLaws.{then_gave, same_Ok}
use Rattle.hypergeometric.specs.Point.{Point, values}
use Rattle.hypergeometric.specs.Fraction.{Fraction, of_whole, fraction_product}
use Rattle.hypergeometric.specs.ProperTerm.{ProperTerm, proper_value, HasFractions}
use Rattle.hypergeometric.specs.TermValue.{HasValue}
use Rattle.hypergeometric.proofs.FractionLaws.{one_not_zero, equal_chain}
use Rattle.hypergeometric.proofs.PlainTerms.{plain_value}
use Rattle.hypergeometric.proofs.SameValues.{◌≅◌, same, same_chain, same_defined, same_equal}
use Rattle.hypergeometric.proofs.FractionPowers.{one_product}
use Rattle.grammar.specs.Tree.{Tree}
use Rattle.term_classes.specs.TreeValue.{tree_value, term_value}
use Rattle.term_classes.specs.Walk.{unit_term, walk, cancelled, class_of, class_of_quotient}
use Rattle.term_classes.specs.ClassValues.{quotient_value}
use Rattle.term_classes.proofs.TermProducts.{IsTimes, times_both}
use Rattle.term_classes.proofs.WalkValues.{walk_multiplies, minus_one_not_zero}
use Rattle.term_classes.proofs.WalkKeeps.{walk_keeps}
use Rattle.term_classes.proofs.GatheredLists.{HasLists, lists_keep, list_some}
use Rattle.term_classes.proofs.CancelledValues.{cancelled_has}

unit_fractions : HasFractions unit_term
unit_fractions = record {
  scale = record { top = one_not_zero; bottom = one_not_zero };
  n_base = record { top = one_not_zero; bottom = one_not_zero };
  k_base = record { top = one_not_zero; bottom = one_not_zero };
}

unit_value : (p : Point) → proper_value unit_term p ≡ of_whole (pos 1)
unit_value p = plain_value (pos 1) in_n_and_k.unit p ∙ ap (λ z. of_whole (pos 1 *ℤ z)) ((value_at_keeps (values p)).unit)

pub unit_lists : HasLists unit_term
unit_lists = record {
  up = record { factors = record { each = tt; distinct = tt }; limits = tt };
  down = record { factors = record { each = tt; distinct = tt }; limits = tt };
  over = record { factors = record { each = tt; distinct = tt }; limits = tt };
  few = omega arith;
}

-- a term whose value is multiplied from 1
from_unit : (s : ProperTerm) (v : Point → Fraction) → IsTimes unit_term s v → (p : Point) → proper_value s p ≅ v p
from_unit s v h p = same_chain (h.value p) (same (ap (λ f. fraction_product f (v p)) (unit_value p) ∙ one_product (v p)))

-- the cancelled term has the value that was gathered
cancelled_value : (s : ProperTerm) (v : Point → Fraction) → IsTimes unit_term s v → HasLists s → HasValue (cancelled s) v
cancelled_value s v h lists =
    let c = cancelled_has s (record {
      fractions = h.fractions;
      up = lists.up.factors.distinct;
      down = lists.down.factors.distinct;
      up_some = list_some s.up lists.up;
      over_some = list_some s.over lists.over;
    }) in
    record {
      defined = λ p. (
        λ d. (same_defined (from_unit s v h p)).0 ((c.defined p).0 d),
        λ d. (c.defined p).1
            ((same_defined (from_unit s v h p)).1 d),
      );
      equal = λ p d. equal_chain (c.equal p d) (same_equal (from_unit s v h p) ((c.defined p).0 d));
    }

pub class_has_the_value : (t : Tree) (f : ProperTerm) → (class_of t).outcome ≡ Ok f → HasValue f (term_value t)
class_has_the_value t f e =
    let g = then_gave (walk t (pos 1) unit_term) (λ f. gives (cancelled f)) f e in
    subst (λ f. HasValue f (term_value t)) (same_Ok (cancelled g.value) f g.second)
    (cancelled_value g.value (tree_value t (pos 1)) (walk_multiplies t (pos 1) unit_term g.value unit_fractions g.first)
    (walk_keeps HasLists lists_keep t (pos 1) unit_term g.value one_not_zero unit_lists g.first))

pub class_of_quotient_has_the_value : (a b : Tree) (f : ProperTerm) → (class_of_quotient a b).outcome ≡ Ok f → HasValue f (quotient_value a b)
class_of_quotient_has_the_value a b f e =
    let g = then_gave (walk a (pos 1) unit_term) (λ f. walk b (negsuc 0) f then (λ g. gives (cancelled g))) f e in
    let h = then_gave (walk b (negsuc 0) g.value) (λ g. gives (cancelled g)) f g.second in
    let p = walk_multiplies a (pos 1) unit_term g.value unit_fractions g.first in
    subst (λ f. HasValue f (quotient_value a b)) (same_Ok (cancelled h.value) f h.second)
    (cancelled_value h.value (quotient_value a b)
    (times_both unit_term g.value h.value (tree_value a (pos 1)) (tree_value b (negsuc 0)) p
    (walk_multiplies b (negsuc 0) g.value h.value p.fractions h.first))
    (walk_keeps HasLists lists_keep b (negsuc 0) g.value h.value minus_one_not_zero
    (walk_keeps HasLists lists_keep a (pos 1) unit_term g.value one_not_zero unit_lists g.first) h.first))
