-- The values of sums, products and powers of polynomials of a tree.
use Rattle.std.proofs.Common.{◌≡◌, ℕ, zero, suc, refl, ap, sym, ◌∙◌, [], ◌∷◌, Bool, true, false, Option, Some, None, subst}
use Rattle.std.proofs.lemmas.Bool.{cond_both, eqb-true}
use Rattle.std.proofs.lemmas.Option.{same_Some, none-some}
use lib.IntN.{*ℤ_comm}
use Rattle.std.specs.Prelude.{ℤ, pos, negsuc, ◌+ℤ◌, ◌*ℤ◌, neg_ℤ, unsigned_abs, if◌then◌else◌, nat_eq, nat_lt}
use Rattle.ring_solver.proofs.Read.{ring_z, reading_z}
use Rattle.ring_laws.specs.Meaning.{Meaning}
use Rattle.poly_laws.specs.Values.{KeepsOps}
use Rattle.poly_laws.specs.TwoVariables.{in_n_and_k, poly_n, poly_k, poly_power}
use Rattle.poly_laws.proofs.Keeps.{value_at_keeps}
use Rattle.hypergeometric.specs.Point.{Point, values}
use Rattle.hypergeometric.specs.Fraction.{Fraction, of_whole, fraction_sum, fraction_negative, fraction_product, natural_power, whole_power}
use Rattle.hypergeometric.specs.ProperTerm.{poly_value}
use Rattle.hypergeometric.proofs.PlainTerms.{whole_power_of_one}
use Rattle.hypergeometric.proofs.SameValues.{◌≅◌, same, same_itself, same_chain, same_products, same_negatives}
use Rattle.hypergeometric.proofs.FractionPowers.{product_one, whole_power_of_product, natural_then_whole}
use Rattle.grammar.specs.Tree.{Tree, Node}
use Rattle.term_classes.specs.TreePolynomial.{combined, signed_poly, raised}
use Rattle.term_classes.specs.TreeValue.{tree_value, node_value, signed_value}

-- the values of the operations
module _ (p : Point) where
  pub keeps : KeepsOps in_n_and_k (λ poly. poly_value poly p)
  keeps = value_at_keeps (values p)

  pub value_of_power : (poly : Meaning) (e : ℕ) → of_whole (poly_value (poly_power poly e) p) ≡ natural_power (of_whole (poly_value poly p)) e
  value_of_power poly zero = ap of_whole keeps.unit
  value_of_power poly (suc e) =
      ap of_whole (keeps.product poly (poly_power poly e)) ∙ ap (fraction_product (of_whole (poly_value poly p))) (value_of_power poly e)

  pub whole_sum : (a b : ℤ) → fraction_sum (of_whole a) (of_whole b) ≡ of_whole (a +ℤ b)
  whole_sum a b = ap of_whole (ring_z (a ∷ b ∷ []) (search reading_z depth 40 fits 20000) refl)

  first_power : (z : ℤ) → whole_power (of_whole z) (pos 1) ≡ of_whole z
  first_power z = product_one (of_whole z)

  pub variable_n_value : poly_value poly_n p ≡ p.n
  variable_n_value = ring_z (p.n ∷ p.k ∷ []) (search reading_z depth 40 fits 20000) refl

  pub variable_k_value : poly_value poly_k p ≡ p.k
  variable_k_value = ring_z (p.n ∷ p.k ∷ []) (search reading_z depth 40 fits 20000) refl

-- the tree to any whole power has the value of the polynomial to that power
abbrev pub IsPower : Meaning → Tree → Type 0
IsPower poly t = (w : ℤ) (p : Point) → tree_value t w p ≅ whole_power (of_whole (poly_value poly p)) w

abbrev pub NodeIsPower : Meaning → Node → Type 0
NodeIsPower poly node = (w : ℤ) (p : Point) → node_value node w p ≅ whole_power (of_whole (poly_value poly p)) w

-- what follows from both, where there are both
pub from_combined : (P Q R : Meaning → Type 0) (op : Meaning → Meaning → Meaning) (a b : Option Meaning) (p : Meaning) → combined op a b ≡ Some p
    → ((x : Meaning) → a ≡ Some x → P x) → ((y : Meaning) → b ≡ Some y → Q y) → ((x y : Meaning) → P x → Q y → R (op x y)) → R p
from_combined P Q R op (Some x) (Some y) p e f g h = subst R (same_Some (op x y) p e) (h x y (f x refl) (g y refl))
from_combined P Q R op (Some x) None p e f g h = absurd (none-some p e)
from_combined P Q R op None b p e f g h = absurd (none-some p e)

negative_value : (y : Meaning) (p : Point) → fraction_negative (of_whole (poly_value y p)) ≡ of_whole (poly_value (in_n_and_k.neg y) p)
negative_value y p = ap of_whole (sym ((keeps p).neg y))

-- a summand with its sign
pub signed_has : (turned : Bool) (a : Option Meaning) (t : Tree) (x : Meaning) → signed_poly turned a ≡ Some x
    → ((y : Meaning) → a ≡ Some y → IsPower y t)
    → (p : Point) → signed_value turned (tree_value t (pos 1) p) ≅ of_whole (poly_value x p)
signed_has turned None t x e h p = absurd (none-some x e)
signed_has false (Some y) t x e h p =
    same_chain (h y refl (pos 1) p) (same (first_power p (poly_value y p) ∙ ap (λ q. of_whole (poly_value q p)) (same_Some y x e)))
signed_has true (Some y) t x e h p =
    same_chain (same_negatives (same_chain (h y refl (pos 1) p) (same (first_power p (poly_value y p)))))
    (same (negative_value y p ∙ ap (λ q. of_whole (poly_value q p)) (same_Some (in_n_and_k.neg y) x e)))

minus_once : (v : ℤ) → negsuc 0 *ℤ v ≡ neg_ℤ v +ℤ pos 0
minus_once v = ring_z (v ∷ []) (search reading_z depth 40 fits 20000) refl

-- a sum of one turned part
pub turned_has : (a : Option Meaning) (t : Tree) (poly : Meaning) → combined in_n_and_k.sum (signed_poly true a) (Some in_n_and_k.nought) ≡ Some poly
    → ((y : Meaning) → a ≡ Some y → IsPower y t)
    → (w : ℤ) (p : Point) → fraction_product (whole_power (of_whole (negsuc 0)) w) (tree_value t w p) ≅ whole_power (of_whole (poly_value poly p)) w
turned_has None t poly e h w p = absurd (none-some poly e)
turned_has (Some y) t poly e h w p =
    same_chain (same_products (same_itself (whole_power (of_whole (negsuc 0)) w)) (h y refl w p))
    (same (sym (whole_power_of_product (of_whole (negsuc 0)) (of_whole (poly_value y p)) w)
    ∙ ap (λ z. whole_power (of_whole z) w) (minus_once (poly_value y p) ∙ ap (λ z. z +ℤ pos 0) (sym ((keeps p).neg y))
    ∙ sym ((keeps p).sum (in_n_and_k.neg y) in_n_and_k.nought))
    ∙ ap (λ q. whole_power (of_whole (poly_value q p)) w) (same_Some (in_n_and_k.sum (in_n_and_k.neg y) in_n_and_k.nought) poly e)))

-- a base to a constant exponent, and something else where the exponent is no constant
abbrev pub power_value : Tree → Option ℤ → ℤ → Point → Fraction → Fraction
power_value base c w p other = elim c as (λ _. Fraction) [
  | Some c ↦ if nat_eq (unsigned_abs c) 0 then of_whole (pos 1) else tree_value base (w *ℤ c) p
  | None ↦ other
]

natural_exponent : (base : Tree) (y : Meaning) (c : ℕ) → IsPower y base
    → (w : ℤ) (p : Point) → (if nat_eq c 0 then of_whole (pos 1) else tree_value base (w *ℤ pos c) p)
    ≅ whole_power (of_whole (poly_value (poly_power y c) p)) w
natural_exponent base y c h w p =
    cond_both (nat_eq c 0) (of_whole (pos 1)) (tree_value base (w *ℤ pos c) p) (λ v. v ≅ whole_power (of_whole (poly_value (poly_power y c) p)) w)
    (λ e. same (sym (whole_power_of_one w) ∙ ap (λ z. whole_power (of_whole z) w) (sym (keeps p).unit)
    ∙ ap (λ c. whole_power (of_whole (poly_value (poly_power y c) p)) w) (sym (eqb-true c 0 e))))
    (λ e. same_chain (h (w *ℤ pos c) p) (same (ap (whole_power (of_whole (poly_value y p))) (*ℤ_comm w (pos c))
    ∙ sym (natural_then_whole (of_whole (poly_value y p)) c w) ∙ ap (λ f. whole_power f w) (sym (value_of_power p y c)))))

pub unless : (b : Bool) (x p : Meaning) → (if b then None else Some x) ≡ Some p → x ≡ p
unless true x p e = absurd (none-some p e)
unless false x p e = same_Some x p e

pub raised_has : (base : Tree) (a : Option Meaning) (c : Option ℤ) (poly : Meaning) → raised a c ≡ Some poly → ((y : Meaning) → a ≡ Some y → IsPower y base)
    → (w : ℤ) (p : Point) (other : Fraction) → power_value base c w p other ≅ whole_power (of_whole (poly_value poly p)) w
raised_has base None c poly e h w p other = absurd (none-some poly e)
raised_has base (Some y) None poly e h w p other = absurd (none-some poly e)
raised_has base (Some y) (Some (negsuc c)) poly e h w p other = absurd (none-some poly e)
raised_has base (Some y) (Some (pos c)) poly e h w p other =
    same_chain (natural_exponent base y c (h y refl) w p)
    (same (ap (λ q. whole_power (of_whole (poly_value q p)) w) (unless (nat_lt 12 c) (poly_power y c) poly e)))
