-- The polynomials of trees belong to the polynomials in k over those in n, and their products and powers aren't 0 where none of them is.
use Rattle.std.proofs.Common.{◌≡◌, ◌≢◌, ℕ, zero, suc, refl, Bool, true, false, Option, Some, None, subst, ⊎_elim}
use Rattle.std.proofs.lemmas.Option.{same_Some, none-some}
use Rattle.std.specs.Prelude.{ℤ, pos, negsuc, IsTrue, nat_lt}
use Rattle.ring_laws.specs.Meaning.{Meaning}
use Rattle.ring_laws.specs.Algebra.{Closed}
use Rattle.ring_laws.specs.Division.{DomainLaws}
use Rattle.ring_laws.specs.WholeDomain.{whole_domain}
use Rattle.poly_laws.specs.Values.{level}
use Rattle.poly_laws.specs.TwoVariables.{in_n_and_k, poly_n, poly_k, poly_power}
use Rattle.poly_laws.proofs.Equal.{level_laws}
use Rattle.poly_laws.proofs.PolyDomain.{poly_domain}
use Rattle.grammar.specs.Tree.{Tree, tree, Node, literal, variable_n, variable_k, sum_of, product_of, power_of, factorial_of, binomial_of, Parts, no_parts, part}
use Rattle.term_classes.specs.TreePolynomial.{signed_poly, raised, tree_polynomial, node_polynomial, sum_polynomial, product_polynomial, constant_exponent}
use Rattle.term_classes.proofs.PolynomialParts.{from_combined, unless}

-- it belongs to the polynomials
abbrev pub Belongs : Meaning → Type 0
Belongs p = IsTrue ((level 2).passes p)

closed : Closed (level 2)
closed = (level_laws 2).closed

pub power_belongs : (p : Meaning) (e : ℕ) → Belongs p → Belongs (poly_power p e)
power_belongs p zero h = closed.unit
power_belongs p (suc e) h = closed.product (p, h) (poly_power p e, power_belongs p e h)

pub product_belongs : (p q : Meaning) → Belongs p → Belongs q → Belongs (in_n_and_k.product p q)
product_belongs p q g h = closed.product (p, g) (q, h)

domain : DomainLaws (level 2)
domain = poly_domain (level 1) (level_laws 1) (poly_domain (level 0) (level_laws 0) whole_domain)

-- a product of polynomials other than 0 isn't 0
pub product_not_nought : (p q : Meaning) → Belongs p → Belongs q → p ≢ in_n_and_k.nought → q ≢ in_n_and_k.nought
    → in_n_and_k.product p q ≢ in_n_and_k.nought
product_not_nought p q g h m n e = ⊎_elim m n (domain.no_divisors (p, g) (q, h) e)

pub unit_belongs : Belongs in_n_and_k.unit
unit_belongs = closed.unit

pub unit_not_nought : in_n_and_k.unit ≢ in_n_and_k.nought
unit_not_nought e = cc

pub power_not_nought : (p : Meaning) (e : ℕ) → Belongs p → p ≢ in_n_and_k.nought → poly_power p e ≢ in_n_and_k.nought
power_not_nought p zero h n = unit_not_nought
power_not_nought p (suc e) h n = product_not_nought p (poly_power p e) h (power_belongs p e h) n (power_not_nought p e h n)

signed_belongs : (turned : Bool) (a : Option Meaning) (x : Meaning) → signed_poly turned a ≡ Some x → ((y : Meaning) → a ≡ Some y → Belongs y)
    → Belongs x
signed_belongs turned None x e h = absurd (none-some x e)
signed_belongs false (Some y) x e h = subst Belongs (same_Some y x e) (h y refl)
signed_belongs true (Some y) x e h = subst Belongs (same_Some (in_n_and_k.neg y) x e) (closed.neg (y, h y refl))

raised_belongs : (a : Option Meaning) (c : Option ℤ) (p : Meaning) → raised a c ≡ Some p → ((y : Meaning) → a ≡ Some y → Belongs y) → Belongs p
raised_belongs None c p e h = absurd (none-some p e)
raised_belongs (Some y) None p e h = absurd (none-some p e)
raised_belongs (Some y) (Some (negsuc c)) p e h = absurd (none-some p e)
raised_belongs (Some y) (Some (pos c)) p e h = subst Belongs (unless (nat_lt 12 c) (poly_power y c) p e) (power_belongs y c (h y refl))

mutual
  pub tree_belongs : (t : Tree) (p : Meaning) → tree_polynomial t ≡ Some p → Belongs p
  tree_belongs (tree at node) p e = node_belongs node p e

  pub node_belongs : (node : Node) (p : Meaning) → node_polynomial node ≡ Some p → Belongs p
  node_belongs (literal c) p e = subst Belongs (same_Some (in_n_and_k.whole c) p e) (closed.whole c)
  node_belongs variable_n p e = subst Belongs (same_Some poly_n p e) refl
  node_belongs variable_k p e = subst Belongs (same_Some poly_k p e) refl
  node_belongs (sum_of parts) p e = sum_belongs parts p e
  node_belongs (product_of parts) p e = factors_belong parts p e
  node_belongs (power_of base exponent) p e = raised_belongs (tree_polynomial base) (constant_exponent exponent) p e (tree_belongs base)
  node_belongs (factorial_of t) p e = absurd (none-some p e)
  node_belongs (binomial_of l m) p e = absurd (none-some p e)

  sum_belongs : (parts : Parts) (p : Meaning) → sum_polynomial parts ≡ Some p → Belongs p
  sum_belongs no_parts p e = subst Belongs (same_Some in_n_and_k.nought p e) closed.nought
  sum_belongs (part turned t parts) p e =
      from_combined Belongs Belongs Belongs in_n_and_k.sum (signed_poly turned (tree_polynomial t)) (sum_polynomial parts) p e
      (λ x f. signed_belongs turned (tree_polynomial t) x f (tree_belongs t)) (λ y f. sum_belongs parts y f) (λ x y f g. closed.sum (x, f) (y, g))

  factors_belong : (parts : Parts) (p : Meaning) → product_polynomial parts ≡ Some p → Belongs p
  factors_belong no_parts p e = subst Belongs (same_Some in_n_and_k.unit p e) closed.unit
  factors_belong (part true t parts) p e = absurd (none-some p e)
  factors_belong (part false t parts) p e =
      from_combined Belongs Belongs Belongs in_n_and_k.product (tree_polynomial t) (product_polynomial parts) p e
      (λ x f. tree_belongs t x f) (λ y f. factors_belong parts y f) (λ x y f g. product_belongs x y f g)
