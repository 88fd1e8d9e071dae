-- The pieces of a term F at an order J (A=B chapter 6, in a form without poles). Where F(n,k), .., F(n+J,k) are defined, there is one H with
--   F(n+j,k) = p_j H,  H(n,k+1) / H(n,k) = q0(k) / r0(k),  and the carrier K(n,k) = r0(k-1) H(n,k).
use Rattle.std.specs.Prelude.{◌≡◌, ℕ, zero, suc, ◌-◌, ◌≤◌, ℤ, pos, ◌*ℤ◌, neg_ℤ, List, [], ◌∷◌, ◌++◌, map, length}
use lib.IntN.{pow}
use Rattle.ring_laws.specs.Meaning.{Meaning, items, listed}
use Rattle.poly_laws.specs.Lists.{trimmed}
use Rattle.poly_laws.specs.Shift.{poly_shift}
use Rattle.poly_laws.specs.Values.{level}
use Rattle.hypergeometric.specs.LinearForm.{Factor, FactorList}
use Rattle.hypergeometric.specs.ProperTerm.{ProperTerm}
use Rattle.hypergeometric.specs.FactorLists.{factor_with, with_factor}
use Rattle.hypergeometric.specs.Divisors.{lowest_terms}
use Rattle.term_pieces.specs.Products.{form_plus, IsProductOf}
use Rattle.term_pieces.specs.ItemForms.{negative_part, positive_part, least_of, greatest_of, from_each, counted_but, above_least, below_greatest, rising_up, falling_up, rising_down, falling_down, cleared_over, later_over, kept_over}

-- the product of a polynomial and of forms
pub record Top : Type 0 where
  pub poly : Meaning
  pub factors : FactorList

-- p_0, p_1, .., the quotient q0/r0 and the carrier K
pub record Pieces : Type 0 where
  pub tops : List Top
  pub q0 : FactorList
  pub r0 : FactorList
  pub carrier : ProperTerm

-- the product 0, which stands for what a list doesn't have
abbrev pub no_top : Top
no_top = record { poly = (level 2).ops.nought; factors = record { scale = pos 1; factors = [] } }

-- the top at a place of a list, counted from 0, and the product 0 behind its end
abbrev pub top_in : List Top → ℕ → Top
top_in [] j = no_top
top_in (t ∷ ts) zero = t
top_in (t ∷ ts) (suc j) = top_in ts j

-- p_j
abbrev pub top_at : Pieces → ℕ → Top
top_at pieces j = top_in pieces.tops j

-- the forms of p_j
abbrev pub top_forms : ProperTerm → ℕ → ℕ → List Factor
top_forms f order j = from_each (above_least order j) f.up ++ (from_each (below_greatest order j) f.down ++ from_each (counted_but order j) f.over)

-- the forms of q0
abbrev pub q_forms : ProperTerm → ℕ → List Factor
q_forms f order = from_each (rising_up order) f.up ++ (from_each (falling_down order) f.down ++ from_each (cleared_over order) f.over)

-- the forms of r0
abbrev pub r_forms : ProperTerm → ℕ → List Factor
r_forms f order = from_each (falling_up order) f.up ++ (from_each (rising_down order) f.down ++ from_each (later_over order) f.over)

-- the numbers of p_j: the base of n is xu/xv, and H has xv to the power -J
abbrev pub top_number : ProperTerm → ℕ → ℕ → ℤ
top_number f order j = pow f.n_base.top j *ℤ pow f.n_base.bottom (order - j)

-- the polynomial at n + j
abbrev pub poly_at_later_n : Meaning → ℕ → Meaning
poly_at_later_n p j = listed (trimmed (level 1).ops (map (poly_shift (level 0).ops (pos j)) (items p)))

-- the factorials of K above, in the order of the term's list
abbrev pub carrier_up : ℕ → List Factor → List Factor
carrier_up order xs = map (λ x. factor_with (form_plus (least_of order x.form) (neg_ℤ (negative_part x.form.k_slope))) x.power) xs

-- the factorials of K below
abbrev pub carrier_down : ℕ → List Factor → List Factor
carrier_down order xs = map (λ x. factor_with (form_plus (greatest_of order x.form) (neg_ℤ (positive_part x.form.k_slope))) x.power) xs

-- each form once, with the sum of its powers
abbrev pub gathered_forms : List Factor → List Factor → List Factor
gathered_forms done [] = done
gathered_forms done (x ∷ xs) = gathered_forms (with_factor x.form x.power done) xs

-- the carrier K: r0(k-1) H with factorials in the place of products
abbrev pub carrier_of : ProperTerm → ℕ → ProperTerm
carrier_of f order = record {
  poly = (level 2).ops.unit;
  scale = lowest_terms (record {
    top = f.scale.top *ℤ f.k_base.bottom;
    bottom = f.scale.bottom *ℤ pow f.n_base.bottom order;
  });
  n_base = f.n_base;
  k_base = f.k_base;
  up = carrier_up order f.up;
  down = carrier_down order f.down;
  over = gathered_forms [] (from_each (kept_over order) f.over);
  guard = [];
}

-- the pieces of a term at an order J: p_0 to p_J, q0, r0 and K
pub record ArePiecesOf (pieces : Pieces) (f : ProperTerm) (order : ℕ) : Type 0 where
  pub count : length pieces.tops ≡ suc order
  pub poly : (j : ℕ) → j ≤ order → (top_at pieces j).poly ≡ poly_at_later_n f.poly j
  pub factors : (j : ℕ) → j ≤ order → IsProductOf (top_at pieces j).factors (top_number f order j) (top_forms f order j)
  pub q0 : IsProductOf pieces.q0 f.k_base.top (q_forms f order)
  pub r0 : IsProductOf pieces.r0 f.k_base.bottom (r_forms f order)
  pub carrier : pieces.carrier ≡ carrier_of f order
