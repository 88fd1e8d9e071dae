-- The class of a tree: the proper term that it stands for, or the first refusal of a walk over it (A=B 4.4). The walk takes a tree to a
-- whole power other than 0 and multiplies what it has gathered by it, so that a term with a negative power is divided by.
use Rattle.std.specs.Prelude.{ℕ, suc, ◌+◌, ◌*◌, true, if◌then◌else◌, ℤ, pos, negsuc, ◌*ℤ◌, neg_ℤ, unsigned_abs, int_lt, List, Option, Some, None}
use Rattle.ring_laws.specs.Meaning.{Meaning, items}
use Rattle.poly_laws.specs.TwoVariables.{in_n_and_k, poly_power, constant_in_k}
use Rattle.steps.specs.Operations.{of_number, of_polynomial, of_fraction}
use Rattle.steps.specs.Steps.{gives, makes, refuses, within_limit, ◌then◌}
use Rattle.steps.specs.TermFaults.{improper, TermSteps}
use Rattle.steps.specs.declared.limits.LimitName.TheVariants.{Factors, Exponent}
use Rattle.hypergeometric.specs.Fraction.{Fraction, of_whole, fraction_product}
use Rattle.hypergeometric.specs.LinearForm.{LinearForm, Factor}
use Rattle.hypergeometric.specs.ProperTerm.{ProperTerm}
use Rattle.hypergeometric.specs.TermFacts.{total_power}
use Rattle.hypergeometric.specs.PlainTerm.{plain_term}
use Rattle.hypergeometric.specs.FactorLists as lists
use Rattle.hypergeometric.specs.Divisors.{lowest_terms, raised_fraction, size_of_top, size_of_bottom}
use Rattle.hypergeometric.specs.PrimitiveForm.{is_zero, is_negative_constant, content_of_form, primitive_form}
use Rattle.hypergeometric.specs.Forms.{form_difference, difference_size}
use Rattle.hypergeometric.specs.FactorLists.{in_both, without}
use Rattle.grammar.specs.Tree.{Tree, tree, Node, sum_of, product_of, power_of, factorial_of, binomial_of, Parts, no_parts, part}
use Rattle.term_classes.specs.TreePolynomial.{constant_of}
use Rattle.term_classes.specs.TreeValue.{part_power}
use Rattle.term_classes.specs.Forms.{linear_form_of, limited_form, limited_exponent}
use Rattle.term_classes.specs.Finding.{find_polynomial, find_node_polynomial, find_constant, size_raised}

-- the term 1
abbrev pub unit_term : ProperTerm
unit_term = plain_term (pos 1) in_n_and_k.unit

-- the place in the text of the node of a tree
abbrev pub place_of : Tree → ℕ
place_of (tree at node) = at

-- the term with another polynomial
abbrev pub with_poly : Meaning → ProperTerm → ProperTerm
with_poly p f = record { poly = p; scale = f.scale; n_base = f.n_base; k_base = f.k_base; up = f.up; down = f.down; over = f.over; guard = f.guard }

-- the term with another scale
abbrev pub with_scale : Fraction → ProperTerm → ProperTerm
with_scale s f = record { poly = f.poly; scale = s; n_base = f.n_base; k_base = f.k_base; up = f.up; down = f.down; over = f.over; guard = f.guard }

-- the term with another base for the exponent n
abbrev pub with_n_base : Fraction → ProperTerm → ProperTerm
with_n_base b f = record { poly = f.poly; scale = f.scale; n_base = b; k_base = f.k_base; up = f.up; down = f.down; over = f.over; guard = f.guard }

-- the term with another base for the exponent k
abbrev pub with_k_base : Fraction → ProperTerm → ProperTerm
with_k_base b f = record { poly = f.poly; scale = f.scale; n_base = f.n_base; k_base = b; up = f.up; down = f.down; over = f.over; guard = f.guard }

-- the term with other lists, in the order up, down, over, guard
abbrev pub with_lists : List Factor → List Factor → List Factor → List Factor → ProperTerm → ProperTerm
with_lists u d o g f = record { poly = f.poly; scale = f.scale; n_base = f.n_base; k_base = f.k_base; up = u; down = d; over = o; guard = g }

-- a fraction times g to a whole power, in lowest terms, as the operation of the node at a place
abbrev pub times_power : ℕ → Fraction → Fraction → ℤ → TermSteps Fraction
times_power at f g w = makes at
    (of_fraction (size_of_top f * size_of_top (raised_fraction g w)) (size_of_bottom f * size_of_bottom (raised_fraction g w)))
    (lowest_terms (fraction_product f (raised_fraction g w)))

-- at most 24 factorials and denominators, by their powers, before cancelling
abbrev pub few_factors : ProperTerm → TermSteps ProperTerm
few_factors f = within_limit Factors (total_power f.up + total_power f.down + total_power f.over) f

-- the factorial of a form to the power w: above where w is positive, and else below
abbrev pub with_factorial : LinearForm → ℤ → ProperTerm → TermSteps ProperTerm
with_factorial a (pos w) f = few_factors (with_lists (lists.with_factor a w f.up) f.down f.over f.guard f)
with_factorial a (negsuc w) f = few_factors (with_lists f.up (lists.with_factor a (suc w) f.down) f.over f.guard f)

-- one over the form to a power: its primitive part goes to the denominators, and what it was multiplied by to the scale
abbrev pub with_denominator : ℕ → LinearForm → ℕ → ProperTerm → TermSteps ProperTerm
with_denominator at l w f = few_factors (with_lists f.up f.down (lists.with_factor (primitive_form l) w f.over) f.guard f) then (λ g.
    times_power at g.scale (of_whole (content_of_form l)) (neg_ℤ (pos w)) then (λ s. gives (with_scale s g)))

-- the term times a number to the power w
abbrev pub times_number : ℕ → ℤ → ℤ → ProperTerm → TermSteps ProperTerm
times_number at z w f =
    if is_zero z then refuses (improper (if int_lt w (pos 0) then 3 else 7) at)
    else (times_power at f.scale (of_whole z) w then (λ s. gives (with_scale s f)))

-- the term times a polynomial that is no number, to the power w
abbrev pub times_polynomial : ℕ → Meaning → ℤ → ProperTerm → TermSteps ProperTerm
times_polynomial at p (pos w) f = makes at (of_polynomial (in_n_and_k.product (in_n_and_k.magnitude f.poly) (size_raised p w)))
    (with_poly (in_n_and_k.product f.poly (poly_power p w)) f)
times_polynomial at p (negsuc w) f = elim (linear_form_of (Some p)) as (λ _. TermSteps ProperTerm) [
  | None ↦ refuses (improper 3 at)
  | Some l ↦ limited_form l then (λ l1. with_denominator at l (suc w) f)
]

-- a literal, n, k or a sum, to the power w
abbrev pub times_found : ℕ → ℤ → ProperTerm → Option Meaning → TermSteps ProperTerm
times_found at w f None = refuses (improper 6 at)
times_found at w f (Some p) = elim (constant_in_k (items p)) as (λ _. TermSteps ProperTerm) [
  | Some z ↦ times_number at z w f
  | None ↦ times_polynomial at p w f
]

-- the linear form that a tree stands for, and the reason's refusal at the tree where it stands for none
abbrev pub form_or_refused : ℕ → Tree → Option LinearForm → TermSteps LinearForm
form_or_refused reason t None = refuses (improper reason (place_of t))
form_or_refused reason t (Some l) = gives l

-- the linear form of an argument of factorials, which is refused for reason 1 where it is none
abbrev pub find_argument : Tree → TermSteps LinearForm
find_argument t = find_polynomial t then (λ p. form_or_refused 1 t (linear_form_of p))

-- an argument that is a negative constant is refused
abbrev pub not_negative : ℕ → LinearForm → TermSteps LinearForm
not_negative at l = if is_negative_constant l then refuses (improper 2 at) else gives l

-- the bases and the scale times the base to the power w * exponent
abbrev pub times_exponential : ℕ → Fraction → LinearForm → ℤ → ProperTerm → TermSteps ProperTerm
times_exponential at base e w f =
    times_power at f.n_base base (w *ℤ e.n_slope) then (λ b.
    times_power at f.k_base base (w *ℤ e.k_slope) then (λ c.
    times_power at f.scale base (w *ℤ e.offset) then (λ s. gives (with_n_base b (with_k_base c (with_scale s f))))))

-- a base that has no constant, or 0, is refused
abbrev pub base_or_refused : ℕ → Option Fraction → TermSteps Fraction
base_or_refused at None = refuses (improper 4 at)
base_or_refused at (Some b) = if is_zero b.top then refuses (improper 4 at) else gives b

-- The binomial coefficient of L and M is L! / (M! * (L - M)!).
abbrev pub times_binomial : ℕ → Tree → Tree → ℤ → ProperTerm → TermSteps ProperTerm
times_binomial at upper lower w f =
    find_argument upper then (λ l. find_argument lower then (λ m.
    not_negative (place_of upper) l then (λ l1. not_negative (place_of lower) m then (λ m1.
    makes at (of_number (difference_size l m)) (form_difference l m) then (λ d. not_negative at d then (λ d1.
    limited_form l then (λ l2. limited_form m then (λ m2. limited_form d then (λ d2.
    with_factorial l w f then (λ g. with_factorial m (neg_ℤ w) g then (λ h. with_factorial d (neg_ℤ w) h)))))))))))

abbrev mutual
  pub walk : Tree → ℤ → ProperTerm → TermSteps ProperTerm
  walk (tree at node) w f = walk_node at node w f

  pub walk_node : ℕ → Node → ℤ → ProperTerm → TermSteps ProperTerm
  walk_node at (product_of parts) w f = walk_parts parts w f
  walk_node at (sum_of (part true t no_parts)) w f =
      walk t w (with_scale (lowest_terms (fraction_product f.scale (raised_fraction (of_whole (negsuc 0)) w))) f)
  walk_node at (power_of base e) w f = find_polynomial e then (λ p. elim (constant_of p) as (λ _. TermSteps ProperTerm) [
    | Some c ↦ within_limit Exponent (unsigned_abs (w *ℤ c)) c then (λ c1. if is_zero c then gives f else walk base (w *ℤ c) f)
    | None ↦ find_constant base then (λ b. base_or_refused at b then (λ b1. form_or_refused 5 e (linear_form_of p) then (λ l.
        limited_exponent l then (λ l1. times_exponential at b1 l w f))))
  ])
  walk_node at (factorial_of t) w f = find_argument t then (λ l. not_negative (place_of t) l then (λ l1.
      limited_form l then (λ l2. with_factorial l w f)))
  walk_node at (binomial_of upper lower) w f = times_binomial at upper lower w f
  walk_node at node w f = find_node_polynomial at node then (times_found at w f)

  -- with the opposite power for a part that is divided by
  pub walk_parts : Parts → ℤ → ProperTerm → TermSteps ProperTerm
  walk_parts no_parts w f = gives f
  walk_parts (part turned t parts) w f = walk t (part_power turned w) f then (λ g. walk_parts parts w g)

-- Factorials that stand above and below are cancelled, and guarded: the term is defined only where their arguments aren't negative.
abbrev pub cancelled : ProperTerm → ProperTerm
cancelled f = with_lists (without f.up (in_both f.up f.down)) (without f.down (in_both f.up f.down)) f.over (in_both f.up f.down) f

-- the class of a tree
abbrev pub class_of : Tree → TermSteps ProperTerm
class_of t = walk t (pos 1) unit_term then (λ f. gives (cancelled f))

-- the class of a quotient of two trees
abbrev pub class_of_quotient : Tree → Tree → TermSteps ProperTerm
class_of_quotient upper lower = walk upper (pos 1) unit_term then (λ f. walk lower (negsuc 0) f then (λ g. gives (cancelled g)))
