-- The code's trees and states of derivations, and of how far a derivation has come.
use Rattle.std.specs.Prelude.{ℕ, Bool, true, false, List, [], ◌∷◌, ◌++◌, Option, Some, None}
use Rattle.grammar.specs.Token as t
use Rattle.grammar.specs.Grammar.{Sum, product_alone, minus_product, product_more, sum_place, Product, power_alone, power_more, product_place, Power, postfix_alone, raised, Postfix, atom_alone, factorial_at, Atom, number, the_n, the_k, bracket, choose}
use Rattle.grammar.proofs.State as g
use Rattle.term_text.specs.declared.ast.Ast.{Ast}
use Rattle.term_text.specs.declared.ast.Part.{Part}
use Rattle.term_text.specs.declared.ast.Node.TheVariants as node
use Rattle.term_text.specs.declared.state.Token.{Token}
use Rattle.term_text.specs.declared.state.Token.TheVariants as token
use Rattle.term_text.specs.declared.state.Base.{Base}
use Rattle.term_text.specs.declared.state.Level.{Level}
use Rattle.term_text.specs.declared.state.Opened.{Opened}
use Rattle.term_text.specs.declared.state.Opened.TheVariants.{Bracket, Upper, Lower}
use Rattle.term_text.specs.declared.state.Outer.{Outer}
use Rattle.term_text.specs.declared.state.Last.{Last}
use Rattle.term_text.specs.declared.state.Last.TheVariants as last
use Rattle.term_text.specs.declared.state.Stage.TheVariants as stage
use Rattle.term_text.specs.declared.state.State.{State}
use Rattle.term_text.specs.Code.Literals.{whole_of}
use Rattle.term_text.specs.Code.Steps.{part_at}

abbrev mutual
  pub sum_ast : Sum → Ast
  sum_ast (product_alone p) = product_ast p
  sum_ast (minus_product at p) = record { at = at; node = node.Sum (part_at true (product_ast p)) }
  sum_ast (product_more s turned at p) = record { at = sum_place s at; node = node.Sum (sum_part_asts s ++ part_at turned (product_ast p)) }

  pub sum_part_asts : Sum → List Part
  sum_part_asts (product_alone p) = part_at false (product_ast p)
  sum_part_asts (minus_product at p) = part_at true (product_ast p)
  sum_part_asts (product_more s turned at p) = sum_part_asts s ++ part_at turned (product_ast p)

  pub product_ast : Product → Ast
  product_ast (power_alone w) = power_ast w
  product_ast (power_more p turned at w) = record { at = product_place p at; node = node.Product (product_part_asts p ++ part_at turned (power_ast w)) }

  pub product_part_asts : Product → List Part
  product_part_asts (power_alone w) = part_at false (power_ast w)
  product_part_asts (power_more p turned at w) = product_part_asts p ++ part_at turned (power_ast w)

  pub power_ast : Power → Ast
  power_ast (postfix_alone q) = postfix_ast q
  power_ast (raised q at a) = record { at = at; node = node.Pow (postfix_ast q) (atom_ast a) }

  pub postfix_ast : Postfix → Ast
  postfix_ast (atom_alone a) = atom_ast a
  postfix_ast (factorial_at a at) = record { at = at; node = node.Factorial (atom_ast a) }

  pub atom_ast : Atom → Ast
  atom_ast (number at value) = record { at = at; node = node.Literal (whole_of value) }
  atom_ast (the_n at) = record { at = at; node = node.N }
  atom_ast (the_k at) = record { at = at; node = node.K }
  atom_ast (bracket at s close) = sum_ast s
  atom_ast (choose at open_at upper comma_at lower close) = record { at = at; node = node.Binomial (sum_ast upper) (sum_ast lower) }

-- the terms of a sum before the product that is being read
abbrev pub terms_of : g.BeforeProduct → List Part
terms_of g.at_start = []
terms_of (g.after_minus at) = []
terms_of (g.after_sum s turned at) = sum_part_asts s

-- the place of a sum, and 0 before it has a sign
abbrev pub sum_at_of : g.BeforeProduct → ℕ
sum_at_of g.at_start = 0
sum_at_of (g.after_minus at) = at
sum_at_of (g.after_sum s turned at) = sum_place s at

-- whether the product that is being read is subtracted
abbrev pub subtracted_of : g.BeforeProduct → Bool
subtracted_of g.at_start = false
subtracted_of (g.after_minus at) = true
subtracted_of (g.after_sum s turned at) = turned

-- the factors of a product before the power that is being read
abbrev pub factors_of : g.BeforePower → List Part
factors_of g.at_first = []
factors_of (g.after_product p turned at) = product_part_asts p

-- the place of a product, and 0 before it has a sign
abbrev pub product_at_of : g.BeforePower → ℕ
product_at_of g.at_first = 0
product_at_of (g.after_product p turned at) = product_place p at

-- whether the product is divided by the power that is being read
abbrev pub divided_of : g.BeforePower → Bool
divided_of g.at_first = false
divided_of (g.after_product p turned at) = turned

-- the base and the place of its sign, where an exponent is being read
abbrev pub base_of : g.BeforeAtom → Option Base
base_of g.at_base = None
base_of (g.after_base q at) = Some (record { ast = postfix_ast q; at = at })

-- the code's state inside one pair of parentheses
abbrev pub level_image : g.BeforeProduct → g.BeforePower → g.BeforeAtom → Level
level_image s p b = record {
  terms = terms_of s;
  sum_at = sum_at_of s;
  subtracted = subtracted_of s;
  factors = factors_of p;
  product_at = product_at_of p;
  divided = divided_of p;
  base = base_of b;
}

-- the code's note of what a parenthesis opened: a bracket, or one of the two sums of a binomial
abbrev pub opened_image : g.Opened → Opened
opened_image (g.by_bracket at) = Bracket
opened_image (g.by_choose name_at at) = Upper name_at
opened_image (g.by_comma name_at open_at upper at) = Lower name_at (sum_ast upper)

-- the code's state outside of one open parenthesis
abbrev pub outer_image : g.Open → Outer
outer_image o = record { level = level_image o.0.product o.0.power o.0.atom; opened = opened_image o.1 }

-- the code's states outside of the open parentheses, the innermost one last
abbrev pub stack_image : List g.Open → List Outer
stack_image [] = []
stack_image (o ∷ st) = stack_image st ++ outer_image o ∷ []

-- what a power ends with: an atom, a factorial sign or an exponent
abbrev pub last_image : Power → Last
last_image (postfix_alone (atom_alone a)) = last.Atom
last_image (postfix_alone (factorial_at a at)) = last.Bang
last_image (raised q at a) = last.Exponent

-- the code's state behind a prefix of a term
abbrev pub image : g.State → State
image (g.wants_atom l st) = record { stage = stage.Atom; level = level_image l.product l.power l.atom; outer = stack_image st }
image (g.wants_opening name_at l st) = record { stage = stage.Opening name_at; level = level_image l.product l.power l.atom; outer = stack_image st }
image (g.has_power s p w st) = record { stage = stage.More (power_ast w) (last_image w); level = level_image s p g.at_base; outer = stack_image st }

-- the code's token
abbrev pub token_image : t.Token → Token
token_image (t.digits value) = token.Digits (whole_of value)
token_image t.name_n = token.N
token_image t.name_k = token.K
token_image t.name_binomial = token.Binomial
token_image t.plus = token.Plus
token_image t.minus = token.Minus
token_image t.star = token.Star
token_image t.slash = token.Slash
token_image t.caret = token.Caret
token_image t.bang = token.Bang
token_image t.opening = token.Opening
token_image t.closing = token.Closing
token_image t.comma = token.Comma
token_image t.semicolon = token.Semicolon

-- the code's state behind what may be the prefix of a term
abbrev pub image_of : Option g.State → Option State
image_of None = None
image_of (Some s) = Some (image s)
