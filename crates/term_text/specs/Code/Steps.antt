-- How a reader's state changes with a token.
use Rattle.std.specs.Prelude.{ℕ, Bool, true, false, List, [], ◌∷◌, ◌++◌, Option, Some, None, is_none, not, ◌&&◌, if◌then◌else◌}
use Rattle.term_text.specs.declared.ast.Ast.{Ast}
use Rattle.term_text.specs.declared.ast.Part.{Part}
use Rattle.term_text.specs.declared.ast.Node.TheVariants as node
use Rattle.term_text.specs.declared.state.Token.{Token}
use Rattle.term_text.specs.declared.state.Token.TheVariants as token
use Rattle.term_text.specs.declared.state.Base.{Base}
use Rattle.term_text.specs.declared.state.Level.{Level}
use Rattle.term_text.specs.declared.state.Opened.{Opened}
use Rattle.term_text.specs.declared.state.Opened.TheVariants.{Bracket, Upper, Lower}
use Rattle.term_text.specs.declared.state.Outer.{Outer}
use Rattle.term_text.specs.declared.state.Last.{Last}
use Rattle.term_text.specs.declared.state.Last.TheVariants as last
use Rattle.term_text.specs.declared.state.Stage.{Stage}
use Rattle.term_text.specs.declared.state.Stage.TheVariants as stage
use Rattle.term_text.specs.declared.state.State.{State}

-- whether a list has no items
abbrev pub is_empty : {A : Type 0} → List A → Bool
is_empty [] = true
is_empty (x ∷ xs) = false

-- one tree as a list of parts, with whether it is subtracted or divides
abbrev pub part_at : Bool → Ast → List Part
part_at turned a = record { turned = turned; ast = a } ∷ []

-- the product of the factors so far and the last one, which alone is no product
abbrev pub joined_product : List Part → ℕ → Bool → Ast → Ast
joined_product [] at divided a = a
joined_product (f ∷ fs) at divided a = record { at = at; node = node.Product ((f ∷ fs) ++ part_at divided a) }

-- the sum of the terms so far and the last one, which alone with no minus is no sum
abbrev pub joined_sum : List Part → ℕ → Bool → Ast → Ast
joined_sum [] at false a = a
joined_sum terms at subtracted a = record { at = at; node = node.Sum (terms ++ part_at subtracted a) }

-- the power that an atom ends
abbrev pub power_with : Option Base → Ast → Ast
power_with None a = a
power_with (Some b) a = record { at = b.at; node = node.Pow b.ast a }

-- what a power ends with: the atom, or the exponent where there is a base
abbrev pub last_of : Option Base → Last
last_of None = last.Atom
last_of (Some b) = last.Exponent

-- the state behind an atom
abbrev pub filled : Level → List Outer → Ast → State
filled l outer a = record { stage = stage.More (power_with l.base a) (last_of l.base); level = record l { base = None }; outer = outer }

-- the state of a sum at its begin
abbrev pub empty_level : Level
empty_level = record { terms = []; sum_at = 0; subtracted = false; factors = []; product_at = 0; divided = false; base = None }

-- the state behind a parenthesis that opens
abbrev pub inner : Level → Opened → List Outer → State
inner l o outer = record { stage = stage.Atom; level = empty_level; outer = outer ++ record { level = l; opened = o } ∷ [] }

-- where an atom may stand
abbrev pub may_negate : Level → Bool
may_negate l = is_empty l.terms && not l.subtracted && is_empty l.factors && is_none l.base

-- a sum whose first term is subtracted, where a minus may stand
abbrev pub negated : Level → ℕ → Option Level
negated l at = if may_negate l then Some (record l { sum_at = at; subtracted = true }) else None

-- an atom is to follow
abbrev pub at_atom : Option Level → List Outer → Option State
at_atom None outer = None
at_atom (Some l) outer = Some (record { stage = stage.Atom; level = l; outer = outer })

-- the state behind a token where an atom is to begin
abbrev pub step_atom : Level → List Outer → Token → ℕ → Option State
step_atom l outer (token.Digits v) at = Some (filled l outer (record { at = at; node = node.Literal v }))
step_atom l outer token.N at = Some (filled l outer (record { at = at; node = node.N }))
step_atom l outer token.K at = Some (filled l outer (record { at = at; node = node.K }))
step_atom l outer token.Binomial at = Some (record { stage = stage.Opening at; level = l; outer = outer })
step_atom l outer token.Opening at = Some (inner l Bracket outer)
step_atom l outer token.Minus at = at_atom (negated l at) outer
step_atom l outer _ at = None

-- a sum that goes on behind a sign
abbrev pub more_terms : Level → Ast → ℕ → Bool → Level
more_terms l a at subtracted = record {
  terms = l.terms ++ part_at l.subtracted (joined_product l.factors l.product_at l.divided a);
  sum_at = if is_empty l.terms && not l.subtracted then at else l.sum_at;
  subtracted = subtracted;
  factors = [];
  product_at = 0;
  divided = false;
  base = None;
}

-- a product that goes on behind a sign
abbrev pub more_factors : Level → Ast → ℕ → Bool → Level
more_factors l a at divided = record l {
  factors = l.factors ++ part_at l.divided a;
  product_at = if is_empty l.factors then at else l.product_at;
  divided = divided;
  base = None;
}

-- the tree of a sum that ends with this power
abbrev pub whole_sum : Level → Ast → Ast
whole_sum l a = joined_sum l.terms l.sum_at l.subtracted (joined_product l.factors l.product_at l.divided a)

-- a split list with one more item in front
abbrev pub with_first : Outer → Option (List Outer × Outer) → Option (List Outer × Outer)
with_first o None = Some ([], o)
with_first o (Some x) = Some (o ∷ x.0, x.1)

-- all but the innermost, and the innermost
abbrev pub split_last : List Outer → Option (List Outer × Outer)
split_last [] = None
split_last (o ∷ os) = with_first o (split_last os)

-- the state behind a parenthesis that closes a bracket or a binomial
abbrev pub close_outer : Outer → List Outer → Ast → Option State
close_outer o outer a = elim o.opened as (λ _. Option State) [
  | Bracket ↦ Some (filled o.level outer a)
  | Upper at ↦ None
  | Lower at upper ↦ Some (filled o.level outer (record { at = at; node = node.Binomial upper a }))
]

-- the state behind the comma between the two sums of a binomial
abbrev pub comma_outer : Outer → List Outer → Ast → Option State
comma_outer o outer a = elim o.opened as (λ _. Option State) [
  | Bracket ↦ None
  | Upper at ↦ Some (inner o.level (Lower at a) outer)
  | Lower at upper ↦ None
]

-- the state behind a closing parenthesis, where one is open
abbrev pub step_closing : Level → List Outer → Ast → Option State
step_closing l outer a = elim (split_last outer) as (λ _. Option State) [ None ↦ None | Some x ↦ close_outer x.1 x.0 (whole_sum l a) ]

-- the state behind a comma, where a binomial is open
abbrev pub step_comma : Level → List Outer → Ast → Option State
step_comma l outer a = elim (split_last outer) as (λ _. Option State) [ None ↦ None | Some x ↦ comma_outer x.1 x.0 (whole_sum l a) ]

-- the state behind a factorial sign, which only an atom may have
abbrev pub step_bang : Level → List Outer → Ast → Last → ℕ → Option State
step_bang l outer a last.Atom at = Some (record { stage = stage.More (record { at = at; node = node.Factorial a }) last.Bang; level = l; outer = outer })
step_bang l outer a _ at = None

-- the state behind a power sign, which no exponent may have
abbrev pub step_caret : Level → List Outer → Ast → Last → ℕ → Option State
step_caret l outer a last.Exponent at = None
step_caret l outer a _ at = Some (record { stage = stage.Atom; level = record l { base = Some (record { ast = a; at = at }) }; outer = outer })

-- the state behind a token that follows a power
abbrev pub step_more : Level → List Outer → Ast → Last → Token → ℕ → Option State
step_more l outer a e token.Plus at = Some (record { stage = stage.Atom; level = more_terms l a at false; outer = outer })
step_more l outer a e token.Minus at = Some (record { stage = stage.Atom; level = more_terms l a at true; outer = outer })
step_more l outer a e token.Star at = Some (record { stage = stage.Atom; level = more_factors l a at false; outer = outer })
step_more l outer a e token.Slash at = Some (record { stage = stage.Atom; level = more_factors l a at true; outer = outer })
step_more l outer a e token.Caret at = step_caret l outer a e at
step_more l outer a e token.Bang at = step_bang l outer a e at
step_more l outer a e token.Closing at = step_closing l outer a
step_more l outer a e token.Comma at = step_comma l outer a
step_more l outer a e _ at = None

-- the state behind a token that follows the name of a binomial
abbrev pub step_opening : ℕ → Level → List Outer → Token → Option State
step_opening name_at l outer token.Opening = Some (inner l (Upper name_at) outer)
step_opening name_at l outer _ = None

-- the state behind a token, by what is to follow or stands before it
abbrev pub step_stage : Stage → Level → List Outer → Token → ℕ → Option State
step_stage stage.Atom l outer t at = step_atom l outer t at
step_stage (stage.Opening name_at) l outer t at = step_opening name_at l outer t
step_stage (stage.More a e) l outer t at = step_more l outer a e t at

-- the state behind a token
abbrev pub step : State → Token → ℕ → Option State
step s t at = step_stage s.stage s.level s.outer t at
