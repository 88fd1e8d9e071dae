-- The code's terms, bounds and states of derivations of texts, and of how far these have come.
use Rattle.std.specs.Prelude.{List, [], ◌∷◌, ◌++◌, ℤ, neg_ℤ, Option, Some, None}
use Rattle.grammar.specs.Bounds.{Bound, plain_bound, minus_bound, Bounds, bound_alone, bound_more}
use Rattle.grammar.specs.Several.{Terms, term_alone, term_more, Derivation, only_terms, with_bounds}
use Rattle.grammar.specs.Several as g
use Rattle.grammar.proofs.States.{Before, BeforeBound, BoundState, wants_bound, wants_digits, has_bound, States, in_term, in_bounds}
use Rattle.term_text.specs.declared.ast.Ast.{Ast}
use Rattle.term_text.specs.declared.bounds.Bounds as c
use Rattle.term_text.specs.declared.bounds.Stage.TheVariants as stage
use Rattle.term_text.specs.declared.several.Kind.{Kind}
use Rattle.term_text.specs.declared.several.Kind.TheVariants.{Term, Pair, Boxed, Recurrence}
use Rattle.term_text.specs.declared.several.Now.TheVariants as now
use Rattle.term_text.specs.declared.several.Several.{Several}
use Rattle.term_text.specs.declared.several.Contents.{Contents}
use Rattle.term_text.specs.Code.Literals.{whole_of}
use Rattle.term_text.specs.Code.Image.{sum_ast, image}

-- the grammar's kind of text for one of the code
abbrev pub kind_of : Kind → g.Kind
kind_of Term = g.a_term
kind_of Pair = g.a_pair
kind_of Boxed = g.a_boxed
kind_of Recurrence = g.a_recurrence

-- the code's trees of the terms, in their order
abbrev pub terms_asts : Terms → List Ast
terms_asts (term_alone s) = sum_ast s ∷ []
terms_asts (term_more ts at s) = terms_asts ts ++ sum_ast s ∷ []

-- the code's trees of the terms before this one
abbrev pub before_asts : Before → List Ast
before_asts None = []
before_asts (Some b) = terms_asts b.0

-- the number that the code reads of a bound
abbrev pub bound_number : Bound → ℤ
bound_number (plain_bound at value) = (whole_of value).value
bound_number (minus_bound minus_at at value) = neg_ℤ (whole_of value).value

-- the numbers that the code reads of bounds, in their order
abbrev pub bounds_numbers : Bounds → List ℤ
bounds_numbers (bound_alone b) = bound_number b ∷ []
bounds_numbers (bound_more bs at b) = bounds_numbers bs ++ bound_number b ∷ []

-- the numbers that the code reads of the bounds before this one
abbrev pub before_numbers : BeforeBound → List ℤ
before_numbers None = []
before_numbers (Some b) = bounds_numbers b.0

-- the code's state behind a part of some bounds
abbrev pub bounds_image : BeforeBound → BoundState → c.Bounds
bounds_image b wants_bound = record { values = before_numbers b; stage = stage.Begin }
bounds_image b (wants_digits at) = record { values = before_numbers b; stage = stage.Minus }
bounds_image b (has_bound x) = record { values = before_numbers b ++ bound_number x ∷ []; stage = stage.End }

-- the code's state behind a prefix of a text
abbrev pub several_image : States → Several
several_image (in_term b s) = record { before = before_asts b; now = now.Term (image s) }
several_image (in_bounds ts at b x) = record { before = terms_asts ts; now = now.Bounds (bounds_image b x) }

-- the code's state behind what may be the prefix of a text
abbrev pub several_image_of : Option States → Option Several
several_image_of None = None
several_image_of (Some m) = Some (several_image m)

-- the terms and bounds that the code gives for a text
abbrev pub contents : Derivation → Contents
contents (only_terms ts) = record { terms = terms_asts ts; bounds = [] }
contents (with_bounds ts at bs) = record { terms = terms_asts ts; bounds = bounds_numbers bs }

-- the terms and bounds that the code gives for what may be a text
abbrev pub contents_of : Option Derivation → Option Contents
contents_of None = None
contents_of (Some d) = Some (contents d)
