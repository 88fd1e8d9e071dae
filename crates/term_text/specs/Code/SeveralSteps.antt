-- How a reader of a text changes with a token.
use Rattle.std.specs.Prelude.{ℕ, Bool, true, false, not, List, [], ◌∷◌, ◌++◌, Option, Some, None, ℤ, if◌then◌else◌}
use Rattle.term_text.specs.declared.ast.Ast.{Ast}
use Rattle.term_text.specs.declared.state.Token.{Token}
use Rattle.term_text.specs.declared.state.Token.TheVariants as token
use Rattle.term_text.specs.declared.state.Stage.{Stage}
use Rattle.term_text.specs.declared.state.Stage.TheVariants as stage
use Rattle.term_text.specs.declared.state.Level.{Level}
use Rattle.term_text.specs.declared.state.Outer.{Outer}
use Rattle.term_text.specs.declared.state.State.{State}
use Rattle.term_text.specs.declared.several.Kind.{Kind}
use Rattle.term_text.specs.declared.several.Kind.TheVariants.{Term, Pair, Boxed, Recurrence}
use Rattle.term_text.specs.declared.several.Now.{Now}
use Rattle.term_text.specs.declared.several.Now.TheVariants as now
use Rattle.term_text.specs.declared.several.Several.{Several}
use Rattle.term_text.specs.declared.several.Contents.{Contents}
use Rattle.term_text.specs.declared.bounds.Bounds.{Bounds}
use Rattle.term_text.specs.Code.BoundSteps.{no_bounds, step_bounds, whole_bounds}
use Rattle.term_text.specs.Code.Steps.{is_empty, empty_level, whole_sum, step}

-- the state before the first token of a term
abbrev pub begin : State
begin = record { stage = stage.Atom; level = empty_level; outer = [] }

-- whether a term may follow the one behind these
abbrev pub is_open : Kind → List Ast → Bool
is_open Term before = false
is_open Pair before = is_empty before
is_open Boxed before = is_empty before
is_open Recurrence before = true

-- whether bounds follow the term behind these
abbrev pub takes_bounds : Kind → List Ast → Bool
takes_bounds Boxed before = not (is_empty before)
takes_bounds _ before = false

-- whether the term behind these may be the last
abbrev pub is_whole : Kind → List Ast → Bool
is_whole Term before = is_empty before
is_whole Pair before = not (is_empty before)
is_whole Boxed before = false
is_whole Recurrence before = not (is_empty before)

-- the tree of a term behind a whole power, where no parenthesis is open
abbrev pub whole_at : Stage → Level → List Outer → Option Ast
whole_at (stage.More a e) l [] = Some (whole_sum l a)
whole_at _ l outer = None

-- the tree of a term, where it may end here
abbrev pub whole : State → Option Ast
whole s = whole_at s.stage s.level s.outer

-- the trees with one more behind them, where there is one
abbrev pub with_last : List Ast → Option Ast → Option (List Ast)
with_last before None = None
with_last before (Some a) = Some (before ++ a ∷ [])

-- the terms of a text without bounds
abbrev pub terms_alone : Option (List Ast) → Option Contents
terms_alone None = None
terms_alone (Some terms) = Some (record { terms = terms; bounds = [] })

-- all the terms of a text without bounds, where it may end here
abbrev pub only_terms : Kind → List Ast → State → Option Contents
only_terms kind before s = if is_whole kind before then terms_alone (with_last before (whole s)) else None

-- the terms of a text with its bounds
abbrev pub boxed_terms : List Ast → Option (List ℤ) → Option Contents
boxed_terms terms None = None
boxed_terms terms (Some bounds) = Some (record { terms = terms; bounds = bounds })

-- all the terms and bounds, where the text may end here
abbrev pub whole_contents : Kind → Several → Option Contents
whole_contents kind m = elim m.now as (λ _. Option Contents) [
  | now.Term s ↦ only_terms kind m.before s
  | now.Bounds b ↦ boxed_terms m.before (whole_bounds b)
]

-- what begins behind some terms
abbrev pub begun : Now → Option (List Ast) → Option Several
begun n None = None
begun n (Some terms) = Some (record { before = terms; now = n })

-- the next term is to begin, where this one may end here
abbrev pub next_term : List Ast → State → Option Several
next_term before s = begun (now.Term begin) (with_last before (whole s))

-- the first bound is to begin, where the term may end here
abbrev pub first_bound : List Ast → State → Option Several
first_bound before s = begun (now.Bounds no_bounds) (with_last before (whole s))

-- what follows a semicolon: a term, bounds, or nothing that may stand there
abbrev pub next_part : Kind → List Ast → State → Option Several
next_part kind before s =
    if is_open kind before then next_term before s
    else if takes_bounds kind before then first_bound before s
    else None

-- the state in the term that is being read
abbrev pub with_now : List Ast → Option State → Option Several
with_now before None = None
with_now before (Some s) = Some (record { before = before; now = now.Term s })

-- the state behind a token that follows a part of a term
abbrev pub step_term : Kind → List Ast → State → Token → ℕ → Option Several
step_term kind before s token.Semicolon at = next_part kind before s
step_term kind before s t at = with_now before (step s t at)

-- the state in the bounds that are being read
abbrev pub in_bounds : List Ast → Option Bounds → Option Several
in_bounds before None = None
in_bounds before (Some b) = Some (record { before = before; now = now.Bounds b })

-- the state behind a token of a text
abbrev pub step_several : Kind → Several → Token → ℕ → Option Several
step_several kind m t at = elim m.now as (λ _. Option Several) [
  | now.Term s ↦ step_term kind m.before s t at
  | now.Bounds b ↦ in_bounds m.before (step_bounds b t)
]
