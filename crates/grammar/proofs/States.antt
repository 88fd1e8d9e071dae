-- How far a reader of a text has come: what stands before the term or the bound that is read, and how far that has come.
use Rattle.std.specs.Prelude.{ℕ, Bool, false, List, [], ◌∷◌, ◌≡◌, true, Option, Some, None, if◌then◌else◌, nat_lt}
use Rattle.grammar.specs.Token.{Token, digits, minus, comma, semicolon, Placed}
use Rattle.grammar.specs.Grammar.{Sum}
use Rattle.grammar.specs.Bounds.{Bound, plain_bound, minus_bound, Bounds, bound_alone, bound_more, bound_text, bounds_text, count}
use Rattle.grammar.specs.Several.{Terms, term_alone, term_more, Derivation, only_terms, with_bounds, terms_text, Kind, a_pair, a_boxed, a_recurrence, is_whole}
use Rattle.grammar.proofs.State.{State, begin, step, finished, state_text}

-- the terms before, and the place of the last semicolon
abbrev pub Before : Type 0
Before = Option (Terms × ℕ)

-- the bounds before, and the place of the last comma
abbrev pub BeforeBound : Type 0
BeforeBound = Option (Bounds × ℕ)

pub data BoundState : Type 0 where
  wants_bound : BoundState
  wants_digits : ℕ → BoundState
  has_bound : Bound → BoundState

-- in a term, or behind the semicolon of the bounds
pub data States : Type 0 where
  in_term : Before → State → States
  in_bounds : Terms → ℕ → BeforeBound → BoundState → States

abbrev pub start : States
start = in_term None begin

abbrev pub with_term : Before → Sum → Terms
with_term None s = term_alone s
with_term (Some b) s = term_more b.0 b.1 s

abbrev pub with_bound : BeforeBound → Bound → Bounds
with_bound None b = bound_alone b
with_bound (Some bs) b = bound_more bs.0 bs.1 b

-- whether another term may follow
abbrev pub is_open : Kind → Terms → Bool
is_open a_pair (term_alone s) = true
is_open a_boxed (term_alone s) = true
is_open a_recurrence ts = true
is_open _ _ = false

-- whether bounds follow
abbrev pub takes_bounds : Kind → Terms → Bool
takes_bounds a_boxed (term_more (term_alone s) at t) = true
takes_bounds _ _ = false

abbrev pub at_semicolon : Kind → Terms → ℕ → Option States
at_semicolon kind ts at =
    if is_open kind ts then Some (in_term (Some (ts, at)) begin)
    else if takes_bounds kind ts then Some (in_bounds ts at None wants_bound)
    else None

-- behind a bound
abbrev pub at_comma : Terms → ℕ → Bounds → ℕ → Option States
at_comma ts bounds_at bs at = if nat_lt (count bs) 4 then Some (in_bounds ts bounds_at (Some (bs, at)) wants_bound) else None

abbrev pub step_bounds : Terms → ℕ → BeforeBound → BoundState → ℕ → Token → Option States
step_bounds ts bounds_at b wants_bound at (digits value) = Some (in_bounds ts bounds_at b (has_bound (plain_bound at value)))
step_bounds ts bounds_at b wants_bound at minus = Some (in_bounds ts bounds_at b (wants_digits at))
step_bounds ts bounds_at b (wants_digits minus_at) at (digits value) = Some (in_bounds ts bounds_at b (has_bound (minus_bound minus_at at value)))
step_bounds ts bounds_at b (has_bound x) at comma = at_comma ts bounds_at (with_bound b x) at
step_bounds ts bounds_at b _ at _ = None

abbrev pub step_terms : Kind → States → ℕ → Token → Option States
step_terms kind (in_term b s) at semicolon = elim (finished s) as (λ _. Option States) [ None ↦ None | Some c ↦ at_semicolon kind (with_term b c) at ]
step_terms kind (in_term b s) at t = elim (step s at t) as (λ _. Option States) [ None ↦ None | Some next ↦ Some (in_term b next) ]
step_terms kind (in_bounds ts bounds_at b x) at t = step_bounds ts bounds_at b x at t

abbrev pub run_terms : Kind → States → List Placed → Option States
run_terms kind m [] = Some m
run_terms kind m (t ∷ ts) = elim (step_terms kind m t.0 t.1) as (λ _. Option States) [ None ↦ None | Some next ↦ run_terms kind next ts ]

abbrev pub where_whole : Kind → Derivation → Option Derivation
where_whole kind d = if is_whole kind d then Some d else None

-- the derivation, where the text may end here
abbrev pub finished_terms : Kind → States → Option Derivation
finished_terms kind (in_term b s) = elim (finished s) as (λ _. Option Derivation) [ None ↦ None | Some c ↦ where_whole kind (only_terms (with_term b c)) ]
finished_terms kind (in_bounds ts at b (has_bound x)) = where_whole kind (with_bounds ts at (with_bound b x))
finished_terms kind (in_bounds ts at b _) = None

abbrev pub before_text : Before → List Placed → List Placed
before_text None rest = rest
before_text (Some b) rest = terms_text b.0 ((b.1, semicolon) ∷ rest)

abbrev pub before_bound_text : BeforeBound → List Placed → List Placed
before_bound_text None rest = rest
before_bound_text (Some b) rest = bounds_text b.0 ((b.1, comma) ∷ rest)

abbrev pub bound_state_text : BoundState → List Placed → List Placed
bound_state_text wants_bound rest = rest
bound_state_text (wants_digits at) rest = (at, minus) ∷ rest
bound_state_text (has_bound b) rest = bound_text b rest

abbrev pub states_text : States → List Placed → List Placed
states_text (in_term b s) rest = before_text b (state_text s rest)
states_text (in_bounds ts at b x) rest = terms_text ts ((at, semicolon) ∷ before_bound_text b (bound_state_text x rest))

-- what stands before was to be followed by more
abbrev pub GoesOnTerms : Kind → Before → Type 0
GoesOnTerms kind None = Unit {0}
GoesOnTerms kind (Some b) = is_open kind b.0 ≡ true

abbrev pub GoesOnBounds : BeforeBound → Type 0
GoesOnBounds None = Unit {0}
GoesOnBounds (Some b) = nat_lt (count b.0) 4 ≡ true

abbrev pub GoesOn : Kind → States → Type 0
GoesOn kind (in_term b s) = GoesOnTerms kind b
GoesOn kind (in_bounds ts at b x) = (takes_bounds kind ts ≡ true) × GoesOnBounds b
