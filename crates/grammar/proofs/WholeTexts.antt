-- A whole text, with bounds or without, is read to a finished state.
use Rattle.std.proofs.Common.{◌≡◌, ℕ, ◌≤◌, true, false, List, [], ◌∷◌, Option, Some, None, refl, ap, ◌∙◌, arith}
use Rattle.std.specs.Prelude.{if◌then◌else◌, nat_lt, ◌==◌}
use Rattle.std.proofs.lemmas.Bool.{eqb-true, lt-ltb, false≢true}
use Rattle.grammar.specs.Token.{comma, semicolon, Placed}
use Rattle.grammar.specs.Bounds.{Bound, plain_bound, minus_bound, Bounds, bound_alone, bound_more, bound_text, bounds_text, count}
use Rattle.grammar.specs.Several.{Terms, term_alone, term_more, Derivation, only_terms, with_bounds, derivation_text, Kind, a_term, a_pair, a_boxed, a_recurrence, is_whole}
use Rattle.grammar.proofs.States.{BeforeBound, wants_bound, has_bound, States, in_term, in_bounds, start, with_term, with_bound, is_open, takes_bounds, at_semicolon, at_comma, step_terms, run_terms, where_whole, finished_terms}
use Rattle.grammar.proofs.State.{begin}
use Rattle.grammar.proofs.Runs.{ended, finished_ended}
use Rattle.grammar.proofs.Several.{after, last_term, before_last, whole_again, StaysOpen, terms_run}

-- the last bound, and what stands before it
abbrev last_bound : Bounds → Bound
last_bound (bound_alone b) = b
last_bound (bound_more bs at b) = b

abbrev before_last_bound : Bounds → BeforeBound
before_last_bound (bound_alone b) = None
before_last_bound (bound_more bs at b) = Some (bs, at)

bounds_again : (bs : Bounds) → with_bound (before_last_bound bs) (last_bound bs) ≡ bs
bounds_again (bound_alone b) = refl
bounds_again (bound_more bs at b) = refl

-- fewer than four stand before each
abbrev AreFew : Bounds → Type 0
AreFew (bound_alone b) = Unit {0}
AreFew (bound_more bs at b) = (nat_lt (count bs) 4 ≡ true) × AreFew bs

are_few : (bs : Bounds) → count bs ≤ 4 → AreFew bs
are_few (bound_alone b) h = tt
are_few (bound_more bs at b) h = (lt-ltb (count bs) 4 (omega (arith, h)), are_few bs (omega (arith, h)))

bound_run : (kind : Kind) (ts : Terms) (at : ℕ) (b : BeforeBound) (x : Bound) (rest : List Placed) →
    run_terms kind (in_bounds ts at b wants_bound) (bound_text x rest) ≡ run_terms kind (in_bounds ts at b (has_bound x)) rest
bound_run kind ts at b (plain_bound place value) rest = refl
bound_run kind ts at b (minus_bound minus_at place value) rest = refl

comma_steps : (kind : Kind) (ts : Terms) (at : ℕ) (bs : Bounds) (place : ℕ) → nat_lt (count bs) 4 ≡ true →
    step_terms kind (in_bounds ts at (before_last_bound bs) (has_bound (last_bound bs))) place comma ≡ Some (in_bounds ts at (Some (bs, place)) wants_bound)
comma_steps kind ts at bs place e =
    ap (λ z. at_comma ts at z place) (bounds_again bs)
    ∙ ap (λ o. if o then Some (in_bounds ts at (Some (bs, place)) wants_bound) else None) e

bounds_run : (kind : Kind) (ts : Terms) (at : ℕ) (bs : Bounds) (rest : List Placed) → AreFew bs →
    run_terms kind (in_bounds ts at None wants_bound) (bounds_text bs rest)
    ≡ run_terms kind (in_bounds ts at (before_last_bound bs) (has_bound (last_bound bs))) rest
bounds_run kind ts at (bound_alone b) rest h = bound_run kind ts at None b rest
bounds_run kind ts at (bound_more bs place b) rest h =
    bounds_run kind ts at bs ((place, comma) ∷ bound_text b rest) h.1
    ∙ ap (after kind (bound_text b rest)) (comma_steps kind ts at bs place h.0)
    ∙ bound_run kind ts at (Some (bs, place)) b rest

-- all the terms of a text but the last may be followed by more
stays_open : (kind : Kind) (ts : Terms) → is_whole kind (only_terms ts) ≡ true → StaysOpen kind ts
stays_open kind (term_alone s) e = tt
stays_open a_pair (term_more (term_alone s) at t) e = (refl, tt)
stays_open a_recurrence (term_more ts at t) e = (refl, open_before ts)
  where
    open_before : (ts : Terms) → StaysOpen a_recurrence ts
    open_before (term_alone s) = tt
    open_before (term_more ts at s) = (refl, open_before ts)
stays_open a_term (term_more ts at t) e = absurd (false≢true e)
stays_open a_boxed (term_more ts at t) e = absurd (false≢true e)
stays_open a_pair (term_more (term_more ts at s) at_2 t) e = absurd (false≢true e)

abbrev IsRead : Kind → Derivation → Type 0
IsRead kind d = (m : States) × (run_terms kind start (derivation_text d []) ≡ Some m) × (finished_terms kind m ≡ Some d)

terms_read : (kind : Kind) (ts : Terms) → is_whole kind (only_terms ts) ≡ true → IsRead kind (only_terms ts)
terms_read kind ts e = (
  in_term (before_last ts) (ended (last_term ts) []),
  terms_run kind ts [] (stays_open kind ts e),
  ap (λ o. elim o as (λ _. Option Derivation) [ None ↦ None | Some s ↦ where_whole kind (only_terms (with_term (before_last ts) s)) ]) (finished_ended (last_term ts))
      ∙ ap (λ z. where_whole kind (only_terms z)) (whole_again ts)
      ∙ ap (λ b. if b then Some (only_terms ts) else None) e,
)

-- the semicolon in front of the bounds
box_steps : (kind : Kind) (ts : Terms) (at : ℕ) → is_open kind ts ≡ false → takes_bounds kind ts ≡ true →
    step_terms kind (in_term (before_last ts) (ended (last_term ts) [])) at semicolon ≡ Some (in_bounds ts at None wants_bound)
box_steps kind ts at closed takes =
    ap (λ o. elim o as (λ _. Option States) [ None ↦ None | Some s ↦ at_semicolon kind (with_term (before_last ts) s) at ]) (finished_ended (last_term ts))
    ∙ ap (λ z. at_semicolon kind z at) (whole_again ts)
    ∙ ap (λ o. if o then Some (in_term (Some (ts, at)) begin) else (if takes_bounds kind ts then Some (in_bounds ts at None wants_bound) else None)) closed
    ∙ ap (λ o. if o then Some (in_bounds ts at None wants_bound) else None) takes

box_read : (kind : Kind) (ts : Terms) (at : ℕ) (bs : Bounds) → StaysOpen kind ts → is_open kind ts ≡ false → takes_bounds kind ts ≡ true → count bs ≤ 4 →
    is_whole kind (with_bounds ts at bs) ≡ true → IsRead kind (with_bounds ts at bs)
box_read kind ts at bs stays closed takes few e = (
  in_bounds ts at (before_last_bound bs) (has_bound (last_bound bs)),
  terms_run kind ts ((at, semicolon) ∷ bounds_text bs []) stays
      ∙ ap (after kind (bounds_text bs [])) (box_steps kind ts at closed takes)
      ∙ bounds_run kind ts at bs [] (are_few bs few),
  ap (λ z. where_whole kind (with_bounds ts at z)) (bounds_again bs) ∙ ap (λ o. if o then Some (with_bounds ts at bs) else None) e,
)

four : (n : ℕ) → (n == 4) ≡ true → n ≤ 4
four n e = omega (arith, eqb-true n 4 e)

pub derivation_read : (kind : Kind) (d : Derivation) → is_whole kind d ≡ true → IsRead kind d
derivation_read kind (only_terms ts) e = terms_read kind ts e
derivation_read a_boxed (with_bounds (term_more (term_alone s) c t) at bs) e =
    box_read a_boxed (term_more (term_alone s) c t) at bs (refl, tt) refl refl (four (count bs) e) e
derivation_read a_boxed (with_bounds (term_alone s) at bs) e = absurd (false≢true e)
derivation_read a_boxed (with_bounds (term_more (term_more ts d s) c t) at bs) e = absurd (false≢true e)
derivation_read a_term (with_bounds ts at bs) e = absurd (false≢true e)
derivation_read a_pair (with_bounds ts at bs) e = absurd (false≢true e)
derivation_read a_recurrence (with_bounds ts at bs) e = absurd (false≢true e)
