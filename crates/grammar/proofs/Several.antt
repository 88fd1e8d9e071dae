-- Several terms, read one after another by the reader of one.
use Rattle.std.proofs.Common.{◌≡◌, ℕ, true, List, [], ◌∷◌, ◌++◌, Option, Some, None, refl, ap, ◌∙◌}
use Rattle.std.specs.Prelude.{if◌then◌else◌}
use Rattle.grammar.specs.Token.{Token, digits, name_n, name_k, name_binomial, plus, minus, star, slash, caret, bang, opening, closing, comma, semicolon, Placed}
use Rattle.grammar.specs.Grammar.{Sum, sum_text}
use Rattle.grammar.proofs.State.{State, wants_atom, wants_opening, has_power, begin, step, run}
use Rattle.grammar.specs.Several.{Terms, term_alone, term_more, terms_text, Kind}
use Rattle.grammar.proofs.States.{Before, States, in_term, in_bounds, wants_bound, start, with_term, is_open, takes_bounds, at_semicolon, step_terms, run_terms}
use Rattle.grammar.proofs.Runs.{ended, grammar_runs, finished_ended}
use Rattle.grammar.proofs.Prefixes.{none_some}
use Rattle.grammar.proofs.Texts.{sum_in_front}

abbrev with_now : Before → Option State → Option States
with_now b o = elim o as (λ _. Option States) [ None ↦ None | Some s ↦ Some (in_term b s) ]

-- a term's token is taken in as before
lifted : (kind : Kind) (b : Before) (s next : State) (at : ℕ) (t : Token) → step s at t ≡ Some next →
    step_terms kind (in_term b s) at t ≡ Some (in_term b next)
lifted kind b (wants_atom l st) next at semicolon e = none_some e
lifted kind b (wants_opening n l st) next at semicolon e = none_some e
lifted kind b (has_power s p w st) next at semicolon e = none_some e
lifted kind b s next at (digits v) e = ap (with_now b) e
lifted kind b s next at name_n e = ap (with_now b) e
lifted kind b s next at name_k e = ap (with_now b) e
lifted kind b s next at name_binomial e = ap (with_now b) e
lifted kind b s next at plus e = ap (with_now b) e
lifted kind b s next at minus e = ap (with_now b) e
lifted kind b s next at star e = ap (with_now b) e
lifted kind b s next at slash e = ap (with_now b) e
lifted kind b s next at caret e = ap (with_now b) e
lifted kind b s next at bang e = ap (with_now b) e
lifted kind b s next at opening e = ap (with_now b) e
lifted kind b s next at closing e = ap (with_now b) e
lifted kind b s next at comma e = ap (with_now b) e

abbrev pub after : Kind → List Placed → Option States → Option States
after kind rest o = elim o as (λ _. Option States) [ None ↦ None | Some next ↦ run_terms kind next rest ]

lifted_run : (kind : Kind) (b : Before) (s next : State) (ts rest : List Placed) → run s ts ≡ Some next →
    run_terms kind (in_term b s) (ts ++ rest) ≡ run_terms kind (in_term b next) rest
lifted_run kind b s next [] rest e = ap (λ z. run_terms kind (in_term b z) rest) (some_of e)
  where
    some_of : Some s ≡ Some next → s ≡ next
    some_of p = cc
lifted_run kind b s next (t ∷ ts) rest e = go (step s t.0 t.1) refl e (λ x. lifted_run kind b x next ts rest)
  where
    go : (o : Option State) → step s t.0 t.1 ≡ o → (elim o as (λ _. Option State) [ Some x ↦ run x ts | None ↦ None ]) ≡ Some next →
        ((x : State) → run x ts ≡ Some next → run_terms kind (in_term b x) (ts ++ rest) ≡ run_terms kind (in_term b next) rest) →
        run_terms kind (in_term b s) (t ∷ ts ++ rest) ≡ run_terms kind (in_term b next) rest
    go (Some x) f e ih = ap (after kind (ts ++ rest)) (lifted kind b s x t.0 t.1 f) ∙ ih x e
    go None f e ih = none_some e

-- one whole term
term_run : (kind : Kind) (b : Before) (s : Sum) (rest : List Placed) →
    run_terms kind (in_term b begin) (sum_text s rest) ≡ run_terms kind (in_term b (ended s [])) rest
term_run kind b s rest = ap (run_terms kind (in_term b begin)) (sum_in_front s rest) ∙ lifted_run kind b begin (ended s []) (sum_text s []) rest (grammar_runs s)

-- the last term, and what stands before it
abbrev pub last_term : Terms → Sum
last_term (term_alone s) = s
last_term (term_more ts at s) = s

abbrev pub before_last : Terms → Before
before_last (term_alone s) = None
before_last (term_more ts at s) = Some (ts, at)

pub whole_again : (ts : Terms) → with_term (before_last ts) (last_term ts) ≡ ts
whole_again (term_alone s) = refl
whole_again (term_more ts at s) = refl

-- more terms may follow each term but the last
abbrev pub StaysOpen : Kind → Terms → Type 0
StaysOpen kind (term_alone s) = Unit {0}
StaysOpen kind (term_more ts at s) = (is_open kind ts ≡ true) × StaysOpen kind ts

semicolon_steps : (kind : Kind) (ts : Terms) (at : ℕ) → is_open kind ts ≡ true →
    step_terms kind (in_term (before_last ts) (ended (last_term ts) [])) at semicolon ≡ Some (in_term (Some (ts, at)) begin)
semicolon_steps kind ts at e =
    ap (λ o. elim o as (λ _. Option States) [ None ↦ None | Some s ↦ at_semicolon kind (with_term (before_last ts) s) at ]) (finished_ended (last_term ts))
    ∙ ap (λ z. at_semicolon kind z at) (whole_again ts)
    ∙ ap (λ o. if o then Some (in_term (Some (ts, at)) begin) else (if takes_bounds kind ts then Some (in_bounds ts at None wants_bound) else None)) e

pub terms_run : (kind : Kind) (ts : Terms) (rest : List Placed) → StaysOpen kind ts →
    run_terms kind (start) (terms_text ts rest) ≡ run_terms kind (in_term (before_last ts) (ended (last_term ts) [])) rest
terms_run kind (term_alone s) rest h = term_run kind None s rest
terms_run kind (term_more ts at s) rest h =
    terms_run kind ts ((at, semicolon) ∷ sum_text s rest) h.1
    ∙ ap (after kind (sum_text s rest)) (semicolon_steps kind ts at h.0)
    ∙ term_run kind (Some (ts, at)) s rest
