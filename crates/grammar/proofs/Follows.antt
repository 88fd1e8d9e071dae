-- What the reader of a text takes in is its tokens, and it goes on only where the kind lets it.
use Rattle.std.proofs.Common.{◌≡◌, ℕ, Bool, true, false, List, [], ◌∷◌, ◌++◌, Option, Some, None, refl, ap, ◌∙◌, subst}
use Rattle.std.specs.Prelude.{if◌then◌else◌, nat_lt}
use Rattle.grammar.specs.Token.{Token, digits, name_n, name_k, name_binomial, plus, minus, star, slash, caret, bang, opening, closing, comma, semicolon, Placed}
use Rattle.grammar.specs.Grammar.{Sum}
use Rattle.grammar.specs.Bounds.{Bound, count}
use Rattle.grammar.specs.Several.{Terms, terms_text, Kind}
use Rattle.grammar.proofs.State.{State, begin, step, finished}
use Rattle.grammar.proofs.States.{Before, BeforeBound, BoundState, wants_bound, wants_digits, has_bound, States, in_term, in_bounds, start, with_term, with_bound, is_open, takes_bounds, at_semicolon, step_bounds, step_terms, run_terms, before_text, states_text, GoesOn}
use Rattle.grammar.proofs.Prefixes.{some_of, none_some, step_grows, finished_text}
use Rattle.grammar.proofs.Completions.{with_term_text, with_bound_text}

-- what a step takes in stands behind what was there, and goes on only where the kind lets it
abbrev pub Follows : Kind → States → ℕ → Token → States → Type 0
Follows kind m at t next = ((rest : List Placed) → states_text next rest ≡ states_text m ((at, t) ∷ rest)) × (GoesOn kind m → GoesOn kind next)

semicolon_follows : (kind : Kind) (b : Before) (s : State) (at : ℕ) (next : States) → step_terms kind (in_term b s) at semicolon ≡ Some next →
    Follows kind (in_term b s) at semicolon next
semicolon_follows kind b s at next e = go (finished s) refl e
  where
    text : (c : Sum) → finished s ≡ Some c → (rest : List Placed) → terms_text (with_term b c) ((at, semicolon) ∷ rest) ≡ states_text (in_term b s) ((at, semicolon) ∷ rest)
    text c f rest = with_term_text b c ((at, semicolon) ∷ rest) ∙ ap (before_text b) (finished_text s c f ((at, semicolon) ∷ rest))

    by_bounds : (c : Sum) → finished s ≡ Some c → (o : Bool) → takes_bounds kind (with_term b c) ≡ o →
        (if o then Some (in_bounds (with_term b c) at None wants_bound) else None) ≡ Some next → Follows kind (in_term b s) at semicolon next
    by_bounds c f true is e = subst (Follows kind (in_term b s) at semicolon) (some_of e) (text c f, λ on. (is, tt))
    by_bounds c f false is e = none_some e

    by_open : (c : Sum) → finished s ≡ Some c → (o : Bool) → is_open kind (with_term b c) ≡ o →
        (if o then Some (in_term (Some (with_term b c, at)) begin)
        else if takes_bounds kind (with_term b c) then Some (in_bounds (with_term b c) at None wants_bound)
        else None) ≡ Some next → Follows kind (in_term b s) at semicolon next
    by_open c f true is e = subst (Follows kind (in_term b s) at semicolon) (some_of e) (text c f, λ on. is)
    by_open c f false is e = by_bounds c f (takes_bounds kind (with_term b c)) refl e

    go : (o : Option Sum) → finished s ≡ o →
        (elim o as (λ _. Option States) [ None ↦ None | Some c ↦ at_semicolon kind (with_term b c) at ]) ≡ Some next →
        Follows kind (in_term b s) at semicolon next
    go (Some c) f e = by_open c f (is_open kind (with_term b c)) refl e
    go None f e = none_some e

term_follows : (kind : Kind) (b : Before) (s : State) (at : ℕ) (t : Token) (next : States) (o : Option State) → step s at t ≡ o →
    (elim o as (λ _. Option States) [ None ↦ None | Some x ↦ Some (in_term b x) ]) ≡ Some next → Follows kind (in_term b s) at t next
term_follows kind b s at t next (Some x) f e = subst (Follows kind (in_term b s) at t) (some_of e) (
  λ rest. ap (before_text b) (step_grows s at t x f rest),
  λ on. on,
)
term_follows kind b s at t next None f e = none_some e

comma_follows : (kind : Kind) (ts : Terms) (c : ℕ) (b : BeforeBound) (x : Bound) (at : ℕ) (next : States) (o : Bool) → nat_lt (count (with_bound b x)) 4 ≡ o →
    (if o then Some (in_bounds ts c (Some (with_bound b x, at)) wants_bound) else None) ≡ Some next → Follows kind (in_bounds ts c b (has_bound x)) at comma next
comma_follows kind ts c b x at next true f e = subst (Follows kind (in_bounds ts c b (has_bound x)) at comma) (some_of e) (
  λ rest. ap (λ z. terms_text ts ((c, semicolon) ∷ z)) (with_bound_text b x ((at, comma) ∷ rest)),
  λ on. (on.0, f),
)
comma_follows kind ts c b x at next false f e = none_some e

bounds_follow : (kind : Kind) (ts : Terms) (c : ℕ) (b : BeforeBound) (x : BoundState) (at : ℕ) (t : Token) (next : States) → step_bounds ts c b x at t ≡ Some next →
    Follows kind (in_bounds ts c b x) at t next
bounds_follow kind ts c b wants_bound at (digits v) next e = subst (Follows kind (in_bounds ts c b wants_bound) at (digits v)) (some_of e) (λ rest. refl, λ on. on)
bounds_follow kind ts c b wants_bound at minus next e = subst (Follows kind (in_bounds ts c b wants_bound) at minus) (some_of e) (λ rest. refl, λ on. on)
bounds_follow kind ts c b (wants_digits m) at (digits v) next e = subst (Follows kind (in_bounds ts c b (wants_digits m)) at (digits v)) (some_of e) (λ rest. refl, λ on. on)
bounds_follow kind ts c b (has_bound x) at comma next e = comma_follows kind ts c b x at next (nat_lt (count (with_bound b x)) 4) refl e
bounds_follow kind ts c b _ at _ next e = none_some e

step_follows : (kind : Kind) (m : States) (at : ℕ) (t : Token) (next : States) → step_terms kind m at t ≡ Some next → Follows kind m at t next
step_follows kind (in_term b s) at semicolon next e = semicolon_follows kind b s at next e
step_follows kind (in_term b s) at (digits v) next e = term_follows kind b s at (digits v) next _ refl e
step_follows kind (in_term b s) at name_n next e = term_follows kind b s at name_n next _ refl e
step_follows kind (in_term b s) at name_k next e = term_follows kind b s at name_k next _ refl e
step_follows kind (in_term b s) at name_binomial next e = term_follows kind b s at name_binomial next _ refl e
step_follows kind (in_term b s) at plus next e = term_follows kind b s at plus next _ refl e
step_follows kind (in_term b s) at minus next e = term_follows kind b s at minus next _ refl e
step_follows kind (in_term b s) at star next e = term_follows kind b s at star next _ refl e
step_follows kind (in_term b s) at slash next e = term_follows kind b s at slash next _ refl e
step_follows kind (in_term b s) at caret next e = term_follows kind b s at caret next _ refl e
step_follows kind (in_term b s) at bang next e = term_follows kind b s at bang next _ refl e
step_follows kind (in_term b s) at opening next e = term_follows kind b s at opening next _ refl e
step_follows kind (in_term b s) at closing next e = term_follows kind b s at closing next _ refl e
step_follows kind (in_term b s) at comma next e = term_follows kind b s at comma next _ refl e
step_follows kind (in_bounds ts c b x) at t next e = bounds_follow kind ts c b x at t next e

abbrev pub RunsTo : Kind → States → List Placed → States → Type 0
RunsTo kind m ts next = ((rest : List Placed) → states_text next rest ≡ states_text m (ts ++ rest)) × (GoesOn kind m → GoesOn kind next)

pub run_follows : (kind : Kind) (m : States) (ts : List Placed) (next : States) → run_terms kind m ts ≡ Some next → RunsTo kind m ts next
run_follows kind m [] next e = subst (RunsTo kind m []) (some_of e) (λ rest. refl, λ on. on)
run_follows kind m (t ∷ ts) next e = go (step_terms kind m t.0 t.1) refl e (λ x. run_follows kind x ts next)
  where
    go : (o : Option States) → step_terms kind m t.0 t.1 ≡ o → (elim o as (λ _. Option States) [ None ↦ None | Some x ↦ run_terms kind x ts ]) ≡ Some next →
        ((x : States) → run_terms kind x ts ≡ Some next → RunsTo kind x ts next) → RunsTo kind m (t ∷ ts) next
    go (Some x) f e ih =
        let later = ih x e in
        let one = step_follows kind m t.0 t.1 x f in
        (λ rest. later.0 rest ∙ one.0 (ts ++ rest), λ on. later.1 (one.1 on))
    go None f e ih = none_some e

pub goes_on : (kind : Kind) (ts : List Placed) (m : States) → run_terms kind start ts ≡ Some m → GoesOn kind m
goes_on kind ts m r = (run_follows kind start ts m r).1 tt
