-- A prefix of a text of a kind is what its reader goes through.
use Rattle.std.proofs.Common.{◌≡◌, Bool, true, false, List, [], ◌∷◌, ◌++◌, Option, Some, None, refl, ap, sym, ◌∙◌, append-nil, subst}
use Rattle.std.proofs.lemmas.Bool.{false≢true}
use Rattle.std.specs.Prelude.{is_some, option_and_then, if◌then◌else◌}
use Rattle.grammar.specs.Token.{semicolon, Placed}
use Rattle.grammar.specs.Grammar.{Sum}
use Rattle.grammar.specs.Several.{terms_text, Derivation, only_terms, with_bounds, derivation_text, Kind, is_whole, Derives, Continues}
use Rattle.grammar.proofs.State.{finished}
use Rattle.grammar.proofs.States.{wants_bound, wants_digits, has_bound, States, in_term, in_bounds, start, with_term, with_bound, step_terms, run_terms, where_whole, finished_terms, before_text, states_text}
use Rattle.grammar.proofs.Prefixes.{some_of, none_some, finished_text}
use Rattle.grammar.proofs.WholeTexts.{derivation_read}
use Rattle.grammar.proofs.Follows.{run_follows, goes_on}
use Rattle.grammar.proofs.Completions.{with_term_text, with_bound_text, completed}

-- what a finished state has taken in
finishes : (kind : Kind) (m : States) (d : Derivation) → finished_terms kind m ≡ Some d → (is_whole kind d ≡ true) × (derivation_text d [] ≡ states_text m [])
finishes kind (in_term b s) d e = go (finished s) refl e
  where
    by_whole : (c : Sum) → finished s ≡ Some c → (w : Bool) → is_whole kind (only_terms (with_term b c)) ≡ w →
        (if w then Some (only_terms (with_term b c)) else None) ≡ Some d → (is_whole kind d ≡ true) × (derivation_text d [] ≡ states_text (in_term b s) [])
    by_whole c f true is e = subst (λ z. (is_whole kind z ≡ true) × (derivation_text z [] ≡ states_text (in_term b s) [])) (some_of e)
        (is, with_term_text b c [] ∙ ap (before_text b) (finished_text s c f []))
    by_whole c f false is e = none_some e

    go : (o : Option Sum) → finished s ≡ o → (elim o as (λ _. Option Derivation) [ None ↦ None | Some c ↦ where_whole kind (only_terms (with_term b c)) ]) ≡ Some d →
        (is_whole kind d ≡ true) × (derivation_text d [] ≡ states_text (in_term b s) [])
    go (Some c) f e = by_whole c f (is_whole kind (only_terms (with_term b c))) refl e
    go None f e = none_some e
finishes kind (in_bounds ts at b (has_bound x)) d e = go (is_whole kind (with_bounds ts at (with_bound b x))) refl e
  where
    go : (w : Bool) → is_whole kind (with_bounds ts at (with_bound b x)) ≡ w → (if w then Some (with_bounds ts at (with_bound b x)) else None) ≡ Some d →
        (is_whole kind d ≡ true) × (derivation_text d [] ≡ states_text (in_bounds ts at b (has_bound x)) [])
    go true is e = subst (λ z. (is_whole kind z ≡ true) × (derivation_text z [] ≡ states_text (in_bounds ts at b (has_bound x)) [])) (some_of e)
        (is, ap (λ z. terms_text ts ((at, semicolon) ∷ z)) (with_bound_text b x []))
    go false is e = none_some e
finishes kind (in_bounds ts at b wants_bound) d e = none_some e
finishes kind (in_bounds ts at b (wants_digits m)) d e = none_some e

pub accepted : (kind : Kind) (ts : List Placed) (m : States) (d : Derivation) → run_terms kind start ts ≡ Some m → finished_terms kind m ≡ Some d → Derives kind ts d
accepted kind ts m d r e =
    let h = finishes kind m d e in
    record { whole = h.0; text = sym (append-nil ts) ∙ sym ((run_follows kind start ts m r).0 []) ∙ sym h.1 }

-- what the reader goes through can be continued
pub run_continues : (kind : Kind) (ts : List Placed) (m : States) → run_terms kind start ts ≡ Some m → Continues kind ts
run_continues kind ts m r =
    let h = completed kind m (goes_on kind ts m r) in
    (h.0, h.1, record { whole = h.2; text = sym ((run_follows kind start ts m r).0 h.0) ∙ h.3 })

run_append : (kind : Kind) (m : States) (ts rest : List Placed) (next : States) → run_terms kind m (ts ++ rest) ≡ Some next → (x : States) × (run_terms kind m ts ≡ Some x)
run_append kind m [] rest next e = (m, refl)
run_append kind m (t ∷ ts) rest next e = go (step_terms kind m t.0 t.1) refl e (λ x. run_append kind x ts rest next)
  where
    go : (o : Option States) → step_terms kind m t.0 t.1 ≡ o → (elim o as (λ _. Option States) [ None ↦ None | Some x ↦ run_terms kind x (ts ++ rest) ]) ≡ Some next →
        ((x : States) → run_terms kind x (ts ++ rest) ≡ Some next → (y : States) × (run_terms kind x ts ≡ Some y)) →
        (y : States) × (run_terms kind m (t ∷ ts) ≡ Some y)
    go (Some x) f e ih = let h = ih x e in (h.0, ap (λ o. elim o as (λ _. Option States) [ None ↦ None | Some x ↦ run_terms kind x ts ]) f ∙ h.1)
    go None f e ih = none_some e

derived_runs : (kind : Kind) (ts : List Placed) (c : Derivation) → Derives kind ts c → (m : States) × (run_terms kind start ts ≡ Some m) × (finished_terms kind m ≡ Some c)
derived_runs kind ts c d =
    let h = derivation_read kind c d.whole in
    (h.0, ap (run_terms kind start) d.text ∙ h.1, h.2)

-- what can be continued the reader goes through
continues_runs : (kind : Kind) (ts : List Placed) → Continues kind ts → (m : States) × (run_terms kind start ts ≡ Some m)
continues_runs kind ts h = let r = derived_runs kind (ts ++ h.0) h.1 h.2 in run_append kind start ts h.0 r.0 r.1

pub not_continues : (kind : Kind) (ts : List Placed) → run_terms kind start ts ≡ None → ¬ (Continues kind ts)
not_continues kind ts r h = let x = continues_runs kind ts h in none_some (sym r ∙ x.1)

-- a prefix that is a text itself ends in a finished state
derived_finishes : (kind : Kind) (ts : List Placed) (m : States) (c : Derivation) → run_terms kind start ts ≡ Some m → Derives kind ts c → finished_terms kind m ≡ Some c
derived_finishes kind ts m c r d =
    let h = derived_runs kind ts c d in
    ap (finished_terms kind) (some_of (sym r ∙ h.1)) ∙ h.2

pub not_derived : (kind : Kind) (ts : List Placed) (m : States) → run_terms kind start ts ≡ Some m → finished_terms kind m ≡ None → (c : Derivation) → ¬ (Derives kind ts c)
not_derived kind ts m r f c d = none_some (sym f ∙ derived_finishes kind ts m c r d)

pub one_derivation : (kind : Kind) (ts : List Placed) (c e : Derivation) → Derives kind ts c → Derives kind ts e → c ≡ e
one_derivation kind ts c e d f = let h = derived_runs kind ts c d in some_of (sym h.2 ∙ derived_finishes kind ts h.0 e h.1 f)

-- by computing
pub continues_where : (kind : Kind) (ts : List Placed) → is_some (run_terms kind start ts) ≡ true → Continues kind ts
continues_where kind ts = go (run_terms kind start ts) refl
  where
    go : (o : Option States) → run_terms kind start ts ≡ o → is_some o ≡ true → Continues kind ts
    go (Some m) e h = run_continues kind ts m e
    go None e h = absurd (false≢true h)

pub not_derived_where : (kind : Kind) (ts : List Placed) → option_and_then (finished_terms kind) (run_terms kind start ts) ≡ None → (c : Derivation) → ¬ (Derives kind ts c)
not_derived_where kind ts e c d =
    let h = derived_runs kind ts c d in
    none_some (sym e ∙ ap (λ o. option_and_then (finished_terms kind) o) h.1 ∙ h.2)
