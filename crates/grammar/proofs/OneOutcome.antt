-- A text of a kind has one outcome: its trees and bounds or one first fault.
use Rattle.std.proofs.Common.{◌≡◌, ℕ, ◌+◌, List, [], ◌∷◌, ◌++◌, ◌⊎◌, refl, ap, sym, ◌∙◌, subst, inl, inr}
use Rattle.std.specs.Prelude.{ℤ}
use Rattle.std.proofs.lemmas.List.{append_assoc}
use Rattle.grammar.specs.Token.{Token, Placed, with_token, open_parentheses, IsOver64, IsNested64}
use Rattle.grammar.specs.Tokens.{Front, at_end, token, flawed, past_spaces, next_front, HasTokens}
use Rattle.grammar.specs.Tree.{Tree}
use Rattle.grammar.specs.Several.{derivation_trees, derivation_bounds, Kind, Continues}
use Rattle.grammar.specs.Reading.{Fault, IsMisfit, IsFaultBehind, AreFitting, IsFirstFault, HasContents}
use Rattle.grammar.proofs.TermKinds.{one_derivation}

tokens_same : (x y : Token) (m n : ℕ) → token x m ≡ token y n → (x ≡ y) × (m ≡ n)
tokens_same x y m n e = (cc, cc)

-- of the second list a token more is there, where the first has ended
abbrev IsLonger : List ℕ → List Placed → ℕ → List Placed → Type 0
IsLonger text ts e us = (u : Placed) × (rest : List Placed) × (len : ℕ) × (us ≡ ts ++ u ∷ rest) × (u.0 ≡ past_spaces text e) × (next_front text e ≡ token u.1 len)

abbrev Compared : List ℕ → List Placed → ℕ → List Placed → ℕ → Type 0
Compared text ts e us f = ((ts ≡ us) × (e ≡ f)) ⊎ (IsLonger text ts e us) ⊎ (IsLonger text us f ts)

with_head : (text : List ℕ) (t : Placed) (ts : List Placed) (e : ℕ) (us : List Placed) (f : ℕ) → Compared text ts e us f → Compared text (t ∷ ts) e (t ∷ us) f
with_head text t ts e us f (inl h) = inl (ap (λ z. t ∷ z) h.0, h.1)
with_head text t ts e us f (inr (inl h)) = inr (inl (h.0, h.1, h.2, ap (λ z. t ∷ z) h.3, h.4, h.5))
with_head text t ts e us f (inr (inr h)) = inr (inr (h.0, h.1, h.2, ap (λ z. t ∷ z) h.3, h.4, h.5))

compared : (text : List ℕ) (from : ℕ) (ts : List Placed) (e : ℕ) (us : List Placed) (f : ℕ) → HasTokens text from ts e → HasTokens text from us f → Compared text ts e us f
compared text from [] e [] f h k = inl (refl, sym h ∙ k)
compared text from [] e (u ∷ us) f h k = inr (inl (u, us, k.0, refl, k.1 ∙ ap (past_spaces text) h, ap (next_front text) (sym h) ∙ k.2))
compared text from (t ∷ ts) e [] f h k = inr (inr (t, ts, h.0, refl, h.1 ∙ ap (past_spaces text) k, ap (next_front text) (sym k) ∙ h.2))
compared text from (t ∷ ts) e (u ∷ us) f h k =
    let s = tokens_same t.1 u.1 h.0 k.0 (sym h.2 ∙ k.2) in
    let place : t.0 ≡ u.0 = h.1 ∙ sym k.1 in
    let one : t ≡ u = λ i. (place i, s.0 i) in
    let next : u.0 + k.0 ≡ t.0 + h.0 = λ i. sym place i + sym s.1 i in
    subst (λ z. Compared text (t ∷ ts) e (z ∷ us) f) one
    (with_head text t ts e us f (compared text (t.0 + h.0) ts e us f h.3 (subst (λ z. HasTokens text z us f) next k.3)))

-- nothing that fits goes on from here
abbrev Stops : Kind → List ℕ → List Placed → ℕ → Type 0
Stops kind text ts e = (u : Placed) (len : ℕ) → u.0 ≡ past_spaces text e → next_front text e ≡ token u.1 len → ¬ (IsOver64 (open_parentheses [] ts) u.1) → Continues kind (ts ++ u ∷ []) → ⊥

stops_at_end : (kind : Kind) (text : List ℕ) (ts : List Placed) (e : ℕ) → next_front text e ≡ at_end → Stops kind text ts e
stops_at_end kind text ts e end u len a f fine on = differ (sym end ∙ f)
  where
    differ : at_end ≡ token u.1 len → ⊥
    differ d = cc

stops_at_fault : (kind : Kind) (text : List ℕ) (ts : List Placed) (e : ℕ) (fault : Fault) → IsFaultBehind kind text ts (past_spaces text e) (next_front text e) fault → Stops kind text ts e
stops_at_fault kind text ts e fault h u len a f fine on = go (subst (λ x. IsFaultBehind kind text ts (past_spaces text e) x fault) f h)
  where
    go : IsMisfit kind ts u.1 (past_spaces text e) fault → ⊥
    go (inl over) = fine over.0
    go (inr m) = m.1 (subst (λ z. Continues kind (ts ++ z ∷ [])) (λ i. (a i, u.1)) on)

front_continues : (kind : Kind) (ts : List Placed) (u : Placed) (rest : List Placed) → Continues kind (ts ++ u ∷ rest) → Continues kind (ts ++ u ∷ [])
front_continues kind ts u rest h = (
  rest ++ h.0,
  h.1,
  record { whole = h.2.whole; text = append_assoc ts (u ∷ []) (rest ++ h.0) ∙ sym (append_assoc ts (u ∷ rest) h.0) ∙ h.2.text },
)

front_nested : (places : List ℕ) (ts : List Placed) (u : Placed) (rest : List Placed) → IsNested64 places (ts ++ u ∷ rest) → ¬ (IsOver64 (open_parentheses places ts) u.1)
front_nested places [] u rest h = h.0
front_nested places (t ∷ ts) u rest h = front_nested (with_token places t) ts u rest h.1

not_longer : (kind : Kind) (text : List ℕ) (ts : List Placed) (e : ℕ) (us : List Placed) (f : ℕ) → Stops kind text ts e → AreFitting kind text us f → IsLonger text ts e us → ⊥
not_longer kind text ts e us f stops fit h =
    stops h.0 h.2 h.4 h.5 (front_nested [] ts h.0 h.1 (subst (IsNested64 []) h.3 fit.nested)) (front_continues kind ts h.0 h.1 (subst (Continues kind) h.3 fit.continued))

-- both end alike
both : (kind : Kind) (text : List ℕ) (ts : List Placed) (e : ℕ) (us : List Placed) (f : ℕ) → AreFitting kind text ts e → AreFitting kind text us f → Stops kind text ts e → Stops kind text us f → (ts ≡ us) × (e ≡ f)
both kind text ts e us f a b s t = go (compared text 0 ts e us f a.are_next b.are_next)
  where
    go : Compared text ts e us f → (ts ≡ us) × (e ≡ f)
    go (inl h) = h
    go (inr (inl h)) = absurd (not_longer kind text ts e us f s b h)
    go (inr (inr h)) = absurd (not_longer kind text us f ts e t a h)

pub one_contents : (kind : Kind) (text : List ℕ) (t u : List Tree) (b c : List ℤ) → HasContents kind text t b → HasContents kind text u c → (t ≡ u) × (b ≡ c)
one_contents kind text t u b c h k =
    let same = both kind text h.0 h.1 k.0 k.1 h.2 k.2 (stops_at_end kind text h.0 h.1 h.3) (stops_at_end kind text k.0 k.1 k.3) in
    let one = one_derivation kind h.0 h.4 k.4 h.5 (record { whole = k.5.whole; text = same.0 ∙ k.5.text }) in
    (h.6 ∙ ap derivation_trees one ∙ sym k.6, h.7 ∙ ap derivation_bounds one ∙ sym k.7)

pub contents_or_fault : (kind : Kind) (text : List ℕ) (t : List Tree) (b : List ℤ) (fault : Fault) → HasContents kind text t b → ¬ (IsFirstFault kind text fault)
contents_or_fault kind text t b fault h k =
    let same = both kind text h.0 h.1 k.0 k.1 h.2 k.2 (stops_at_end kind text h.0 h.1 h.3) (stops_at_fault kind text k.0 k.1 fault k.3) in
    let end : next_front text k.1 ≡ at_end = ap (next_front text) (sym same.1) ∙ h.3 in
    let lacks = subst (λ x. IsFaultBehind kind text k.0 (past_spaces text k.1) x fault) end k.3 in
    lacks.0 h.4 (record { whole = h.5.whole; text = sym same.0 ∙ h.5.text })

pub one_fault : (kind : Kind) (text : List ℕ) (f g : Fault) → IsFirstFault kind text f → IsFirstFault kind text g → f ≡ g
one_fault kind text f g h k =
    let same = both kind text h.0 h.1 k.0 k.1 h.2 k.2 (stops_at_fault kind text h.0 h.1 f h.3) (stops_at_fault kind text k.0 k.1 g k.3) in
    go h.0 h.1 (next_front text h.1) h.3 (subst (λ e. IsFaultBehind kind text h.0 (past_spaces text e) (next_front text e) g) (sym same.1)
    (subst (λ ts. IsFaultBehind kind text ts (past_spaces text k.1) (next_front text k.1) g) (sym same.0) k.3))
  where
    misfits : (ts : List Placed) (t : Token) (at : ℕ) → IsMisfit kind ts t at f → IsMisfit kind ts t at g → f ≡ g
    misfits ts t at (inl a) (inl b) = a.1 ∙ sym b.1
    misfits ts t at (inl a) (inr b) = absurd (b.0 a.0)
    misfits ts t at (inr a) (inl b) = absurd (a.0 b.0)
    misfits ts t at (inr a) (inr b) = a.2 ∙ sym b.2

    go : (ts : List Placed) (e : ℕ) (x : Front) → IsFaultBehind kind text ts (past_spaces text e) x f → IsFaultBehind kind text ts (past_spaces text e) x g → f ≡ g
    go ts e at_end a b = a.1 ∙ sym b.1
    go ts e (flawed w) a b = a ∙ sym b
    go ts e (token t len) a b = misfits ts t (past_spaces text e) a b
