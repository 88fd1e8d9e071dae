-- Each state that goes on can be completed to a text of its kind.
use Rattle.std.proofs.Common.{◌≡◌, ℕ, ◌+◌, ◌-◌, ◌≤◌, zero, suc, true, List, [], ◌∷◌, Some, None, refl, ap, sym, ◌∙◌, arith, ltb-true}
use Rattle.std.proofs.lemmas.Bool.{false≢true}
use Rattle.std.specs.Prelude.{◌==◌}
use Rattle.grammar.specs.Token.{digits, comma, semicolon, Placed}
use Rattle.grammar.specs.Grammar.{Sum, product_alone, power_alone, postfix_alone, atom_alone, the_k, sum_text}
use Rattle.grammar.specs.Bounds.{Bound, plain_bound, minus_bound, Bounds, bound_alone, bound_more, bound_text, bounds_text, count}
use Rattle.grammar.specs.Several.{term_alone, term_more, terms_text, Derivation, only_terms, with_bounds, derivation_text, Kind, a_term, a_pair, a_boxed, a_recurrence, is_whole}
use Rattle.grammar.proofs.State.{State}
use Rattle.grammar.proofs.States.{Before, BeforeBound, BoundState, wants_bound, wants_digits, has_bound, States, in_term, in_bounds, with_term, with_bound, before_text, before_bound_text, bound_state_text, states_text, GoesOnBounds, GoesOn}
use Rattle.grammar.proofs.Prefixes.{completion}

pub with_term_text : (b : Before) (s : Sum) (rest : List Placed) → terms_text (with_term b s) rest ≡ before_text b (sum_text s rest)
with_term_text None s rest = refl
with_term_text (Some b) s rest = refl

pub with_bound_text : (b : BeforeBound) (x : Bound) (rest : List Placed) → bounds_text (with_bound b x) rest ≡ before_bound_text b (bound_text x rest)
with_bound_text None x rest = refl
with_bound_text (Some b) x rest = refl

abbrev pub IsCompleted : Kind → States → Type 0
IsCompleted kind m = (rest : List Placed) × (d : Derivation) × (is_whole kind d ≡ true) × (states_text m rest ≡ derivation_text d [])

-- the bounds that are missing
abbrev AreCompleted : Bounds → Type 0
AreCompleted bs = (rest : List Placed) × (all : Bounds) × (count all ≡ 4) × (bounds_text bs rest ≡ bounds_text all [])

more_bounds : (missing : ℕ) (bs : Bounds) → count bs + missing ≡ 4 → AreCompleted bs
more_bounds zero bs e = ([], bs, omega (arith, e), refl)
more_bounds (suc missing) bs e =
    let h = more_bounds missing (bound_more bs 0 (plain_bound 0 0)) (omega (arith, e)) in
    ((0, comma) ∷ (0, digits 0) ∷ h.0, h.1, h.2, h.3)

four_bounds : (bs : Bounds) → count bs ≤ 4 → AreCompleted bs
four_bounds bs few = more_bounds (4 - count bs) bs (omega (arith, few))

last_bound : (x : BoundState) → (front : List Placed → List Placed) × (b : Bound) × ((rest : List Placed) → bound_state_text x (front rest) ≡ bound_text b rest)
last_bound wants_bound = (λ rest. (0, digits 0) ∷ rest, plain_bound 0 0, λ rest. refl)
last_bound (wants_digits at) = (λ rest. (0, digits 0) ∷ rest, minus_bound at 0 0, λ rest. refl)
last_bound (has_bound b) = (λ rest. rest, b, λ rest. refl)

few_with : (b : BeforeBound) (x : Bound) → GoesOnBounds b → count (with_bound b x) ≤ 4
few_with None x on = omega arith
few_with (Some b) x on = omega (arith, ltb-true (count b.0) 4 on)

bounds_completed : (b : BeforeBound) (x : BoundState) → GoesOnBounds b → (rest : List Placed) × (all : Bounds) × (count all ≡ 4) ×
    (before_bound_text b (bound_state_text x rest) ≡ bounds_text all [])
bounds_completed b x on =
    let h = last_bound x in
    let f = four_bounds (with_bound b h.1) (few_with b h.1 on) in
    (h.0 f.0, f.1, f.2, ap (before_bound_text b) (h.2 f.0) ∙ sym (with_bound_text b h.1 f.0) ∙ f.3)

four_is : (n : ℕ) → n ≡ 4 → (n == 4) ≡ true
four_is n e = ap (λ m. m == 4) e

-- Kind by kind.
abbrev a_k : Sum
a_k = product_alone (power_alone (postfix_alone (atom_alone (the_k 0))))

abbrev four_zeros : Bounds
four_zeros = bound_more (bound_more (bound_more (bound_alone (plain_bound 0 0)) 0 (plain_bound 0 0)) 0 (plain_bound 0 0)) 0 (plain_bound 0 0)

last_completed : (kind : Kind) (b : Before) (s : State) → ((c : Sum) → is_whole kind (only_terms (with_term b c)) ≡ true) → IsCompleted kind (in_term b s)
last_completed kind b s whole =
    let h = completion s in
    (h.0 [], only_terms (with_term b h.1), whole h.1, ap (before_text b) (h.2 []) ∙ sym (with_term_text b h.1 []))

first_completed : (kind : Kind) (s : State) → ((c : Sum) → is_whole kind (only_terms (term_more (term_alone c) 0 a_k)) ≡ true) → IsCompleted kind (in_term None s)
first_completed kind s whole =
    let h = completion s in
    (h.0 ((0, semicolon) ∷ sum_text a_k []), only_terms (term_more (term_alone h.1) 0 a_k), whole h.1, h.2 ((0, semicolon) ∷ sum_text a_k []))

-- a box in its first term, in its second, and in its bounds
first_of_box : (s : State) → IsCompleted a_boxed (in_term None s)
first_of_box s =
    let h = completion s in
    let behind : List Placed = (0, semicolon) ∷ sum_text a_k ((0, semicolon) ∷ bounds_text four_zeros []) in
    (h.0 behind, with_bounds (term_more (term_alone h.1) 0 a_k) 0 four_zeros, refl, h.2 behind)

second_of_box : (t : Sum) (at : ℕ) (s : State) → IsCompleted a_boxed (in_term (Some (term_alone t, at)) s)
second_of_box t at s =
    let h = completion s in
    let behind : List Placed = (0, semicolon) ∷ bounds_text four_zeros [] in
    (h.0 behind, with_bounds (term_more (term_alone t) at h.1) 0 four_zeros, refl, ap (λ z. sum_text t ((at, semicolon) ∷ z)) (h.2 behind))

bounds_of_box : (t u : Sum) (c at : ℕ) (b : BeforeBound) (x : BoundState) → GoesOnBounds b → IsCompleted a_boxed (in_bounds (term_more (term_alone t) c u) at b x)
bounds_of_box t u c at b x on =
    let h = bounds_completed b x on in (
      h.0,
      with_bounds (term_more (term_alone t) c u) at h.1,
      four_is (count h.1) h.2,
      ap (λ z. terms_text (term_more (term_alone t) c u) ((at, semicolon) ∷ z)) h.3,
    )

pub completed : (kind : Kind) (m : States) → GoesOn kind m → IsCompleted kind m
completed a_term (in_term None s) on = last_completed a_term None s (λ c. refl)
completed a_pair (in_term None s) on = first_completed a_pair s (λ c. refl)
completed a_boxed (in_term None s) on = first_of_box s
completed a_recurrence (in_term None s) on = first_completed a_recurrence s (λ c. refl)
completed a_pair (in_term (Some (term_alone t, at)) s) on = last_completed a_pair (Some (term_alone t, at)) s (λ c. refl)
completed a_boxed (in_term (Some (term_alone t, at)) s) on = second_of_box t at s
completed a_recurrence (in_term (Some b) s) on = last_completed a_recurrence (Some b) s (λ c. refl)
completed a_term (in_term (Some b) s) on = absurd (false≢true on)
completed a_pair (in_term (Some (term_more ts c t, at)) s) on = absurd (false≢true on)
completed a_boxed (in_term (Some (term_more ts c t, at)) s) on = absurd (false≢true on)
completed a_boxed (in_bounds (term_more (term_alone t) c u) at b x) on = bounds_of_box t u c at b x on.1
completed a_boxed (in_bounds (term_alone t) at b x) on = absurd (false≢true on.0)
completed a_boxed (in_bounds (term_more (term_more ts d t) c u) at b x) on = absurd (false≢true on.0)
completed a_term (in_bounds ts at b x) on = absurd (false≢true on.0)
completed a_pair (in_bounds ts at b x) on = absurd (false≢true on.0)
completed a_recurrence (in_bounds ts at b x) on = absurd (false≢true on.0)
