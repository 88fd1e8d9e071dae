-- Texts with separators: their pieces are found one after another.
use Rattle.std.specs.Prelude.{◌≡◌, ◌≢◌, ℕ, false, not, List, [], ◌∷◌, ◌++◌, map, Option, Some, None}
use Rattle.std.specs.Option.{MatchOption}
use Rattle.std.specs.List.{AllByRecursion}
use Rattle.std.proofs.Common.{refl, ap, sym, ◌∙◌, append_assoc, append-nil, Bor}
use Rattle.std.proofs.lemmas.Bool.{eq-eqb}
use Rattle.std.proofs.lemmas.List.{map-append, append_cancel_left}
use Rattle.exact_texts.specs.Texts.{Only, other_than, joined}
use Rattle.exact_texts.proofs.Cuts.{cut}

abbrev pub separated : ℕ → List ℕ → List (List ℕ) → List ℕ
separated stop tail xs = joined (stop ∷ tail) xs

stop_outside : (stop : ℕ) → other_than stop stop ≡ false
stop_outside stop = ap not (eq-eqb stop stop refl)

-- what is found of the first piece and the text behind it
abbrev pub IsFirst : ℕ → List ℕ → List ℕ → List (List ℕ) → List ℕ → Option (Bor (List ℕ)) → Type 0
IsFirst stop tail x xs piece more = (piece ≡ x) × MatchOption more (xs ≡ []) (λ rest. (xs ≢ []) × (rest.now ≡ separated stop tail xs))

stopped : (stop : ℕ) (tail text front back x : List ℕ) (xs : List (List ℕ)) → Only (other_than stop) x → Only (other_than stop) front
    → text ≡ front ++ stop ∷ back → text ≡ separated stop tail (x ∷ xs) → (front ≡ x) × (xs ≢ []) × (back ≡ tail ++ separated stop tail xs)
stopped stop tail text front back x [] p q e f =
    let parts = cut (other_than stop) x front [] (stop ∷ back) p q tt (stop_outside stop) (append-nil x ∙ sym f ∙ e) in
    let never = parts.1 in
    cc
stopped stop tail text front back x (y ∷ ys) p q e f =
    let parts = cut (other_than stop) front x (stop ∷ back) (stop ∷ (tail ++ separated stop tail (y ∷ ys))) q p (stop_outside stop)
    (stop_outside stop) (sym e ∙ f) in
    let rest = parts.1 in
    (parts.0, (λ h. cc), cc)

pub first_found : (stop : ℕ) (tail text front back x : List ℕ) (xs : List (List ℕ)) (more : Option (Bor (List ℕ)))
    → Only (other_than stop) x → Only (other_than stop) front → text ≡ front ++ stop ∷ back → text ≡ separated stop tail (x ∷ xs)
    → MatchOption more ((rest : List ℕ) → back ≢ tail ++ rest) (λ rest. back ≡ tail ++ rest.now) → IsFirst stop tail x xs front more
first_found stop tail text front back x xs None p q e f m =
    let found = stopped stop tail text front back x xs p q e f in
    absurd (m (separated stop tail xs) found.2)
first_found stop tail text front back x xs (Some rest) p q e f m =
    let found = stopped stop tail text front back x xs p q e f in
    (found.0, (found.1, append_cancel_left tail rest.now (separated stop tail xs) (sym m ∙ found.2)))

-- the pieces so far and those to come are all
pub record IsSplit (stop : ℕ) (tail : List ℕ) (xs : List (List ℕ)) (found : List (Bor (List ℕ))) (rest : List ℕ) : Type 0 where
  pub ahead : List (List ℕ)
  pub some : ahead ≢ []
  pub each : AllByRecursion (Only (other_than stop)) ahead
  pub all : xs ≡ map (λ p. p.now) found ++ ahead
  pub spelled : rest ≡ separated stop tail ahead

added : (xs ws : List (List ℕ)) (w : List ℕ) (found : List (Bor (List ℕ))) (piece : Bor (List ℕ)) → xs ≡ map (λ p. p.now) found ++ w ∷ ws
    → piece.now ≡ w
    → xs ≡ map (λ p. p.now) (found ++ piece ∷ []) ++ ws
added xs ws w found piece e h =
    e ∙ ap (λ v. map (λ p. p.now) found ++ v ∷ ws) (sym h) ∙ sym (append_assoc (map (λ p. p.now) found) (piece.now ∷ []) ws)
    ∙ ap (λ t. t ++ ws) (sym (map-append (λ (p : Bor (List ℕ)). p.now) found (piece ∷ [])))

pub split_more : (stop : ℕ) (tail : List ℕ) (xs : List (List ℕ)) (found : List (Bor (List ℕ))) (rest : List ℕ) (piece more : Bor (List ℕ))
    → IsSplit stop tail xs found rest
    → ((x : List ℕ) (ys : List (List ℕ)) → Only (other_than stop) x → rest ≡ separated stop tail (x ∷ ys) → IsFirst stop tail x ys piece.now
    (Some more))
    → IsSplit stop tail xs (found ++ piece ∷ []) more.now
split_more stop tail xs found rest piece more s first = go s.ahead s.some s.each s.all s.spelled
  where
    go : (ahead : List (List ℕ)) → ahead ≢ [] → AllByRecursion (Only (other_than stop)) ahead → xs ≡ map (λ p. p.now) found ++ ahead
        → rest ≡ separated stop tail ahead → IsSplit stop tail xs (found ++ piece ∷ []) more.now
    go [] some each all spelled = absurd (some refl)
    go (w ∷ ws) some each all spelled =
        let one = first w ws each.0 spelled in
        record { ahead = ws; some = one.1.0; each = each.1; all = added xs ws w found piece all one.0; spelled = one.1.1 }

pub split_all : (stop : ℕ) (tail : List ℕ) (xs : List (List ℕ)) (found : List (Bor (List ℕ))) (rest : List ℕ) (piece : Bor (List ℕ))
    → IsSplit stop tail xs found rest
    → ((x : List ℕ) (ys : List (List ℕ)) → Only (other_than stop) x → rest ≡ separated stop tail (x ∷ ys) → IsFirst stop tail x ys piece.now None)
    → map (λ p. p.now) (found ++ piece ∷ []) ≡ xs
split_all stop tail xs found rest piece s first = go s.ahead s.some s.each s.all s.spelled
  where
    go : (ahead : List (List ℕ)) → ahead ≢ [] → AllByRecursion (Only (other_than stop)) ahead → xs ≡ map (λ p. p.now) found ++ ahead
        → rest ≡ separated stop tail ahead → map (λ p. p.now) (found ++ piece ∷ []) ≡ xs
    go [] some each all spelled = absurd (some refl)
    go (w ∷ ws) some each all spelled =
        let one = first w ws each.0 spelled in
        sym (added xs ws w found piece all one.0 ∙ ap (λ t. map (λ p. p.now) (found ++ piece ∷ []) ++ t) one.1
        ∙ append-nil (map (λ p. p.now) (found ++ piece ∷ [])))
