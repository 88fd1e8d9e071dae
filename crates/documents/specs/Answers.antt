-- What of a document answers its command, and the order that a claim speaks of.
use Rattle.std.specs.Prelude.{◌≡◌, ◌≢◌, ℕ, suc, List, [], ◌∷◌, Option, Some, None}
use Rattle.std.specs.List.{AllByRecursion}
use Rattle.documents.specs.Documents.{Claim, found, empty, pair, no_pair, sums, no_root, barren, solution, again, Document}

-- the claim has a recurrence, a pair or a solution
abbrev pub IsAnswer : Claim → Type 0
IsAnswer (found f) = Unit {0}
IsAnswer (empty e) = ⊥
IsAnswer (pair f) = Unit {0}
IsAnswer (no_pair e) = ⊥
IsAnswer (sums s) = ⊥
IsAnswer (no_root c) = ⊥
IsAnswer (barren c) = ⊥
IsAnswer (solution s) = Unit {0}
IsAnswer (again s) = ⊥

-- no claim of the document has a recurrence, a pair or a solution
abbrev pub HasNoAnswer : Document → Type 0
HasNoAnswer d = AllByRecursion (λ c. ¬ (IsAnswer c)) d.claims

-- the order of a claim, where it speaks of one
abbrev pub order_said : Claim → Option ℕ
order_said (found f) = Some f.order
order_said (empty e) = Some e.order
order_said (pair f) = Some f.order
order_said (no_pair e) = Some e.order
order_said (sums s) = None
order_said (no_root c) = None
order_said (barren c) = None
order_said (solution s) = None
order_said (again s) = None

-- the claims speak of the orders from one on, each of the next
abbrev pub HaveOrdersFrom : ℕ → List Claim → Type 0
HaveOrdersFrom order [] = Unit {0}
HaveOrdersFrom order (c ∷ cs) = (order_said c ≡ Some order) × HaveOrdersFrom (suc order) cs

-- no claim but the last is an answer
abbrev pub AnswersLast : List Claim → Type 0
AnswersLast [] = Unit {0}
AnswersLast (c ∷ cs) = (cs ≢ [] → ¬ (IsAnswer c)) × AnswersLast cs
