-- What reading a text of a kind gives: the trees and bounds of the grammar, or the first fault.
use Rattle.std.specs.Prelude.{ℕ, List, [], ◌∷◌, ◌++◌, ◌≡◌, ◌⊎◌, length, ℤ}
use Rattle.grammar.specs.Token.{Token, Placed, open_parentheses, IsOver64, IsNested64}
use Rattle.grammar.specs.Tokens.{Flaw, strange, not_ascii, unknown_name, literal_too_large, Front, at_end, token, flawed, past_spaces, next_front, HasTokens}
use Rattle.grammar.specs.Tree.{Tree}
use Rattle.grammar.specs.Several.{Derivation, derivation_trees, derivation_bounds, Kind, Derives, Continues}

-- what is wrong with a text, and the place of the byte where it is
pub data Fault : Type 0 where
  unexpected_at : ℕ → Fault
  unknown_name_at : ℕ → Fault
  unclosed_at : ℕ → Fault
  empty_input : Fault
  not_ascii_at : ℕ → Fault
  nesting_at : ℕ → Fault
  literal_too_large_at : ℕ → Fault

-- the fault of a text whose token at this place is flawed
abbrev pub flaw_at : Flaw → ℕ → Fault
flaw_at strange at = unexpected_at at
flaw_at not_ascii at = not_ascii_at at
flaw_at unknown_name at = unknown_name_at at
flaw_at literal_too_large at = literal_too_large_at at

-- the fault of a token behind these, where it has none of its own
abbrev pub IsMisfit : Kind → List Placed → Token → ℕ → Fault → Type 0
IsMisfit kind ts t at fault =
    (IsOver64 (open_parentheses [] ts) t × (fault ≡ nesting_at at))
    ⊎ ((¬ (IsOver64 (open_parentheses [] ts) t)) × (¬ (Continues kind (ts ++ (at, t) ∷ []))) × (fault ≡ unexpected_at at))

-- the fault of an end behind these tokens
abbrev pub end_fault : List Placed → List ℕ → ℕ → Fault
end_fault [] open_at length = empty_input
end_fault ts [] length = unexpected_at length
end_fault ts (at ∷ more) length = unclosed_at at

-- tokens and then a fault
abbrev pub IsFaultBehind : Kind → List ℕ → List Placed → ℕ → Front → Fault → Type 0
IsFaultBehind kind text ts at (flawed flaw) fault = fault ≡ flaw_at flaw at
IsFaultBehind kind text ts at (token t len) fault = IsMisfit kind ts t at fault
IsFaultBehind kind text ts at at_end fault =
    ((d : Derivation) → ¬ (Derives kind ts d)) × (fault ≡ end_fault ts (open_parentheses [] ts) (length text))

-- tokens that were read and fit: some text goes on from them
pub record AreFitting (kind : Kind) (text : List ℕ) (ts : List Placed) (end : ℕ) : Type 0 where
  pub are_next : HasTokens text 0 ts end
  pub nested : IsNested64 [] ts
  pub continued : Continues kind ts

-- behind some tokens that a whole text may begin with, the text has this fault
abbrev pub IsFirstFault : Kind → List ℕ → Fault → Type 0
IsFirstFault kind text fault = (ts : List Placed) × (end : ℕ) × AreFitting kind text ts end
    × IsFaultBehind kind text ts (past_spaces text end) (next_front text end) fault

-- the trees of its terms and the numbers of its bounds, in their order
abbrev pub HasContents : Kind → List ℕ → List Tree → List ℤ → Type 0
HasContents kind text trees bounds = (ts : List Placed) × (end : ℕ) × AreFitting kind text ts end × (next_front text end ≡ at_end)
    × (d : Derivation) × Derives kind ts d × (trees ≡ derivation_trees d) × (bounds ≡ derivation_bounds d)

-- the trees of its terms in their order, and no bounds
abbrev pub HasTrees : Kind → List ℕ → List Tree → Type 0
HasTrees kind text trees = HasContents kind text trees []
