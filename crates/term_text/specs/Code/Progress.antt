-- How far a text of a kind is read.
use Rattle.std.specs.Prelude.{ℕ, Bool, true, false, ◌&&◌, ◌==◌, ◌-◌, ◌≡◌, ◌≤◌, ◌<◌, List, [], ◌∷◌, ◌++◌, length, take, map, Option, Some, None, Result, Ok, Err, if◌then◌else◌}
use Rattle.grammar.specs.Token as t
use Rattle.grammar.specs.Reading as r
use Rattle.grammar.specs.Several as k
use Rattle.grammar.proofs.States as g
use Rattle.term_text.specs.declared.state.Token.{Token}
use Rattle.term_text.specs.declared.state.Token.TheVariants as token
use Rattle.term_text.specs.declared.front.Flaw.{Flaw}
use Rattle.term_text.specs.declared.front.Flaw.TheVariants as flaw
use Rattle.term_text.specs.declared.fault.TextFault.{TextFault}
use Rattle.term_text.specs.declared.fault.TextFault.TheVariants.{Unexpected, UnknownName, UnclosedParen, EmptyInput, NotAscii, Nesting, LiteralTooLarge, Memory}
use Rattle.term_text.specs.declared.read.Progress.{Progress}
use Rattle.term_text.specs.declared.read.Turn.{Turn}
use Rattle.term_text.specs.declared.read.Turn.TheVariants as turn
use Rattle.term_text.specs.Code.Steps.{is_empty}
use Rattle.term_text.specs.Code.SeveralSteps.{begin, whole_contents, step_several}
use Rattle.term_text.specs.Code.SeveralImage.{several_image}
use Rattle.term_text.specs.declared.several.Kind.{Kind}
use Rattle.term_text.specs.declared.several.Now.TheVariants.{Term}
use Rattle.term_text.specs.declared.several.Several.{Several}
use Rattle.term_text.specs.declared.several.Contents.{Contents}
use Rattle.term_text.specs.View.{tree_of}
use Rattle.term_text.specs.Answers.{HasFault}

-- the terms and the bounds of a text, or its first fault
abbrev pub ReadsContents : k.Kind → List ℕ → Result Contents TextFault → Type 0
ReadsContents kind text (Ok c) = r.HasContents kind text (map tree_of c.terms) c.bounds
ReadsContents kind text (Err e) = HasFault kind text e

-- what a call gives unless memory runs out
abbrev pub Fails : {A : Type 0} → TextFault → Result A TextFault → Type 0
Fails Memory read = Unit {0}
Fails e read = read ≡ Err e

-- a call gives this answer unless memory runs out
abbrev pub Gives : {A : Type 0} → Result A TextFault → Result A TextFault → Type 0
Gives (Ok x) read = read ≡ Ok x
Gives (Err e) read = Fails e read

-- what a reader knows before its first token
abbrev pub start : Progress
start = record { from = 0; several = record { before = []; now = Term begin }; places = []; empty = true }

-- the places without the last one
abbrev pub without_last : List ℕ → List ℕ
without_last ps = take (length ps - 1) ps

-- the places of the open parentheses behind a token at this place
abbrev pub placed : List ℕ → Token → ℕ → List ℕ
placed places token.Opening at = places ++ at ∷ []
placed places token.Closing at = without_last places
placed places _ at = places

-- whether a token opens a parenthesis
abbrev pub is_opening : Token → Bool
is_opening token.Opening = true
is_opening _ = false

-- what a reader knows behind a token that may stand here; else the token is unexpected
abbrev pub taken_state : Option Several → List ℕ → ℕ → ℕ → Result Progress TextFault
taken_state None places at end = Err (Unexpected at)
taken_state (Some s) places at end = Ok (record { from = end; several = s; places = places; empty = false })

-- what a reader knows behind a token, or that it is nested too deep or unexpected
abbrev pub taken : Kind → Progress → Token → ℕ → ℕ → Result Progress TextFault
taken kind p t at end =
    if is_opening t && length p.places == 64 then Err (Nesting at)
    else taken_state (step_several kind p.several t at) (placed p.places t at) at end

-- the fault of a text whose token at this place is flawed
abbrev pub fault_of_flaw : Flaw → ℕ → TextFault
fault_of_flaw flaw.Strange at = Unexpected at
fault_of_flaw flaw.NotAscii at = NotAscii at
fault_of_flaw flaw.UnknownName at = UnknownName at
fault_of_flaw flaw.LiteralTooLarge at = LiteralTooLarge at

-- the last of some places
abbrev pub last_of : List ℕ → Option ℕ
last_of [] = None
last_of (a ∷ []) = Some a
last_of (a ∷ b ∷ ps) = last_of (b ∷ ps)

-- the fault of a text that ends too soon: empty, an open parenthesis, or an end that is unexpected
abbrev pub end_fault : List ℕ → Bool → ℕ → TextFault
end_fault places empty len =
    if empty then EmptyInput
    else (elim (last_of places) as (λ _. TextFault) [ None ↦ Unexpected len | Some at ↦ UnclosedParen at ])

-- the terms and bounds of a text that ends here, or its fault
abbrev pub ended : Kind → Progress → ℕ → Result Contents TextFault
ended kind p len = elim (whole_contents kind p.several) as (λ _. Result Contents TextFault) [ Some c ↦ Ok c | None ↦ Err (end_fault p.places p.empty len) ]

-- the code's places of those of the definition, the last one last
abbrev pub places_image : List ℕ → List ℕ
places_image [] = []
places_image (at ∷ ps) = places_image ps ++ at ∷ []

-- some tokens are read
pub record IsAfter (kind : k.Kind) (text : List ℕ) (p : Progress) (ts : List t.Placed) : Type 0 where
  pub fits : r.AreFitting kind text ts p.from
  pub reached : (m : g.States) × (g.run_terms kind g.start ts ≡ Some m) × (p.several ≡ several_image m)
  pub places : p.places ≡ places_image (t.open_parentheses [] ts)
  pub empty : p.empty ≡ is_empty ts

-- What one turn gives.
abbrev pub IsTurn : k.Kind → List ℕ → Progress → Result Turn TextFault → Type 0
IsTurn kind text p (Ok (turn.Done c)) = r.HasContents kind text (map tree_of c.terms) c.bounds
IsTurn kind text p (Ok (turn.More next)) = (ts : List t.Placed) × IsAfter kind text next ts × (p.from < next.from) × (next.from ≤ length text)
IsTurn kind text p (Err e) = HasFault kind text e
