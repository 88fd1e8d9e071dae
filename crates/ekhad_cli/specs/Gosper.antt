-- What `gosper` writes of the text of a term, and what refuses the text.
use Rattle.std.specs.Prelude.{◌≡◌, ℕ, List, [], ◌∷◌, Ok, Err}
use Rattle.steps.specs.Steps.{IsTooLargeAt}
use Rattle.steps.specs.Answers.{Cause, HasCause}
use Rattle.steps.specs.TermFaults.{TermRefusal}
use Rattle.hypergeometric.specs.ProperTerm.{ProperTerm}
use Rattle.document_text.specs.Document.{Document, document_text}
use Rattle.term_pieces.specs.NormalForm.{Normal}
use Rattle.grammar.specs.Tree.{Tree}
use Rattle.grammar.specs.Several.{a_term}
use Rattle.grammar.specs.Reading.{HasTrees, Fault, unexpected_at, unknown_name_at, unclosed_at, not_ascii_at, nesting_at}
use Rattle.term_classes.specs.Walk.{class_of}
use Rattle.ekhad_cli.specs.FirstRun.{IsFirstRunTerm}
use Rattle.ekhad_cli.specs.OrderSteps.{IsNormalAt, order_steps}
use Rattle.ekhad_cli.specs.Answer.{IsAnswerTo}
use Rattle.ekhad_cli.specs.declared.refusal.SyntaxKind.{SyntaxKind}
use Rattle.ekhad_cli.specs.declared.refusal.SyntaxKind.TheVariants.{Unexpected, UnknownName, Unclosed, NotAscii, Nesting}

-- the text of a document that answers the text of a term
abbrev pub IsAnswerText : List ℕ → List ℕ → Type 0
IsAnswerText term text = (d : Document) × IsAnswerTo term d × (text ≡ document_text d)

-- the fault of a text of a term, by what is wrong there and its place
abbrev pub fault_of : SyntaxKind → ℕ → Fault
fault_of Unexpected at = unexpected_at at
fault_of UnknownName at = unknown_name_at at
fault_of Unclosed at = unclosed_at at
fault_of NotAscii at = not_ascii_at at
fault_of Nesting at = nesting_at at

-- the walk over the tree of the text of a term ends with this refusal
abbrev pub IsRefusedBy : List ℕ → TermRefusal → Type 0
IsRefusedBy text refusal = (tree : Tree) × HasTrees a_term text (tree ∷ []) × ((class_of tree).outcome ≡ Err refusal)

-- an operation of the node at this place isn't in bounds in the walk over the tree of the text
abbrev pub IsTermTooLarge : List ℕ → ℕ → Type 0
IsTermTooLarge text at = (tree : Tree) × HasTrees a_term text (tree ∷ []) × IsTooLargeAt (class_of tree) at

-- The class of the tree of the text is none of the terms that are answered today. It has one normal form at the order 0, as every term has.
pub record HasFurtherTerm (text : List ℕ) : Type 0 where
  pub tree : Tree
  pub read : HasTrees a_term text (tree ∷ [])
  pub term : ProperTerm
  pub class : (class_of tree).outcome ≡ Ok term
  pub further : ¬ IsFirstRunTerm term
  pub normal : Normal
  pub is_normal : IsNormalAt normal term 0

-- the steps of the order 0 have this cause of a fault: the first limit that is passed, or an operation that isn't in bounds
abbrev pub IsRefusedAtOrder : List ℕ → Cause (Unit {0}) ⊥ → Type 0
IsRefusedAtOrder text cause = (t : HasFurtherTerm text) × HasCause (order_steps t.term 0 t.normal) cause

-- no limit is passed in them, and the term is answered by no command yet
abbrev pub IsUnbuilt : List ℕ → Type 0
IsUnbuilt text = (t : HasFurtherTerm text) × ((order_steps t.term 0 t.normal).outcome ≡ Ok t.normal)
