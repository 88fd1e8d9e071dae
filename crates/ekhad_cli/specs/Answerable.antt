-- Which texts are answered: those of the grammar, within the limits, whose steps are in bounds. A later command adds its case.
use Rattle.std.specs.Prelude.{◌≡◌, ◌≤◌, ℕ, List, [], ◌∷◌, length, Ok}
use Rattle.hypergeometric.specs.ProperTerm.{ProperTerm}
use Rattle.cert_text.specs.Readable.{Contents, IsTextOf}
use Rattle.cert_checker.specs.Checks.{AreInBounds}
use Rattle.grammar.specs.Tree.{Tree}
use Rattle.grammar.specs.Several.{a_term}
use Rattle.grammar.specs.Reading.{HasTrees}
use Rattle.steps.specs.Steps.{IsTooLargeAt}
use Rattle.term_classes.specs.Walk.{class_of}
use Rattle.ekhad_cli.specs.FirstRun.{IsFirstRunTerm}
use Rattle.ekhad_cli.specs.Commands.{most_bytes}
use Rattle.ekhad_cli.specs.declared.words.Command.{Command}
use Rattle.ekhad_cli.specs.declared.words.Command.TheVariants.{Gosper, Check}

-- a term that is answered today, which its text is within bounds
pub record IsAnswerableTerm (text : List ℕ) : Type 0 where
  pub tree : Tree
  pub read : HasTrees a_term text (tree ∷ [])
  pub term : ProperTerm
  pub class : (class_of tree).outcome ≡ Ok term
  pub answered : IsFirstRunTerm term
  pub in_bounds : (at : ℕ) → ¬ IsTooLargeAt (class_of tree) at

-- a document whose check is within bounds
pub record IsAnswerableDocument (text : List ℕ) : Type 0 where
  pub document : Contents
  pub read : IsTextOf text document
  pub in_bounds : AreInBounds document

-- a text that the command answers
abbrev pub IsAnswerable : Command → List ℕ → Type 0
IsAnswerable Gosper text = (length text ≤ most_bytes Gosper) × IsAnswerableTerm text
IsAnswerable Check text = (length text ≤ most_bytes Check) × IsAnswerableDocument text
