-- What the steps of an order answer: a term has one normal form there, and each refusal has its cause.
use Rattle.std.proofs.Common.{◌≡◌, ◌≤◌, ℕ, List, [], ◌∷◌, length, Ok, refl, ap, ◌∙◌, subst}
use Rattle.hypergeometric.specs.ProperTerm.{ProperTerm}
use Rattle.term_pieces.specs.Pieces.{Pieces, ArePiecesOf}
use Rattle.term_pieces.specs.NormalForm.{Normal, IsNormalFormOf}
use Rattle.term_pieces.proofs.OnePieces.{one_pieces}
use Rattle.term_pieces.proofs.OneNormalForm.{one_normal_form}
use Rattle.term_pieces.proofs.SomePieces.{some_pieces}
use Rattle.term_pieces.proofs.SomeNormalForm.{some_normal_form}
use Rattle.grammar.specs.Tree.{Tree}
use Rattle.grammar.specs.Several.{a_term}
use Rattle.grammar.specs.Reading.{HasTrees}
use Rattle.steps.specs.Answers.{HasCause}
use Rattle.steps.specs.StepFaults.{step_cause}
use Rattle.steps.specs.declared.faults.StepFault.{StepFault}
use Rattle.steps.specs.declared.faults.StepFault.TheVariants as step
use Rattle.steps.proofs.AnswerLaws.{later_cause, later_outcome}
use Rattle.term_classes.specs.Walk.{class_of}
use Rattle.gosper_form.specs.PieceSteps.{pieces_steps}
use Rattle.gosper_form.specs.NormalShifts.{normal_steps}
use Rattle.ekhad_cli.specs.FirstRun.{IsFirstRunTerm}
use Rattle.ekhad_cli.specs.OrderSteps.{IsNormalAt, order_steps}
use Rattle.ekhad_cli.specs.Gosper.{HasFurtherTerm}
use Rattle.ekhad_cli.specs.Commands.{most_bytes, IsCause}
use Rattle.ekhad_cli.specs.Converted.{refusal_of_order}
use Rattle.ekhad_cli.specs.declared.words.Command.TheVariants.{Gosper}
use Rattle.ekhad_cli.specs.declared.refusal.Refusal.TheVariants.{Unbuilt}

-- each term has a normal form at each order
some_normal_at : (f : ProperTerm) (order : ℕ) → (normal : Normal) × IsNormalAt normal f order
some_normal_at f order =
    let pieces = some_pieces f order in
    let normal = some_normal_form pieces.0.q0 pieces.0.r0 in
    (normal.0, record { pieces = pieces.0; are_pieces = pieces.1; is_normal = normal.1 })

-- a normal form at an order is that of the pieces there
module _ (f : ProperTerm) (order : ℕ) (pieces : Pieces) (are : ArePiecesOf pieces f order) (normal : Normal) (at : IsNormalAt normal f order) where
  pub normal_of_pieces : IsNormalFormOf normal pieces.q0 pieces.r0
  normal_of_pieces = subst (λ (p : Pieces). IsNormalFormOf normal p.q0 p.r0) (one_pieces f order at.pieces pieces at.are_pieces are) at.is_normal

  -- what the steps to it answer, the steps of the order do
  pub shifts_refused : (fault : StepFault) → (pieces_steps f order).outcome ≡ Ok (tt {0}) → HasCause (normal_steps normal) (step_cause fault)
      → HasCause (order_steps f order normal) (step_cause fault)
  shifts_refused fault made cause = later_cause (pieces_steps f order) (λ _. normal_steps normal) (tt {0}) (step_cause fault) made cause

  pub all_passed : (found : Normal) → (pieces_steps f order).outcome ≡ Ok (tt {0}) → IsNormalFormOf found pieces.q0 pieces.r0
      → (normal_steps normal).outcome ≡ Ok found → (order_steps f order normal).outcome ≡ Ok normal
  all_passed found made is passed =
      later_outcome (pieces_steps f order) (λ _. normal_steps normal) (tt {0}) (Ok normal) made
      (passed ∙ ap Ok (one_normal_form found normal pieces.q0 pieces.r0 is normal_of_pieces))

-- a text whose term isn't answered today
module _ (text : List ℕ) (tree : Tree) (f : ProperTerm) (few : length text ≤ most_bytes Gosper) (read : HasTrees a_term text (tree ∷ []))
    (class : (class_of tree).outcome ≡ Ok f) (further : ¬ IsFirstRunTerm f) where
  abbrev further_term : HasFurtherTerm text
  further_term =
      let normal = some_normal_at f 0 in
      record { tree = tree; read = read; term = f; class = class; further = further; normal = normal.0; is_normal = normal.1 }

  pub unbuilt_cause : ((normal : Normal) → IsNormalAt normal f 0 → (order_steps f 0 normal).outcome ≡ Ok normal) → IsCause Gosper text Unbuilt
  unbuilt_cause passed = (few, (further_term, passed further_term.normal further_term.is_normal))

  pub order_cause : (fault : StepFault) → ((normal : Normal) → IsNormalAt normal f 0 → HasCause (order_steps f 0 normal) (step_cause fault))
      → IsCause Gosper text (refusal_of_order 0 fault)
  order_cause (step.Limit name counted) cause = (few, (further_term, cause further_term.normal further_term.is_normal))
  order_cause step.TooLarge cause = (few, refl, (further_term, cause further_term.normal further_term.is_normal))
  order_cause step.Memory cause = tt
