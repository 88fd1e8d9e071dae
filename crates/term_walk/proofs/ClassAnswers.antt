-- What the walk and the cancelling of the code say of the class of a tree, and of a quotient of two.
use Rattle.std.proofs.Common.{◌≡◌, ℕ, sym, subst, IfOk}
use Rattle.std.specs.Prelude.{pos, negsuc, Result, Ok, Err}
use Rattle.steps.specs.Answers.{HasCause, Answers}
use Rattle.steps.specs.Steps.{gives, ◌then◌}
use Rattle.steps.specs.TermFaults.{Improper, TermSteps, term_cause}
use Rattle.steps.specs.declared.faults.TermFault.{TermFault}
use Rattle.steps.proofs.AnswerLaws.{first_cause, later_cause, later_answer}
use Rattle.steps.proofs.StepLaws.{same_Ok}
use Rattle.hypergeometric.specs.ProperTerm.{ProperTerm}
use Rattle.hypergeometric.specs.TermFacts.{IsPlain}
use Rattle.hypergeometric.specs.TermValue.{HasValue}
use Rattle.hypergeometric.proofs.FractionLaws.{one_not_zero}
use Rattle.grammar.specs.Tree.{Tree}
use Rattle.term_classes.specs.TreeValue.{term_value}
use Rattle.term_classes.specs.ClassBounds.{IsTermInBounds}
use Rattle.term_classes.specs.ClassValues.{quotient_value}
use Rattle.term_classes.specs.Walk.{unit_term, walk, cancelled, class_of, class_of_quotient}
use Rattle.term_classes.proofs.ClassesHaveValues.{class_has_the_value, class_of_quotient_has_the_value}
use Rattle.term_classes.proofs.PlainClasses.{cancelled_plain, gathered_keeps, unit_gathered}
use Rattle.term_classes.proofs.WalkValues.{minus_one_not_zero}
use Rattle.proper_term.specs.TermOf.{term_of}
use Rattle.proper_term.specs.declared.proper.Proper.{Proper}

-- the walk begins with 1
module _ (t : Tree) (nothing : ProperTerm) (unit : (gives {P = ℕ} {R = Improper} unit_term).outcome ≡ Ok nothing) where
  pub walked_from_unit : (f : ProperTerm) → (walk t (pos 1) nothing).outcome ≡ Ok f → (walk t (pos 1) unit_term).outcome ≡ Ok f
  walked_from_unit f e = subst (λ s. (walk t (pos 1) s).outcome ≡ Ok f) (sym (same_Ok unit_term nothing unit)) e

  pub fault_from_unit : (fault : TermFault) → HasCause (walk t (pos 1) nothing) (term_cause fault)
      → HasCause (walk t (pos 1) unit_term) (term_cause fault)
  fault_from_unit fault h = subst (λ s. HasCause (walk t (pos 1) s) (term_cause fault)) (sym (same_Ok unit_term nothing unit)) h

-- one tree
module _ (t : Tree) where
  abbrev walked : TermSteps ProperTerm
  walked = walk t (pos 1) unit_term

  pub class_fault : (fault : TermFault) → HasCause walked (term_cause fault) → HasCause (class_of t) (term_cause fault)
  class_fault fault h = first_cause walked (λ f. gives (cancelled f)) (term_cause fault) h

  pub class_answer : (f : ProperTerm) (result : Result Proper TermFault) → walked.outcome ≡ Ok f
      → Answers term_cause term_of (gives (cancelled f)) result
      → Answers term_cause term_of (class_of t) result
  class_answer f result e h = later_answer term_cause term_of walked (λ f. gives (cancelled f)) f result e h

  pub class_plain : (f : ProperTerm) → walked.outcome ≡ Ok f → IsTermInBounds f → IsPlain (cancelled f)
  class_plain f e = cancelled_plain f (gathered_keeps t (pos 1) unit_term f one_not_zero unit_gathered e)

  pub class_valued : (result : Result Proper TermFault) → Answers term_cause term_of (class_of t) result
      → IfOk result (λ term. HasValue (term_of term) (term_value t))
  class_valued (Ok term) h = class_has_the_value t (term_of term) h
  class_valued (Err fault) h = tt

-- a quotient of two
module _ (a b : Tree) where
  abbrev above : TermSteps ProperTerm
  above = walk a (pos 1) unit_term

  abbrev divided : ProperTerm → TermSteps ProperTerm
  divided f = walk b (negsuc 0) f then (λ g. gives (cancelled g))

  pub top_fault : (fault : TermFault) → HasCause above (term_cause fault) → HasCause (class_of_quotient a b) (term_cause fault)
  top_fault fault h = first_cause above divided (term_cause fault) h

  module _ (f : ProperTerm) (e : above.outcome ≡ Ok f) where
    abbrev below : TermSteps ProperTerm
    below = walk b (negsuc 0) f

    pub bottom_fault : (fault : TermFault) → HasCause below (term_cause fault) → HasCause (class_of_quotient a b) (term_cause fault)
    bottom_fault fault h = later_cause above divided f (term_cause fault) e (first_cause below (λ g. gives (cancelled g)) (term_cause fault) h)

    pub quotient_answer : (g : ProperTerm) (result : Result Proper TermFault) → below.outcome ≡ Ok g
        → Answers term_cause term_of (gives (cancelled g)) result
        → Answers term_cause term_of (class_of_quotient a b) result
    quotient_answer g result k h =
        later_answer term_cause term_of above divided f result e (later_answer term_cause term_of below (λ g. gives (cancelled g)) g result k h)

    pub quotient_plain : (g : ProperTerm) → below.outcome ≡ Ok g → IsTermInBounds g → IsPlain (cancelled g)
    quotient_plain g k = cancelled_plain g (gathered_keeps b (negsuc 0) f g minus_one_not_zero
        (gathered_keeps a (pos 1) unit_term f one_not_zero unit_gathered e) k)

  pub quotient_valued : (result : Result Proper TermFault) → Answers term_cause term_of (class_of_quotient a b) result
      → IfOk result (λ term. HasValue (term_of term) (quotient_value a b))
  quotient_valued (Ok term) h = class_of_quotient_has_the_value a b (term_of term) h
  quotient_valued (Err fault) h = tt
