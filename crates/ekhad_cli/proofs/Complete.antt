-- A text that is answered is refused only where memory or the outside fail.
use Rattle.std.proofs.Common.{◌≡◌, ◌≤◌, ℕ, List, [], ◌∷◌, length, Some, inl, inr, ap, sym, ◌∙◌, subst, arith}
use Rattle.cert_text.specs.Readable.{Contents, IsTextOf}
use Rattle.cert_text.proofs.OneDocument.{one_document}
use Rattle.cert_checker.specs.Checks.{AreInBounds}
use Rattle.grammar.specs.Tree.{Tree}
use Rattle.grammar.specs.Several.{a_term}
use Rattle.grammar.specs.Reading.{HasTrees, Fault, IsFirstFault}
use Rattle.grammar.proofs.OneOutcome.{one_contents, contents_or_fault}
use Rattle.steps.specs.TermFaults.{TermRefusal}
use Rattle.steps.specs.Steps.{IsTooLargeAt}
use Rattle.term_classes.specs.Walk.{class_of}
use Rattle.ekhad_cli.specs.declared.words.Command.{Command}
use Rattle.ekhad_cli.specs.declared.words.Command.TheVariants.{Gosper, Check}
use Rattle.ekhad_cli.specs.declared.refusal.Refusal.{Refusal}
use Rattle.ekhad_cli.specs.declared.refusal.Refusal.TheVariants.{Usage, EmptyInput, Line, LiteralTooLarge, TermTooLarge, OrderTooLarge, ClaimTooLarge, Improper, TermLimit, OrderLimit, Unbuilt, Memory, ReadFault, WriteFault}
use Rattle.ekhad_cli.specs.declared.refusal.Refusal.TheVariants as refusal
use Rattle.ekhad_cli.specs.FirstRun.{IsFirstRunTerm}
use Rattle.ekhad_cli.specs.Refusals.{IsOutside}
use Rattle.ekhad_cli.specs.Gosper.{IsRefusedBy, HasFurtherTerm}
use Rattle.ekhad_cli.specs.Commands.{most_bytes, AreWordsOf, IsCause}
use Rattle.ekhad_cli.specs.Answerable.{IsAnswerableTerm, IsAnswerableDocument, IsAnswerable}
use Rattle.ekhad_cli.specs.Run.{IsCaused}

-- a text has one tree, and no fault
one_tree : {text : List ℕ} (t u : Tree) → HasTrees a_term text (t ∷ []) → HasTrees a_term text (u ∷ []) → t ≡ u
one_tree {text} t u a b = let same = (one_contents a_term text (t ∷ []) (u ∷ []) [] [] a b).0 in cc

no_fault : {text : List ℕ} → IsAnswerableTerm text → (fault : Fault) → ¬ IsFirstFault a_term text fault
no_fault {text} a fault = contents_or_fault a_term text (a.tree ∷ []) [] fault a.read

-- and the tree has one outcome
not_refused : {text : List ℕ} (r : TermRefusal) → IsAnswerableTerm text → ¬ IsRefusedBy text r
not_refused r a (u, read, refused) =
    let same : u ≡ a.tree = one_tree u a.tree read a.read in
    let outcome = ap (λ t. (class_of t).outcome) same in
    let class = a.class in
    cc

no_further : {text : List ℕ} → IsAnswerableTerm text → ¬ HasFurtherTerm text
no_further a t =
    let same : t.tree ≡ a.tree = one_tree t.tree a.tree t.read a.read in
    let outcome = ap (λ t. (class_of t).outcome) same in
    let class = t.class in
    let other = a.class in
    let term : a.term ≡ t.term = cc in
    t.further (subst IsFirstRunTerm term a.answered)

not_too_large : {text : List ℕ} (u : Tree) (at : ℕ) → IsAnswerableTerm text → HasTrees a_term text (u ∷ []) → ¬ IsTooLargeAt (class_of u) at
not_too_large u at a read large = a.in_bounds at (subst (λ t. IsTooLargeAt (class_of t) at) (one_tree u a.tree read a.read) large)

not_a_large_claim : {text : List ℕ} (d : Contents) → IsAnswerableDocument text → IsTextOf text d → ¬ (¬ AreInBounds d)
not_a_large_claim {text} d a read large = large (subst AreInBounds (one_document text a.document d a.read read) a.in_bounds)

term_cause : (text : List ℕ) → length text ≤ most_bytes Gosper → IsAnswerableTerm text
    → (refusal : Refusal) → IsCause Gosper text refusal → IsOutside refusal
term_cause text few a Usage cause = cause
term_cause text few a EmptyInput cause = absurd (no_fault a _ cause.1)
term_cause text few a (refusal.Syntax kind at) cause = absurd (no_fault a _ cause.1)
term_cause text few a (Line at) cause = cause
term_cause text few a (LiteralTooLarge at) cause = absurd (no_fault a _ cause.1)
term_cause text few a (Improper reason at) cause = absurd (not_refused _ a cause.1)
term_cause text few a (TermLimit name counted) cause = absurd (not_refused _ a cause.1)
term_cause text few a (TermTooLarge at) (short, large) = absurd (not_too_large large.0 at a large.1 large.2)
term_cause text few a (ClaimTooLarge claim) cause = cause
term_cause text few a (refusal.Limit limit counted) cause = absurd (omega (arith, few, cause.1))
term_cause text few a (OrderLimit name counted) (short, refused) = absurd (no_further a refused.0)
term_cause text few a (OrderTooLarge order) (short, is, refused) = absurd (no_further a refused.0)
term_cause text few a Unbuilt (short, unbuilt) = absurd (no_further a unbuilt.0)
term_cause text few a Memory cause = tt
term_cause text few a ReadFault cause = tt
term_cause text few a WriteFault cause = tt

pub document_cause : (text : List ℕ) → length text ≤ most_bytes Check → IsAnswerableDocument text
    → (refusal : Refusal) → IsCause Check text refusal → IsOutside refusal
document_cause text few a Usage cause = cause
document_cause text few a EmptyInput cause = cause
document_cause text few a (refusal.Syntax kind at) cause = cause
document_cause text few a (Line at) (short, line, bad, is) = absurd (bad.refused a.document a.read)
document_cause text few a (LiteralTooLarge at) cause = cause
document_cause text few a (Improper reason at) cause = cause
document_cause text few a (TermLimit name counted) cause = cause
document_cause text few a (TermTooLarge at) cause = cause
document_cause text few a (OrderLimit name counted) cause = cause
document_cause text few a (OrderTooLarge order) cause = cause
document_cause text few a (ClaimTooLarge claim) (short, is, d, read, carrier, multiplier, large) = absurd (not_a_large_claim d a read large)
document_cause text few a (refusal.Limit limit counted) cause = absurd (omega (arith, few, cause.1))
document_cause text few a Unbuilt cause = cause
document_cause text few a Memory cause = tt
document_cause text few a ReadFault cause = tt
document_cause text few a WriteFault cause = tt

-- the words are those of one command
first_length : List (List ℕ) → ℕ
first_length [] = 0
first_length (word ∷ words) = length word

one_command : (a b : Command) (words : List (List ℕ)) → AreWordsOf a words → AreWordsOf b words → a ≡ b
unfolding first_length
one_command Gosper Gosper words e f = λ _. Gosper
one_command Check Check words e f = λ _. Check
one_command Gosper Check words e f = absurd (omega (arith, ap first_length (sym e ∙ f)))
one_command Check Gosper words e f = absurd (omega (arith, ap first_length (sym e ∙ f)))

pub complete : (command : Command) (text : List ℕ) → IsAnswerable command text
    → (refusal : Refusal) → IsCause command text refusal → IsOutside refusal
complete Gosper text a = term_cause text a.0 a.1
complete Check text a = document_cause text a.0 a.1

pub run_complete : (words : List (List ℕ)) (command : Command) (text : List ℕ) → AreWordsOf command words → IsAnswerable command text
    → (refusal : Refusal) → IsCaused words (Some text) refusal → IsOutside refusal
run_complete words command text are answerable refusal (inl (is, none)) = absurd (none command are)
run_complete words command text are answerable refusal (inr (other, bytes, of, held, cause)) =
    complete command text answerable refusal
    (subst (λ c. IsCause c text refusal) (one_command other command words of are) (subst (λ b. IsCause other b refusal) held cause))
