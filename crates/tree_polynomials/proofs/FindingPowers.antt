-- What is sought of a power: its exponent, and then its base.
use Rattle.std.proofs.Common.{◌≡◌, ℕ, ap, sym, ◌∙◌, subst}
use Rattle.std.specs.Prelude.{ℤ, Option, Some, None, Result, Ok, Err}
use Rattle.ring_laws.specs.Meaning.{Meaning, items}
use Rattle.poly_laws.specs.TwoVariables.{constant_in_k}
use Rattle.steps.specs.Answers.{HasCause, Answers}
use Rattle.steps.specs.Found.{found}
use Rattle.steps.specs.Leads.{Leads}
use Rattle.steps.specs.Steps.{◌then◌}
use Rattle.steps.specs.TermFaults.{TermSteps, term_cause}
use Rattle.steps.specs.declared.faults.TermFault.{TermFault}
use Rattle.steps.proofs.AnswerLaws.{first_cause, later_answer}
use Rattle.steps.proofs.Leading.{leads_answer}
use Rattle.term_classes.specs.Finding.{raised_at, find_polynomial}
use Rattle.term_text.specs.declared.ast.Ast.{Ast}
use Rattle.term_text.specs.declared.ast.Node.TheVariants.{Pow}
use Rattle.term_text.specs.View.{tree_of}
use Rattle.tree_polynomials.specs.Exponents.{with_exponent, raised_to, ToExponent}
use Rattle.tree_polynomials.proofs.ExponentLaws.{to_exponent_later}
use Rattle.tree_polynomials.proofs.FindingNodes.{find_power, some_found}

-- an exponent that a code found, as what follows from it
abbrev pub Exponent : Ast → Result (Option ℕ) TermFault → Type 0
Exponent tree result = (f : ℕ → TermSteps (Option Meaning)) → ToExponent f (raised_to (find_polynomial (tree_of tree)) f) result

-- what is said of the constant of the polynomial that was found
pub constant_exponent : {T : Type 0} (x : Option T) (q : T) (view : T → Meaning) (tree : Ast) (c : ℤ) (result : Result (Option ℕ) TermFault)
    → (find_polynomial (tree_of tree)).outcome ≡ Ok (found view x) → x ≡ Some q → Some c ≡ constant_in_k (items (view q))
    → ((f : ℕ → TermSteps (Option Meaning)) → ToExponent f (with_exponent f c) result) → Exponent tree result
constant_exponent x q view tree c result o e h k f =
    to_exponent_later (find_polynomial (tree_of tree)) f (Some (view q)) c result
    (some_found x q view (find_polynomial (tree_of tree)) o e) (sym h) (k f)

module _ (a base exponent : Ast) (is : a.node ≡ Pow base exponent) (read : Ast) (read_is : read ≡ exponent) where
  abbrev after_exponent : ℕ → TermSteps (Option Meaning)
  after_exponent power = find_polynomial (tree_of base) then raised_at a.at power

  whole : find_polynomial (tree_of a) ≡ raised_to (find_polynomial (tree_of read)) after_exponent
  whole = find_power a base exponent is ∙ ap (λ t. raised_to (find_polynomial (tree_of t)) after_exponent) (sym read_is)

  pub exponent_fault : (x : TermFault) → Exponent read (Err x) → HasCause (find_polynomial (tree_of a)) (term_cause x)
  exponent_fault x h = subst (λ s. HasCause s (term_cause x)) (sym whole) (h after_exponent)

  pub exponent_none : (o : Option ℕ) → Exponent read (Ok o) → o ≡ None → (find_polynomial (tree_of a)).outcome ≡ Ok None
  exponent_none o h e =
      ap (λ (s : TermSteps (Option Meaning)). s.outcome) whole
      ∙ subst (λ t. ToExponent after_exponent (raised_to (find_polynomial (tree_of read)) after_exponent) (Ok t)) e (h after_exponent)

  module _ (o : Option ℕ) (power : ℕ) (h : Exponent read (Ok o)) (e : o ≡ Some power) (b : Ast) (b_is : b ≡ base) where
    leads : Leads (find_polynomial (tree_of a)) (after_exponent power)
    leads =
        subst (λ s. Leads s (after_exponent power)) (sym whole)
        (subst (λ t. ToExponent after_exponent (raised_to (find_polynomial (tree_of read)) after_exponent) (Ok t)) e (h after_exponent))

    pub base_fault : (x : TermFault) → HasCause (find_polynomial (tree_of b)) (term_cause x)
        → HasCause (find_polynomial (tree_of a)) (term_cause x)
    base_fault x k =
        leads.cause (term_cause x)
        (first_cause (find_polynomial (tree_of base)) (raised_at a.at power) (term_cause x)
        (subst (λ t. HasCause (find_polynomial (tree_of t)) (term_cause x)) b_is k))

    pub base_raised : {T : Type 0} (result : Result (Option T) TermFault) (x : Option T) (view : T → Meaning)
        → (find_polynomial (tree_of b)).outcome ≡ Ok (found view x) → Answers term_cause (found view) (raised_at a.at power (found view x)) result
        → Answers term_cause (found view) (find_polynomial (tree_of a)) result
    base_raised result x view k answers =
        leads_answer term_cause (found view) result leads
        (later_answer term_cause (found view) (find_polynomial (tree_of base)) (raised_at a.at power) (found view x) result
        (subst (λ t. (find_polynomial (tree_of t)).outcome ≡ Ok (found view x)) b_is k) answers)
