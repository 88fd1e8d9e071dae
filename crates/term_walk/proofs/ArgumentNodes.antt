-- The walk over a power, a factorial or a binomial coefficient of the code.
use Rattle.std.proofs.Common.{◌≡◌, ℕ, subst}
use Rattle.std.specs.Prelude.{Option, ℤ, Result, Ok, Err}
use Rattle.steps.specs.Answers.{Answers, HasCause}
use Rattle.steps.specs.TermFaults.{term_cause}
use Rattle.steps.specs.declared.faults.TermFault.{TermFault}
use Rattle.steps.proofs.AnswerLaws.{first_cause}
use Rattle.steps.proofs.Leading.{leads, leads_answer}
use Rattle.hypergeometric.specs.LinearForm.{LinearForm}
use Rattle.hypergeometric.specs.ProperTerm.{ProperTerm}
use Rattle.grammar.specs.Tree as d
use Rattle.term_classes.specs.Walk.{times_binomial, walk}
use Rattle.term_text.specs.View.{tree_of}
use Rattle.term_text.specs.declared.ast.Ast.{Ast}
use Rattle.term_text.specs.declared.ast.Node.TheVariants.{Pow, Factorial, Binomial}
use Rattle.term_text.proofs.Views.{node_of-pow, node_of-factorial, node_of-binomial}
use Rattle.term_walk.specs.declared.gathered.Gathered.{Gathered}
use Rattle.term_walk.specs.Views.{gathered_of}
use Rattle.term_walk.specs.WalkRows.{ExponentKind, find_exponent_kind, exponential_left, power_left}
use Rattle.term_walk.proofs.NodeRows.{at_node}
use Rattle.term_walk.proofs.ExponentKinds.{power_row}

-- a power, from what its exponent is
pub pow_refused : (a base e e' : Ast) (w : ℤ) (f : ProperTerm) (x : TermFault) → a.node ≡ Pow base e → e' ≡ e
    → HasCause (find_exponent_kind (tree_of e') w) (term_cause x) → HasCause (walk (tree_of a) w f) (term_cause x)
pow_refused a base e e' w f x is same h =
    at_node a (Pow base e) (d.power_of (tree_of base) (tree_of e)) w f (Err x) is (node_of-pow base e)
    (subst (λ s. HasCause s (term_cause x)) (power_row a.at (tree_of base) (tree_of e) w f)
    (first_cause (find_exponent_kind (tree_of e) w) (power_left a.at (tree_of base) (tree_of e) w f) (term_cause x)
    (subst (λ e. HasCause (find_exponent_kind (tree_of e) w) (term_cause x)) same h)))

pub pow_answer : (a base e e' : Ast) (w : ℤ) (f : ProperTerm) (kind : ExponentKind) (result : Result Gathered TermFault) → a.node ≡ Pow base e
    → e' ≡ e → (find_exponent_kind (tree_of e') w).outcome ≡ Ok kind
    → Answers term_cause gathered_of (power_left a.at (tree_of base) (tree_of e) w f kind) result
    → Answers term_cause gathered_of (walk (tree_of a) w f) result
pow_answer a base e e' w f kind result is same told known =
    at_node a (Pow base e) (d.power_of (tree_of base) (tree_of e)) w f result is (node_of-pow base e)
    (subst (λ s. Answers term_cause gathered_of s result) (power_row a.at (tree_of base) (tree_of e) w f)
    (leads_answer term_cause gathered_of result (leads (find_exponent_kind (tree_of e) w) (power_left a.at (tree_of base) (tree_of e) w f) kind
    (subst (λ e. (find_exponent_kind (tree_of e) w).outcome ≡ Ok kind) same told)) known))

-- the same base and exponent
pub same_trees : (at : ℕ) (b b' e e' : Ast) (form : Option LinearForm) (w : ℤ) (f : ProperTerm) (result : Result Gathered TermFault) → b ≡ b' → e ≡ e'
    → Answers term_cause gathered_of (exponential_left at (tree_of b) (tree_of e) form w f) result
    → Answers term_cause gathered_of (exponential_left at (tree_of b') (tree_of e') form w f) result
same_trees at b b' e e' form w f result p q known =
    subst (λ x. Answers term_cause gathered_of (exponential_left at (tree_of x) (tree_of e') form w f) result) p
    (subst (λ x. Answers term_cause gathered_of (exponential_left at (tree_of b) (tree_of x) form w f) result) q known)

-- a factorial
pub factorial_answer : (a t t' : Ast) (w : ℤ) (f : ProperTerm) (result : Result Gathered TermFault) → a.node ≡ Factorial t → t' ≡ t
    → Answers term_cause gathered_of (walk (d.tree a.at (d.factorial_of (tree_of t'))) w f) result
    → Answers term_cause gathered_of (walk (tree_of a) w f) result
factorial_answer a t t' w f result e same known = at_node a (Factorial t) (d.factorial_of (tree_of t)) w f result e (node_of-factorial t)
    (subst (λ u. Answers term_cause gathered_of (walk (d.tree a.at (d.factorial_of (tree_of u))) w f) result) same known)

-- a binomial coefficient
pub binomial_answer : (a l l' m m' : Ast) (w : ℤ) (f : ProperTerm) (result : Result Gathered TermFault) → a.node ≡ Binomial l m → l' ≡ l → m' ≡ m
    → Answers term_cause gathered_of (times_binomial a.at (tree_of l') (tree_of m') w f) result
    → Answers term_cause gathered_of (walk (tree_of a) w f) result
binomial_answer a l l' m m' w f result e p q known =
    at_node a (Binomial l m) (d.binomial_of (tree_of l) (tree_of m)) w f result e (node_of-binomial l m)
    (subst (λ x. Answers term_cause gathered_of (times_binomial a.at (tree_of x) (tree_of m) w f) result) p
    (subst (λ x. Answers term_cause gathered_of (times_binomial a.at (tree_of l') (tree_of x) w f) result) q known))
