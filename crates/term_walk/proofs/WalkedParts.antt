-- The walk over the parts of a product, part by part.
use Rattle.std.proofs.Common.{◌≡◌, ℕ, ◌+◌, ◌≤◌, ◌<◌, List, length, get_or, drop, ap, sym, subst}
use Rattle.std.proofs.lemmas.List.{drop_all}
use Rattle.std.specs.Prelude.{ℤ, Ok}
use Rattle.steps.specs.Answers.{HasCause}
use Rattle.steps.specs.Leads.{Leads}
use Rattle.steps.specs.TermFaults.{term_cause}
use Rattle.steps.specs.declared.faults.TermFault.{TermFault}
use Rattle.steps.proofs.AnswerLaws.{first_cause}
use Rattle.steps.proofs.Leading.{leads}
use Rattle.hypergeometric.specs.ProperTerm.{ProperTerm}
use Rattle.term_classes.specs.TreeValue.{part_power}
use Rattle.term_classes.specs.Walk.{walk, walk_parts}
use Rattle.term_text.specs.View.{tree_of, parts_of}
use Rattle.term_text.specs.declared.ast.Part.{Part}
use Rattle.tree_polynomials.proofs.NextParts.{next_part}

-- a fault in the next part
pub part_refused : (ps : List Part) (i : ℕ) (p : Part) (w : ℤ) (f : ProperTerm) (x : TermFault) → i < length ps → p ≡ get_or ps i p
    → HasCause (walk (tree_of p.ast) (part_power p.turned w) f) (term_cause x) → HasCause (walk_parts (parts_of (drop i ps)) w f) (term_cause x)
part_refused ps i p w f x below is h = subst (λ parts. HasCause (walk_parts parts w f) (term_cause x)) (sym (next_part ps i p below is))
    (first_cause (walk (tree_of p.ast) (part_power p.turned w) f) (λ g. walk_parts (parts_of (drop (i + 1) ps)) w g) (term_cause x) h)

-- past the next part
pub part_leads : (ps : List Part) (i : ℕ) (p : Part) (w : ℤ) (f g : ProperTerm) → i < length ps → p ≡ get_or ps i p
    → (walk (tree_of p.ast) (part_power p.turned w) f).outcome ≡ Ok g
    → Leads (walk_parts (parts_of (drop i ps)) w f) (walk_parts (parts_of (drop (i + 1) ps)) w g)
part_leads ps i p w f g below is e =
    subst (λ parts. Leads (walk_parts parts w f) (walk_parts (parts_of (drop (i + 1) ps)) w g)) (sym (next_part ps i p below is))
    (leads (walk (tree_of p.ast) (part_power p.turned w) f) (λ g. walk_parts (parts_of (drop (i + 1) ps)) w g) g e)

-- past all parts
pub parts_walked : (ps : List Part) (i : ℕ) (w : ℤ) (f : ProperTerm) → length ps ≤ i → (walk_parts (parts_of (drop i ps)) w f).outcome ≡ Ok f
parts_walked ps i w f past = ap (λ qs. (walk_parts (parts_of qs) w f).outcome) (drop_all i ps past)
