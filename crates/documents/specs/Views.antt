-- What values of the program say as documents.
use Rattle.std.specs.Prelude.{map}
use Rattle.std.specs.Option.{option_map}
use Rattle.ring_laws.specs.Meaning.{number, listed}
use Rattle.hypergeometric.specs.LinearForm.{LinearForm}
use Rattle.lin_form.specs.Forms.{form_of}
use Rattle.lin_form.specs.ListOf.{list_of}
use Rattle.lin_form.specs.declared.forms.LinForm.{LinForm}
use Rattle.lin_form.proofs.Items.{each_of}
use Rattle.poly_fraction.specs.FractionOf.{fraction_of}
use Rattle.proper_term.specs.Fields.{number_fraction_of}
use Rattle.proper_term.specs.TermOf.{term_of}
use Rattle.gosper_form.specs.NormalView.{matches_of}
use Rattle.term_text.specs.declared.bounds.BoxRange.{BoxRange}
use Rattle.documents.specs.Documents.{Form, Found, Evidence, unsought, no_number, at_number, Empty, Sums, sides, undefined_at, Case, HyperSolution, HyperAgain}
use Rattle.documents.specs.Documents.{Claim, found, empty, pair, no_pair, sums, no_root, barren, solution, again}
use Rattle.documents.specs.Documents.{Box, Command, gosper, ct, zeil, wz, companion, hyper, Subject, of_term, of_recurrence, Document}
use Rattle.documents.specs.declared.claims.Form.{Form as FormOfCode}
use Rattle.documents.specs.declared.claims.Found.{Found as FoundOfCode}
use Rattle.documents.specs.declared.claims.Evidence.{Evidence as EvidenceOfCode}
use Rattle.documents.specs.declared.claims.Evidence.TheVariants as evidence
use Rattle.documents.specs.declared.claims.Empty.{Empty as EmptyOfCode}
use Rattle.documents.specs.declared.claims.Sums.{Sums as SumsOfCode}
use Rattle.documents.specs.declared.claims.Sums.TheVariants as box_sums
use Rattle.documents.specs.declared.claims.Case.{Case as CaseOfCode}
use Rattle.documents.specs.declared.claims.HyperSolution.{HyperSolution as SolutionOfCode}
use Rattle.documents.specs.declared.claims.HyperAgain.{HyperAgain as AgainOfCode}
use Rattle.documents.specs.declared.claims.Claim.{Claim as ClaimOfCode}
use Rattle.documents.specs.declared.claims.Claim.TheVariants as claims
use Rattle.documents.specs.declared.commands.CommandWord.{CommandWord}
use Rattle.documents.specs.declared.commands.CommandWord.TheVariants as commands
use Rattle.documents.specs.declared.documents.Subject.{Subject as SubjectOfCode}
use Rattle.documents.specs.declared.documents.Subject.TheVariants as subjects
use Rattle.documents.specs.declared.documents.Doc.{Doc}

-- the matches and the lists that those of a form of the program stand for
abbrev pub form_said : FormOfCode → Form
form_said f = record { matches = matches_of f.matches.items; q = list_of f.q; r = list_of f.r }

-- the two ends of a range
abbrev pub ends_said : LinForm × LinForm → LinearForm × LinearForm
ends_said ends = (form_of ends.0, form_of ends.1)

-- a recurrence with its certificate
abbrev pub found_said : FoundOfCode → Found
found_said f = record {
  order = f.order;
  form = form_said f.form;
  multipliers = each_of f.multipliers.items (λ a. listed (each_of a.list.items (λ whole. number whole.value)));
  carrier = term_of f.carrier;
  y = listed (each_of f.y.list.items (λ coefficient. listed (each_of coefficient.list.items (λ whole. number whole.value))));
  poles = list_of f.poles;
  ratio_top = list_of f.ratio_top;
  ratio_bottom = list_of f.ratio_bottom;
  range = option_map ends_said f.range;
}

-- what shows that an order is empty
abbrev pub evidence_said : EvidenceOfCode → Evidence
evidence_said evidence.Unsought = unsought
evidence_said evidence.None = no_number
evidence_said (evidence.At n) = at_number n

-- an order without a recurrence
abbrev pub empty_said : EmptyOfCode → Empty
empty_said e = record { order = e.order; form = form_said e.form; evidence = evidence_said e.evidence }

-- the companion identity over a box
abbrev pub sums_said : SumsOfCode → Sums
sums_said (box_sums.Sides left right) = sides (number_fraction_of (fraction_of left)) (number_fraction_of (fraction_of right))
sums_said (box_sums.Undefined n k) = undefined_at n k

-- a case of Hyper
abbrev pub case_said : CaseOfCode → Case
case_said c = record { above = list_of c.a; below = list_of c.b; root = option_map (λ z. number_fraction_of (fraction_of z)) c.z }

-- a solution of a recurrence
abbrev pub solution_said : SolutionOfCode → HyperSolution
solution_said s = record { case = case_said s.case; start = s.start; c = listed (each_of s.c.list.items (λ whole. number whole.value)) }

-- a solution that is there already
abbrev pub again_said : AgainOfCode → HyperAgain
again_said s = record { case = case_said s.case; earlier = s.earlier; c = listed (each_of s.c.list.items (λ whole. number whole.value)) }

-- a claim
abbrev pub claim_said : ClaimOfCode → Claim
claim_said (claims.Found f) = found (found_said f)
claim_said (claims.Empty e) = empty (empty_said e)
claim_said (claims.Pair f) = pair (found_said f)
claim_said (claims.NoPair e) = no_pair (empty_said e)
claim_said (claims.Sums s) = sums (sums_said s)
claim_said (claims.NoRoot c) = no_root (case_said c)
claim_said (claims.Barren c) = barren (case_said c)
claim_said (claims.Solution s) = solution (solution_said s)
claim_said (claims.Again s) = again (again_said s)

-- a box
abbrev pub box_said : BoxRange → Box
box_said b = record { n0 = b.n0; n1 = b.n1; k0 = b.k0; k1 = b.k1 }

-- a command
abbrev pub command_said : CommandWord → Command
command_said commands.Gosper = gosper
command_said (commands.Ct order) = ct order
command_said (commands.Zeil most) = zeil most
command_said commands.Wz = wz
command_said (commands.Companion b) = companion (box_said b)
command_said commands.Hyper = hyper

-- a subject
abbrev pub subject_said : SubjectOfCode → Subject
subject_said (subjects.Term t) = of_term (term_of t)
subject_said (subjects.Recurrence ps) = of_recurrence (each_of ps.items (λ p. listed (each_of p.list.items (λ whole. number whole.value))))

-- a document
abbrev pub document_of : Doc → Document
document_of d = record { command = command_said d.command; subject = subject_said d.subject; claims = map claim_said d.claims.items }
