-- What answers a term is accepted when it is checked: it is one document, whose claim passes each test within bounds.
use Rattle.std.proofs.Common.{◌≡◌, ◌≢◌, ℕ, List, refl, ap, ◌∙◌, subst, arith}
use Rattle.std.proofs.lemmas.Int.{ints}
use Rattle.std.specs.Prelude.{ℤ, pos, ◌<ℤ◌, codes}
use Rattle.document_text.specs.Document.{document_text}
use Rattle.cert_text.specs.Readable.{Contents, contents, IsTextOf}
use Rattle.cert_text.proofs.OneDocument.{one_document}
use Rattle.cert_checker.specs.Checks.{HasCarrier, HasMultiplier, HasEquation, AreInBounds, IsFirstFailed, IsVerdictOf}
use Rattle.cert_checker.specs.declared.verdicts.Verdict.{Verdict}
use Rattle.cert_checker.specs.declared.verdicts.Verdict.TheVariants.{Accepted, Rejected}
use Rattle.cert_checker.specs.declared.verdicts.Reason.{Reason}
use Rattle.cert_checker.specs.declared.verdicts.Reason.TheVariants.{Shape, Normal, Carrier, Zero, Poles, Equation, Case, Same, Sums}
use Rattle.cert_checker.proofs.RightDocuments.{equation_of_identity}
use Rattle.ekhad_cli.specs.declared.status.Status.TheVariants.{Found}
use Rattle.ekhad_cli.specs.Gosper.{IsAnswerText}
use Rattle.ekhad_cli.specs.Check.{verdict_text, verdict_status}
use Rattle.ekhad_cli.specs.Commands.{IsAlwaysAccepted}
use Rattle.ekhad_cli.proofs.Complete.{document_cause}

-- the document of a text passes each test, within bounds
record IsRight (text : List ℕ) (d : Contents) : Type 0 where
  read : IsTextOf text d
  carrier : HasCarrier d
  multiplier : HasMultiplier d
  equation : HasEquation d
  in_bounds : AreInBounds d

not_nought : (z : ℤ) → pos 0 <ℤ z → z ≢ pos 0
not_nought z h e = omega (arith, ints, h, e)

right : {term text : List ℕ} → IsAnswerText term text → (d : Contents) × IsRight text d
right (document, answer, spelled) =
    let d = contents answer.poly answer.scale answer.multiplier answer.scale answer.y in
    let found = answer.antidifference in (
      d,
      record {
        read = record { readable = answer.readable; spelled = spelled ∙ ap document_text answer.document };
        carrier = refl;
        multiplier = not_nought answer.multiplier found.least.positive;
        equation = equation_of_identity d found.poly_bounded found.bounded found.least.difference;
        in_bounds = found.in_bounds answer.scale;
      },
    )

-- no test fails
never_failed : {text : List ℕ} (d : Contents) (reason : Reason) → IsRight text d → ¬ IsFirstFailed d reason
never_failed d Shape r h = h
never_failed d Normal r h = h
never_failed d Carrier r h = h r.carrier
never_failed d Zero r h = h.1 r.multiplier
never_failed d Poles r h = h
never_failed d Equation r h = h.2 r.equation
never_failed d Case r h = h
never_failed d Same r h = h
never_failed d Sums r h = h

accepted : {text : List ℕ} (d : Contents) (verdict : Verdict) → IsRight text d → IsVerdictOf d verdict
    → (verdict_status verdict ≡ Found) × (verdict_text verdict ≡ codes "accepted\n")
accepted d (Accepted unchecked) r exact = (refl, refl)
accepted d (Rejected claim reason) r exact = absurd (never_failed d reason r exact.1)

-- and the text is that of no other document
same_document : {text : List ℕ} (d e : Contents) → IsRight text d → IsTextOf text e → IsRight text e
same_document {text} d e r read = subst (IsRight text) (one_document text d e r.read read) r

pub always_accepted : (term text : List ℕ) → IsAnswerText term text → IsAlwaysAccepted text
always_accepted term text answer =
    let d = (right answer).0 in
    let r = (right answer).1 in record {
      output = λ status written seen.
          let ends = accepted seen.document seen.verdict (same_document d seen.document r seen.read) seen.exact in
          (seen.status_is ∙ ends.0, seen.text_is ∙ ends.1);
      cause = λ few. document_cause text few (record { document = d; read = r.read; in_bounds = r.in_bounds });
    }
