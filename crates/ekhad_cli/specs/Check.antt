-- What `check` writes of a document.
use Rattle.std.specs.Prelude.{codes, ◌≡◌, ◌++◌, ℕ, List}
use Rattle.std.specs.Fmt.{decimal}
use Rattle.cert_text.specs.Readable.{Contents, IsTextOf}
use Rattle.cert_checker.specs.Checks.{IsVerdictOf, IsAccepted, ClaimTelescopes}
use Rattle.cert_checker.specs.declared.verdicts.Verdict.{Verdict}
use Rattle.cert_checker.specs.declared.verdicts.Verdict.TheVariants.{Accepted, Rejected}
use Rattle.cert_checker.specs.declared.verdicts.Reason.{Reason}
use Rattle.cert_checker.specs.declared.verdicts.Reason.TheVariants.{Shape, Normal, Carrier, Zero, Poles, Equation, Case, Same, Sums}
use Rattle.ekhad_cli.specs.declared.status.Status.{Status}
use Rattle.ekhad_cli.specs.declared.status.Status.TheVariants.{Found, Empty}

-- the word for the test that fails
abbrev pub reason_word : Reason → List ℕ
reason_word Shape = codes "shape"
reason_word Normal = codes "normal"
reason_word Carrier = codes "carrier"
reason_word Zero = codes "zero"
reason_word Poles = codes "poles"
reason_word Equation = codes "equation"
reason_word Case = codes "case"
reason_word Same = codes "same"
reason_word Sums = codes "sums"

-- the line `accepted`, or `rejected` with the claim, counted from 0, and the word for the first test that it fails
abbrev pub verdict_text : Verdict → List ℕ
verdict_text (Accepted unchecked) = codes "accepted\n"
verdict_text (Rejected claim reason) = codes "rejected " ++ decimal claim ++ codes " " ++ reason_word reason ++ codes "\n"

-- the status that `check` ends with: Found where it accepts, and Empty where it rejects
abbrev pub verdict_status : Verdict → Status
verdict_status (Accepted unchecked) = Found
verdict_status (Rejected claim reason) = Empty

-- The bytes are a document, and the text is that of its verdict. An accepted document telescopes its own term.
pub record IsVerdictText (bytes : List ℕ) (status : Status) (text : List ℕ) : Type 0 where
  pub document : Contents
  pub read : IsTextOf bytes document
  pub verdict : Verdict
  pub exact : IsVerdictOf document verdict
  pub telescopes : IsAccepted verdict → ClaimTelescopes document
  pub status_is : status ≡ verdict_status verdict
  pub text_is : text ≡ verdict_text verdict
