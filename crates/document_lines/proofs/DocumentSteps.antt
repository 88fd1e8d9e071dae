-- Where reading a document stops, and what it takes.
use Rattle.std.specs.Prelude.{◌≡◌, ℕ, List, Result, Ok, Err}
use Rattle.hypergeometric.specs.ProperTerm.{ProperTerm}
use Rattle.exact_texts.specs.Formats.{Format}
use Rattle.exact_texts.specs.Lines.{Takes}
use Rattle.exact_texts.proofs.Alike.{AreAlike, alike_stops, alike_takes}
use Rattle.exact_texts.proofs.Formats.{takes_in_turn}
use Rattle.exact_texts.proofs.Sequences.{Leaves, leaves_first, leaves_behind}
use Rattle.spelled.specs.Reading.{FailsAt, ReadsLines}
use Rattle.spelled.specs.declared.faults.LineFault.{LineFault}
use Rattle.spelled.specs.declared.faults.LineFault.TheVariants as faults
use Rattle.documents.specs.Documents.{Claim, Command, ct, zeil, Document}
use Rattle.documents.specs.WellFormed.{IsOrder, IsWellFormed}
use Rattle.documents.specs.declared.documents.Version.{Version}
use Rattle.documents.specs.declared.documents.Version.TheVariants.{One}
use Rattle.document_lines.specs.ClaimTexts.{claims_from}
use Rattle.document_lines.specs.DocumentTexts.{claims_of, document_text, document_lines}
use Rattle.document_lines.specs.DocumentLaws.{version_line, command_line, term_line, end_line, version_texts, command_texts, term_texts, end_texts}
use Rattle.document_lines.specs.DocumentLaws.{alike_of_ct, alike_of_zeil, claims_of_texts, ending, ending_texts, body, body_texts}
use Rattle.document_lines.specs.DocumentLaws.{commanded, commanded_texts, document_sequence, document_made, document_alike}

-- what reads the lines of a format reads those of one that is alike
reads_alike : {A B X : Type 0} {F : Format A} {G : Format B} (alike : AreAlike F G) (value_of : X → A) (old new : List ℕ) (r : Result X LineFault)
    → ReadsLines F value_of old new r → ReadsLines G (λ x. alike.make (value_of x)) old new r
reads_alike alike value_of old new (Ok x) h = alike_takes alike old new (value_of x) h
reads_alike {F = F} {G = G} alike value_of old new (Err e) h = fails e h
  where
    fails : (f : LineFault) → FailsAt F old new f → FailsAt G old new f
    fails faults.Line s = alike_stops alike old new s
    fails faults.Memory s = tt

pub reads_of_ct : {X : Type 0} (version : Version) (order : ℕ) → IsOrder order
    → (value_of : X → List Claim) (old new : List ℕ) (r : Result X LineFault)
    → ReadsLines (claims_from version order 0) value_of old new r → ReadsLines (claims_of version (ct order)) value_of old new r
unfolding alike_of_ct
reads_of_ct version order small value_of old new r h = reads_alike (alike_of_ct version order small) value_of old new r h

pub reads_of_zeil : {X : Type 0} (version : Version) (most : ℕ) → IsOrder most
    → (value_of : X → List Claim) (old new : List ℕ) (r : Result X LineFault)
    → ReadsLines (claims_from version 0 most) value_of old new r → ReadsLines (claims_of version (zeil most)) value_of old new r
unfolding alike_of_zeil
reads_of_zeil version most small value_of old new r h = reads_alike (alike_of_zeil version most small) value_of old new r h

module _ (old : List ℕ) where
  version_left : Leaves document_lines old document_sequence old
  version_left new s = alike_stops document_alike old new s

  pub at_version : Leaves document_lines old version_line old
  at_version = leaves_first version_line commanded old version_left (λ v _. commanded_texts v)

  command_left : (mid : List ℕ) (v : Version) → Takes version_line old v mid → Leaves document_lines old (commanded v) mid
  command_left mid v t = leaves_behind version_line commanded old mid v version_left version_texts t

  pub at_command : (mid : List ℕ) (v : Version) → Takes version_line old v mid → Leaves document_lines old command_line mid
  at_command mid v t = leaves_first command_line (body v) mid (command_left mid v t) (body_texts v)

  module _ (mid next : List ℕ) (v : Version) (c : Command) (t : Takes version_line old v mid) (u : Takes command_line mid c next) where
    term_left : Leaves document_lines old (body v c) next
    term_left = leaves_behind command_line (body v) mid next c (command_left mid v t) command_texts u

    pub at_term : Leaves document_lines old (term_line v) next
    at_term = leaves_first (term_line v) (λ _. ending v c) next term_left (λ _ _. ending_texts v c u.has)

    module _ (behind : List ℕ) (term : ProperTerm) (w : Takes (term_line v) next term behind) where
      claims_left : Leaves document_lines old (ending v c) behind
      claims_left = leaves_behind (term_line v) (λ _. ending v c) next behind term term_left (term_texts v) w

      pub at_claims : Leaves document_lines old (claims_of v c) behind
      at_claims = leaves_first (claims_of v c) (λ _. end_line) behind claims_left (λ _ _. end_texts)

      module _ (last : List ℕ) (cs : List Claim) (x : Takes (claims_of v c) behind cs last) where
        pub at_end : Leaves document_lines old end_line last
        at_end = leaves_behind (claims_of v c) (λ _. end_line) behind last cs claims_left (claims_of_texts v c u.has) x

        -- all lines are there
        pub takes_document : (new : List ℕ) → Takes end_line last tt new
            → Takes document_lines old (document_made (v, (c, (term, (cs, tt))))) new
        unfolding document_alike
        takes_document new y = alike_takes document_alike old new (v, (c, (term, (cs, tt))))
            (takes_in_turn version_line commanded old mid new v (c, (term, (cs, tt))) t
            (takes_in_turn command_line (body v) mid next new c (term, (cs, tt)) u
            (takes_in_turn (term_line v) (λ _. ending v c) next behind new term (cs, tt) w
            (takes_in_turn (claims_of v c) (λ _. end_line) behind last new cs tt x y))))

-- there is one version
pub in_version_one : (v : Version) (d : Document) (text : List ℕ) → document_lines.Has (v, d) × (text ≡ document_lines.text (v, d))
    → IsWellFormed One d × (text ≡ document_text One d)
in_version_one One d text h = h
