-- The lines of claims: which claims have lines, and the one text of each.
use Rattle.std.specs.Prelude.{◌≡◌, ℕ, Bool, true, false, codes, List, []}
use Rattle.std.specs.List.{flat_map}
use Rattle.std.specs.Fmt.{decimal}
use Rattle.hypergeometric.specs.LinearForm.{LinearForm}
use Rattle.exact_texts.specs.Texts.{◌⧺◌, line}
use Rattle.exact_texts.specs.Formats.{Format}
use Rattle.exact_texts.specs.Beside.{beside}
use Rattle.exact_texts.specs.Lists.{items_of, parts_of, optional}
use Rattle.polynomial_sums.specs.PolynomialSums.{polynomials, in_n, in_n_k}
use Rattle.form_lines.specs.Forms.{forms}
use Rattle.form_lines.specs.Factors.{primitive_factors, factor_lists}
use Rattle.form_lines.specs.Matches.{matches}
use Rattle.term_lines.specs.TermTexts.{carriers}
use Rattle.documents.specs.Documents.{Form, Found, Evidence, unsought, no_number, at_number, Empty}
use Rattle.documents.specs.Documents.{Claim, found, empty, pair, no_pair, sums, no_root, barren, solution, again}
use Rattle.documents.specs.WellFormed.{IsWrittenForm, IsFound, IsEvidence, IsEmpty, AreOfOrders}
use Rattle.documents.specs.declared.documents.Version.{Version}

-- the lines of a normal form: its matches, q and r
abbrev pub form_text : Form → List ℕ
form_text f = line (codes "match ") ((items_of matches).text f.matches)
    ⧺ line (codes "q ") (factor_lists.text f.q)
    ⧺ line (codes "r ") (factor_lists.text f.r)

-- normal forms within bounds
abbrev pub form_lines : Format Form
form_lines = record { Has = IsWrittenForm; text = form_text }

-- the two ends of a range: ` to ` between two forms
abbrev pub ends_of_range : Format (LinearForm × LinearForm)
ends_of_range = beside forms (codes " to ") forms

-- the lines of a recurrence: the normal form, the multipliers, K and Y
abbrev pub solution_text : Version → Found → List ℕ
solution_text version f = form_text f.form
    ⧺ line (codes "a ") ((parts_of (polynomials in_n)).text f.multipliers)
    ⧺ line (codes "K ") ((carriers version).text f.carrier)
    ⧺ line (codes "Y ") ((polynomials in_n_k).text f.y)

-- the lines of what goes with it: D, the two lists of the ratio, and the range
abbrev pub ratio_text : Found → List ℕ
ratio_text f = line (codes "D ") (primitive_factors.text f.poles)
    ⧺ line (codes "Rtop ") (factor_lists.text f.ratio_top)
    ⧺ line (codes "Rbot ") (factor_lists.text f.ratio_bottom)
    ⧺ line (codes "range ") ((optional ends_of_range).text f.range)

-- the lines of a recurrence behind its order
abbrev pub found_text : Version → Found → List ℕ
found_text version f = solution_text version f ⧺ ratio_text f

-- recurrences of an order, within bounds
abbrev pub found_lines : Version → ℕ → Format Found
found_lines version order = record { Has = λ f. (f.order ≡ order) × IsFound version f; text = found_text version }

-- what shows that an order is empty
abbrev pub witness_text : Evidence → List ℕ
witness_text unsought = codes "unsought"
witness_text no_number = codes "none"
witness_text (at_number n) = decimal n

-- numbers that show it are at most 255
abbrev pub witnesses : Format Evidence
witnesses = record { Has = IsEvidence; text = witness_text }

-- the lines of an empty order behind its number
abbrev pub empty_text : Empty → List ℕ
empty_text e = form_text e.form ⧺ line (codes "witness ") (witness_text e.evidence)

-- empty claims of an order, within bounds
abbrev pub empty_lines : ℕ → Format Empty
empty_lines order = record { Has = λ e. (e.order ≡ order) × IsEmpty e; text = empty_text }

-- the line that names the order of a claim and the lines behind it; the other kinds of claims have none yet
abbrev pub claim_text : Version → Claim → List ℕ
claim_text version (found f) = line (codes "found ") (decimal f.order) ⧺ found_text version f
claim_text version (empty e) = line (codes "empty ") (decimal e.order) ⧺ empty_text e
claim_text version (pair f) = []
claim_text version (no_pair e) = []
claim_text version (sums s) = []
claim_text version (no_root c) = []
claim_text version (barren c) = []
claim_text version (solution s) = []
claim_text version (again s) = []

-- a recurrence of an order, or that it is empty
abbrev pub IsClaimAt : Version → ℕ → Claim → Type 0
IsClaimAt version order (found f) = (f.order ≡ order) × IsFound version f
IsClaimAt version order (empty e) = (e.order ≡ order) × IsEmpty e
IsClaimAt version order (pair f) = ⊥
IsClaimAt version order (no_pair e) = ⊥
IsClaimAt version order (sums s) = ⊥
IsClaimAt version order (no_root c) = ⊥
IsClaimAt version order (barren c) = ⊥
IsClaimAt version order (solution s) = ⊥
IsClaimAt version order (again s) = ⊥

-- claims of an order
abbrev pub claim_at : Version → ℕ → Format Claim
claim_at version order = record { Has = IsClaimAt version order; text = claim_text version }

-- a claim of some order
abbrev pub HasLines : Version → Claim → Type 0
HasLines version c = (order : ℕ) × IsClaimAt version order c

-- the lines of claims, one after another
abbrev pub claims_text : Version → List Claim → List ℕ
claims_text version = flat_map (claim_text version)

-- claims of the orders from one on with so many more, each empty up to the first that is found, or up to the last
abbrev pub claims_from : Version → ℕ → ℕ → Format (List Claim)
claims_from version order more = record { Has = AreOfOrders version order more; text = claims_text version }

-- whether the claim says that its order is empty
abbrev pub says_empty : Claim → Bool
says_empty (found f) = false
says_empty (empty e) = true
says_empty (pair f) = false
says_empty (no_pair e) = false
says_empty (sums s) = false
says_empty (no_root c) = false
says_empty (barren c) = false
says_empty (solution s) = false
says_empty (again s) = false
