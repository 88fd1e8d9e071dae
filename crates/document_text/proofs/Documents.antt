-- A document's text is its lines, and they determine it.
use Rattle.std.specs.Prelude.{◌≡◌, ℕ, codes, List, []}
use Rattle.std.proofs.Common.{sym, ◌∙◌, append-nil, arith}
use Rattle.std.proofs.lemmas.List.{append_cancel_left, append_cancel_right}
use Rattle.exact_texts.specs.Texts.{◌⧺◌, line}
use Rattle.document_text.specs.Spelling.{polynomial_text}
use Rattle.document_text.specs.TermText.{factors_text, factor_list_text, proper_term_text}
use Rattle.document_text.specs.Document.{Found, Document, range_text, found_text, document_text}
use Rattle.document_text.specs.WellFormed.{IsFound, IsWellFormed}
use Rattle.document_text.proofs.ClaimParts.{matches_text, AreMultipliers, multipliers_text}
use Rattle.document_text.proofs.Lines.{IsOrder, order_line, matches_line, list_line, multipliers_line, term_line, polynomial_line, factors_line, range_line}

-- the lines of a found claim from one on
abbrev from_range : Found → List ℕ
from_range f = line (codes "range ") (range_text f.range)

abbrev from_ratio_bottom : Found → List ℕ
from_ratio_bottom f = line (codes "Rbot ") (factor_list_text f.claim.ratio_bottom) ⧺ from_range f

abbrev from_ratio_top : Found → List ℕ
from_ratio_top f = line (codes "Rtop ") (factor_list_text f.claim.ratio_top) ⧺ from_ratio_bottom f

abbrev from_poles : Found → List ℕ
from_poles f = line (codes "D ") (factors_text f.claim.poles) ⧺ from_ratio_top f

abbrev from_y : Found → List ℕ
from_y f = line (codes "Y ") (polynomial_text f.claim.y) ⧺ from_poles f

abbrev from_carrier : Found → List ℕ
from_carrier f = line (codes "K ") (proper_term_text f.claim.carrier) ⧺ from_y f

abbrev from_multipliers : Found → List ℕ
from_multipliers f = line (codes "a ") (multipliers_text f.claim.multipliers) ⧺ from_carrier f

abbrev from_r : Found → List ℕ
from_r f = line (codes "r ") (factor_list_text f.r) ⧺ from_multipliers f

abbrev from_q : Found → List ℕ
from_q f = line (codes "q ") (factor_list_text f.q) ⧺ from_r f

abbrev from_matches : Found → List ℕ
from_matches f = line (codes "match ") (matches_text f.matches) ⧺ from_q f

-- the multipliers of a found claim that keeps its bounds
multipliers_of : (f : Found) → IsFound f → AreMultipliers f.claim.multipliers
multipliers_of f p = record { some = p.some_multiplier; each = p.multipliers }

-- a found claim within bounds is determined by its lines
pub found_determines : (f g : Found) → IsOrder f.order → IsOrder g.order → IsFound f → IsFound g → found_text f ≡ found_text g → f ≡ g
found_determines f g of og p q e =
    let order = order_line (codes "found ") f.order g.order (from_matches f) (from_matches g) of og e in
    let matches = matches_line (codes "match ") f.matches g.matches (from_q f) (from_q g) p.matches q.matches order.1 in
    let up = list_line (codes "q ") f.q g.q (from_r f) (from_r g) p.q q.q matches.1 in
    let down = list_line (codes "r ") f.r g.r (from_multipliers f) (from_multipliers g) p.r q.r up.1 in
    let multipliers = multipliers_line (codes "a ") f.claim.multipliers g.claim.multipliers (from_carrier f) (from_carrier g)
    (multipliers_of f p) (multipliers_of g q) down.1 in
    let carrier = term_line (codes "K ") f.claim.carrier g.claim.carrier (from_y f) (from_y g) p.carrier.proper q.carrier.proper multipliers.1 in
    let y = polynomial_line (codes "Y ") f.claim.y g.claim.y (from_poles f) (from_poles g) p.y q.y carrier.1 in
    let poles = factors_line (codes "D ") f.claim.poles g.claim.poles (from_ratio_top f) (from_ratio_top g) p.poles.each q.poles.each y.1 in
    let top = list_line (codes "Rtop ") f.claim.ratio_top g.claim.ratio_top (from_ratio_bottom f) (from_ratio_bottom g)
    p.ratio_top q.ratio_top poles.1 in
    let bottom = list_line (codes "Rbot ") f.claim.ratio_bottom g.claim.ratio_bottom (from_range f) (from_range g)
    p.ratio_bottom q.ratio_bottom top.1 in
    let range = range_line (codes "range ") f.range g.range [] [] p.range q.range
    (append-nil (from_range f) ∙ bottom.1 ∙ sym (append-nil (from_range g))) in
    λ i. record {
      order = order.0 i;
      matches = matches.0 i;
      q = up.0 i;
      r = down.0 i;
      claim = record {
        multipliers = multipliers.0 i;
        carrier = carrier.0 i;
        y = y.0 i;
        poles = poles.0 i;
        ratio_top = top.0 i;
        ratio_bottom = bottom.0 i;
      };
      range = range.0 i;
    }

-- the lines of a document from one on
abbrev from_found : Document → List ℕ
from_found d = found_text d.found ⧺ line (codes "end") []

abbrev from_term : Document → List ℕ
from_term d = line (codes "term ") (proper_term_text d.term) ⧺ from_found d

abbrev from_command : Document → List ℕ
from_command d = line (codes "command gosper") [] ⧺ from_term d

-- The text of a well-formed document determines it.
pub document_determined : (a b : Document) → IsWellFormed a → IsWellFormed b → document_text a ≡ document_text b → a ≡ b
unfolding document_text
document_determined a b p q e =
    let commands : from_command a ≡ from_command b = append_cancel_left (line (codes "ekhad 1") []) (from_command a) (from_command b) e in
    let terms : from_term a ≡ from_term b = append_cancel_left (line (codes "command gosper") []) (from_term a) (from_term b) commands in
    let term = term_line (codes "term ") a.term b.term (from_found a) (from_found b) p.term.proper q.term.proper terms in
    let claims = append_cancel_right (found_text a.found) (found_text b.found) (line (codes "end") []) term.1 in
    let found = found_determines a.found b.found (omega (arith, p.order)) (omega (arith, q.order)) p.found q.found claims in
    λ i. record { term = term.0 i; found = found i }
