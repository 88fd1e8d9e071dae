-- The document of the command gosper with a found claim, and its one text.
use Rattle.std.specs.Prelude.{ℕ, codes, List, [], map, Option, Some, None}
use Rattle.std.specs.Fmt.{decimal}
use Rattle.hypergeometric.specs.LinearForm.{LinearForm, FactorList}
use Rattle.hypergeometric.specs.ProperTerm.{ProperTerm}
use Rattle.hypergeometric.specs.Claim.{Claim}
use Rattle.hypergeometric.specs.Match.{Match}
use Rattle.exact_texts.specs.Texts.{◌⧺◌, joined, items_text, line}
use Rattle.document_text.specs.Spelling.{polynomial_text, polynomial_in_n_text}
use Rattle.document_text.specs.TermText.{form_text, times_text, factors_text, factor_list_text, proper_term_text}

-- a found claim: its order, Gosper's normal form (the matches, q and r), the recurrence with its certificate, and the range of the sum
pub record Found : Type 0 where
  pub order : ℕ
  pub matches : List Match
  pub q : FactorList
  pub r : FactorList
  pub claim : Claim
  pub range : Option (LinearForm × LinearForm)

-- a term, and the claim that was found for it
pub record Document : Type 0 where
  pub term : ProperTerm
  pub found : Found

-- `form by shift`, and ` x` and the power where it isn't 1
abbrev pub match_text : Match → List ℕ
match_text m = form_text m.form ⧺ codes " by " ⧺ decimal m.shift ⧺ times_text m.power

-- `low to high` for the two ends of a range, and `-` where there is none
abbrev pub range_text : Option (LinearForm × LinearForm) → List ℕ
range_text None = codes "-"
range_text (Some ends) = form_text ends.0 ⧺ codes " to " ⧺ form_text ends.1

-- the lines of a found claim: order, matches, q, r, multipliers, K, Y, D, top and bottom of the ratio, range
abbrev pub found_text : Found → List ℕ
found_text f = line (codes "found ") (decimal f.order)
    ⧺ line (codes "match ") (items_text (map match_text f.matches))
    ⧺ line (codes "q ") (factor_list_text f.q)
    ⧺ line (codes "r ") (factor_list_text f.r)
    ⧺ line (codes "a ") (joined (codes "; ") (map polynomial_in_n_text f.claim.multipliers))
    ⧺ line (codes "K ") (proper_term_text f.claim.carrier)
    ⧺ line (codes "Y ") (polynomial_text f.claim.y)
    ⧺ line (codes "D ") (factors_text f.claim.poles)
    ⧺ line (codes "Rtop ") (factor_list_text f.claim.ratio_top)
    ⧺ line (codes "Rbot ") (factor_list_text f.claim.ratio_bottom)
    ⧺ line (codes "range ") (range_text f.range)

-- the text of a document: the heading, the command, the term, the lines of the found claim, and the end
unfoldable pub document_text : Document → List ℕ
document_text d = line (codes "ekhad 1") [] ⧺ line (codes "command gosper") [] ⧺ line (codes "term ") (proper_term_text d.term)
    ⧺ found_text d.found ⧺ line (codes "end") []
