-- The fields of a term: a polynomial, a scale and two bases, and four lists of forms.
use Rattle.std.specs.Prelude.{pos, List}
use Rattle.ring_laws.specs.Meaning.{Meaning}
use Rattle.hypergeometric.specs.Fraction.{Fraction}
use Rattle.hypergeometric.specs.LinearForm.{Factor, FactorList}
use Rattle.hypergeometric.specs.ProperTerm.{ProperTerm}

-- the four lists of forms of a term
pub record FormLists : Type 0 where
  pub up : FactorList
  pub down : FactorList
  pub over : FactorList
  pub guard : FactorList

-- the lists, one beside the other
abbrev pub ListParts : Type 0
ListParts = FactorList × (FactorList × (FactorList × FactorList))

-- the lists in their order
abbrev pub parts_of_lists : FormLists → ListParts
parts_of_lists l = (l.up, (l.down, (l.over, l.guard)))

-- the fields of a term, one beside the other
abbrev pub TermParts : Type 0
TermParts = Meaning × (Fraction × (Fraction × (Fraction × FormLists)))

-- forms with their powers as a list of scale 1
abbrev pub unit_scaled : List Factor → FactorList
unit_scaled xs = record { scale = pos 1; factors = xs }

-- the four lists of a term, each of scale 1
abbrev pub lists_of_term : ProperTerm → FormLists
lists_of_term t = record { up = unit_scaled t.up; down = unit_scaled t.down; over = unit_scaled t.over; guard = unit_scaled t.guard }

-- the fields of a term in their order
abbrev pub parts_of_term : ProperTerm → TermParts
parts_of_term t = (t.poly, (t.scale, (t.n_base, (t.k_base, lists_of_term t))))
