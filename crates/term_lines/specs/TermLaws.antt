-- The text of a term tells the term.
-- These are lemmas: they stand here, and not in proofs/, since the spellings of terms name them.
use Rattle.std.specs.Prelude.{◌≡◌}
use Rattle.std.proofs.Common.{refl, arith}
use Rattle.exact_texts.specs.Texts.{InOneLine}
use Rattle.exact_texts.specs.Lines.{AreWithinLine}
use Rattle.hypergeometric.specs.ProperTerm.{ProperTerm}
use Rattle.hypergeometric.specs.TermFacts.{IsProper}
use Rattle.documents.specs.WellFormed.{IsCarrierIn}
use Rattle.documents.specs.declared.documents.Version.{Version}
use Rattle.documents.specs.declared.documents.Version.TheVariants.{One}
use Rattle.documents.proofs.OneTerm.{one_term, one_is_proper, one_is_plain}
use Rattle.term_lines.specs.Fields.{parts_of_term}
use Rattle.term_lines.specs.TermTexts.{term_fields, term_text, terms, carriers}
use Rattle.term_lines.specs.FieldLaws.{term_fields_within_line}

-- the fields of a proper term have texts
pub fields_have : (t : ProperTerm) → IsProper t → term_fields.Has (parts_of_term t)
fields_have t h = (
  record { passes = h.poly.passes; fits = h.poly.fits },
  (
    h.scale,
    (
      h.n_base,
      (
        h.k_base,
        ((refl, h.up), ((refl, h.down), ((refl, h.over), (refl, h.guard)))),
      ),
    ),
  ),
)

-- the fields tell the term
fields_told : (t u : ProperTerm) → parts_of_term t ≡ parts_of_term u → t ≡ u
fields_told t u e = λ i. record {
  poly = (e i).0;
  scale = (e i).1.0;
  n_base = (e i).1.1.0;
  k_base = (e i).1.1.1.0;
  up = (e i).1.1.1.1.up.factors;
  down = (e i).1.1.1.1.down.factors;
  over = (e i).1.1.1.1.over.factors;
  guard = (e i).1.1.1.1.guard.factors;
}

-- the proper term of a carrier
pub carrier_is_proper : (version : Version) (t : ProperTerm) → IsCarrierIn version t → IsProper t
carrier_is_proper One t h = h.proper

-- texts of proper terms in a version are within a line, and tell the term
text_within : (version : Version) (t : ProperTerm) → IsProper t → InOneLine (term_text version t)
text_within One t h = term_fields_within_line.within (parts_of_term t) (fields_have t h)

pub text_tells : (version : Version) (t u : ProperTerm) → IsProper t → IsProper u → term_text version t ≡ term_text version u → t ≡ u
text_tells One t u h k e =
    fields_told t u (term_fields_within_line.determined (parts_of_term t) (parts_of_term u) (fields_have t h) (fields_have u k) e)

one_is_carrier : (version : Version) → IsCarrierIn version one_term
one_is_carrier One = record { proper = one_is_proper; few = omega arith }

pub terms_within_line : (version : Version) → AreWithinLine (terms version)
terms_within_line version = record {
  some = (one_term, one_is_plain);
  within = λ t h. text_within version t h.proper;
  determined = λ t u h k e. text_tells version t u h.proper k.proper e;
}

pub carriers_within_line : (version : Version) → AreWithinLine (carriers version)
carriers_within_line version = record {
  some = (one_term, one_is_carrier version);
  within = λ t h. text_within version t (carrier_is_proper version t h);
  determined = λ t u h k e. text_tells version t u (carrier_is_proper version t h) (carrier_is_proper version u k) e;
}
