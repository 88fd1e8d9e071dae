-- The documents of polynomials in k: the term is a whole scale times a polynomial in k, and so is G.
use Rattle.std.specs.Prelude.{ℤ, [], map, None}
use Rattle.ring_laws.specs.Meaning.{Meaning, listed, items}
use Rattle.ring_laws.specs.Wholes.{number_of}
use Rattle.poly_laws.specs.Values.{level}
use Rattle.hypergeometric.specs.PlainTerm.{plain_term, plain_claim, unit_list}
use Rattle.document_text.specs.Document.{Document}

-- a coefficient as a polynomial in n
abbrev pub as_constant_in_n : Meaning → Meaning
as_constant_in_n c = (level 1).ops.whole (number_of c)

-- a polynomial in one variable, read as one in k whose coefficients are constants in n
abbrev pub in_k : Meaning → Meaning
in_k p = listed (map as_constant_in_n (items p))

-- the document that says: multiplier * scale * poly(k) is the difference of carrier_scale * y(k)
abbrev pub polynomial_document : Meaning → ℤ → ℤ → ℤ → Meaning → Document
polynomial_document poly scale multiplier carrier_scale y = record {
  term = plain_term scale (in_k poly);
  found = record {
    order = 0;
    matches = [];
    q = unit_list;
    r = unit_list;
    claim = plain_claim multiplier carrier_scale (in_k y);
    range = None;
  };
}
