-- A polynomial in k over those in n as one over a ring of forms: its coefficients, which are polynomials in n, go there one by one.
use Rattle.std.specs.Prelude.{map}
use Rattle.ring_laws.specs.Meaning.{Meaning, items, listed}
use Rattle.ring_laws.specs.Algebra.{Algebra}
use Rattle.poly_laws.specs.Lists.{trimmed}
use Rattle.form_rings.specs.Forms.{Forms}

-- what the polynomial is over the ring
abbrev pub lifted : Algebra → Forms → Meaning → Meaning
lifted a forms f = listed (trimmed a.ops (map forms.of_n (items f)))
