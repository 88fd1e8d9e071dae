-- The values of what the matches of a normal form take from q0 and from r0.
use Rattle.std.specs.Prelude.{ℤ}
use Rattle.hypergeometric.specs.Point.{Point}
use Rattle.hypergeometric.specs.LinearForm.{forms_value}
use Rattle.term_pieces.specs.NormalForm.{Normal, form_above, form_below, matched}

-- A(n,k): the product of the forms s(k) that the matches take from q0
abbrev pub value_above : Normal → Point → ℤ
value_above normal p = forms_value (matched form_above normal.matches) p

-- B(n,k): the product of the forms s(k-h) that they take from r0
abbrev pub value_below : Normal → Point → ℤ
value_below normal p = forms_value (matched form_below normal.matches) p
