-- What the forms of the code stand for.
use Rattle.std.specs.Prelude.{ℕ}
use Rattle.hypergeometric.specs.Match.{Match}
use Rattle.lin_form.specs.Forms.{form_of}
use Rattle.lin_form.specs.declared.forms.LinForm.{LinForm}
use Rattle.form_lines.specs.Forms.{FormParts}
use Rattle.form_lines.specs.declared.wide_forms.FormInX.{FormInX}

-- the numbers of a form in n, k and x
abbrev pub parts_of : FormInX → FormParts
parts_of f = record { n_slope = f.n_slope; k_slope = f.k_slope; x_slope = f.x_slope; offset = f.offset }

-- the match that a form, a shift and a power stand for
abbrev pub match_of : LinForm × ℕ × ℕ → Match
match_of m = record { form = form_of m.0; shift = m.1; power = m.2 }
