-- The forms with their powers that entries of the code stand for.
use Rattle.std.specs.Prelude.{ℕ, List, map}
use Rattle.hypergeometric.specs.LinearForm.{Factor}
use Rattle.hypergeometric.specs.FactorLists.{factor_with}
use Rattle.lin_form.specs.Forms.{form_of}
use Rattle.lin_form.specs.declared.forms.LinForm.{LinForm}

-- the forms of the code with their powers
abbrev pub factors_of : List (LinForm × ℕ) → List Factor
factors_of entries = map (λ entry. factor_with (form_of entry.0) entry.1) entries
