-- The polynomials in n as such a ring, without x.
use Rattle.std.specs.Prelude.{◌-◌, ℤ, false, [], ◌∷◌, length}
use Rattle.ring_laws.specs.Meaning.{Meaning, number, listed, items}
use Rattle.ring_laws.specs.Wholes.{number_of, whole_algebra}
use Rattle.poly_laws.specs.Lists.{coefficient_at, trimmed}
use Rattle.poly_laws.specs.Evaluation.{ValueInBounds}
use Rattle.poly_laws.specs.Values.{value_at}
use Rattle.form_rings.specs.Forms.{Forms}

-- slope*n + offset
abbrev pub part_in_n : ℤ → ℤ → Meaning
part_in_n slope offset = listed (trimmed whole_algebra.ops (number offset ∷ number slope ∷ []))

-- the coefficient of the greatest power of n, and 0 for zero
abbrev pub lead_in_n : Meaning → ℤ
lead_in_n f = number_of (coefficient_at whole_algebra.ops (items f) (length (items f) - 1))

-- what the polynomials in n bring as such a ring, in which x doesn't occur
abbrev pub forms_in_n : Forms
forms_in_n = record {
  holds_x = false;
  part = λ n_slope x_slope offset. part_in_n n_slope offset;
  of_n = λ f. f;
  value = λ n x f. value_at (n ∷ []) f;
  ValueInBounds = λ n x f. ValueInBounds whole_algebra (number n) (items f);
  lead = lead_in_n;
}
