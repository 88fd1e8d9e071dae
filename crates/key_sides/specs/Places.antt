-- How far the places at which the code takes a form lie from k.
use Rattle.std.specs.Prelude.{ℤ, pos, negsuc}
use Rattle.key_sides.specs.declared.form_polynomials.Place.{Place}
use Rattle.key_sides.specs.declared.form_polynomials.Place.TheVariants.{Here, Before}

-- k itself, and k - 1
abbrev pub shift_of : Place → ℤ
shift_of Here = pos 0
shift_of Before = negsuc 0
