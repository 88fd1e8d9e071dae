-- The natural range of a term in k: beyond its ends a factorial below stands at a negative number, so that the term is 0.
use Rattle.std.specs.Prelude.{ℤ, pos, negsuc, neg_ℤ, if◌then◌else◌, List, [], ◌∷◌, Option, Some, None}
use Rattle.std.specs.Ordering.{int_eq}
use Rattle.hypergeometric.specs.LinearForm.{LinearForm, Factor}

-- the first form of a list with this k slope
abbrev pub first_with_slope : ℤ → List Factor → Option LinearForm
first_with_slope slope [] = None
first_with_slope slope (x ∷ xs) = if int_eq x.form.k_slope slope then Some x.form else first_with_slope slope xs

-- k = -b*n - c, the end from which on k + b*n + c isn't negative
abbrev pub low_end : LinearForm → LinearForm
low_end f = record { n_slope = neg_ℤ f.n_slope; k_slope = pos 0; offset = neg_ℤ f.offset }

-- k = b*n + c, the end up to which -k + b*n + c isn't negative
abbrev pub high_end : LinearForm → LinearForm
high_end f = record { n_slope = f.n_slope; k_slope = pos 0; offset = f.offset }

-- both ends, where there are both
abbrev pub both_ends : Option LinearForm → Option LinearForm → Option (LinearForm × LinearForm)
both_ends None falling = None
both_ends (Some rising) None = None
both_ends (Some rising) (Some falling) = Some (low_end rising, high_end falling)

-- the ends that the first form of k slope 1 and the first one of k slope -1 among the forms below give
abbrev pub natural_range : List Factor → Option (LinearForm × LinearForm)
natural_range down = both_ends (first_with_slope (pos 1) down) (first_with_slope (negsuc 0) down)
