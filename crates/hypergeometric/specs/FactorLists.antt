-- Lists of forms with their powers: how a form is looked up and multiplied by, what two lists share, and what is left of one without another.
use Rattle.std.specs.Prelude.{ℕ, ◌+◌, Bool, ◌&&◌, cond, List, [], ◌∷◌, ◌-◌, min, if◌then◌else◌, nat_eq}
use Rattle.std.specs.Ordering.{int_eq}
use Rattle.hypergeometric.specs.LinearForm.{LinearForm, Factor}

-- whether the three numbers are the same
abbrev pub same_form : LinearForm → LinearForm → Bool
same_form f g = int_eq f.k_slope g.k_slope && (int_eq f.n_slope g.n_slope && int_eq f.offset g.offset)

-- the factor of a linear form with a power
abbrev pub factor_with : LinearForm → ℕ → Factor
factor_with f power = record { form = f; power = power }

-- the power of the form, and 0 where it doesn't stand in the list
abbrev pub power_of : LinearForm → List Factor → ℕ
power_of f [] = 0
power_of f (x ∷ xs) = cond (same_form f x.form) x.power (power_of f xs)

-- the power is added where the form stands, and a new form goes last
abbrev pub with_factor : LinearForm → ℕ → List Factor → List Factor
with_factor f power [] = factor_with f power ∷ []
with_factor f power (x ∷ xs) = cond (same_form f x.form) (factor_with x.form (x.power + power) ∷ xs) (x ∷ with_factor f power xs)

-- the forms of the first list that stand in the second too, each with the smaller of its two powers
abbrev pub in_both : List Factor → List Factor → List Factor
in_both [] ys = []
in_both (x ∷ xs) ys = if nat_eq (power_of x.form ys) 0 then in_both xs ys
    else (factor_with x.form (min x.power (power_of x.form ys)) ∷ in_both xs ys)

-- each form with its power less that in the second list, and without those whose power is then 0
abbrev pub without : List Factor → List Factor → List Factor
without [] ys = []
without (x ∷ xs) ys = if nat_eq (x.power - power_of x.form ys) 0 then without xs ys
    else (factor_with x.form (x.power - power_of x.form ys) ∷ without xs ys)
