-- The runs over the forms of a list.
use Rattle.std.proofs.Common.{◌≡◌, ap, sym, ◌∙◌, subst, List, ◌∷◌, ◌++◌}
use Rattle.std.specs.Prelude.{ℤ, pos, replicate}
use Rattle.hypergeometric.specs.Point.{Point}
use Rattle.hypergeometric.specs.Fraction.{Fraction}
use Rattle.hypergeometric.specs.LinearForm.{Factor, form_value}
use Rattle.proper_term.specs.Fields.{number_fraction}
use Rattle.proper_term.specs.ValueBounds.{divisors}
use Rattle.proper_term.proofs.Runs.{Reached}

-- the first form of those that are left comes next
pub form_next : (start running : Fraction) (xs left : List Factor) (x : Factor) (rest : List Factor) (p : Point) (v : ℤ) → left ≡ x ∷ rest
    → v ≡ form_value x.form p → Reached start (divisors xs p) running (divisors left p)
    → Reached start (divisors xs p) running (replicate x.power (number_fraction (pos 1) v) ++ divisors rest p)
form_next start running xs left x rest p v here is h =
    subst (Reached start (divisors xs p) running)
    (ap (λ (ys : List Factor). divisors ys p) here
    ∙ ap (λ (z : ℤ). replicate x.power (number_fraction (pos 1) z) ++ divisors rest p) (sym is)) h
