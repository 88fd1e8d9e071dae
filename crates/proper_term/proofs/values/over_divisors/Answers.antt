use Rattle.std.proofs.Common.{subst, sym, List}
use Rattle.std.specs.List.{AllByRecursion}
use Rattle.std.specs.Prelude.{◌≢◌, pos}
use Rattle.hypergeometric.specs.LinearForm.{Factor, form_value}
use Rattle.proper_term.specs.Points.{point_of}
use Rattle.proper_term.specs.TermOf.{term_of}
use Rattle.proper_term.proofs.ListItems.{zero_all}
use Rattle.proper_term.proofs.values.over_divisors.Goals as goal

pub over_forms-requires-clause-none_zero : goal.over_forms-requires-clause-none_zero
over_forms-requires-clause-none_zero c =
    subst (λ (xs : List Factor). AllByRecursion (λ x. form_value x.form (point_of c.args.point) ≢ pos 0) xs) (sym c.over.ensures.over)
    ((zero_all (term_of c.args.term.now).over (point_of c.args.point)).0 c.requires.over)
