-- The term of the code's lists after cancelling is the cancelled term, and what was gathered is in bounds.
use Rattle.std.proofs.Common.{◌≡◌, ap, ◌∙◌}
use Rattle.hypergeometric.specs.ProperTerm.{ProperTerm}
use Rattle.hypergeometric.specs.FactorLists.{in_both, without}
use Rattle.lin_form.specs.ListOf.{list_of}
use Rattle.lin_form.specs.declared.factor_lists.FactorList.{FactorList}
use Rattle.term_classes.specs.ClassBounds.{IsTermInBounds}
use Rattle.term_classes.specs.Walk.{cancelled, with_lists}
use Rattle.proper_term.specs.Fields.{term_with}
use Rattle.proper_term.proofs.FieldPolynomials.{polynomial_kept}
use Rattle.term_walk.specs.Views.{gathered_of}
use Rattle.term_walk.specs.declared.gathered.Gathered.{Gathered}

-- the numbers of the code are
pub gathered_in_bounds : (g : Gathered) → IsTermInBounds (gathered_of g)
gathered_in_bounds g = record {
  poly = (polynomial_kept g.poly.list.items g.poly.ended g.poly.short).fits;
  scale = record { top = g.scale.top.small; bottom = g.scale.bottom.small };
  n_base = record { top = g.n_base.top.small; bottom = g.n_base.bottom.small };
  k_base = record { top = g.k_base.top.small; bottom = g.k_base.bottom.small };
}

-- the term with the lists that are left
pub lists_cancelled : (g : Gathered) (up down guard : FactorList)
    → (list_of guard).factors ≡ in_both (list_of g.factors.up).factors (list_of g.factors.down).factors
    → (list_of up).factors ≡ without (list_of g.factors.up).factors (list_of guard).factors
    → (list_of down).factors ≡ without (list_of g.factors.down).factors (list_of guard).factors
    → term_with (gathered_of g).poly (gathered_of g).scale (gathered_of g).n_base (gathered_of g).k_base (list_of up) (list_of down)
    (list_of g.factors.over) (list_of guard) ≡ cancelled (gathered_of g)
lists_cancelled g up down guard shared above below =
    let s : ProperTerm = gathered_of g in
    ap (λ xs. with_lists xs (list_of down).factors s.over (list_of guard).factors s) above
    ∙ ap (λ xs. with_lists (without s.up (list_of guard).factors) xs s.over (list_of guard).factors s) below
    ∙ ap (λ xs. with_lists (without s.up xs) (without s.down xs) s.over xs s) shared
