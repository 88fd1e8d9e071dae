use Rattle.std.specs.Int.{w64}
use Rattle.std.proofs.Common.{rules, ◌≡◌, sym, subst, ap, ◌∙◌, FitsSigned, to_z, of_z}
use Rattle.std.proofs.lemmas.Int.{to_z-of_z}
use Rattle.std.specs.Prelude.{Ok}
use Rattle.hypergeometric.specs.FormOrder.{IsForm}
use Rattle.hypergeometric.specs.Forms.{form_with}
use Rattle.term_walk.specs.Views.{wide_form_of}
use Rattle.term_walk.proofs.LimitedForms.{form_kept, form_outcome}
use Rattle.term_walk.proofs.wide_forms.within_offset_limit.Goals as goal

-- numbers within the limits make a form
pub unreachable-requires : goal.unreachable-requires
unreachable-requires c =
    let n : FitsSigned w64 c.in_ok-n_slope.n_slope = search rules in
    let k : FitsSigned w64 c.in_ok-k_slope.k_slope = search rules in
    let o : FitsSigned w64 c.in_ok-offset.offset = search rules in
    let same : form_with c.in_ok-n_slope.n_slope c.in_ok-k_slope.k_slope c.in_ok-offset.offset
    ≡ form_with (to_z w64 (of_z w64 c.in_ok-n_slope.n_slope)) (to_z w64 (of_z w64 c.in_ok-k_slope.k_slope)) (to_z w64 (of_z w64 c.in_ok-offset.offset)) =
    sym (λ i. form_with (to_z-of_z w64 _ n i) (to_z-of_z w64 _ k i) (to_z-of_z w64 _ o i)) in
    c.in-None.ensures.given (subst IsForm same (form_kept c.args.name (wide_form_of c.args.form) _ _ _ c.in_ok-n_slope.ensures.answers
    c.in_ok-k_slope.ensures.answers c.in_ok-offset.ensures.answers c.requires.small))

-- and that form is the one that the steps give
pub returns : goal.returns
returns c =
    let n : FitsSigned w64 c.in_ok-n_slope.n_slope = search rules in
    let k : FitsSigned w64 c.in_ok-k_slope.k_slope = search rules in
    let o : FitsSigned w64 c.in_ok-offset.offset = search rules in
    record {
      answers = form_outcome c.args.name (wide_form_of c.args.form) _ _ _ c.in_ok-n_slope.ensures.answers c.in_ok-k_slope.ensures.answers
          c.in_ok-offset.ensures.answers
          ∙ ap Ok (sym (c.in-Some.ensures.given ∙ (λ i. form_with (to_z-of_z w64 _ n i) (to_z-of_z w64 _ k i) (to_z-of_z w64 _ o i))));
    }
