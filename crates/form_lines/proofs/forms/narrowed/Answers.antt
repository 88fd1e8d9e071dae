use mir.Val.{SFits}
use Rattle.std.specs.Int.{w64}
use Rattle.std.proofs.Common.{rules, ◌∙◌}
use Rattle.std.proofs.lemmas.Int.{to_z-of_z}
use Rattle.form_lines.specs.Views.{parts_of}
use Rattle.form_lines.proofs.FormReads.{narrowed_found}
use Rattle.form_lines.proofs.forms.narrowed.Goals as goal

-- the form with these numbers
pub returns-clause-read : goal.returns-clause-read
returns-clause-read c = λ f has e.
    let n : SFits w64 c.in_ok-n_slope.n_slope = search rules in
    let k : SFits w64 c.in_ok-k_slope.k_slope = search rules in
    let o : SFits w64 c.in_ok-offset.offset = search rules in
    narrowed_found f (parts_of c.args.form.now) _ _ _ c.new.result has e (to_z-of_z w64 c.in_ok-n_slope.n_slope n ∙ c.in_ok-n_slope.ensures.same)
    (to_z-of_z w64 c.in_ok-k_slope.k_slope k ∙ c.in_ok-k_slope.ensures.same) (to_z-of_z w64 c.in_ok-offset.offset o ∙ c.in_ok-offset.ensures.same)
    c.new.ensures.given
