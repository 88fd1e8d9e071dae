use Rattle.std.proofs.Common.{◌≡◌, subst}
use Rattle.std.specs.Option.{MatchOption}
use Rattle.form_lines.specs.Forms.{without_x}
use Rattle.form_lines.specs.FormLaws.{in_x_has}
use Rattle.form_lines.specs.Views.{parts_of}
use Rattle.form_lines.proofs.forms.FormsSpelling.read.Goals as goal

-- the form without x
pub returns-in-Some-clause-read : goal.returns-in-Some-clause-read
returns-in-Some-clause-read c = λ v has e.
    c.narrowed.ensures.read v has (subst (λ found. MatchOption found ⊥ (λ x. parts_of x ≡ without_x v)) c.in-Some.is
    (c.in_ok-form.ensures.read (without_x v) (in_x_has v has) e))

-- no form in n, k and x
pub returns-in-None-clause-read : goal.returns-in-None-clause-read
returns-in-None-clause-read c = λ v has e.
    subst (λ found. MatchOption found ⊥ (λ x. parts_of x ≡ without_x v)) c.in-None.is (c.in_ok-form.ensures.read (without_x v) (in_x_has v has) e)
