use Rattle.std.specs.Prelude.{◌<◌, ◌^◌}
use Rattle.std.specs.Option.{MatchOption}
use Rattle.std.proofs.Common.{◌≡◌, subst, sym, ap, ◌∙◌}
use Rattle.lin_form.specs.Forms.{form_of}
use Rattle.form_lines.specs.Matches.{parts_of_match}
use Rattle.exact_texts.proofs.Numerals.{naturals_spaceless}
use Rattle.form_lines.specs.MatchLaws.{match_has}
use Rattle.form_lines.proofs.matches.MatchesSpelling.read.Goals as goal

pub invariant_of-read : goal.invariant_of-read
invariant_of-read c = record { spaceless = naturals_spaceless }

-- no form, shift and power
pub returns-in_default-clause-read : goal.returns-in_default-clause-read
returns-in_default-clause-read c = λ m has e.
    subst (λ found. MatchOption found ⊥ (λ x. (form_of x.0, (x.1.0, x.1.1)) ≡ parts_of_match m)) c.in_default.is
    (c.in_ok-form.ensures.read (parts_of_match m) (match_has m has) e)

-- those of the match
pub returns-in-Some-narrow-clause-read : goal.returns-in-Some-narrow-clause-read
returns-in-Some-narrow-clause-read c = λ m has e.
    let told : (form_of c.in-Some.form, (c.in-Some.shift, c.in-Some.power)) ≡ parts_of_match m =
    subst (λ found. MatchOption found ⊥ (λ x. (form_of x.0, (x.1.0, x.1.1)) ≡ parts_of_match m)) c.in-Some.is
    (c.in_ok-form.ensures.read (parts_of_match m) (match_has m has) e) in
    let shift = c.in-Some-narrow.ensures ∙ ap (λ p. p.1.0) told in
    λ i. record { form = (told i).0; shift = shift i; power = (told i).1.1 }

-- the shift is below 2^64
pub returns-in-None-clause-read : goal.returns-in-None-clause-read
returns-in-None-clause-read c = λ m has e.
    let told : (form_of c.in-Some.form, (c.in-Some.shift, c.in-Some.power)) ≡ parts_of_match m =
    subst (λ found. MatchOption found ⊥ (λ x. (form_of x.0, (x.1.0, x.1.1)) ≡ parts_of_match m)) c.in-Some.is
    (c.in_ok-form.ensures.read (parts_of_match m) (match_has m has) e) in
    c.in-None.ensures (subst (λ n. n < 2 ^ 64) (sym (ap (λ p. p.1.0) told)) has.shift)
