use Rattle.std.proofs.Common.{◌≡◌, ap, sym, ◌∙◌, arith, Some, Option}
use Rattle.std.proofs.lemmas.Int.{ints}
use Rattle.std.specs.Prelude.{ℤ, pos, negsuc}
use Rattle.hypergeometric.specs.LinearForm.{LinearForm}
use Rattle.hypergeometric.specs.NaturalRange.{first_with_slope, low_end, high_end, both_ends}
use Rattle.hypergeometric.specs.Forms.{form_with}
use Rattle.lin_form.specs.Forms.{form_of}
use Rattle.proper_term.specs.TermOf.{term_of}
use Rattle.proper_term.proofs.range.natural.Goals as goal

in_n : (a b c d : ℤ) → a ≡ b → c ≡ d → form_with a (pos 0) c ≡ form_with b (pos 0) d
in_n a b c d e f = λ i. form_with (e i) (pos 0) (f i)

-- the ends are those of the first forms
pub returns : goal.returns
returns c =
    let r = form_of c.in_ok-rising.rising in
    let f = form_of c.in_ok-falling.falling in
    let low : form_of c.form_in_n-low.result ≡ low_end r = c.form_in_n-low.ensures.form ∙ in_n _ _ _ _ (omega (arith, ints)) (omega (arith, ints)) in
    let high : form_of c.form_in_n-high.result ≡ high_end f = c.form_in_n-high.ensures.form ∙ in_n _ _ _ _ (omega (arith, ints)) (omega
    (arith, ints)) in
    let down = (term_of c.args.term.now).down in
    let rising : first_with_slope (pos 1) down ≡ Some r = ap (first_with_slope (pos 1)) (sym c.down.ensures.down) ∙ c.in_ok-rising.ensures.first in
    let falling : first_with_slope (negsuc 0) down ≡ Some f =
    ap (first_with_slope (negsuc 0)) (sym c.down-2.ensures.down) ∙ c.in_ok-falling.ensures.first in
    record {
      ends = ap (λ (o : Option LinearForm). both_ends o (first_with_slope (negsuc 0) down)) rising
          ∙ ap (both_ends (Some r)) falling
          ∙ (λ i. Some (sym low i, sym high i));
    }
