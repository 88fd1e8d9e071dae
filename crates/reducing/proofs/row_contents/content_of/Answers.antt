use Rattle.std.specs.Prelude.{◌≡◌, pos, ◌≤ℤ◌, unsigned_abs}
use Rattle.std.proofs.Common.{arith, ap, ◌∙◌, sym, subst}
use Rattle.std.proofs.lemmas.Int.{ints}
use Rattle.poly_divide.specs.Content.{row_sizes, IsContent}
use Rattle.reducing.proofs.Divisors.{some_whole, whole_is}
use Rattle.reducing.proofs.Polynomials.{senses}
use Rattle.reducing.proofs.RowContents.{content_below}
use Rattle.reducing.proofs.row_contents.content_of.Goals as goal

pub overflow_cast-whole_content : goal.overflow_cast-whole_content
overflow_cast-whole_content c =
    let b = content_below c.args.row.now c.whole_content.result c.whole_content.ensures.content in
    omega (arith, ints, b)

pub unwrap-requires : goal.unwrap-requires
unwrap-requires c =
    let b = content_below c.args.row.now c.whole_content.result c.whole_content.ensures.content in
    some_whole c.new.result _ _ (λ e. omega (arith, ints, b, e)) c.new.ensures.given

value_is : (c : goal.After-unwrap) → c.unwrap.result.value ≡ pos c.whole_content.result
value_is c =
    let b = content_below c.args.row.now c.whole_content.result c.whole_content.ensures.content in
    whole_is c.new.result c.unwrap.result _ _ c.unwrap.ensures c.new.ensures.given ∙ omega (arith, ints, b)

pub returns-clause-content : goal.returns-clause-content
returns-clause-content c =
    subst (IsContent (row_sizes (senses c.args.row.now))) (sym (ap unsigned_abs (value_is c))) c.whole_content.ensures.content

pub returns-clause-sign : goal.returns-clause-sign
returns-clause-sign c = subst (λ z. pos 0 ≤ℤ z) (sym (value_is c)) (omega (arith, ints))
