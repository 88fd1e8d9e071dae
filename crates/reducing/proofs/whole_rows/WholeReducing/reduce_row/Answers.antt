use Rattle.std.specs.Prelude.{unsigned_abs, map, refl}
use Rattle.std.proofs.Common.{arith, subst}
use Rattle.std.proofs.lemmas.Int.{ints}
use Rattle.poly_divide.specs.Content.{IsContent}
use Rattle.reducing.proofs.WholeRows.{stays, quotients}
use Rattle.reducing.proofs.whole_rows.WholeReducing.reduce_row.Goals as goal

pub returns-then-value-le1 : goal.returns-then-value-le1
returns-then-value-le1 c = record {
  reduces =
      stays c.args.row.items c.content_of-content.result.value
      (subst (λ t. IsContent (map (λ number. unsigned_abs number.value) t) (unsigned_abs c.content_of-content.result.value)) c.deref.ensures.value
      c.content_of-content.ensures.content)
      (omega (arith, ints, c.if-value-le1.true, c.value.ensures.value, c.value.ensures.small))
      c.content_of-content.ensures.sign;
  always = refl;
}

pub returns : goal.returns
returns c = record {
  reduces =
      quotients c.args.row.items c.divided.result.items c.content_of-content.result.value
      (subst (λ t. IsContent (map (λ number. unsigned_abs number.value) t) (unsigned_abs c.content_of-content.result.value)) c.deref.ensures.value
      c.content_of-content.ensures.content)
      c.content_of-content.ensures.sign
      (λ e. omega (arith, ints, e, c.if-value-le1.false, c.value.ensures.value, c.value.ensures.small))
      c.divided.ensures.quotients;
  always = refl;
}
