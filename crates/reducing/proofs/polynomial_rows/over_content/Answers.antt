use Rattle.std.proofs.Common.{unsigned_abs, subst}
use Rattle.poly_divide.specs.Content.{row_sizes, IsContent}
use Rattle.reducing.proofs.Polynomials.{sense, senses}
use Rattle.reducing.proofs.Cores.{alone}
use Rattle.reducing.proofs.OverContents.{content_isnt, over}
use Rattle.reducing.proofs.polynomial_rows.over_content.Goals as goal

pub without_content-requires-clause-not_zero : goal.without_content-requires-clause-not_zero
without_content-requires-clause-not_zero c =
    content_isnt c.args.f.now c.push.new.self.items c.content_of-content.result.value c.requires.not_zero
    (alone (sense c.args.f.now) c.push.new.self.items c.new-row.result.items c.in_ok-copy.copy c.in_ok-push.ensures.items c.new-row.ensures.items
    c.in_ok-copy.ensures.gives)
    (subst (λ r. IsContent (row_sizes (senses r)) (unsigned_abs c.content_of-content.result.value)) c.deref.ensures.value
    c.content_of-content.ensures.content)

pub returns-clause-parts : goal.returns-clause-parts
returns-clause-parts c =
    over c.args.f.now c.push.new.self.items c.in_ok-quotients.quotients.items c.remove.result c.content_of-content.result.value c.requires.not_zero
    (alone (sense c.args.f.now) c.push.new.self.items c.new-row.result.items c.in_ok-copy.copy c.in_ok-push.ensures.items c.new-row.ensures.items
    c.in_ok-copy.ensures.gives)
    (subst (λ r. IsContent (row_sizes (senses r)) (unsigned_abs c.content_of-content.result.value)) c.deref.ensures.value
    c.content_of-content.ensures.content)
    c.content_of-content.ensures.sign c.in_ok-quotients.ensures.quotients c.remove.ensures.value
