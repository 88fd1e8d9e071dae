use Rattle.std.proofs.Common.{◌≡◌, ◌<◌, ◌-◌, ◌∙◌, map, length, get_or, ap, sym, arith}
use Rattle.ring_laws.specs.Meaning.{Meaning}
use Rattle.poly_generic.proofs.DomainAnswers.{lead_not}
use Rattle.poly_generic.proofs.MultipleAnswers.{none_apart, none_lead, none_rest, all_times, none_times}
use Rattle.poly_generic.proofs.PolyAnswers.{two}
use Rattle.poly_generic.proofs.polys.PolyDomain.whole_quotient.Goals as goal

-- no items
pub returns-then-is_empty : goal.returns-then-is_empty
returns-then-is_empty g c = record {
  quotient =
      none_times g.D.Ring.algebra g.met.D.Ring.laws g.met.D.Domain.domain_laws g.D.Ring.meaning g.met.D.Ring.passes c.args.self.now.list.items
      c.args.by.now.list.items c.args.by.now.ended (grind (arith, c.is_empty.ensures, c.if-is_empty.true));
}

-- of two lengths
pub returns-then-len : goal.returns-then-len
returns-then-len g c = record {
  quotient =
      none_apart g.D.Ring.algebra g.met.D.Ring.laws g.met.D.Domain.domain_laws g.D.Ring.meaning g.met.D.Ring.passes c.args.self.now.list.items
      c.args.by.now.list.items c.args.self.now.ended c.args.by.now.ended (grind (arith, c.is_empty.ensures, c.if-is_empty.false))
      (grind (arith, c.len.ensures, c.len-2.ensures, c.if-len.true));
}

-- no number of the leads
pub returns-in_default : goal.returns-in_default
returns-in_default g c =
    let M = g.D.Ring.meaning in
    let xs = c.args.self.now.list.items in
    let ys = c.args.by.now.list.items in
    let n : length c.args.self.now.list.items ≡ length c.args.by.now.list.items = grind (arith, c.len.ensures, c.len-2.ensures, c.if-len.false) in
    let p : 0 < length c.args.self.now.list.items = grind (arith, c.is_empty.ensures, c.if-is_empty.false) in
    let e : c.len-degree.result ≡ length c.args.by.now.list.items = omega (arith, c.len-degree.ensures) in
    record {
      quotient =
          none_lead g.D.Ring.algebra g.met.D.Ring.laws g.met.D.Domain.domain_laws M g.met.D.Ring.passes xs ys c.args.self.now.ended
          c.args.by.now.ended n (length ys - 1) c.index.result.now c.index-2.result.now (omega (arith, n, p))
          (c.index.ensures ∙ ap (λ k. get_or xs (k - 1) c.index.result.now) e)
          (c.index-2.ensures ∙ ap (λ k. get_or ys (k - 1) c.index-2.result.now) e) c.in_default.ensures.quotient;
    }

-- the number of the leads is that of all items
pub returns-then-are_times : goal.returns-then-are_times
returns-then-are_times g c =
    let M = g.D.Ring.meaning in
    let times : Meaning → Meaning = λ m. g.D.Ring.algebra.ops.product (g.D.Ring.algebra.ops.whole c.in-Some.found.value) m in
    record {
      quotient =
          all_times g.D.Ring.algebra g.met.D.Ring.laws g.met.D.Domain.domain_laws M g.met.D.Ring.passes c.args.self.now.list.items
          c.args.by.now.list.items c.args.self.now.ended c.args.by.now.ended c.in-Some.found.value
          (two (λ s t. map times (map M t) ≡ map M s) _ _ _ _ c.deref.ensures.value c.deref-2.ensures.value (c.are_times.ensures.0 c.if-are_times.true));
    }

-- or it isn't
pub returns-else-are_times : goal.returns-else-are_times
returns-else-are_times g c =
    let M = g.D.Ring.meaning in
    let xs = c.args.self.now.list.items in
    let ys = c.args.by.now.list.items in
    let times : Meaning → Meaning = λ m. g.D.Ring.algebra.ops.product (g.D.Ring.algebra.ops.whole c.in-Some.found.value) m in
    let n : length c.args.self.now.list.items ≡ length c.args.by.now.list.items = grind (arith, c.len.ensures, c.len-2.ensures, c.if-len.false) in
    let p : 0 < length c.args.self.now.list.items = grind (arith, c.is_empty.ensures, c.if-is_empty.false) in
    let e : c.len-degree.result ≡ length c.args.by.now.list.items = omega (arith, c.len-degree.ensures) in
    let y : c.index-2.result.now ≡ get_or c.args.by.now.list.items (length c.args.by.now.list.items - 1) c.index-2.result.now =
    c.index-2.ensures ∙ ap (λ k. get_or ys (k - 1) c.index-2.result.now) e in
    record {
      quotient =
          none_rest g.D.Ring.algebra g.met.D.Ring.laws g.met.D.Domain.domain_laws M g.met.D.Ring.passes xs ys c.args.self.now.ended
          c.args.by.now.ended n (length ys - 1) c.index.result.now c.index-2.result.now (omega (arith, n, p))
          (c.index.ensures ∙ ap (λ k. get_or xs (k - 1) c.index.result.now) e) y
          (lead_not g.D.Ring.algebra.ops M ys c.index-2.result.now (omega (arith, n, p)) y c.args.by.now.ended) c.in-Some.found.value
          c.in-Some.ensures.quotient
          (λ h. cc (
            c.if-are_times.false,
            c.are_times.ensures.1
                (two (λ s t. map times (map M t) ≡ map M s) _ _ _ _ (sym c.deref.ensures.value) (sym c.deref-2.ensures.value) h),
          ));
    }
