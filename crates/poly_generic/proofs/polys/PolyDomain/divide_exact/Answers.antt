use Rattle.std.proofs.Common.{◌≡◌, ◌<◌, ◌-◌, ◌++◌, ◌∷◌, [], map, length, get_or, take, ap, sym, ◌∙◌, subst, arith, Ok, IsTrue}
use Rattle.poly_generic.specs.declared.polys.Poly.{Poly}
use Rattle.poly_generic.specs.ListAnswer.{DividesList}
use Rattle.poly_laws.specs.LongDivision.{Divided, all_nought, ListDivisionInBounds, DivisionInBounds, Stuck}
use Rattle.poly_laws.specs.PolyAlgebra.{poly_algebra}
use Rattle.ring_laws.specs.Answer.{OnFault}
use Rattle.ring_laws.specs.Meaning.{listed}
use Rattle.poly_generic.proofs.DomainAnswers.{fault_exact, lead_not, some_items, parted_list, division_fault, quotient_short, quotient_is, rest_not_zero, none_at_all}
use Rattle.poly_generic.proofs.polys.PolyDomain.divide_exact.Goals as goal

pub divide_lists-requires : goal.divide_lists-requires
divide_lists-requires g c =
    let M = g.D.Ring.meaning in
    let xs = c.args.self.now.list.items in
    let ys = c.args.by.now.list.items in
    let n : c.len-degree.result ≡ length c.args.by.now.list.items = omega (arith, c.len-degree.ensures) in
    let p : 0 < length c.args.by.now.list.items = some_items M ys c.requires.not_zero in
    let r : c.index.result.now ≡ get_or c.args.by.now.list.items (length c.args.by.now.list.items - 1) c.index.result.now =
    c.index.ensures ∙ ap (λ k. get_or ys (k - 1) c.index.result.now) n in
    record {
      not_zero = lead_not g.D.Ring.algebra.ops M ys c.index.result.now p r c.args.by.now.ended;
    }

pub returns-in_err-divided : goal.returns-in_err-divided
returns-in_err-divided g c =
    let M = g.D.Ring.meaning in
    let xs = c.args.self.now.list.items in
    let ys = c.args.by.now.list.items in
    let n : c.len-degree.result ≡ length c.args.by.now.list.items = omega (arith, c.len-degree.ensures) in
    let p : 0 < length c.args.by.now.list.items = some_items M ys c.requires.not_zero in
    let r : c.index.result.now ≡ get_or c.args.by.now.list.items (length c.args.by.now.list.items - 1) c.index.result.now =
    c.index.ensures ∙ ap (λ k. get_or ys (k - 1) c.index.result.now) n in
    let low = take (c.len-degree.result - 1) c.deref-2.result.now in
    let e : c.args.by.now.list.items ≡ take (c.len-degree.result - 1) c.deref-2.result.now ++ c.index.result.now ∷ [] =
    parted_list ys c.index.result.now p r
    ∙ ap (λ t. t ++ c.index.result.now ∷ []) (ap (λ k. take (k - 1) ys) (sym n)
    ∙ ap (take (c.len-degree.result - 1)) (sym c.deref-2.ensures.value)) in
    record {
      divides = fault_exact (λ (v : Poly _ _). listed (map M v.list.items)) (poly_algebra g.D.Ring.algebra)
          (DivisionInBounds g.D.Ring.algebra g.D.Domain.division_in_bounds (listed (map M xs)) (listed (map M ys))) (listed (map M xs))
          (listed (map M ys)) c.from_residual.result c.in_err-divided.field-0.0 c.from_residual.ensures.1
          (division_fault g.D.Ring.algebra g.met.D.Ring.laws g.met.D.Domain.domain_laws M g.met.D.Ring.passes g.D.Domain.division_in_bounds xs ys low
          c.index.result.now c.in_err-divided.field-0.0 e
          (subst (λ v. OnFault (¬ (ListDivisionInBounds g.D.Ring.algebra g.D.Domain.division_in_bounds (map M v) (map M low)
          (M c.index.result.now))) c.in_err-divided.field-0.0) c.deref.ensures.value c.in_err-divided.ensures));
    }

pub returns-in_err-quotient-in-Some : goal.returns-in_err-quotient-in-Some
returns-in_err-quotient-in-Some g c =
    let M = g.D.Ring.meaning in
    let xs = c.args.self.now.list.items in
    let ys = c.args.by.now.list.items in
    let n : c.len-degree.result ≡ length c.args.by.now.list.items = omega (arith, c.len-degree.ensures) in
    let p : 0 < length c.args.by.now.list.items = some_items M ys c.requires.not_zero in
    let r : c.index.result.now ≡ get_or c.args.by.now.list.items (length c.args.by.now.list.items - 1) c.index.result.now =
    c.index.ensures ∙ ap (λ k. get_or ys (k - 1) c.index.result.now) n in
    let low = take (c.len-degree.result - 1) c.deref-2.result.now in
    let e : c.args.by.now.list.items ≡ take (c.len-degree.result - 1) c.deref-2.result.now ++ c.index.result.now ∷ [] =
    parted_list ys c.index.result.now p r
    ∙ ap (λ t. t ++ c.index.result.now ∷ []) (ap (λ k. take (k - 1) ys) (sym n)
    ∙ ap (take (c.len-degree.result - 1)) (sym c.deref-2.ensures.value)) in
    let run = subst (λ v. Divided g.D.Ring.algebra (map M low) (M c.index.result.now) (map M v) (map M c.in-Some.divided.quotient.items)
    (map M c.in-Some.divided.rest.items)) c.deref.ensures.value
    (subst (λ o. DividesList g.D.Ring.algebra g.D.Domain.division_in_bounds (λ d. map M d.quotient.items) (λ d. map M d.rest.items)
    (map M c.deref.result.now) (map M low) (M c.index.result.now) (Ok o)) c.in-Some.is c.in_ok-divided.ensures) in
    record {
      divides = fault_exact (λ (v : Poly _ _). listed (map M v.list.items)) (poly_algebra g.D.Ring.algebra)
          (DivisionInBounds g.D.Ring.algebra g.D.Domain.division_in_bounds (listed (map M xs)) (listed (map M ys))) (listed (map M xs))
          (listed (map M ys)) c.from_residual-in_err-quotient-in-Some.result c.in_err-quotient-in-Some.field-0.0
          c.from_residual-in_err-quotient-in-Some.ensures.1
          (quotient_short g.D.Ring.algebra g.met.D.Ring.laws g.met.D.Domain.domain_laws M g.met.D.Ring.passes _ xs low
          c.in-Some.divided.quotient.items c.index.result.now _ c.in_err-quotient-in-Some.field-0.0 c.args.self.now.short run
          c.in_err-quotient-in-Some.ensures.gives);
    }

pub returns-in_ok-quotient-in-Some : goal.returns-in_ok-quotient-in-Some
returns-in_ok-quotient-in-Some g c =
    let M = g.D.Ring.meaning in
    let xs = c.args.self.now.list.items in
    let ys = c.args.by.now.list.items in
    let n : c.len-degree.result ≡ length c.args.by.now.list.items = omega (arith, c.len-degree.ensures) in
    let p : 0 < length c.args.by.now.list.items = some_items M ys c.requires.not_zero in
    let r : c.index.result.now ≡ get_or c.args.by.now.list.items (length c.args.by.now.list.items - 1) c.index.result.now =
    c.index.ensures ∙ ap (λ k. get_or ys (k - 1) c.index.result.now) n in
    let low = take (c.len-degree.result - 1) c.deref-2.result.now in
    let e : c.args.by.now.list.items ≡ take (c.len-degree.result - 1) c.deref-2.result.now ++ c.index.result.now ∷ [] =
    parted_list ys c.index.result.now p r
    ∙ ap (λ t. t ++ c.index.result.now ∷ []) (ap (λ k. take (k - 1) ys) (sym n)
    ∙ ap (take (c.len-degree.result - 1)) (sym c.deref-2.ensures.value)) in
    let run = subst (λ v. Divided g.D.Ring.algebra (map M low) (M c.index.result.now) (map M v) (map M c.in-Some.divided.quotient.items)
    (map M c.in-Some.divided.rest.items)) c.deref.ensures.value
    (subst (λ o. DividesList g.D.Ring.algebra g.D.Domain.division_in_bounds (λ d. map M d.quotient.items) (λ d. map M d.rest.items)
    (map M c.deref.result.now) (map M low) (M c.index.result.now) (Ok o)) c.in-Some.is c.in_ok-divided.ensures) in
    let z = subst (λ v. IsTrue (all_nought g.D.Ring.algebra.ops (map M v))) c.deref-in-Some.ensures.value (c.all_zero.ensures.0 c.if-all_zero.true) in
    record {
      divides = quotient_is g.D.Ring.algebra g.met.D.Ring.laws g.met.D.Domain.domain_laws M g.met.D.Ring.passes xs ys low
          c.in-Some.divided.quotient.items c.in_ok-quotient-in-Some.quotient.list.items c.index.result.now _ c.args.self.now.ended c.args.by.now.ended
          c.in_ok-quotient-in-Some.quotient.ended e run z c.in_ok-quotient-in-Some.ensures.gives.1;
    }

pub returns-else-all_zero : goal.returns-else-all_zero
returns-else-all_zero g c =
    let M = g.D.Ring.meaning in
    let xs = c.args.self.now.list.items in
    let ys = c.args.by.now.list.items in
    let n : c.len-degree.result ≡ length c.args.by.now.list.items = omega (arith, c.len-degree.ensures) in
    let p : 0 < length c.args.by.now.list.items = some_items M ys c.requires.not_zero in
    let r : c.index.result.now ≡ get_or c.args.by.now.list.items (length c.args.by.now.list.items - 1) c.index.result.now =
    c.index.ensures ∙ ap (λ k. get_or ys (k - 1) c.index.result.now) n in
    let low = take (c.len-degree.result - 1) c.deref-2.result.now in
    let e : c.args.by.now.list.items ≡ take (c.len-degree.result - 1) c.deref-2.result.now ++ c.index.result.now ∷ [] =
    parted_list ys c.index.result.now p r
    ∙ ap (λ t. t ++ c.index.result.now ∷ []) (ap (λ k. take (k - 1) ys) (sym n)
    ∙ ap (take (c.len-degree.result - 1)) (sym c.deref-2.ensures.value)) in
    let f = lead_not g.D.Ring.algebra.ops M ys c.index.result.now p r c.args.by.now.ended in
    let run = subst (λ v. Divided g.D.Ring.algebra (map M low) (M c.index.result.now) (map M v) (map M c.in-Some.divided.quotient.items)
    (map M c.in-Some.divided.rest.items)) c.deref.ensures.value
    (subst (λ o. DividesList g.D.Ring.algebra g.D.Domain.division_in_bounds (λ d. map M d.quotient.items) (λ d. map M d.rest.items)
    (map M c.deref.result.now) (map M low) (M c.index.result.now) (Ok o)) c.in-Some.is c.in_ok-divided.ensures) in
    let z : ¬ (IsTrue (all_nought g.D.Ring.algebra.ops (map g.D.Ring.meaning c.in-Some.divided.rest.items))) =
    λ t. cc (
      c.if-all_zero.false,
      c.all_zero.ensures.1 (subst (λ v. IsTrue (all_nought g.D.Ring.algebra.ops (map M v))) (sym c.deref-in-Some.ensures.value) t),
    ) in
    record {
      divides = λ q h. rest_not_zero g.D.Ring.algebra g.met.D.Ring.laws g.met.D.Domain.domain_laws M g.met.D.Ring.passes xs ys low c.index.result.now
          (map M c.in-Some.divided.quotient.items) (map M c.in-Some.divided.rest.items) c.args.self.now.ended c.args.by.now.ended e f run z q h;
    }

pub returns-in-None : goal.returns-in-None
returns-in-None g c =
    let M = g.D.Ring.meaning in
    let xs = c.args.self.now.list.items in
    let ys = c.args.by.now.list.items in
    let n : c.len-degree.result ≡ length c.args.by.now.list.items = omega (arith, c.len-degree.ensures) in
    let p : 0 < length c.args.by.now.list.items = some_items M ys c.requires.not_zero in
    let r : c.index.result.now ≡ get_or c.args.by.now.list.items (length c.args.by.now.list.items - 1) c.index.result.now =
    c.index.ensures ∙ ap (λ k. get_or ys (k - 1) c.index.result.now) n in
    let low = take (c.len-degree.result - 1) c.deref-2.result.now in
    let e : c.args.by.now.list.items ≡ take (c.len-degree.result - 1) c.deref-2.result.now ++ c.index.result.now ∷ [] =
    parted_list ys c.index.result.now p r
    ∙ ap (λ t. t ++ c.index.result.now ∷ []) (ap (λ k. take (k - 1) ys) (sym n)
    ∙ ap (take (c.len-degree.result - 1)) (sym c.deref-2.ensures.value)) in
    let f = lead_not g.D.Ring.algebra.ops M ys c.index.result.now p r c.args.by.now.ended in
    let s = subst (λ o. DividesList g.D.Ring.algebra g.D.Domain.division_in_bounds (λ d. map M d.quotient.items) (λ d. map M d.rest.items)
    (map M c.deref.result.now) (map M low) (M c.index.result.now) (Ok o)) c.in-None.is c.in_ok-divided.ensures in
    record {
      divides = λ q h. none_at_all g.D.Ring.algebra g.met.D.Ring.laws g.met.D.Domain.domain_laws M g.met.D.Ring.passes xs ys low c.index.result.now
          c.args.self.now.ended c.args.by.now.ended e f
          (subst (λ v. Stuck g.D.Ring.algebra (map M v) (map M low) (M c.index.result.now)) c.deref.ensures.value s) q h;
    }
