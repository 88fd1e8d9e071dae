use Rattle.std.proofs.Common.{◌≡◌, ◌+◌, ◌-◌, ◌<◌, ◌≤◌, ◌∷◌, [], map, length, get_or, take, drop, replicate, reverse, sym, ap, ◌∙◌, subst, arith, Ok}
use Rattle.std.proofs.lemmas.List.{length-map, length-replicate, length-append, length-take-le, length-drop, reverse-append, drop_all}
use Rattle.poly_laws.specs.LongDivision.{list_less, Divided}
use Rattle.ring_laws.specs.Division.{Divides}
use Rattle.poly_generic.proofs.DivideAnswers.{length-less, run_on, run_begin, part_not, rest_not, stuck_at, fault_divides}
use Rattle.poly_generic.proofs.Rests.{chosen, last_off, tops, kept, padded_front, padded_rest}
use Rattle.poly_generic.proofs.division.divide_lists.Goals as goal

pub loop-power-init : goal.loop-power-init
loop-power-init g c =
    let M = g.D.Ring.meaning in
    let xs = c.args.list.now in
    let nought = g.D.Ring.algebra.ops.nought in
    let m : length (map M c.args.low.now) ≡ length c.args.low.now = length-map c.args.low.now M in
    record {
      within = omega arith;
      places = omega (
        arith,
        ap length c.in_ok-rest.ensures,
        length-append (map M xs) (replicate (length c.args.low.now) nought),
        length-map xs M,
        length-map c.in_ok-rest.rest.items M,
        length-replicate (length c.args.low.now) nought,
      );
      front = padded_front M xs c.in_ok-rest.rest.items _ c.in_ok-rest.ensures;
      run = run_begin g.D.Ring.algebra M (map M c.args.low.now) _ _ _ _ (ap (map M) (drop_all (length xs) xs (omega arith)))
          (ap (λ v. map M (reverse v)) c.reserve-room.ensures.items ∙ ap (λ v. map M (reverse v)) c.new-quotient.ensures.items)
          (padded_rest M xs c.in_ok-rest.rest.items _ c.in_ok-rest.ensures ∙ ap (λ k. replicate k nought) (sym m));
    }

pub returns-in_err-part : goal.returns-in_err-part
returns-in_err-part g c =
    let i = c.loop-power.power - 1 in
    let n : c.loop-power.power ≡ c.loop-power.power - 1 + 1 = omega (arith, c.loop-power-test.true) in
    let a = g.D.Ring.algebra in
    let M = g.D.Ring.meaning in
    let xs = c.args.list.now in
    let rest = c.loop-power.rest.items in
    let new = c.pop.new.self.items in
    let x = get_or c.args.list.now (c.loop-power.power - 1) c.unwrap-top.result in
    let b : i < length xs = omega (arith, c.loop-power.invariant.within, c.loop-power-test.true) in
    let is : x ≡ get_or xs i x = chosen M xs i c.unwrap-top.result x b in
    let front : take (i + 1) (map M rest) ≡ take (i + 1) (map M xs) =
    subst (λ k. take k (map M rest) ≡ take k (map M xs)) n c.loop-power.invariant.front in
    let run = subst (λ k. Divided a (map M c.args.low.now) (M c.args.lead.now) (map M (drop k c.args.list.now))
    (map M (reverse c.loop-power.quotient.items)) (drop k (map M c.loop-power.rest.items))) n c.loop-power.invariant.run in
    let s = last_off M rest new c.unwrap-top.result c.pop.result c.pop.ensures.items c.unwrap-top.ensures in
    let r : i ≤ length new = omega (arith, s, c.loop-power.invariant.places, c.loop-power-test.true) in
    let t = tops M xs rest new i c.unwrap-top.result c.pop.result b (omega (arith, c.loop-power.invariant.places, c.loop-power-test.true)) r
    c.pop.ensures.items c.unwrap-top.ensures front in
    fault_divides a M _ _ _ _ _ _ c.from_residual-in_err-part.result c.in_err-part.field-0.0 c.from_residual-in_err-part.ensures.1
    (part_not a M g.D.Domain.division_in_bounds xs i x _ _ (drop i (map M new)) (map M c.args.low.now) (M c.args.lead.now)
    (M c.unwrap-top.result) c.in_err-part.field-0.0 b is run t c.in_err-part.ensures.divides)

pub returns-in-None : goal.returns-in-None
returns-in-None g c =
    let i = c.loop-power.power - 1 in
    let n : c.loop-power.power ≡ c.loop-power.power - 1 + 1 = omega (arith, c.loop-power-test.true) in
    let a = g.D.Ring.algebra in
    let M = g.D.Ring.meaning in
    let xs = c.args.list.now in
    let rest = c.loop-power.rest.items in
    let new = c.pop.new.self.items in
    let x = get_or c.args.list.now (c.loop-power.power - 1) c.unwrap-top.result in
    let b : i < length xs = omega (arith, c.loop-power.invariant.within, c.loop-power-test.true) in
    let is : x ≡ get_or xs i x = chosen M xs i c.unwrap-top.result x b in
    let front : take (i + 1) (map M rest) ≡ take (i + 1) (map M xs) =
    subst (λ k. take k (map M rest) ≡ take k (map M xs)) n c.loop-power.invariant.front in
    let run = subst (λ k. Divided a (map M c.args.low.now) (M c.args.lead.now) (map M (drop k c.args.list.now))
    (map M (reverse c.loop-power.quotient.items)) (drop k (map M c.loop-power.rest.items))) n c.loop-power.invariant.run in
    let s = last_off M rest new c.unwrap-top.result c.pop.result c.pop.ensures.items c.unwrap-top.ensures in
    let r : i ≤ length new = omega (arith, s, c.loop-power.invariant.places, c.loop-power-test.true) in
    let t = tops M xs rest new i c.unwrap-top.result c.pop.result b (omega (arith, c.loop-power.invariant.places, c.loop-power-test.true)) r
    c.pop.ensures.items c.unwrap-top.ensures front in
    let h = subst (λ o. Divides M a (g.D.Domain.division_in_bounds (M c.unwrap-top.result) (M c.args.lead.now)) (M c.unwrap-top.result)
    (M c.args.lead.now) (Ok o)) c.in-None.is c.in_ok-part.ensures.divides in
    stuck_at a M xs i x _ _ (drop i (map M new)) (map M c.args.low.now) (M c.args.lead.now) (M c.unwrap-top.result) b is run t h

pub returns-in_err-rest-2 : goal.returns-in_err-rest-2
returns-in_err-rest-2 g c =
    let i = c.loop-power.power - 1 in
    let n : c.loop-power.power ≡ c.loop-power.power - 1 + 1 = omega (arith, c.loop-power-test.true) in
    let a = g.D.Ring.algebra in
    let M = g.D.Ring.meaning in
    let xs = c.args.list.now in
    let rest = c.loop-power.rest.items in
    let new = c.pop.new.self.items in
    let x = get_or c.args.list.now (c.loop-power.power - 1) c.unwrap-top.result in
    let b : i < length xs = omega (arith, c.loop-power.invariant.within, c.loop-power-test.true) in
    let is : x ≡ get_or xs i x = chosen M xs i c.unwrap-top.result x b in
    let front : take (i + 1) (map M rest) ≡ take (i + 1) (map M xs) =
    subst (λ k. take k (map M rest) ≡ take k (map M xs)) n c.loop-power.invariant.front in
    let run = subst (λ k. Divided a (map M c.args.low.now) (M c.args.lead.now) (map M (drop k c.args.list.now))
    (map M (reverse c.loop-power.quotient.items)) (drop k (map M c.loop-power.rest.items))) n c.loop-power.invariant.run in
    let s = last_off M rest new c.unwrap-top.result c.pop.result c.pop.ensures.items c.unwrap-top.ensures in
    let r : i ≤ length new = omega (arith, s, c.loop-power.invariant.places, c.loop-power-test.true) in
    let t = tops M xs rest new i c.unwrap-top.result c.pop.result b (omega (arith, c.loop-power.invariant.places, c.loop-power-test.true)) r
    c.pop.ensures.items c.unwrap-top.ensures front in
    let h = subst (λ o. Divides M a (g.D.Domain.division_in_bounds (M c.unwrap-top.result) (M c.args.lead.now)) (M c.unwrap-top.result)
    (M c.args.lead.now) (Ok o)) c.in-Some.is c.in_ok-part.ensures.divides in
    fault_divides a M _ _ _ _ _ _ c.from_residual-in_err-rest-2.result c.in_err-rest-2.field-0.0 c.from_residual-in_err-rest-2.ensures.1
    (rest_not a M g.D.Domain.division_in_bounds xs i x _ _ (drop i (map M new)) (map M c.args.low.now) (M c.args.lead.now)
    (M c.unwrap-top.result) (M c.in-Some.part, g.met.D.Ring.passes c.in-Some.part) c.in_err-rest-2.field-0.0 b is run t h
    c.in_err-rest-2.ensures)

pub loop-power-preserved : goal.loop-power-preserved
loop-power-preserved g c =
    let i = c.loop-power.power - 1 in
    let n : c.loop-power.power ≡ c.loop-power.power - 1 + 1 = omega (arith, c.loop-power-test.true) in
    let a = g.D.Ring.algebra in
    let M = g.D.Ring.meaning in
    let xs = c.args.list.now in
    let rest = c.loop-power.rest.items in
    let new = c.pop.new.self.items in
    let x = get_or c.args.list.now (c.loop-power.power - 1) c.unwrap-top.result in
    let b : i < length xs = omega (arith, c.loop-power.invariant.within, c.loop-power-test.true) in
    let is : x ≡ get_or xs i x = chosen M xs i c.unwrap-top.result x b in
    let front : take (i + 1) (map M rest) ≡ take (i + 1) (map M xs) =
    subst (λ k. take k (map M rest) ≡ take k (map M xs)) n c.loop-power.invariant.front in
    let run = subst (λ k. Divided a (map M c.args.low.now) (M c.args.lead.now) (map M (drop k c.args.list.now))
    (map M (reverse c.loop-power.quotient.items)) (drop k (map M c.loop-power.rest.items))) n c.loop-power.invariant.run in
    let s = last_off M rest new c.unwrap-top.result c.pop.result c.pop.ensures.items c.unwrap-top.ensures in
    let r : i ≤ length new = omega (arith, s, c.loop-power.invariant.places, c.loop-power-test.true) in
    let t = tops M xs rest new i c.unwrap-top.result c.pop.result b (omega (arith, c.loop-power.invariant.places, c.loop-power-test.true)) r
    c.pop.ensures.items c.unwrap-top.ensures front in
    let h = subst (λ o. Divides M a (g.D.Domain.division_in_bounds (M c.unwrap-top.result) (M c.args.lead.now)) (M c.unwrap-top.result)
    (M c.args.lead.now) (Ok o)) c.in-Some.is c.in_ok-part.ensures.divides in
    let less = list_less a.ops (drop (c.loop-power.power - 1) (map M c.pop.new.self.items)) (M c.in-Some.part) (map M c.args.low.now) in
    let k = kept M xs rest new (map M c.in_ok-rest-2.rest.items) less i c.unwrap-top.result c.pop.result r c.pop.ensures.items
    c.unwrap-top.ensures front c.in_ok-rest-2.ensures in
    let q : map M (reverse c.push.new.self.items) ≡ M c.in-Some.part ∷ map M (reverse c.loop-power.quotient.items) =
    ap (λ v. map M (reverse v)) c.in_ok-push.ensures.items
    ∙ ap (map M) (reverse-append c.loop-power.quotient.items (c.in-Some.part ∷ [])) in
    let l : length (drop i (map M new)) ≡ length (map M c.args.low.now) =
    omega (arith, s, c.loop-power.invariant.places, length-drop i (map M new), length-map new M, length-map c.args.low.now M, c.loop-power-test.true) in
    record {
      within = omega (arith, c.loop-power.invariant.within);
      places = omega (
        arith,
        ap length c.in_ok-rest-2.ensures,
        length-append (take i (map M new)) less,
        length-take-le i (map M new) (omega (arith, r, length-map new M)),
        length-less a.ops (drop i (map M new)) (M c.in-Some.part) (map M c.args.low.now) l,
        l,
        length-map c.in_ok-rest-2.rest.items M,
        length-map c.args.low.now M,
      );
      front = k.0;
      run =
          subst (λ v. Divided a (map M c.args.low.now) (M c.args.lead.now) (map M (drop (c.loop-power.power - 1) c.args.list.now))
          (map M (reverse c.push.new.self.items)) v) (sym k.1)
          (subst (λ v. Divided a (map M c.args.low.now) (M c.args.lead.now) (map M (drop (c.loop-power.power - 1) c.args.list.now)) v less) (sym q)
          (run_on a M xs i x _ _ (drop i (map M new)) (map M c.args.low.now) (M c.args.lead.now) (M c.unwrap-top.result)
          (M c.in-Some.part, g.met.D.Ring.passes c.in-Some.part) b is run t h));
    }
