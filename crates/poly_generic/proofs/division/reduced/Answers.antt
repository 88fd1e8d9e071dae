use Rattle.std.proofs.Common.{◌≡◌, ◌<◌, ◌≤◌, ◌+◌, ◌++◌, map, length, ◌∙◌, arith, get_or, sym, ap, refl, take, drop, set}
use Rattle.std.proofs.lemmas.List.{length-map, length-set, length-drop, take_all, take-map, append-nil}
use Rattle.poly_laws.specs.LongDivision.{list_less}
use Rattle.poly_generic.proofs.AnswerLemmas.{fault_list}
use Rattle.poly_generic.proofs.DivideAnswers.{length-less, product_not, difference_not, left_at, less_more}
use Rattle.poly_generic.proofs.Raising.{read_before, rest_kept}
use Rattle.poly_generic.proofs.division.reduced.Goals as goal

-- the front alone
pub loop-power-init : goal.loop-power-init
loop-power-init g c =
    let M = g.R.Ring.meaning in
    let n : c.args.from + 0 ≡ c.args.from = omega arith in
    record {
      same_length = c.requires.same_length;
      rest = refl;
      made =
          ap (λ k. map M (take k c.args.list.items)) n
          ∙ sym (take-map M c.args.from c.args.list.items)
          ∙ sym (append-nil (take c.args.from (map M c.args.list.items)));
    }

pub returns-in_err-part : goal.returns-in_err-part
returns-in_err-part g c =
    let M = g.R.Ring.meaning in
    fault_list g.R.Ring.algebra M _ _ c.from_residual.result c.in_err-part.field-0.0 c.from_residual.ensures.1
    (product_not g.R.Ring.algebra M (drop c.args.from (map M c.args.list.items)) (M c.args.factor.now) c.args.by.now c.loop-power.power
    c.index-by-power.result c.in_err-part.field-0.0 c.loop-power-test.true c.index-by-power.is c.in_err-part.ensures.gives)

pub returns-in_err-list : goal.returns-in_err-list
returns-in_err-list g c =
    let M = g.R.Ring.meaning in
    let xs = c.args.list.items in
    let j = c.args.from + c.loop-power.power in
    let b : j < length xs = omega (arith, c.requires.same_length, c.loop-power-test.true) in
    let x : c.index.result.now ≡ get_or xs j c.index.result.now =
    read_before g.R.Ring.algebra g.met.R.Ring.laws M g.met.R.Ring.passes c.loop-power.list.items xs j c.index.result.now
    c.loop-power.invariant.rest (omega (arith, c.loop-power-test.true, c.loop-power.invariant.same_length)) b c.index.ensures in
    fault_list g.R.Ring.algebra M _ _ c.from_residual-in_err-list.result c.in_err-list.field-0.0 c.from_residual-in_err-list.ensures.1
    (difference_not g.R.Ring.algebra M (drop c.args.from (map M xs)) (M c.args.factor.now) c.args.by.now c.loop-power.power c.index.result.now
    c.index-by-power.result (M c.in_ok-part.part) c.in_err-list.field-0.0
    (left_at g.R.Ring.algebra M xs c.args.from c.loop-power.power c.index.result.now b x) c.loop-power-test.true c.index-by-power.is
    c.in_ok-part.ensures.gives.1 c.in_err-list.ensures.gives)

pub loop-power-preserved : goal.loop-power-preserved
loop-power-preserved g c =
    let M = g.R.Ring.meaning in
    let xs = c.args.list.items in
    let i = c.loop-power.power in
    let j = c.args.from + c.loop-power.power in
    let rs = drop c.args.from (map M c.args.list.items) in
    let n : c.args.from + c.loop-power.power + 1 ≡ c.args.from + (c.loop-power.power + 1) = omega arith in
    let b : j < length xs = omega (arith, c.requires.same_length, c.loop-power-test.true) in
    let d : j < length c.loop-power.list.items = omega (arith, c.loop-power-test.true, c.loop-power.invariant.same_length) in
    let x : c.index.result.now ≡ get_or xs j c.index.result.now =
    read_before g.R.Ring.algebra g.met.R.Ring.laws M g.met.R.Ring.passes c.loop-power.list.items xs j c.index.result.now
    c.loop-power.invariant.rest d b c.index.ensures in
    let l : length rs ≡ length c.args.by.now =
    omega (arith, c.requires.same_length, length-drop c.args.from (map M c.args.list.items), length-map c.args.list.items M) in
    record {
      same_length = length-set c.loop-power.list.items j c.in_ok-list.field-0 ∙ c.loop-power.invariant.same_length;
      rest =
          ap (λ k. drop k (set c.loop-power.list.items j c.in_ok-list.field-0)) (sym n)
          ∙ rest_kept g.R.Ring.algebra g.met.R.Ring.laws M g.met.R.Ring.passes c.loop-power.list.items xs j c.in_ok-list.field-0
          c.loop-power.invariant.rest d b
          ∙ ap (λ k. drop k xs) n;
      made =
          ap (λ k. map M (take k (set c.loop-power.list.items j c.in_ok-list.field-0))) (sym n)
          ∙ less_more g.R.Ring.algebra M (take c.args.from (map M c.args.list.items)) rs (M c.args.factor.now) c.args.by.now
          c.loop-power.list.items (set c.loop-power.list.items j c.in_ok-list.field-0) i j c.index.result.now c.index-by-power.result c.in_ok-list.field-0 (M c.in_ok-part.part) l
          c.loop-power-test.true d (left_at g.R.Ring.algebra M xs c.args.from i c.index.result.now b x) c.index-by-power.is
          c.in_ok-part.ensures.gives.1 c.in_ok-list.ensures.gives.1 refl c.loop-power.invariant.made;
    }

pub returns : goal.returns
returns g c =
    let o = g.R.Ring.algebra.ops in
    let M = g.R.Ring.meaning in
    let rs = drop c.args.from (map M c.args.list.items) in
    let zs = list_less o (drop c.args.from (map M c.args.list.items)) (M c.args.factor.now) (map M c.args.by.now) in
    let front = take c.args.from (map M c.args.list.items) in
    let e : length rs ≡ length (map M c.args.by.now) =
    omega (
      arith,
      c.requires.same_length,
      length-drop c.args.from (map M c.args.list.items),
      length-map c.args.list.items M,
      length-map c.args.by.now M,
    ) in
    let n : length zs ≤ c.loop-power.power =
    omega (
      arith,
      c.loop-power-test.false,
      c.requires.same_length,
      length-drop c.args.from (map M c.args.list.items),
      length-map c.args.list.items M,
      length-less o rs (M c.args.factor.now) (map M c.args.by.now) e,
    ) in
    ap (map M) (sym (take_all (c.args.from + c.loop-power.power) c.loop-power.list.items (omega (
      arith,
      c.loop-power-test.false,
      c.loop-power.invariant.same_length,
    ))))
    ∙ c.loop-power.invariant.made ∙ ap (λ t. front ++ t) (take_all c.loop-power.power zs n)
