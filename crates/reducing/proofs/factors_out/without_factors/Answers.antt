use Rattle.std.specs.Prelude.{pos, ◌≡◌, ◌≤◌, ◌<◌, ◌^◌, unsigned_abs, length}
use Rattle.std.proofs.Common.{arith, get_or}
use Rattle.std.proofs.lemmas.Option.{slice_get-get_or}
use Rattle.poly_divide.specs.Forms.{linear}
use Rattle.whole_roots.specs.Differences.{polynomials}
use Rattle.whole_roots.specs.LinearFactors.{Entry}
use Rattle.reducing.specs.TakenOut.{AllTakenOut}
use Rattle.reducing.specs.PolynomialRows.{OfRows, forms}
use Rattle.reducing.specs.PolynomialAnswers.{IsMost, FactorsOfRowInBounds}
use Rattle.reducing.proofs.Polynomials.{senses}
use Rattle.reducing.proofs.WithoutFactor.{fault_row}
use Rattle.reducing.proofs.WithoutFactors.{all_at, none_taken, taken_next, most_after, fault_after, all_are_taken}
use Rattle.reducing.proofs.factors_out.without_factors.Goals as goal

pub loop-index-init : goal.loop-index-init
loop-index-init c = record { within = omega arith; taken = none_taken c.args.factors.now.entries c.args.row.items }

pub without_entry-requires-clause-slope : goal.without_entry-requires-clause-slope
without_entry-requires-clause-slope c = λ x e. all_at (λ (y : Entry). 1 ≤ y.0.0) c.args.factors.now.entries c.loop-index.index x c.requires.slopes e

pub without_entry-requires-clause-offset : goal.without_entry-requires-clause-offset
without_entry-requires-clause-offset c = λ x e.
    all_at (λ (y : Entry). unsigned_abs y.0.1 < 2 ^ 127) c.args.factors.now.entries c.loop-index.index x c.requires.offsets e

-- no greater power divides the row, and so none what is left of it
pub without_entry-requires-clause-most : goal.without_entry-requires-clause-most
without_entry-requires-clause-most c = λ x e.
    most_after c.args.factors.now.entries c.loop-index.index x e c.args.row.items c.loop-index.rest.items c.loop-index.invariant.taken
    c.requires.slopes
    (all_at (λ (y : Entry). IsMost (linear (pos y.0.0) y.0.1) y.1 (senses c.args.row.items)) c.args.factors.now.entries c.loop-index.index x
    c.requires.most e)

pub returns-in_err-rest : goal.returns-in_err-rest
returns-in_err-rest c =
    let xs = c.args.factors.now.entries in
    let x : Entry = get_or xs c.loop-index.index ((1, pos 0), 0) in
    let here = slice_get-get_or xs c.loop-index.index ((1, pos 0), 0) (omega (arith, c.loop-index-test.true, c.len-index-end.ensures.len)) in
    let row = c.args.row.items in
    record {
      takes_out =
          fault_row (OfRows (AllTakenOut polynomials (forms xs)) (senses row)) (FactorsOfRowInBounds xs (senses row)) c.from_residual.result
          c.in_err-rest.field-0.0 c.from_residual.ensures.1
          (fault_after xs c.loop-index.index x here row c.loop-index.rest.items c.loop-index.invariant.taken c.in_err-rest.field-0.0
          (c.in_err-rest.ensures.takes_out x here));
    }

pub loop-index-preserved : goal.loop-index-preserved
loop-index-preserved c =
    let xs = c.args.factors.now.entries in
    let x : Entry = get_or xs c.loop-index.index ((1, pos 0), 0) in
    let inside : c.loop-index.index < length xs = omega (arith, c.loop-index-test.true, c.len-index-end.ensures.len) in
    let here = slice_get-get_or xs c.loop-index.index ((1, pos 0), 0) inside in
    record {
      within = omega (arith, inside);
      taken =
          taken_next xs c.loop-index.index x here c.args.row.items c.loop-index.rest.items c.loop-index.invariant.taken c.in_ok-rest.rest.items
          (c.in_ok-rest.ensures.takes_out x here);
    }

pub returns : goal.returns
returns c =
    let xs = c.args.factors.now.entries in
    let at_end : length xs ≡ c.loop-index.index =
    omega (arith, c.loop-index-test.false, c.len-index-end.ensures.len, c.loop-index.invariant.within) in
    record { takes_out = all_are_taken xs c.loop-index.index c.args.row.items c.loop-index.rest.items at_end c.loop-index.invariant.taken }
