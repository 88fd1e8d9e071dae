use Rattle.std.proofs.Common.{map, ◌≡◌}
use Rattle.poly_laws.specs.Bounds.{ListSumInBounds}
use Rattle.poly_laws.specs.Lists.{list_sum}
use Rattle.ring_laws.specs.Answer.{OnFault}
use Rattle.poly_generic.proofs.AnswerLemmas.{length-negatives}
use Rattle.poly_generic.proofs.PolyAnswers.{fault_poly, two}
use Rattle.poly_generic.proofs.SumAnswers.{sum_fault, sum_given, difference_is}
use Rattle.poly_generic.proofs.polys.PolyRing.sub.Goals as goal

pub returns-in_err-list : goal.returns-in_err-list
returns-in_err-list g c =
    record {
      gives =
          fault_poly _ _ _ c.from_residual.result c.in_err-list.field-0.0 c.from_residual.ensures.1
          (sum_fault g.R.Ring.algebra g.met.R.Ring.laws g.R.Ring.meaning g.met.R.Ring.passes g.met.R.Ring.fits c.args.self.now.list.items
          c.args.other.now.list.items c.in_err-list.field-0.0 c.args.self.now.ended c.args.other.now.ended
          (two (λ s t. OnFault (¬
          (ListSumInBounds g.R.Ring.algebra (map g.R.Ring.meaning s)
          (map g.R.Ring.meaning t))) c.in_err-list.field-0.0) _ _ _ _ c.deref.ensures.value c.deref-2.ensures.value c.in_err-list.ensures));
    }

pub returns : goal.returns
returns g c =
    let h = two (λ s t. ListSumInBounds g.R.Ring.algebra (map g.R.Ring.meaning s) (map g.R.Ring.meaning t)
    × (map g.R.Ring.meaning c.in_ok-list.list.items ≡ list_sum g.R.Ring.algebra.ops (map g.R.Ring.meaning s)
    (map g.R.Ring.algebra.ops.neg (map g.R.Ring.meaning t))))
    c.deref.result.now c.args.self.now.list.items c.deref-2.result.now c.args.other.now.list.items c.deref.ensures.value c.deref-2.ensures.value
    c.in_ok-list.ensures in
    record {
      gives =
          sum_given g.R.Ring.algebra g.met.R.Ring.laws g.R.Ring.meaning g.met.R.Ring.passes g.met.R.Ring.fits _ c.args.self.now.list.items
          c.args.other.now.list.items (map g.R.Ring.meaning c.in_ok-list.list.items)
          (map g.R.Ring.algebra.ops.neg (map g.R.Ring.meaning c.args.other.now.list.items)) _
          c.from_coefficients.result c.args.self.now.ended c.args.other.now.ended c.args.self.now.short c.args.other.now.short h.0
          (length-negatives g.R.Ring.algebra g.R.Ring.meaning c.args.other.now.list.items) h.1
          (difference_is g.R.Ring.algebra g.met.R.Ring.laws g.R.Ring.meaning g.met.R.Ring.passes g.met.R.Ring.fits c.args.self.now.list.items
          c.args.other.now.list.items) c.from_coefficients.ensures.gives;
    }
