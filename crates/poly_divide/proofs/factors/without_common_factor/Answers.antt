use Rattle.std.proofs.Common.{◌≡◌}
use Rattle.poly_divide.proofs.CommonFactors.{only_quotient, some_quotient}
use Rattle.poly_divide.proofs.factors.without_common_factor.Goals as goal

-- the sum of the other factors is a quotient, so the division has one
pub unwrap-requires : goal.unwrap-requires
unwrap-requires g c =
    let sum : g.D.Ring.meaning c.in_ok-sum.sum ≡ g.D.Ring.algebra.ops.sum
    (g.D.Ring.algebra.ops.product (g.D.Ring.meaning c.args.common.now) (g.D.Ring.meaning c.args.left.now))
    (g.D.Ring.algebra.ops.product (g.D.Ring.meaning c.args.common.now) (g.D.Ring.meaning c.args.right.now)) =
    cc (c.in_ok-sum.ensures.gives.1, c.in_ok-first.ensures.gives.1, c.in_ok-second.ensures.gives.1) in
    some_quotient g.D.Ring.algebra g.met.D.Ring.laws g.met.D.Domain.domain_laws g.D.Ring.meaning
    (g.D.Domain.division_in_bounds (g.D.Ring.meaning c.in_ok-sum.sum) (g.D.Ring.meaning c.args.common.now))
    (g.D.Ring.meaning c.args.common.now, g.met.D.Ring.passes c.args.common.now)
    (g.D.Ring.meaning c.args.left.now, g.met.D.Ring.passes c.args.left.now)
    (g.D.Ring.meaning c.args.right.now, g.met.D.Ring.passes c.args.right.now) (g.D.Ring.meaning c.in_ok-sum.sum) c.in_ok-quotient.quotient
    sum c.in_ok-quotient.ensures.divides

-- and no other quotient is there
pub returns : goal.returns
returns g c =
    let sum : g.D.Ring.meaning c.in_ok-sum.sum ≡ g.D.Ring.algebra.ops.sum
    (g.D.Ring.algebra.ops.product (g.D.Ring.meaning c.args.common.now) (g.D.Ring.meaning c.args.left.now))
    (g.D.Ring.algebra.ops.product (g.D.Ring.meaning c.args.common.now) (g.D.Ring.meaning c.args.right.now)) =
    cc (c.in_ok-sum.ensures.gives.1, c.in_ok-first.ensures.gives.1, c.in_ok-second.ensures.gives.1) in
    record {
      gives =
          only_quotient g.D.Ring.algebra g.met.D.Ring.laws g.met.D.Domain.domain_laws g.D.Ring.meaning
          (g.D.Domain.division_in_bounds (g.D.Ring.meaning c.in_ok-sum.sum) (g.D.Ring.meaning c.args.common.now))
          (g.D.Ring.meaning c.args.common.now, g.met.D.Ring.passes c.args.common.now)
          (g.D.Ring.meaning c.args.left.now, g.met.D.Ring.passes c.args.left.now)
          (g.D.Ring.meaning c.args.right.now, g.met.D.Ring.passes c.args.right.now) (g.D.Ring.meaning c.in_ok-sum.sum)
          c.unwrap.result (g.met.D.Ring.passes c.unwrap.result) c.in_ok-quotient.quotient c.unwrap.ensures c.requires.not_zero sum
          c.in_ok-quotient.ensures.divides;
    }
