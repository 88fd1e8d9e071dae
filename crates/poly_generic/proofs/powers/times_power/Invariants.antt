use Rattle.poly_laws.proofs.Squaring.{Reached}
use Rattle.poly_generic.proofs.powers.times_power.Given as goal

-- half of the powers are left
abbrev pub decreases-loop-left : goal.decreases-loop-left
decreases-loop-left g l = l.left

-- the product times the square by the powers that are left is the whole
abbrev pub invariant-loop-left : goal.invariant-loop-left
invariant-loop-left g l =
    Reached g.R.Ring.algebra (g.R.Ring.meaning l.fn.product) (g.R.Ring.meaning l.fn.base) l.fn.power (g.R.Ring.meaning l.product)
    (g.R.Ring.meaning l.square) l.left
