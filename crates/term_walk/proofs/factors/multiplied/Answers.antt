use Rattle.std.proofs.Common.{arith}
use Rattle.lin_form.specs.Forms.{form_of}
use Rattle.lin_form.specs.ListOf.{list_of}
use Rattle.term_classes.proofs.GatheredLists.{power_in_total}
use Rattle.term_walk.proofs.factors.multiplied.Goals as goal

-- no power is above the sum of all
pub multiply-requires-clause-fits : goal.multiply-requires-clause-fits
multiply-requires-clause-fits c =
    omega (arith, c.requires.few, c.requires.small, power_in_total (form_of c.args.form) (list_of c.args.list).factors)
