use Rattle.std.proofs.Common.{arith}
use Rattle.gosper_form.specs.RaisedForms.{factors_of}
use Rattle.gosper_form.proofs.DegreeSteps.{degree_more, degree_fits, degree_end, degree_within}
use Rattle.gosper_form.proofs.degrees.degree_of.Goals as goal

-- the degree is no more than all powers together
pub overflow_add-degree : goal.overflow_add-degree
overflow_add-degree c =
    let within = degree_within (factors_of c.args.forms.now) in
    let fits = degree_fits c.args.forms.now c.loop-raised.raised-index c.raised-item.result c.loop-raised-test.true c.raised-item.is c.loop-raised.degree _
    c.power_in_k-degree.ensures.power c.loop-raised.invariant in
    omega (arith, within, fits, c.requires.few)

-- one form more
pub loop-raised-preserved : goal.loop-raised-preserved
loop-raised-preserved c =
    degree_more c.args.forms.now c.loop-raised.raised-index c.raised-item.result c.loop-raised-test.true c.raised-item.is c.loop-raised.degree _
    c.power_in_k-degree.ensures.power c.loop-raised.invariant

pub returns : goal.returns
returns c =
    let all = degree_end c.args.forms.now c.loop-raised.raised-index c.loop-raised.degree (omega (arith, c.loop-raised-test.false)) c.loop-raised.invariant in
    let within = degree_within (factors_of c.args.forms.now) in
    record { degree = all; small = omega (arith, all, within, c.requires.few) }
