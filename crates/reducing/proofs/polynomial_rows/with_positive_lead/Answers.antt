use Rattle.reducing.proofs.LeastEntries.{refused}
use Rattle.reducing.proofs.Leads.{lead_of_negative, lead_as_it_is}
use Rattle.reducing.proofs.polynomial_rows.with_positive_lead.Goals as goal

pub returns-then-is_lead_negative-clause-lead : goal.returns-then-is_lead_negative-clause-lead
returns-then-is_lead_negative-clause-lead c =
    lead_of_negative c.args.f c.neg.result c.neg.ensures.gives (c.is_lead_negative.ensures.test.0 c.if-is_lead_negative.true)

pub returns-clause-lead : goal.returns-clause-lead
returns-clause-lead c = lead_as_it_is c.args.f (refused c.is_lead_negative.result c.if-is_lead_negative.false c.is_lead_negative.ensures.test.1)
