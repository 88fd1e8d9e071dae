use Rattle.gosper_form.proofs.DegreeSteps.{counted_answer, uncounted_cause}
use Rattle.gosper_form.proofs.degrees.test_counted.Goals as goal

-- what is counted is tested
pub returns-in-Ok : goal.returns-in-Ok
returns-in-Ok c = record {
  answers = λ degree makes. counted_answer degree c.in-Ok.degree c.args.counted c.test_degree.result c.in-Ok.is makes c.test_degree.ensures.answers;
}

pub returns-in-Err : goal.returns-in-Err
returns-in-Err c = record {
  answers = λ degree makes. uncounted_cause degree c.in-Err.fault c.args.counted c.step_fault.result c.in-Err.is makes c.step_fault.ensures.fault;
}
