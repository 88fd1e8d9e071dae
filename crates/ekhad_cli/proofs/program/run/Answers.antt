use Rattle.std.proofs.Common.{Err, ap, sym, ◌∙◌, subst}
use Rattle.ekhad_cli.specs.Run.{HasReadAll}
use Rattle.ekhad_cli.proofs.Outcomes.{caused, late, comes_late, limit_said, read_fault_said, grew, grew_by_front, write_fault_caused}
use Rattle.ekhad_cli.proofs.program.run.Goals as goal

-- what is said has its cause
pub returns-in-Err-clause-line : goal.returns-in-Err-clause-line
returns-in-Err-clause-line g c = λ _.
    let said = c.refuse.ensures.said in
    (said.0, said.2, caused _ _ _ _ c.in-Err.ensures.cause said.1, late _ _ _ c.in-Err.ensures.late said.1, said.3)

-- and comes after the whole input was read
pub returns-in-Err-clause-end : goal.returns-in-Err-clause-end
returns-in-Err-clause-end g c = λ read.
    let said = c.refuse.ensures.said in
    late _ _ _ c.in-Err.ensures.late said.1 (comes_late said.0 (subst HasReadAll said.2 read))

-- too many bytes came, or the source failed
pub returns-in-Err-clause-limit_taken : goal.returns-in-Err-clause-limit_taken
returns-in-Err-clause-limit_taken g c = λ is.
    let said = c.refuse.ensures.said in
    c.in-Err.ensures.limit_taken (limit_said _ _ said.1 (sym said.2 ∙ is))

pub returns-in-Err-clause-read_fault : goal.returns-in-Err-clause-read_fault
returns-in-Err-clause-read_fault g c = λ is.
    let said = c.refuse.ensures.said in
    c.in-Err.ensures.read_fault (ap Err (read_fault_said _ _ said.1 (sym said.2 ∙ is)))

-- what was read was answered, and the answer written
pub returns-in-Ok-write_all_counted-clause-written : goal.returns-in-Ok-write_all_counted-clause-written
returns-in-Ok-write_all_counted-clause-written g c = λ _. grew _ _ _ _ _ _ _ c.in-Ok.ensures.output c.deref.ensures.value c.in-Ok-write_all_counted.ensures.all

-- or a front of it
pub returns-clause-front : goal.returns-clause-front
returns-clause-front g c = λ _. grew_by_front _ _ _ _ _ _ _ c.in-Ok.ensures.output c.deref.ensures.value c.in-Err-write_all_counted.ensures.front

pub returns-clause-line : goal.returns-clause-line
returns-clause-line g c = λ _.
    let said = c.refuse-in-Err-write_all_counted.ensures.said in
    (said.0, said.2, caused _ _ _ _ (write_fault_caused _ _ _ _ c.in-Ok.ensures.output) said.1, late _ _ _ (λ _. c.in-Ok.ensures.end) said.1, said.3)
