use Rattle.spelled.proofs.TextSteps.{texts_tell}
use Rattle.spelled.proofs.laws.lines_tell_value.Goals as goal

-- nothing stands behind either text
pub returns-clause-told : goal.returns-clause-told
returns-clause-told g c = texts_tell (g.S.LineSpelling.format c.args.spelling.now) (g.met.S.LineSpelling.line_texts c.args.spelling.now)

pub returns-clause-in_front : goal.returns-clause-in_front
returns-clause-in_front g c = (g.met.S.LineSpelling.line_texts c.args.spelling.now).exact

pub returns-clause-whole_lines : goal.returns-clause-whole_lines
returns-clause-whole_lines g c = (g.met.S.LineSpelling.line_texts c.args.spelling.now).whole

pub returns-clause-some : goal.returns-clause-some
returns-clause-some g c = (g.met.S.LineSpelling.line_texts c.args.spelling.now).some
