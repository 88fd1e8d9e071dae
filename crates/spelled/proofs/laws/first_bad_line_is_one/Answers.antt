use Rattle.std.proofs.Common.{refl}
use Rattle.exact_texts.proofs.OneFirstBad.{one_first_bad_line, not_neither}
use Rattle.exact_texts.proofs.FirstBad.{bad_where_stopped}
use Rattle.spelled.proofs.laws.first_bad_line_is_one.Goals as goal

-- of two bad lines the lines in front of one don't go beyond those in front of the other
pub returns-clause-one : goal.returns-clause-one
returns-clause-one g c = one_first_bad_line (g.S.LineSpelling.format c.args.spelling.now)

-- each further line would begin a value's text again, up to the end
pub returns-clause-not_neither : goal.returns-clause-not_neither
returns-clause-not_neither g c = λ text absent none. not_neither (g.S.LineSpelling.format c.args.spelling.now) text absent none
    (g.met.S.LineSpelling.line_texts c.args.spelling.now).some

-- reading stops in front of it
pub returns-clause-stopped : goal.returns-clause-stopped
returns-clause-stopped g c = λ text rest stops.
    bad_where_stopped (g.S.LineSpelling.format c.args.spelling.now) (g.met.S.LineSpelling.line_texts c.args.spelling.now) text rest _ stops refl
