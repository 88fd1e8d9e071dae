use Rattle.std.proofs.Common.{◌≡◌, ◌++◌, subst}
use Rattle.std.specs.Option.{MatchOption}
use Rattle.exact_texts.proofs.OneLine.{stops_without_line, stops_at_line}
use Rattle.spelled.proofs.lines.read_line.Goals as goal

-- no line
pub returns-in_default : goal.returns-in_default
returns-in_default g c =
    stops_without_line (g.S.Spelling.format c.args.spelling.now) c.args.word.now c.requires.in_one_line
    (g.met.S.Spelling.within_line c.args.spelling.now) c.args.lines.now.rest.now c.in_default.ensures.cut

-- another line
pub returns-in_default-2 : goal.returns-in_default-2
returns-in_default-2 g c =
    let format = g.S.Spelling.format c.args.spelling.now in
    let value_of = g.S.Spelling.value_of in
    let word = c.args.word.now in
    let line = c.in-Some.line.now in
    stops_at_line format word c.requires.in_one_line (g.met.S.Spelling.within_line c.args.spelling.now) c.args.lines.now.rest.now line
    c.in-Some.rest.now
    c.in-Some.ensures.cut.0 c.in-Some.ensures.cut.1
    (subst (λ found. MatchOption found ((v : g.S.Spelling.Value) → format.Has v → line ≡ word ++ format.text v → ⊥)
    (λ x. format.Has (value_of x) × (line ≡ word ++ format.text (value_of x)))) c.in_default-2.is c.in_ok-item.ensures.exact)
