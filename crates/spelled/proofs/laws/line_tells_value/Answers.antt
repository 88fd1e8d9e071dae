use Rattle.exact_texts.proofs.OneLine.{one_line_texts}
use Rattle.spelled.proofs.laws.line_tells_value.Goals as goal

-- a line ends where its newline stands
pub returns : goal.returns
returns g c = record {
  told = (one_line_texts (g.S.Spelling.format c.args.spelling.now) c.args.word.now c.requires.in_one_line
      (g.met.S.Spelling.within_line c.args.spelling.now)).exact;
}
