use Rattle.std.proofs.Common.{◌++◌}
use Rattle.exact_texts.proofs.Compared.{begins}
use Rattle.cert_text.proofs.cutting.field.Goals as goal

-- the word isn't there
pub returns-in-None : goal.returns-in-None
returns-in-None c = record {
  cut = λ front back p q e. absurd (begins c.args.word.now (front ++ back) c.args.text.now e c.in-None.ensures.cases);
}
