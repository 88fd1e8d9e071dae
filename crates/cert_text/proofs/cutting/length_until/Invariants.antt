use Rattle.std.proofs.Common.{take}
use Rattle.exact_texts.specs.Texts.{Only}
use Rattle.cert_text.specs.Reading.{outside}
use Rattle.cert_text.proofs.cutting.length_until.Given as goal

-- no byte so far is a stop
abbrev pub invariant-loop-index : goal.invariant-loop-index
invariant-loop-index l = Only (outside l.stops) (take l.index l.text)
