-- A line that says nothing behind its word.
use Rattle.std.proofs.Common.{refl}
use Rattle.exact_texts.specs.Lines.{AreWithinLine}
use Rattle.exact_texts.specs.Nothing.{nothing}

pub nothing_within_line : AreWithinLine nothing
nothing_within_line = record { some = (tt, tt); within = λ v h. refl; determined = λ v w h k e. refl }
