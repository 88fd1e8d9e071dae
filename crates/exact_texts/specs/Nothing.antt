-- The format of lines that say nothing behind their word.
use Rattle.std.specs.Prelude.{[]}
use Rattle.exact_texts.specs.Formats.{Format}

-- the one value that says nothing, whose text is empty
abbrev pub nothing : Format (Unit {0})
nothing = record { Has = λ _. Unit {0}; text = λ _. [] }
