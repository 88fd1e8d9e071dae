-- The words that lines begin with.
use Rattle.std.specs.Prelude.{ℕ, codes, List, refl}
use Rattle.exact_texts.specs.Texts.{InOneLine}
use Rattle.document_lines.specs.declared.words.LineWord.{LineWord}
use Rattle.document_lines.specs.declared.words.LineWord.TheVariants.{Version, Command, Term, Recurrence, End, Matches, Q, R, Witness}
use Rattle.document_lines.specs.declared.words.LineWord.TheVariants.{Multipliers, Carrier, Y, Poles, RatioTop, RatioBottom, Range}

-- the bytes of a word, and a space where something follows
abbrev pub word_text : LineWord → List ℕ
word_text Version = codes "ekhad "
word_text Command = codes "command "
word_text Term = codes "term "
word_text Recurrence = codes "recurrence "
word_text End = codes "end"
word_text Matches = codes "match "
word_text Q = codes "q "
word_text R = codes "r "
word_text Witness = codes "witness "
word_text Multipliers = codes "a "
word_text Carrier = codes "K "
word_text Y = codes "Y "
word_text Poles = codes "D "
word_text RatioTop = codes "Rtop "
word_text RatioBottom = codes "Rbot "
word_text Range = codes "range "

-- no word has a newline
pub word_in_one_line : (w : LineWord) → InOneLine (word_text w)
word_in_one_line Version = refl
word_in_one_line Command = refl
word_in_one_line Term = refl
word_in_one_line Recurrence = refl
word_in_one_line End = refl
word_in_one_line Matches = refl
word_in_one_line Q = refl
word_in_one_line R = refl
word_in_one_line Witness = refl
word_in_one_line Multipliers = refl
word_in_one_line Carrier = refl
word_in_one_line Y = refl
word_in_one_line Poles = refl
word_in_one_line RatioTop = refl
word_in_one_line RatioBottom = refl
word_in_one_line Range = refl
