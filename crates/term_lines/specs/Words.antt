-- The words in front of the fields of a term.
use Rattle.std.specs.Prelude.{ℕ, codes, List, refl}
use Rattle.exact_texts.specs.Texts.{InOneLine}
use Rattle.term_lines.specs.declared.words.FieldWord.{FieldWord}
use Rattle.term_lines.specs.declared.words.FieldWord.TheVariants.{Poly, Scale, NBase, KBase, Up, Down, Over, Guard}

-- the bytes of a word, and a space
abbrev pub word_text : FieldWord → List ℕ
word_text Poly = codes "poly "
word_text Scale = codes "scale "
word_text NBase = codes "nbase "
word_text KBase = codes "kbase "
word_text Up = codes "up "
word_text Down = codes "down "
word_text Over = codes "over "
word_text Guard = codes "guard "

-- no word has a newline
pub word_in_one_line : (w : FieldWord) → InOneLine (word_text w)
word_in_one_line Poly = refl
word_in_one_line Scale = refl
word_in_one_line NBase = refl
word_in_one_line KBase = refl
word_in_one_line Up = refl
word_in_one_line Down = refl
word_in_one_line Over = refl
word_in_one_line Guard = refl
