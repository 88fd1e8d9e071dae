use Rattle.std.specs.Prelude.{suc, ◌^◌, codes}
use Rattle.std.proofs.Common.{refl, arith, lit≤}
use Rattle.exact_texts.specs.Formats.{line_of}
use Rattle.exact_texts.specs.Numbers.{numbers_below, whole_numbers}
use Rattle.exact_texts.specs.Nothing.{nothing}
use Rattle.exact_texts.specs.Sums.{sums}
use Rattle.exact_texts.proofs.Numerals.{numbers_within_line, wholes_within_line}
use Rattle.exact_texts.proofs.Nothing.{nothing_within_line}
use Rattle.exact_texts.proofs.SumItems.{sums_within_line}
use Rattle.exact_texts.proofs.OneLine.{one_line_texts}
use Rattle.exact_texts.proofs.Formats.{line_texts_in_turn}
use Rattle.exact_texts.proofs.lines_tell_values.Goals as goal

-- a line of a format tells its value, and so do lines in turn
pub returns : goal.returns
returns c = record {
  one_line = λ word one. one_line_texts whole_numbers word one wholes_within_line;
  two_lines = line_texts_in_turn (line_of (codes "poly ") sums) (λ _. line_of (codes "end") nothing)
      (one_line_texts sums (codes "poly ") refl sums_within_line) (λ _ _. one_line_texts nothing (codes "end") refl nothing_within_line);
  hanging = line_texts_in_turn (line_of (codes "first ") (numbers_below (2 ^ 64))) (λ first. line_of (codes "again ") (numbers_below (suc first)))
      (one_line_texts (numbers_below (2 ^ 64)) (codes "first ") refl (numbers_within_line (2 ^ 64) (lit≤ tt) (lit≤ tt)))
      (λ first h. one_line_texts (numbers_below (suc first)) (codes "again ") refl
      (numbers_within_line (suc first) (omega arith) (omega (arith, h))));
}
