use Rattle.exact_texts.specs.Numbers.{whole_numbers}
use Rattle.exact_texts.specs.Powered.{powered}
use Rattle.exact_texts.specs.Sums.{sums}
use Rattle.std.specs.Prelude.{codes}
use Rattle.std.proofs.Common.{refl}
use Rattle.exact_texts.proofs.Numerals.{numbers_within_line, wholes_within_line, wholes_are_items, wholes_spaceless}
use Rattle.exact_texts.proofs.Joined.{items_within_line, parts_within_line}
use Rattle.exact_texts.proofs.Optional.{optional_within_line}
use Rattle.exact_texts.proofs.Besides.{beside_within_line}
use Rattle.exact_texts.proofs.PoweredItems.{powered_within_line, powered_are_items}
use Rattle.exact_texts.proofs.SumItems.{sums_within_line, sums_are_items, sums_spaceless}
use Rattle.exact_texts.proofs.texts_tell_values.Goals as goal

-- each format has its own lemma; a space stands in no number and in no sum
pub returns : goal.returns
returns c = record {
  numbers = numbers_within_line;
  wholes = wholes_within_line;
  lists = items_within_line whole_numbers wholes_within_line wholes_are_items;
  parts = parts_within_line whole_numbers wholes_within_line wholes_are_items;
  optional_number = optional_within_line whole_numbers wholes_within_line wholes_are_items;
  range = beside_within_line whole_numbers 32 (codes "to ") whole_numbers wholes_spaceless refl wholes_within_line wholes_within_line;
  sum = sums_within_line;
  sums_with_powers = items_within_line (powered sums) (powered_within_line sums sums_spaceless sums_within_line)
      (powered_are_items sums sums_spaceless sums_within_line sums_are_items);
}
