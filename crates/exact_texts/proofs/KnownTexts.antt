-- Texts of numbers and of lists that are known, so that a wrong rule of spelling does not check.
use Rattle.std.specs.Prelude.{◌≡◌, codes, pos, negsuc, Some, None, [], ◌∷◌}
use Rattle.std.specs.Fmt.{digits}
use Rattle.std.proofs.Common.{refl}
use Rattle.exact_texts.specs.Formats.{line_of, in_turn}
use Rattle.exact_texts.specs.Numbers.{naturals, whole_numbers}
use Rattle.exact_texts.specs.Lists.{items_of, parts_of, optional}
use Rattle.exact_texts.specs.Powered.{powered}
use Rattle.exact_texts.specs.Beside.{beside}
use Rattle.exact_texts.specs.Nothing.{nothing}

known_numbers : (naturals.text 0 ≡ codes "0") × (naturals.text 40960 ≡ codes "40960")
unfolding digits
known_numbers = (refl, refl)

known_wholes : (whole_numbers.text (pos 0) ≡ codes "0") × (whole_numbers.text (pos 17) ≡ codes "17") × (whole_numbers.text (negsuc 11) ≡ codes "-12")
unfolding digits
known_wholes = (refl, refl, refl)

known_lists : ((items_of whole_numbers).text (pos 7 ∷ negsuc 0 ∷ pos 0 ∷ []) ≡ codes "7, -1, 0") × ((items_of whole_numbers).text [] ≡ codes "-")
unfolding digits
known_lists = (refl, refl)

known_parts : ((parts_of whole_numbers).text (pos 7 ∷ negsuc 0 ∷ []) ≡ codes "7; -1") × ((parts_of whole_numbers).text (pos 0 ∷ []) ≡ codes "0")
unfolding digits
known_parts = (refl, refl)

known_optional : ((optional whole_numbers).text None ≡ codes "-") × ((optional whole_numbers).text (Some (negsuc 4)) ≡ codes "-5")
unfolding digits
known_optional = (refl, refl)

known_powers : ((powered naturals).text (3, 1) ≡ codes "3") × ((powered naturals).text (3, 2) ≡ codes "3 x2")
unfolding digits
known_powers = (refl, refl)

known_range : (beside whole_numbers (codes " to ") whole_numbers).text (negsuc 0, pos 5) ≡ codes "-1 to 5"
unfolding digits
known_range = refl

known_lines : (in_turn (line_of (codes "order ") naturals) (λ _. line_of (codes "end") nothing)).text (2, tt) ≡ codes "order 2\nend\n"
unfolding digits
known_lines = refl
