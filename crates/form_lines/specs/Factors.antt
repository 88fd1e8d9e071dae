-- The formats of lists of forms with their powers.
use Rattle.std.specs.Prelude.{◌≡◌, ℕ, ℤ, codes, pos, List, map}
use Rattle.hypergeometric.specs.LinearForm.{LinearForm, Factor, FactorList}
use Rattle.hypergeometric.specs.FormOrder.{AreFactors}
use Rattle.exact_texts.specs.Formats.{Format}
use Rattle.exact_texts.specs.Beside.{beside}
use Rattle.exact_texts.specs.Lists.{items_of}
use Rattle.exact_texts.specs.Numbers.{whole_numbers}
use Rattle.exact_texts.specs.Powered.{powered}
use Rattle.document_text.specs.WellFormed.{ArePrimitiveFactors, IsFactorList}
use Rattle.form_lines.specs.Forms.{forms}

-- the form of a factor and its power
abbrev pub parts_of_factor : Factor → LinearForm × ℕ
parts_of_factor x = (x.form, x.power)

-- forms with powers, `-` where there are none
abbrev pub factor_items : Format (List (LinearForm × ℕ))
factor_items = items_of (powered forms)

-- lists of scale 1, by their factors: forms within bounds with powers from 1 to 2^32 - 1, in any order, none of them twice
abbrev pub factors : Format FactorList
factors = record { Has = λ l. (l.scale ≡ pos 1) × AreFactors l.factors; text = λ l. factor_items.text (map parts_of_factor l.factors) }

-- such lists of primitive forms in their order
abbrev pub primitive_factors : Format FactorList
primitive_factors = record { Has = λ l. (l.scale ≡ pos 1) × ArePrimitiveFactors l.factors; text = λ l. factors.text l }

-- a scale, a semicolon, and primitive forms in their order
abbrev pub scaled_parts : Format (ℤ × FactorList)
scaled_parts = beside whole_numbers (codes "; ") primitive_factors

-- the scale of a list, and the list of scale 1 with the same factors
abbrev pub parts_of_list : FactorList → ℤ × FactorList
parts_of_list l = (l.scale, record { scale = pos 1; factors = l.factors })

-- lists of primitive forms in their order, with a scale other than 0 and below 2^127 in magnitude
abbrev pub factor_lists : Format FactorList
factor_lists = record { Has = IsFactorList; text = λ l. scaled_parts.text (parts_of_list l) }
