-- The formats of lists of items.
use Rattle.std.specs.Prelude.{◌≢◌, ℕ, codes, List, [], map, Option, Some, None}
use Rattle.std.specs.Option.{MatchOption}
use Rattle.std.specs.List.{AllByRecursion}
use Rattle.exact_texts.specs.Texts.{Only, other_than, joined, items_text}
use Rattle.exact_texts.specs.Formats.{Format}

-- items with commas between them, `-` where there are none
abbrev pub items_of : {V : Type 0} → Format V → Format (List V)
items_of F = record { Has = AllByRecursion F.Has; text = λ vs. items_text (map F.text vs) }

-- one or more items, with semicolons between them
abbrev pub parts_of : {V : Type 0} → Format V → Format (List V)
parts_of F = record { Has = λ vs. (vs ≢ []) × AllByRecursion F.Has vs; text = λ vs. joined (codes "; ") (map F.text vs) }

-- the text of an item, `-` where there is none
abbrev pub optional_text : {V : Type 0} → (V → List ℕ) → Option V → List ℕ
optional_text text None = codes "-"
optional_text text (Some v) = text v

-- an item or none
abbrev pub optional : {V : Type 0} → Format V → Format (Option V)
optional F = record { Has = λ v. MatchOption v (Unit {0}) F.Has; text = optional_text F.text }

-- items that can stand in a list: none has a comma or a semicolon, and none is spelled as the empty list is
pub record AreItems {V : Type 0} (F : Format V) : Type 0 where
  pub commas : (v : V) → F.Has v → Only (other_than 44) (F.text v)
  pub semicolons : (v : V) → F.Has v → Only (other_than 59) (F.text v)
  pub not_none : (v : V) → F.Has v → F.text v ≢ codes "-"
