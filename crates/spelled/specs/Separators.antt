-- What stands between two items.
use Rattle.std.specs.Prelude.{ℕ, codes, List, ◌∷◌}
use Rattle.std.specs.Str.{byte}
use Rattle.spelled.specs.declared.separators.Separator.{Separator}
use Rattle.spelled.specs.declared.separators.Separator.TheVariants.{Semicolon, By, To}

-- its first byte
abbrev pub stop_of : Separator → ℕ
stop_of Semicolon = byte ";"
stop_of By = byte " "
stop_of To = byte " "

-- the bytes behind it
abbrev pub tail_of : Separator → List ℕ
tail_of Semicolon = codes " "
tail_of By = codes "by "
tail_of To = codes "to "

-- the whole separator
abbrev pub separator_text : Separator → List ℕ
separator_text s = stop_of s ∷ tail_of s
