-- A map with the list first, so that the list tells the items' type.
use Rattle.std.specs.Prelude.{List, map}

abbrev pub each_of : {A B : Type 0} → List A → (A → B) → List B
each_of xs f = map f xs
