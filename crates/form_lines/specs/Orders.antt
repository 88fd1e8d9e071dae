-- The order of forms, from one to the next.
use Rattle.std.specs.Prelude.{List, [], ◌∷◌, Option, Some, None}
use Rattle.hypergeometric.specs.LinearForm.{LinearForm, Factor}
use Rattle.hypergeometric.specs.FormOrder.{IsBefore}

-- the form comes behind the previous one, where there is one
abbrev pub Follows : Option LinearForm → LinearForm → Type 0
Follows None f = Unit {0}
Follows (Some g) f = IsBefore g f

-- the first form comes behind the previous one, and each other form behind the one before it
abbrev pub FollowInTurn : Option LinearForm → List Factor → Type 0
FollowInTurn previous [] = Unit {0}
FollowInTurn previous (x ∷ xs) = Follows previous x.form × FollowInTurn (Some x.form) xs
