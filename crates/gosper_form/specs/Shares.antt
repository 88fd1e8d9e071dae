-- What one item of a term gives to one of the pieces, by the kind of the item and of the piece.
use Rattle.std.specs.Prelude.{ℕ, ◌≤◌, List}
use Rattle.hypergeometric.specs.LinearForm.{LinearForm, Factor}
use Rattle.hypergeometric.specs.TermFacts.{IsNotConstant}
use Rattle.term_pieces.specs.ItemForms.{above_least, below_greatest, counted_but, rising_up, falling_up, rising_down, falling_down, cleared_over, later_over, kept_over}
use Rattle.gosper_form.specs.declared.shares.Share.{Share}
use Rattle.gosper_form.specs.declared.shares.Share.TheVariants.{AboveLeast, BelowGreatest, CountedBut, RisingUp, FallingUp, RisingDown, FallingDown, Cleared, Later, Kept}

-- the factors that an item gives to a piece, by their kind
abbrev pub share_of : Share → ℕ → Factor → List Factor
share_of (AboveLeast j) order x = above_least order j x
share_of (BelowGreatest j) order x = below_greatest order j x
share_of (CountedBut j) order x = counted_but order j x
share_of RisingUp order x = rising_up order x
share_of FallingUp order x = falling_up order x
share_of RisingDown order x = rising_down order x
share_of FallingDown order x = falling_down order x
share_of Cleared order x = cleared_over order x
share_of Later order x = later_over order x
share_of Kept order x = kept_over order x

-- a denominator isn't constant, and an order is at most 6
abbrev pub CanGive : Share → LinearForm → Type 0
CanGive (AboveLeast j) f = j ≤ 6
CanGive (BelowGreatest j) f = j ≤ 6
CanGive (CountedBut j) f = IsNotConstant f
CanGive RisingUp f = Unit {0}
CanGive FallingUp f = Unit {0}
CanGive RisingDown f = Unit {0}
CanGive FallingDown f = Unit {0}
CanGive Cleared f = IsNotConstant f
CanGive Later f = IsNotConstant f
CanGive Kept f = IsNotConstant f
