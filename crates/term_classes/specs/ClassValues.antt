-- The value of a quotient of two trees.
use Rattle.std.specs.Prelude.{ℤ, pos, negsuc}
use Rattle.hypergeometric.specs.Point.{Point}
use Rattle.hypergeometric.specs.Fraction.{Fraction, fraction_product}
use Rattle.grammar.specs.Tree.{Tree}
use Rattle.term_classes.specs.TreeValue.{tree_value}

-- the value of the first tree divided by that of the second
abbrev pub quotient_value : Tree → Tree → Point → Fraction
quotient_value upper lower p = fraction_product (tree_value upper (pos 1) p) (tree_value lower (negsuc 0) p)
