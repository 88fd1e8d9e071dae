-- The letters that polynomials are written in are distinct, so a text in them tells its polynomial.
-- These are lemmas: they stand here, and not in proofs/, since the spelling of polynomials names them.
use Rattle.exact_texts.specs.Lines.{AreWithinLine}
use Rattle.exact_texts.specs.Lists.{AreItems}
use Rattle.polynomial_sums.specs.PolynomialSums.{polynomials, AreDistinct}
use Rattle.polynomial_sums.proofs.Bounds.{polynomials_within_line, polynomials_are_items, n_distinct, n_k_distinct, n_k_x_distinct}
use Rattle.polynomial_lines.specs.Letters.{letters_of}
use Rattle.polynomial_lines.specs.declared.letters.Letters.{Letters}
use Rattle.polynomial_lines.specs.declared.letters.Letters.TheVariants.{InN, InNAndK, InNKAndX}

-- no letter stands twice
pub letters_distinct : (letters : Letters) → AreDistinct (letters_of letters)
letters_distinct InN = n_distinct
letters_distinct InNAndK = n_k_distinct
letters_distinct InNKAndX = n_k_x_distinct

-- a polynomial's text is in one line, and tells it
pub letters_within_line : (letters : Letters) → AreWithinLine (polynomials (letters_of letters))
letters_within_line letters = polynomials_within_line (letters_of letters) (letters_distinct letters)

-- and it can stand in a list
pub letters_are_items : (letters : Letters) → AreItems (polynomials (letters_of letters))
letters_are_items letters = polynomials_are_items (letters_of letters)
