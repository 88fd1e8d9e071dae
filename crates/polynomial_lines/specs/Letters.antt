-- What the letters of the code stand for.
use Rattle.std.specs.Prelude.{List}
use Rattle.polynomial_sums.specs.PolynomialSums.{Letter as LetterValue, letter_n, letter_k, letter_x, in_n, in_n_k, in_n_k_x}
use Rattle.polynomial_lines.specs.declared.letters.Letter.{Letter}
use Rattle.polynomial_lines.specs.declared.letters.Letter.TheVariants.{N, K, X}
use Rattle.polynomial_lines.specs.declared.letters.Letters.{Letters}
use Rattle.polynomial_lines.specs.declared.letters.Letters.TheVariants.{InN, InNAndK, InNKAndX}

-- the letter that it is
abbrev pub letter_of : Letter → LetterValue
letter_of N = letter_n
letter_of K = letter_k
letter_of X = letter_x

-- the letters that polynomials are written in, the outermost first
abbrev pub letters_of : Letters → List LetterValue
letters_of InN = in_n
letters_of InNAndK = in_n_k
letters_of InNKAndX = in_n_k_x
