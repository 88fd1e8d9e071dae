-- A document that is read, and lines that texts share, so that a wrong bound or a wrong count of lines does not check.
use Rattle.std.proofs.Common.{◌≡◌, ℕ, zero, suc, ◌^◌, ◌-◌, refl, arith, lit<, lit≤}
use Rattle.std.specs.Prelude.{codes, pos, negsuc, [], ◌∷◌}
use Rattle.std.specs.Fmt.{digits}
use Rattle.ring_laws.specs.Meaning.{Meaning, number, listed, items}
use Rattle.poly_laws.specs.Lists.{coefficient_at}
use Rattle.poly_laws.specs.Values.{level}
use Rattle.document_text.specs.Spelling.{polynomial_text, polynomial_in_n_text}
use Rattle.document_text.specs.Document.{document_text}
use Rattle.hypergeometric.specs.TermFacts.{IsPolynomial}
use Rattle.cert_text.specs.Readable.{Contents, AreReadable, IsTextOf, SameLines, carried}

-- k^2, and 2*k^3-3*k^2+k
abbrev pub square : Meaning
square = listed (number (pos 0) ∷ number (pos 0) ∷ number (pos 1) ∷ [])

abbrev pub sums : Meaning
sums = listed (number (pos 0) ∷ number (pos 1) ∷ number (negsuc 2) ∷ number (pos 2) ∷ [])

abbrev pub squares : Contents
squares = record { poly = square; scale = pos 1; multiplier = pos 6; carrier_scale = pos 1; y = sums }

square_bounded : IsPolynomial 1 square
square_bounded = record { passes = refl; fits = (lit≤ tt, at) }
  where
    at : (k : ℕ) → (level 0).ops.Fits (coefficient_at (level 0).ops (items square) k)
    at zero = lit< tt
    at (suc zero) = lit< tt
    at (suc (suc zero)) = lit< tt
    at (suc (suc (suc k))) = lit< tt

sums_bounded : IsPolynomial 1 sums
sums_bounded = record { passes = refl; fits = (lit≤ tt, at) }
  where
    at : (k : ℕ) → (level 0).ops.Fits (coefficient_at (level 0).ops (items sums) k)
    at zero = lit< tt
    at (suc zero) = lit< tt
    at (suc (suc zero)) = lit< tt
    at (suc (suc (suc zero))) = lit< tt
    at (suc (suc (suc (suc k)))) = lit< tt

pub squares_readable : AreReadable squares
squares_readable = record {
  poly = square_bounded;
  not_zero = λ e. cc;
  degree = lit≤ tt;
  scale = lit< tt;
  scale_not_zero = λ e. cc;
  multiplier = lit< tt;
  carrier_scale = lit< tt;
  carrier_not_zero = λ e. cc;
  y = sums_bounded;
}

squares_text : IsTextOf (codes "ekhad 1\ncommand gosper\nterm poly k^2; scale 1; nbase 1; kbase 1; up -; down -; over -; guard -\nfound 0\nmatch -\nq 1; -\nr 1; -\na 6\nK poly 1; scale 1; nbase 1; kbase 1; up -; down -; over -; guard -\nY 2*k^3-3*k^2+k\nD -\nRtop 1; -\nRbot 1; -\nrange -\nend\n") squares
unfolding document_text polynomial_text polynomial_in_n_text digits
squares_text = record { readable = squares_readable; spelled = refl }

-- one line is shared, and a second one isn't: it differs, or it has no end
one_line : SameLines 1 (codes "a\nb\n") (codes "a\nc\n") × (¬ SameLines 2 (codes "a\nb\n") (codes "a\nc\n"))
one_line = ((refl, (refl, tt)), λ same. omega (arith, same.1.1.0))

no_end : ¬ SameLines 1 (codes "a") (codes "a")
no_end same = same.1

known_carried : (carried 16 ≡ 16) × (carried (2 ^ 32) ≡ 2 ^ 32 - 1)
known_carried = (refl, refl)
