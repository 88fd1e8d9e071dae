-- The formats of fractions in lowest terms: `u`, or `u/v` where v isn't 1.
use Rattle.std.specs.Prelude.{ℕ, if◌then◌else◌, nat_eq, ℤ, unsigned_abs, List, [], ◌∷◌}
use Rattle.std.specs.Fmt.{signed_decimal}
use Rattle.std.specs.Str.{byte}
use Rattle.hypergeometric.specs.Fraction.{Fraction}
use Rattle.hypergeometric.specs.TermFacts.{IsLowest}
use Rattle.proper_term.specs.Runs.{AreNumbers, IsInLowestTerms}
use Rattle.exact_texts.specs.Formats.{Format}
use Rattle.document_text.specs.Spelling.{fraction_text}

-- fractions in lowest terms with a positive denominator, whose numbers are below 2^127 in magnitude
abbrev pub fractions : Format Fraction
fractions = record { Has = λ f. AreNumbers f × IsInLowestTerms f; text = fraction_text }

-- such fractions other than 0
abbrev pub nonzero_fractions : Format Fraction
nonzero_fractions = record { Has = IsLowest; text = fraction_text }

-- a slash and the denominator, nothing where it is 1
abbrev pub denominator_text : ℤ → List ℕ
denominator_text bottom = if nat_eq (unsigned_abs bottom) 1 then [] else (byte "/" ∷ signed_decimal bottom)

-- the texts between the slashes: the numerator, and the denominator where it isn't 1
abbrev pub fraction_pieces : Fraction → List (List ℕ)
fraction_pieces f = signed_decimal f.top ∷ (if nat_eq (unsigned_abs f.bottom) 1 then [] else (signed_decimal f.bottom ∷ []))
