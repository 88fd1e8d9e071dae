-- Which texts are read: those of documents of polynomials within bounds; and which line of another text is at fault.
-- None of these definitions looks at how a text is read.
use Rattle.std.specs.Prelude.{◌≡◌, ◌≢◌, ℕ, zero, suc, ◌^◌, ◌≤◌, if◌then◌else◌, nat_eq, nat_lt, ◌-◌, ℤ, pos, List, [], ◌∷◌, length}
use Rattle.ring_laws.specs.Meaning.{Meaning, items}
use Rattle.document_text.specs.Document.{Document, document_text}
use Rattle.hypergeometric.specs.TermFacts.{IsNumber, IsPolynomial}
use Rattle.cert_text.specs.PolynomialDocument.{polynomial_document}

-- what varies in the document of a polynomial in k
pub record Contents : Type 0 where
  pub poly : Meaning
  pub scale : ℤ
  pub multiplier : ℤ
  pub carrier_scale : ℤ
  pub y : Meaning

-- the contents with this polynomial, scale, multiplier, scale of the carrier and Y
abbrev pub contents : Meaning → ℤ → ℤ → ℤ → Meaning → Contents
contents poly scale multiplier carrier_scale y =
    record { poly = poly; scale = scale; multiplier = multiplier; carrier_scale = carrier_scale; y = y }

-- the document of a polynomial in k that has these contents
abbrev pub document_of : Contents → Document
document_of d = polynomial_document d.poly d.scale d.multiplier d.carrier_scale d.y

-- The polynomial of the term has a degree from 0 to 4 and isn't zero, the scales aren't 0, and all numbers and lists are within bounds.
pub record AreReadable (d : Contents) : Type 0 where
  pub poly : IsPolynomial 1 d.poly
  pub not_zero : items d.poly ≢ []
  pub degree : length (items d.poly) ≤ 5
  pub scale : IsNumber d.scale
  pub scale_not_zero : d.scale ≢ pos 0
  pub multiplier : IsNumber d.multiplier
  pub carrier_scale : IsNumber d.carrier_scale
  pub carrier_not_zero : d.carrier_scale ≢ pos 0
  pub y : IsPolynomial 1 d.y

-- the text is that of a readable document with these contents
pub record IsTextOf (text : List ℕ) (d : Contents) : Type 0 where
  pub readable : AreReadable d
  pub spelled : text ≡ document_text (document_of d)

-- the first n lines of both texts are there, each with its newline, and they are the same
abbrev pub SameLines : ℕ → List ℕ → List ℕ → Type 0
SameLines zero xs ys = Unit {0}
SameLines (suc n) [] ys = ⊥
SameLines (suc n) (x ∷ xs) [] = ⊥
SameLines (suc n) (x ∷ xs) (y ∷ ys) = (x ≡ y) × SameLines (if nat_eq x 10 then n else suc n) xs ys

-- the first n lines of the text are those of a readable document
pub record BeginsDocument (n : ℕ) (text : List ℕ) : Type 0 where
  pub contents : Contents
  pub readable : AreReadable contents
  pub same : SameLines n text (document_text (document_of contents))

-- No readable document has the text. The lines before this one, counted from 1, are the first lines of a readable document, and
-- together with this one they are those of none.
pub record IsFirstBadLine (text : List ℕ) (at : ℕ) : Type 0 where
  pub refused : (d : Contents) → ¬ IsTextOf text d
  pub good : ℕ
  pub after : at ≡ suc good
  pub before : BeginsDocument good text
  pub here : ¬ BeginsDocument at text

-- a number of a line above 2^32 - 1 is carried as 2^32 - 1
abbrev pub carried : ℕ → ℕ
carried at = if nat_lt at (2 ^ 32) then at else (2 ^ 32 - 1)
