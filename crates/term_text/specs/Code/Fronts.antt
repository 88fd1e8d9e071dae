-- The code's tokens of the definition's.
use Rattle.std.specs.Prelude.{ℕ, Bool, Option, Some, None, if◌then◌else◌, nat_lt, ◌^◌}
use Rattle.std.specs.Char.{is_ascii_digit, is_ascii_alphanumeric}
use Rattle.grammar.specs.Tokens as g
use Rattle.term_text.specs.declared.front.Flaw.{Flaw}
use Rattle.term_text.specs.declared.front.Flaw.TheVariants as flaw
use Rattle.term_text.specs.declared.front.Front.{Front}
use Rattle.term_text.specs.declared.front.Front.TheVariants as front
use Rattle.term_text.specs.declared.front.Class.{Class}
use Rattle.term_text.specs.declared.front.Class.TheVariants as class
use Rattle.term_text.specs.Code.Image.{token_image}

-- whether a byte belongs to a class
abbrev pub in_class : Class → ℕ → Bool
in_class class.Space = g.is_space
in_class class.Digit = is_ascii_digit
in_class class.Name = is_ascii_alphanumeric

-- the code's flaw of a token
abbrev pub flaw_image : g.Flaw → Flaw
flaw_image g.strange = flaw.Strange
flaw_image g.not_ascii = flaw.NotAscii
flaw_image g.unknown_name = flaw.UnknownName
flaw_image g.literal_too_large = flaw.LiteralTooLarge

-- what the code finds at the front of some bytes
abbrev pub front_image : g.Front → Front
front_image g.at_end = front.End
front_image (g.token t len) = front.Token (token_image t) len
front_image (g.flawed f) = front.Flawed (flaw_image f)

-- a number below 2^127, or none
abbrev pub below_limit : ℕ → Option ℕ
below_limit v = if nat_lt v (2 ^ 127) then Some v else None

-- what the length of a token is
abbrev pub IfToken : Front → (ℕ → Type 0) → Type 0
IfToken (front.Token t len) p = p len
IfToken _ p = Unit {0}
