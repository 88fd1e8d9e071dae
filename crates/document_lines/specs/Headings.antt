-- The first lines of claims.
use Rattle.std.specs.Prelude.{ℕ, codes, List}
use Rattle.std.specs.Fmt.{decimal}
use Rattle.exact_texts.specs.Texts.{◌⧺◌}
use Rattle.exact_texts.specs.Formats.{Format}
use Rattle.document_lines.specs.declared.headings.Heading.{Heading}
use Rattle.document_lines.specs.declared.headings.Heading.TheVariants.{Found, Empty}

-- the heading of a claim of an order
abbrev pub heading_text : ℕ → Heading → List ℕ
heading_text order Found = codes "found " ⧺ decimal order
heading_text order Empty = codes "empty " ⧺ decimal order

-- both headings
abbrev pub headings : ℕ → Format Heading
headings order = record { Has = λ _. Unit {0}; text = heading_text order }
