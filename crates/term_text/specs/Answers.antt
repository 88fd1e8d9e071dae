-- What the readers answer.
use Rattle.std.specs.Prelude.{ℕ, List, [], ◌∷◌, map, Result, Ok, Err}
use Rattle.grammar.specs.Reading as r
use Rattle.grammar.specs.Several as k
use Rattle.term_text.specs.declared.ast.Ast.{Ast}
use Rattle.term_text.specs.declared.bounds.BoxRange.{BoxRange}
use Rattle.term_text.specs.declared.fault.TextFault.{TextFault}
use Rattle.term_text.specs.declared.fault.TextFault.TheVariants.{Unexpected, UnknownName, UnclosedParen, EmptyInput, NotAscii, Nesting, LiteralTooLarge, Memory}
use Rattle.term_text.specs.View.{tree_of}

-- The first fault of a text of a kind, in the code's words. Memory may be refused at any text.
abbrev pub HasFault : k.Kind → List ℕ → TextFault → Type 0
HasFault kind text (Unexpected at) = r.IsFirstFault kind text (r.unexpected_at at)
HasFault kind text (UnknownName at) = r.IsFirstFault kind text (r.unknown_name_at at)
HasFault kind text (UnclosedParen at) = r.IsFirstFault kind text (r.unclosed_at at)
HasFault kind text EmptyInput = r.IsFirstFault kind text r.empty_input
HasFault kind text (NotAscii at) = r.IsFirstFault kind text (r.not_ascii_at at)
HasFault kind text (Nesting at) = r.IsFirstFault kind text (r.nesting_at at)
HasFault kind text (LiteralTooLarge at) = r.IsFirstFault kind text (r.literal_too_large_at at)
HasFault kind text Memory = Unit {0}

-- the terms of a text, or its first fault
abbrev pub ReadsTerms : k.Kind → List ℕ → Result (List Ast) TextFault → Type 0
ReadsTerms kind text (Ok terms) = r.HasTrees kind text (map tree_of terms)
ReadsTerms kind text (Err e) = HasFault kind text e

-- The contracts of the readers.
abbrev pub ReadsTerm : List ℕ → Result Ast TextFault → Type 0
ReadsTerm text (Ok a) = r.HasTrees k.a_term text (tree_of a ∷ [])
ReadsTerm text (Err e) = HasFault k.a_term text e

-- the two terms of a text, or its first fault
abbrev pub ReadsPair : List ℕ → Result (Ast × Ast) TextFault → Type 0
ReadsPair text (Ok p) = r.HasTrees k.a_pair text (tree_of p.0 ∷ tree_of p.1 ∷ [])
ReadsPair text (Err e) = HasFault k.a_pair text e

-- the two terms of a text and the four bounds of its box, or its first fault
abbrev pub ReadsBoxed : List ℕ → Result (Ast × Ast × BoxRange) TextFault → Type 0
ReadsBoxed text (Ok b) = r.HasContents k.a_boxed text (tree_of b.0 ∷ tree_of b.1 ∷ []) (b.2.n0 ∷ b.2.n1 ∷ b.2.k0 ∷ b.2.k1 ∷ [])
ReadsBoxed text (Err e) = HasFault k.a_boxed text e
