-- The parts that are left at an index begin with the part there.
use Rattle.std.proofs.Common.{◌≡◌, ℕ, ◌+◌, ◌<◌, List, length, get_or, drop, ap, sym, ◌∙◌}
use Rattle.std.proofs.lemmas.List.{drop_more}
use Rattle.grammar.specs.Tree as d
use Rattle.term_text.specs.View.{tree_of, part_of, parts_of}
use Rattle.term_text.specs.declared.ast.Part.{Part}
use Rattle.term_text.proofs.Views.{part_of-at}

pub next_part : (ps : List Part) (i : ℕ) (p : Part) → i < length ps → p ≡ get_or ps i p
    → parts_of (drop i ps) ≡ d.part p.turned (tree_of p.ast) (parts_of (drop (i + 1) ps))
next_part ps i p below is =
    ap parts_of (drop_more ps i p below)
    ∙ ap (λ x. d.part x.0 x.1 (parts_of (drop (i + 1) ps))) (ap part_of (sym is) ∙ part_of-at p)
