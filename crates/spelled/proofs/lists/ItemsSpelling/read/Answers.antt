use Rattle.std.proofs.Common.{[], map, refl, ap, sym, ◌∙◌}
use Rattle.exact_texts.proofs.Joined.{items_within_line, found_items}
use Rattle.spelled.proofs.lists.ItemsSpelling.read.Goals as goal

-- no items
pub returns-then-is_same-clause-read : goal.returns-then-is_same-clause-read
returns-then-is_same-clause-read g c = λ vs p e.
    let each = c.args.self.now.each in
    ap (map g.S.Spelling.value_of) c.new.ensures.items
    ∙ (items_within_line (g.S.Spelling.format each) (g.met.S.Spelling.within_line each) (g.met.S.ItemSpelling.are_items each)).determined [] vs tt p
    (sym (c.if-is_same.ensures.0 refl) ∙ e)

-- some items
pub returns-clause-read : goal.returns-clause-read
returns-clause-read g c = λ vs p e.
    let each = c.args.self.now.each in
    c.read_pieces.ensures.read vs p (ap (map (λ x. x.now)) c.deref.ensures.value
    ∙ found_items (g.S.Spelling.format each) (g.met.S.Spelling.within_line each) (g.met.S.ItemSpelling.are_items each) c.args.text.now _
    (λ n. let never = c.if-is_same.ensures.1 n in cc) c.in_ok-pieces.ensures.pieces vs p e)
