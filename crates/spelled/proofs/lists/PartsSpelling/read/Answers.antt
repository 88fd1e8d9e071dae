use Rattle.std.proofs.Common.{◌≡◌, [], map, subst, ap, sym, ◌∙◌, rules}
use Rattle.std.specs.Option.{MatchOption}
use Rattle.std.proofs.lemmas.List.{nil_from_length}
use Rattle.exact_texts.proofs.Joined.{found_parts}
use Rattle.spelled.proofs.lists.PartsSpelling.read.Goals as goal

-- the pieces are no items
pub returns-in_default-clause-read : goal.returns-in_default-clause-read
returns-in_default-clause-read g c = λ vs p e.
    let each = c.args.self.now.each in
    subst (λ found. MatchOption found ⊥ (λ x. map g.S.Spelling.value_of x.items ≡ vs)) c.in_default.is
    (c.in_ok-items.ensures.read vs p.1 (ap (map (λ x. x.now)) c.deref.ensures.value
    ∙ found_parts (g.S.Spelling.format each) (g.met.S.Spelling.within_line each)
    (g.met.S.ItemSpelling.are_items each) c.args.text.now _ c.in_ok-pieces.ensures.pieces vs p e))

-- there are no items
pub returns-then-is_empty-clause-read : goal.returns-then-is_empty-clause-read
returns-then-is_empty-clause-read g c = λ vs p e.
    let each = c.args.self.now.each in
    let told = subst (λ found. MatchOption found ⊥ (λ x. map g.S.Spelling.value_of x.items ≡ vs)) c.in-Some.is
    (c.in_ok-items.ensures.read vs p.1 (ap (map (λ x. x.now)) c.deref.ensures.value
    ∙ found_parts (g.S.Spelling.format each) (g.met.S.Spelling.within_line each)
    (g.met.S.ItemSpelling.are_items each) c.args.text.now _ c.in_ok-pieces.ensures.pieces vs p e)) in
    let empty : c.in-Some.items.items ≡ [] = nil_from_length c.in-Some.items.items (search rules) in
    p.0 (sym told ∙ ap (map g.S.Spelling.value_of) empty)

-- there are some
pub returns-clause-read : goal.returns-clause-read
returns-clause-read g c = λ vs p e.
    let each = c.args.self.now.each in
    subst (λ found. MatchOption found ⊥ (λ x. map g.S.Spelling.value_of x.items ≡ vs)) c.in-Some.is
    (c.in_ok-items.ensures.read vs p.1 (ap (map (λ x. x.now)) c.deref.ensures.value
    ∙ found_parts (g.S.Spelling.format each) (g.met.S.Spelling.within_line each)
    (g.met.S.ItemSpelling.are_items each) c.args.text.now _ c.in_ok-pieces.ensures.pieces vs p e))
