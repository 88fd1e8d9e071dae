use Rattle.std.proofs.Common.{◌≡◌, ap, ◌++◌, ◌∙◌, sym, subst}
use Rattle.std.specs.Option.{MatchOption}
use Rattle.std.proofs.lemmas.List.{append_cancel_left}
use Rattle.spelled.proofs.lines.item_in_line.Goals as goal

-- the value isn't there
pub returns-in_default-2 : goal.returns-in_default-2
returns-in_default-2 g c = record {
  exact = λ v h e.
      let field = append_cancel_left c.args.word.now c.in-Some.field.now ((g.S.Spelling.format c.args.spelling.now).text v)
      (sym c.in-Some.ensures.exact ∙ e) in
      subst (λ found. MatchOption found ⊥ (λ x. g.S.Spelling.value_of x ≡ v)) c.in_default-2.is (c.in_ok-item.ensures.read v h field);
}

-- what was read is spelled otherwise
pub returns : goal.returns
returns g c = record {
  exact = λ v h e.
      let text = (g.S.Spelling.format c.args.spelling.now).text in
      let field = append_cancel_left c.args.word.now c.in-Some.field.now (text v) (sym c.in-Some.ensures.exact ∙ e) in
      let value = subst (λ found. MatchOption found ⊥ (λ x. g.S.Spelling.value_of x ≡ v)) c.in-Some-2.is (c.in_ok-item.ensures.read v h field) in
      let same = c.as_bytes.ensures.value ∙ c.in_ok-write.ensures
      ∙ ap (λ t. t ++ text (g.S.Spelling.value_of c.in-Some-2.item)) c.new-spelled.ensures.bytes
      ∙ ap text value ∙ sym field in
      let no = c.if-is_same.ensures.1 same in
      cc;
}
