use Rattle.std.proofs.Common.{[], ◌≡◌, ℕ, List, length, nat_eq, true, false, ap, subst, sym, ◌∙◌, refl}
use Rattle.std.proofs.lemmas.Bool.{false≢true}
use Rattle.spelled.specs.declared.faults.LineFault.{LineFault}
use Rattle.spelled.specs.Reading.{FailsAt}
use Rattle.exact_texts.proofs.FirstBad.{bad_where_stopped, bad_behind, named_where_stopped, named_behind}
use Rattle.spelled.proofs.TextSteps.{value_read}
use Rattle.spelled.proofs.texts.read_text.Goals as goal

-- more follows a whole item
pub returns-else-is_empty-clause-line : goal.returns-else-is_empty-clause-line
returns-else-is_empty-clause-line g c = λ at e.
    let self = c.args.spelling.now in
    let same : c.line_number.result ≡ at = cc in
    named_behind (g.S.LineSpelling.format self) (g.met.S.LineSpelling.line_texts self) c.args.text.now (g.S.LineSpelling.value_of c.in-Ok.item)
    c.read_lines.new.lines.rest.now at c.in-Ok.ensures
    (λ n. let never : false ≡ true = sym c.if-is_empty.false ∙ c.is_empty.ensures ∙ ap (λ (t : List ℕ). nat_eq (length t) 0) n in false≢true never)
    (λ front p. sym same ∙ c.line_number.ensures.number front p)

-- a line is none that an item has there
pub returns-in-Err-Line-clause-line : goal.returns-in-Err-Line-clause-line
returns-in-Err-Line-clause-line g c = λ at e.
    let self = c.args.spelling.now in
    let F = g.S.LineSpelling.format self in
    let same : c.line_number-in-Err-Line.result ≡ at = cc in
    let rest = c.read_lines.new.lines.rest.now in
    let stops = subst (λ (f : LineFault). FailsAt F c.args.text.now rest f) c.in-Err-Line.field-0-is c.in-Err-Line.ensures in
    named_where_stopped F (g.met.S.LineSpelling.line_texts self) c.args.text.now rest at stops
    (λ front p. sym same ∙ c.line_number-in-Err-Line.ensures.number front p)

-- what was written
pub returns-then-is_empty-clause-again : goal.returns-then-is_empty-clause-again
returns-then-is_empty-clause-again g c = λ v h e.
    let self = c.args.spelling.now in
    value_read (g.S.LineSpelling.format self) (g.met.S.LineSpelling.line_texts self) c.args.text.now c.read_lines.new.lines.rest.now
    (g.S.LineSpelling.value_of c.in-Ok.item) v c.in-Ok.ensures h e

-- nothing follows what was written
pub returns-else-is_empty-clause-again : goal.returns-else-is_empty-clause-again
returns-else-is_empty-clause-again g c = λ v h e.
    let self = c.args.spelling.now in
    let rest = c.read_lines.new.lines.rest.now in
    let some = λ (n : rest ≡ []).
    let never : false ≡ true = sym c.if-is_empty.false ∙ c.is_empty.ensures ∙ ap (λ (t : List ℕ). nat_eq (length t) 0) n in
    false≢true never in
    let bad = bad_behind (g.S.LineSpelling.format self) (g.met.S.LineSpelling.line_texts self) c.args.text.now
    (g.S.LineSpelling.value_of c.in-Ok.item) rest _ c.in-Ok.ensures some refl in
    absurd (bad.refused v h e)

-- no line is at fault in what was written
pub returns-in-Err-Line-clause-again : goal.returns-in-Err-Line-clause-again
returns-in-Err-Line-clause-again g c = λ v h e.
    let self = c.args.spelling.now in
    let F = g.S.LineSpelling.format self in
    let rest = c.read_lines.new.lines.rest.now in
    let stops = subst (λ (f : LineFault). FailsAt F c.args.text.now rest f) c.in-Err-Line.field-0-is c.in-Err-Line.ensures in
    let bad = bad_where_stopped F (g.met.S.LineSpelling.line_texts self) c.args.text.now rest _ stops refl in
    absurd (bad.refused v h e)
