use Rattle.spelled.proofs.Exits.{handed_on}
use Rattle.spelled.proofs.TurnSteps.{first_stops, second_stops}
use Rattle.exact_texts.specs.Formats.{in_turn}
use Rattle.spelled.proofs.in_turn.InTurnLineSpelling.read_lines.Goals as goal

-- where the first item isn't there
pub returns-in_err-first : goal.returns-in_err-first
returns-in_err-first g c =
    let self = c.args.self.now in
    let F = g.A.LineSpelling.format self.first in
    let G = g.B.LineSpelling.format self.second in
    handed_on F (in_turn F (λ _. G)) (λ p. (g.A.LineSpelling.value_of p.0, g.B.LineSpelling.value_of p.1)) _ _ _ _ c.in_err-first.field-0.0
    c.from_residual.ensures.1 (first_stops F G (g.met.B.LineSpelling.line_texts self.second) _ _) c.in_err-first.ensures

-- where the first item is there and the second isn't
pub returns-in_err-second : goal.returns-in_err-second
returns-in_err-second g c =
    let self = c.args.self.now in
    let F = g.A.LineSpelling.format self.first in
    let G = g.B.LineSpelling.format self.second in
    handed_on G (in_turn F (λ _. G)) (λ p. (g.A.LineSpelling.value_of p.0, g.B.LineSpelling.value_of p.1)) _ _ _ _ c.in_err-second.field-0.0
    c.from_residual-in_err-second.ensures.1
    (second_stops F G (g.met.A.LineSpelling.line_texts self.first) _ _ _ _ c.in_ok-first.ensures) c.in_err-second.ensures
