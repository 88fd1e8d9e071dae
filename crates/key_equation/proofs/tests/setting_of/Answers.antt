use Rattle.hypergeometric.specs.ProperTerm.{ProperTerm}
use Rattle.proper_term.specs.TermOf.{term_of}
use Rattle.proper_term.proofs.ValueRuns.{proper_fractions}
use Rattle.pole_laws.proofs.NonzeroPieces.{q0_some}
use Rattle.gosper_form.specs.PiecesOf.{pieces_held}
use Rattle.key_equation.proofs.tests.setting_of.Goals as goal

-- the pieces of a term have a quotient that isn't zero
pub returns : goal.returns
returns c = record {
  quotient =
      let pieces = pieces_held c.in_ok-pieces.pieces in
      let are = c.in_ok-pieces.ensures.pieces in
      let term = term_of c.in-Ok.term in
      record {
        q0 = pieces.q0;
        r0 = pieces.r0;
        normal_for = record {
          normal_form = c.in_ok-normal.ensures.normal;
          q_sorted = are.q0.sorted;
          r_sorted = are.r0.sorted;
          not_zero = q0_some term pieces c.args.row.now.order (proper_fractions term c.in-Ok.term.proper) are;
        };
      };
}
