use Rattle.std.proofs.Common.{ℕ, List, Err, ap, sym, subst}
use Rattle.ekhad_cli.specs.declared.refusal.Refusal.{Refusal}
use Rattle.ekhad_cli.specs.Commands.{IsCause}
use Rattle.ekhad_cli.specs.Run.{AreHeld}
use Rattle.ekhad_cli.proofs.Outcomes.{end_caused}
use Rattle.ekhad_cli.proofs.program.bytes_of.Goals as goal

-- the end of the source has its cause
pub returns-in-Err-clause-cause : goal.returns-in-Err-clause-cause
returns-in-Err-clause-cause g c =
    subst (λ (r : Refusal). (bytes : List ℕ) × AreHeld (g.S.Source.left c.args.input.now) bytes × IsCause c.args.command bytes r)
    (sym c.refusal_of.ensures.exact)
    (end_caused c.args.command _ _ c.in-Err.end c.most_bytes_of.result c.most_bytes_of.ensures.most
    (λ n e. c.in-Err.ensures.beyond n (ap Err e)) (λ n e. c.in-Err.ensures.limit_taken n (ap Err e)) (λ n e. c.in-Err.ensures.limit n (ap Err e)))
