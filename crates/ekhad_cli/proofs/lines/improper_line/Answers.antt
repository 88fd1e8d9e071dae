use Rattle.std.proofs.Common.{◌≡◌, ℕ, List, ◌++◌, ap, sym, ◌∙◌, append_assoc}
use Rattle.std.specs.Prelude.{codes}
use Rattle.std.specs.Fmt.{decimal}
use Rattle.std.proofs.lemmas.Result.{IfOk-weaker}
use Rattle.ekhad_cli.proofs.lines.improper_line.Goals as goal

-- the pieces behind the first one, grouped to the left
grouped : (b c d e : List ℕ) → b ++ (c ++ (d ++ e)) ≡ ((b ++ c) ++ d) ++ e
grouped b c d e = sym (append_assoc (b ++ c) d e ∙ append_assoc b c (d ++ e))

pub returns : goal.returns
returns c = record {
  line = IfOk-weaker c.format.result _ _ (λ s p. p ∙ ap (λ t. codes "ekhad: improper: reason " ++ t)
      (grouped (decimal c.args.reason) (codes " at ") (decimal c.args.at) (codes "\n"))) c.format.ensures.ok;
}
