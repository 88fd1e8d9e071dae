use Rattle.std.proofs.Common.{subst, sym, lit<}
use Rattle.std.proofs.lemmas.Result.{IfOk-weaker}
use Rattle.std.specs.Prelude.{◌≡◌, pos, List}
use Rattle.ring_laws.specs.declared.wholes.Whole.{Whole}
use Rattle.cert_text.specs.Reading.{value_in}
use Rattle.cert_text.proofs.CoefficientsAt.{value_nought}
use Rattle.cert_text.proofs.polynomials.noughts.Goals as goal

-- each is a copy of the zero
pub returns-clause-each : goal.returns-clause-each
returns-clause-each c =
    IfOk-weaker c.vec.result _ _ (λ v h k. subst (λ (xs : List Whole). value_in xs k ≡ pos 0) (sym (h (λ y e. e))) (value_nought 256 k c.in-Some.nought (c.in-Some.ensures.signed (lit< tt))))
    c.vec.ensures.items_if_clones_equal
