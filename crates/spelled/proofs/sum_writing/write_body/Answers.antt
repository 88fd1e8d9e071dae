use Rattle.std.proofs.Common.{refl}
use Rattle.std.proofs.lemmas.Result.{IfOk-equal}
use Rattle.spelled.specs.Monomials.{monomial_of}
use Rattle.spelled.proofs.SumWrites.{body_joined}
use Rattle.spelled.proofs.sum_writing.write_body.Goals as goal

pub returns : goal.returns
returns c = IfOk-equal _ _ _ _ (c.write_power-3.ensures 120 refl)
    (body_joined (monomial_of c.args.monomial.now) c.magnitude_of.result _ _ _ _ _ _ _ c.magnitude_of.ensures c.is_magnitude_shown-is_shown.ensures
    c.is_behind-behind_n.ensures c.is_behind-behind_k.ensures c.in_ok-write_magnitude.ensures (c.in_ok-write_power.ensures 110 refl)
    (c.in_ok-write_power-2.ensures 107 refl))
