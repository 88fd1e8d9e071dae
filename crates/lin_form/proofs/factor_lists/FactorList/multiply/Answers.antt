use Rattle.std.specs.Prelude.{◌+◌}
use Rattle.std.proofs.Common.{refl, subst, sym, ap, ◌∙◌}
use Rattle.hypergeometric.specs.FormOrder.{AreFactors}
use Rattle.hypergeometric.proofs.Lookups.{factors_stay}
use Rattle.lin_form.specs.Forms.{form_of}
use Rattle.lin_form.specs.FactorLists.{factors_of}
use Rattle.lin_form.proofs.Lookups.{inserted, on_either}
use Rattle.lin_form.proofs.factor_lists.FactorList.multiply.Goals as goal

-- where the insertion gives up, the entries are as they were
pub invariant_of-self : goal.invariant_of-self
invariant_of-self c = record {
  factors = on_either (λ entries. AreFactors (factors_of entries)) c.insert.result c.args.self.now.powers.entries _ c.insert.new.self.entries
      c.insert.ensures.entries c.insert.ensures.err
      (subst AreFactors (sym (inserted _ (λ x y. refl) c.args.self.now.powers.entries c.args.form _ c.args.power (ap (λ n. n + c.args.power) c.power.ensures.power)))
      (factors_stay (form_of c.args.form) c.args.power (factors_of c.args.self.now.powers.entries)
      (record { n_slope = c.args.form.small_n_slope; k_slope = c.args.form.small_k_slope; offset = c.args.form.small_offset }) c.requires.some c.requires.fits
      c.args.self.now.factors))
      c.args.self.now.factors;
}

-- the power with the old one added is inserted
pub returns-clause-factors : goal.returns-clause-factors
returns-clause-factors c =
    ap factors_of c.in_ok-insert.ensures.entries
    ∙ inserted _ (λ x y. refl) c.args.self.now.powers.entries c.args.form _ c.args.power (ap (λ n. n + c.args.power) c.power.ensures.power)
