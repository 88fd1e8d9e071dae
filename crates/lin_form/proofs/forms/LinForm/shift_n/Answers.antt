use Rattle.std.specs.Prelude.{◌≡◌, ◌+ℤ◌, ◌*ℤ◌}
use Rattle.std.specs.Int.{w64}
use Rattle.std.proofs.Common.{arith, rules, ◌∙◌, FitsSigned}
use Rattle.std.proofs.lemmas.Int.{ints, to_z-of_z}
use Rattle.hypergeometric.proofs.Shifts.{n_shifted}
use Rattle.lin_form.proofs.forms.LinForm.shift_n.Goals as goal

-- the offset is moved by the n slope times the shift
pub returns-clause-value : goal.returns-clause-value
returns-clause-value c =
    let f : FitsSigned w64 c.args.self.now.offset = search rules in
    let g : FitsSigned w64 c.args.self.now.n_slope = search rules in
    let e : c.shifted.result ≡ c.args.self.now.offset +ℤ c.args.self.now.n_slope *ℤ c.args.by =
    c.shifted.ensures.offset ∙ (λ i. to_z-of_z w64 _ f i +ℤ to_z-of_z w64 _ g i *ℤ to_z-of_z w64 _ c.ranges.by i) in
    n_shifted c.args.self.now.n_slope c.args.self.now.k_slope c.args.self.now.offset c.args.by _ _ _ (omega (arith, ints)) (omega (arith, ints))
    (omega (arith, ints, e))
