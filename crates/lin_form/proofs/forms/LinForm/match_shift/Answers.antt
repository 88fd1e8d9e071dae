use Rattle.std.proofs.Common.{arith}
use Rattle.std.proofs.lemmas.Int.{ints}
use Rattle.hypergeometric.proofs.Shifts.{match_by, matched_k_slope, matched_n_slope}
use Rattle.lin_form.specs.Forms.{form_of}
use Rattle.lin_form.proofs.forms.LinForm.match_shift.Goals as goal
use Rattle.lin_form.proofs.forms.LinForm.match_shift.Goals.{then-self-other-via-then-self-other, then-self-other-via-else-self-other+then-self-other-2}

-- forms with other slopes don't match
pub returns-then-self-other : goal.returns-then-self-other
returns-then-self-other c = record {
  matches = λ h m.
      let k = matched_k_slope (form_of c.args.self.now) (form_of c.args.other.now) h m in
      let n = matched_n_slope (form_of c.args.self.now) (form_of c.args.other.now) h m in
      elim c.then-self-other.branch [
        | then-self-other-via-then-self-other w ↦ omega (arith, ints, k)
        | then-self-other-via-else-self-other+then-self-other-2 w ↦ omega (arith, ints, n)
      ];
}

-- forms with the same slopes match where the slope times the shift is the difference of the offsets
pub returns : goal.returns
returns c = record {
  matches = match_by (form_of c.args.self.now) (form_of c.args.other.now) _ _ _ c.whole_quotient.ensures.quotient (omega (arith, ints))
      (omega (arith, ints)) (omega (arith, ints)) (omega (arith, ints));
}
