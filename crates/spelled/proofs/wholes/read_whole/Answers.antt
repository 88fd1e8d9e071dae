use Rattle.std.proofs.Common.{◌≡◌, ◌<◌, ◌^◌, Some, unsigned_abs, neg_ℤ, pos, ap, sym, subst, ◌∙◌}
use Rattle.exact_texts.proofs.Numerals.{behind_minus}
use Rattle.spelled.proofs.wholes.read_whole.Goals as goal

-- what stands behind the minus is no number
pub returns-in_err-read_natural-in-Some : goal.returns-in_err-read_natural-in-Some
returns-in_err-read_natural-in-Some c = record {
  read = λ z small e.
      let parts = behind_minus z c.in-Some.digits.now small (sym c.in-Some.ensures.exact ∙ e) in
      let never = c.in_err-read_natural-in-Some.ensures.read (unsigned_abs z) small parts.0 in
      cc;
}

-- or is the magnitude
pub returns-in_ok-read_natural-in-Some : goal.returns-in_ok-read_natural-in-Some
returns-in_ok-read_natural-in-Some c = record {
  read = λ z small e.
      let parts = behind_minus z c.in-Some.digits.now small (sym c.in-Some.ensures.exact ∙ e) in
      let same : c.in_ok-read_natural-in-Some.field-0 ≡ unsigned_abs
      z = (let told = c.in_ok-read_natural-in-Some.ensures.read (unsigned_abs z) small parts.0 in cc) in
      c.with_sign.ensures.signed (subst (λ n. n < 2 ^ 127) (sym same) small) ∙ ap (λ n. Some (neg_ℤ (pos n))) same ∙ ap Some parts.1;
}
