use Rattle.std.proofs.Common.{◌≡◌, ℕ, ◌<◌, ◌^◌, ap, sym, ◌∙◌, subst, Some, Option}
use Rattle.std.specs.Option.{MatchOption}
use Rattle.ring_laws.specs.declared.wholes.Whole.{Whole}
use Rattle.cert_text.specs.Reading.{signed_number}
use Rattle.cert_text.proofs.Signs.{sign_of_number}
use Rattle.cert_text.proofs.numbers.read_whole.Goals as goal

-- no number behind the sign
pub returns-in_err-read_natural : goal.returns-in_err-read_natural
returns-in_err-read_natural c = record {
  read = λ z small e.
      let parts = sign_of_number z c.args.text.now c.read_sign-negative.result.0 c.read_sign-negative.result.1.now small e c.read_sign-negative.ensures.sign in
      let no = c.in_err-read_natural.ensures.read parts.0 parts.1 parts.2 in
      absurd cc;
}

same : (m n : ℕ) (r : Option ℕ) → r ≡ Some m → r ≡ Some n → n ≡ m
same m n r e f = cc

-- a number with its sign
pub returns : goal.returns
returns c = record {
  read = λ z small e.
      let negative = c.read_sign-negative.result.0 in
      let parts = sign_of_number z c.args.text.now negative c.read_sign-negative.result.1.now small e c.read_sign-negative.ensures.sign in
      let read = same c.in_ok-read_natural.field-0 parts.0 c.read_natural.result c.in_ok-read_natural.was (c.read_natural.ensures.read parts.0 parts.1 parts.2) in
      subst (λ v. MatchOption c.with_sign.result ⊥ (λ (whole : Whole). whole.value ≡ v)) (ap (signed_number negative) (sym read) ∙ parts.3)
      (c.with_sign.ensures.signed (subst (λ n. n < 2 ^ 127) read parts.1));
}
