use Rattle.std.proofs.Common.{◌≡◌, ℕ, ◌<◌, ◌^◌, ap, sym, ◌∙◌, subst, Some, Option}
use Rattle.std.specs.Prelude.{unsigned_abs}
use Rattle.cert_text.specs.Reading.{signed_number}
use Rattle.cert_text.proofs.SignedMonomials.{body_of, body_unsigned, sign_of_monomial}
use Rattle.cert_text.proofs.polynomials.read_monomial.Goals as goal

-- one answer has one magnitude and one power
one_answer : (r : Option (ℕ × ℕ)) (m n p q : ℕ) → r ≡ Some (m, p) → r ≡ Some (n, q) → (m ≡ n) × (p ≡ q)
one_answer r m n p q e f = let pair : ◌≡◌ {A = ℕ × ℕ} (m, p) (n, q) = cc in (ap (λ x. x.0) pair, ap (λ x. x.1) pair)

-- the monomial without its sign is read
pub returns-in_err-magnitude : goal.returns-in_err-magnitude
returns-in_err-magnitude c = record {
  read = λ first z power behind small short stops e.
      let sign = sign_of_monomial first z power behind c.args.text.now c.read_sign-negative.result.0 c.read_sign-negative.result.1.now small short e
      c.read_sign-negative.ensures.sign in
      let cut = c.until.ensures.cut (body_of z power) behind (body_unsigned z power small short) stops sign.0 in
      let no = c.in_err-magnitude.ensures.read (unsigned_abs z) power small short cut.0 in
      absurd cc;
}

-- and its magnitude is within bounds
pub returns-in_err-coefficient : goal.returns-in_err-coefficient
returns-in_err-coefficient c = record {
  read = λ first z power behind small short stops e.
      let sign = sign_of_monomial first z power behind c.args.text.now c.read_sign-negative.result.0 c.read_sign-negative.result.1.now small short e
      c.read_sign-negative.ensures.sign in
      let cut = c.until.ensures.cut (body_of z power) behind (body_unsigned z power small short) stops sign.0 in
      let same = one_answer c.read_unsigned.result c.in_ok-magnitude.magnitude (unsigned_abs z) c.in_ok-magnitude.power power c.in_ok-magnitude.was
      (c.read_unsigned.ensures.read (unsigned_abs z) power small short cut.0) in
      absurd (c.in_err-coefficient.ensures.signed (subst (λ n. n < 2 ^ 127) (sym same.0) small));
}

pub returns : goal.returns
returns c = record {
  read = λ first z power behind small short stops e.
      let negative = c.read_sign-negative.result.0 in
      let sign = sign_of_monomial first z power behind c.args.text.now negative c.read_sign-negative.result.1.now small short e
      c.read_sign-negative.ensures.sign in
      let cut = c.until.ensures.cut (body_of z power) behind (body_unsigned z power small short) stops sign.0 in
      let same = one_answer c.read_unsigned.result c.in_ok-magnitude.magnitude (unsigned_abs z) c.in_ok-magnitude.power power c.in_ok-magnitude.was
      (c.read_unsigned.ensures.read (unsigned_abs z) power small short cut.0) in (
        c.in_ok-coefficient.ensures.signed (subst (λ n. n < 2 ^ 127) (sym same.0) small) ∙ ap (signed_number negative) same.0 ∙ sign.1,
        same.1,
        cut.1,
      );
}
