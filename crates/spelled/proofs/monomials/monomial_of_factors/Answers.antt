use Rattle.std.proofs.Common.{◌≡◌, ◌++◌, ◌<◌, ◌^◌, [], ap, sym, subst, ◌∙◌, append-nil, rules}
use Rattle.std.specs.Prelude.{unsigned_abs}
use Rattle.std.specs.Str.{byte}
use Rattle.exact_texts.specs.Sums.{power_factor, power_factors}
use Rattle.exact_texts.proofs.SumTexts.{apart_digits, apart_n, apart_k}
use mir.Val.{SFits}
use Rattle.std.specs.Int.{w128}
use Rattle.std.proofs.lemmas.Int.{to_z-of_z}
use Rattle.spelled.specs.Monomials.{signed_number}
use Rattle.spelled.proofs.monomials.monomial_of_factors.Goals as goal

-- no power of x
pub returns-in_err-x_power : goal.returns-in_err-x_power
returns-in_err-x_power c = record {
  read = λ m h s e.
      let a = c.in_ok-magnitude.ensures.taken (unsigned_abs m.coefficient) (power_factors m) h.number (apart_digits m) e in
      let n = c.in_ok-n_power.ensures.taken m.n_power (power_factor (byte "k") m.k_power ++ power_factor (byte "x") m.x_power) h.n_power
      (apart_n m) a.1 in
      let k = c.in_ok-k_power.ensures.taken m.k_power (power_factor (byte "x") m.x_power) h.k_power (apart_k m) n.1 in
      absurd (c.in_err-x_power.ensures.taken m.x_power [] h.x_power tt (k.1 ∙ sym (append-nil (power_factor (byte "x") m.x_power))));
}

-- no number
pub returns-in_err-with_sign : goal.returns-in_err-with_sign
returns-in_err-with_sign c = record {
  read = λ m h s e.
      let a = c.in_ok-magnitude.ensures.taken (unsigned_abs m.coefficient) (power_factors m) h.number (apart_digits m) e in
      let no = c.in_err-with_sign.ensures.signed (subst (λ x. x < 2 ^ 127) (sym a.0) h.number) in
      absurd cc;
}

-- the monomial
pub returns : goal.returns
returns c = record {
  read = λ m h s e.
      let a = c.in_ok-magnitude.ensures.taken (unsigned_abs m.coefficient) (power_factors m) h.number (apart_digits m) e in
      let n = c.in_ok-n_power.ensures.taken m.n_power (power_factor (byte "k") m.k_power ++ power_factor (byte "x") m.x_power) h.n_power
      (apart_n m) a.1 in
      let k = c.in_ok-k_power.ensures.taken m.k_power (power_factor (byte "x") m.x_power) h.k_power (apart_k m) n.1 in
      let x = c.in_ok-x_power.ensures.taken m.x_power [] h.x_power tt (k.1 ∙ sym (append-nil (power_factor (byte "x") m.x_power))) in
      let signed = c.in_ok-with_sign.ensures.signed (subst (λ y. y < 2 ^ 127) (sym a.0) h.number) in
      let number : c.in_ok-with_sign.field-0 ≡ signed_number c.args.negative c.in_ok-magnitude.magnitude = cc in
      let coefficient = number ∙ ap (signed_number c.args.negative) a.0 ∙ sym s in
      let fits : SFits w128 c.in_ok-with_sign.field-0 = search rules in
      let written = to_z-of_z w128 c.in_ok-with_sign.field-0 fits ∙ coefficient in
      let n_power = n.0 in
      let k_power = k.0 in
      let x_power = x.0 in
      λ i. record { coefficient = written i; n_power = n_power i; k_power = k_power i; x_power = x_power i };
}
