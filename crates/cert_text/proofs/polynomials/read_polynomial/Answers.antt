use Rattle.std.proofs.Common.{◌≡◌, ◌≤◌, ℕ, ◌∙◌, subst, map, length, arith}
use Rattle.std.proofs.lemmas.List.{length-map}
use Rattle.std.specs.Prelude.{IfSome}
use Rattle.std.specs.Option.{MatchOption}
use Rattle.ring_laws.specs.Answer.{OnFault}
use Rattle.ring_laws.specs.Meaning.{number}
use Rattle.ring_laws.specs.Wholes.{whole_algebra}
use Rattle.ring_laws.specs.declared.wholes.Whole.{Whole}
use Rattle.poly_laws.specs.Lists.{trimmed}
use Rattle.poly_laws.proofs.Trimming.{length-trimmed}
use Rattle.cert_text.specs.Reading.{value_in, coefficient_of}
use Rattle.cert_text.proofs.FallingMonomials.{spelled}
use Rattle.cert_text.proofs.TrimmedCoefficients.{is_polynomial}
use Rattle.cert_text.proofs.polynomials.read_polynomial.Goals as goal

-- each polynomial is read
pub returns-in_default : goal.returns-in_default
returns-in_default c = record {
  read = λ p bounded e.
      let s = spelled p bounded in
      subst (λ found. MatchOption found ⊥ (λ list. (k : ℕ) → value_in list.items k ≡ coefficient_of s.monomials k)) c.in_default.is
      (c.in_ok-coefficients.ensures.read s.monomials s.falling (e ∙ s.text));
}

-- as itself
pub returns-in-Ok : goal.returns-in-Ok
returns-in-Ok c = record {
  read = λ p bounded e.
      let s = spelled p bounded in
      let each = subst (λ found. MatchOption found ⊥ (λ list. (k : ℕ) → value_in list.items k ≡ coefficient_of s.monomials k)) c.in-Some.is
      (c.in_ok-coefficients.ensures.read s.monomials s.falling (e ∙ s.text)) in
      c.in-Ok.ensures.gives.1 ∙ is_polynomial c.in-Some.coefficients.items p bounded.passes (λ k. each k ∙ s.coefficients k);
}

-- no more coefficients than a polynomial may have
pub unreachable-requires : goal.unreachable-requires
unreachable-requires c =
    let numbers = map (λ (w : Whole). number w.value) c.in-Some.coefficients.items in
    let many : length c.in-Some.coefficients.items ≡ 256 =
    subst (λ found. IfSome found (λ list. length list.items ≡ 256)) c.in-Some.is c.in_ok-coefficients.ensures.short in
    let more : ¬ (length (trimmed whole_algebra.ops numbers) ≤ 256) =
    subst (OnFault (¬ (length (trimmed whole_algebra.ops numbers) ≤ 256))) c.in-Err-TooLarge.field-0-is c.in-Err-TooLarge.ensures.gives in
    more (omega (arith, length-trimmed whole_algebra.ops numbers, length-map c.in-Some.coefficients.items (λ (w : Whole). number w.value), many))
