use Rattle.std.proofs.Common.{◌≡◌, ℕ, ◌%◌, nat_eq, false, map, sym, ◌∙◌, ap, subst, refl, unsigned_abs, arith}
use Rattle.std.specs.Int.{w128}
use Rattle.std.proofs.lemmas.Int.{to_z-of_z, fits_signed_from_abs}
use Rattle.ring_laws.specs.Meaning.{number, listed}
use Rattle.ring_laws.specs.Wholes.{whole_algebra}
use Rattle.ring_laws.specs.declared.wholes.Whole.{Whole}
use Rattle.poly_laws.specs.Lists.{is_trimmed}
use Rattle.whole_roots.specs.LinearFactors.{PowerDivides}
use Rattle.whole_roots.proofs.FactorLeads.{no_rest, slope_divides}
use Rattle.whole_roots.proofs.SignLemmas.{false_true}
use Rattle.whole_roots.proofs.Stretching.{numbers_are}
use Rattle.whole_roots.proofs.factors.may_divide.Goals as goal

-- the slope of a factor divides the lead
pub returns-then-list-gt1 : goal.returns-then-list-gt1
returns-then-list-gt1 c =
    let m = listed (map (λ (w : Whole). number w.value) c.args.f.now.list.items) in
    let ws = c.coefficients-list.result.now in
    let coefficients = c.coefficients-list.ensures.coefficients in
    let ended = ap (is_trimmed whole_algebra.ops) (sym (numbers_are m ws coefficients) ∙ numbers_are m c.args.f.now.list.items refl)
    ∙ c.args.f.now.ended in
    let held = to_z-of_z w128 c.value.result (fits_signed_from_abs w128 c.value.result c.value.ensures.small) in
    record {
      none = λ e v d.
          let rest = no_rest c.args.slope ws
          (slope_divides c.args.slope v c.requires.slope ws ended
          (λ none. c.requires.not_zero (sym coefficients ∙ ap (λ xs. listed (map (λ (w : Whole). number w.value) xs)) none))
          (subst (PowerDivides c.args.slope v 1) (sym coefficients) d)) c.index-list-list.result c.index-list-list.is in
          let number : c.unsigned_abs.result % c.from.result ≡ 0 =
          (λ i. (c.unsigned_abs.ensures.value ∙ ap unsigned_abs held ∙ ap unsigned_abs c.value.ensures.value) i % c.from.ensures i) ∙ rest in
          let left : nat_eq (c.unsigned_abs.result % c.from.result) 0 ≡ false = e in
          false_true (sym left ∙ ap (λ (n : ℕ). nat_eq n 0) number);
    }

-- a factor has a power of n, so a constant has none
pub returns-else-list-gt1 : goal.returns-else-list-gt1
returns-else-list-gt1 c =
    let m = listed (map (λ (w : Whole). number w.value) c.args.f.now.list.items) in
    let ws = c.coefficients-list.result.now in
    let coefficients = c.coefficients-list.ensures.coefficients in
    let ended = ap (is_trimmed whole_algebra.ops) (sym (numbers_are m ws coefficients) ∙ numbers_are m c.args.f.now.list.items refl)
    ∙ c.args.f.now.ended in
    record {
      none = λ e v d.
          absurd (omega (
            arith,
            c.if-list-gt1.false,
            (slope_divides c.args.slope v c.requires.slope ws ended
                (λ none. c.requires.not_zero (sym coefficients ∙ ap (λ xs. listed (map (λ (w : Whole). number w.value) xs)) none))
                (subst (PowerDivides c.args.slope v 1) (sym coefficients) d)).long,
          ));
    }
