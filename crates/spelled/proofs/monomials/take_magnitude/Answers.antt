use Rattle.std.proofs.Common.{List, map, ap, sym, ◌∙◌, Bor, ℕ}
use Rattle.exact_texts.proofs.Bodies.{no_magnitude}
use Rattle.spelled.proofs.monomials.take_magnitude.Goals as goal

-- the first factor begins with no digit
pub returns : goal.returns
returns c = record {
  taken = λ n fs small apart e.
      let parts = c.in_ok-first.ensures.cases.0 in
      let seen = ap (map (λ (f : Bor (List ℕ)). f.now)) parts in
      let told = no_magnitude n fs c.in_ok-first.first.now.now _ small (sym seen ∙ e)
      (λ b rest x. sym c.if-begins_with_digit.false ∙ c.begins_with_digit.ensures.digit b rest x) in
      (told.0, seen ∙ told.1);
}
