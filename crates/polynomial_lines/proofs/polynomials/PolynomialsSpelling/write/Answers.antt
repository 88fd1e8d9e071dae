use Rattle.std.proofs.Common.{◌≡◌, ◌++◌, map, subst}
use Rattle.std.specs.Prelude.{string_bytes}
use Rattle.std.specs.Result.{OnOk}
use Rattle.exact_texts.specs.Sums.{sum_text}
use Rattle.polynomial_lines.specs.Letters.{letter_of, letters_of}
use Rattle.polynomial_lines.proofs.SpellingSteps.{all_pushed, are_monomials}
use Rattle.polynomial_lines.proofs.polynomials.PolynomialsSpelling.write.Goals as goal

pub write-requires : goal.write-requires
write-requires g c =
    let letters = letters_of c.args.self.now.letters in
    let p = g.R.Ring.meaning c.args.polynomial.now in
    are_monomials letters p _ c.requires.fits
    (all_pushed letters (map letter_of c.each.result.now) p c.new-monomials.result.items _ c.each.ensures.letters c.new-monomials.ensures.items
    c.in_ok-push_monomials.ensures.pushed)

pub returns : goal.returns
returns g c =
    let letters = letters_of c.args.self.now.letters in
    let p = g.R.Ring.meaning c.args.polynomial.now in
    subst (λ ms. OnOk c.write.result (string_bytes c.write.new.text ≡ string_bytes c.args.text.now ++ sum_text ms))
    (all_pushed letters (map letter_of c.each.result.now) p c.new-monomials.result.items _ c.each.ensures.letters c.new-monomials.ensures.items
    c.in_ok-push_monomials.ensures.pushed)
    c.write.ensures
