use Rattle.std.proofs.Common.{◌≡◌, ◌++◌, map, drop}
use Rattle.std.specs.Prelude.{string_bytes}
use Rattle.std.specs.List.{flat_map}
use Rattle.exact_texts.specs.Sums.{signed_text, sum_text}
use Rattle.spelled.specs.Monomials.{monomial_of}
use Rattle.spelled.proofs.sum_writing.write_sum.Given as goal

-- the text so far with the monomials to come is the whole
abbrev pub invariant-loop-monomial : goal.invariant-loop-monomial
invariant-loop-monomial l =
    string_bytes l.text ++ flat_map signed_text (map monomial_of (drop l.monomial-index l.others)) ≡ string_bytes l.fn.text ++ sum_text
    (map monomial_of l.monomials)
