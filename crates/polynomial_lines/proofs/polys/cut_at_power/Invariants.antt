use Rattle.std.proofs.Common.{◌≡◌, ◌≤◌, ◌++◌, suc, List, map, length}
use Rattle.polynomial_sums.proofs.Powers.{HavePower, HaveAtLeast}
use Rattle.spelled.specs.Monomials.{MonomialValue, monomial_of}
use Rattle.polynomial_lines.specs.Letters.{letter_of}
use Rattle.polynomial_lines.proofs.polys.cut_at_power.Given as goal

-- what is cut off so far belongs to the last ones
abbrev pub invariant-loop-end : goal.invariant-loop-end
invariant-loop-end l = record {
  within : l.end ≤ length l.monomials;
  front : (xs ys : List MonomialValue) → HaveAtLeast (letter_of l.letter) (suc l.power) xs → HavePower (letter_of l.letter) l.power ys
      → map monomial_of l.monomials ≡ xs ++ ys → length xs ≤ l.end;
}

abbrev pub decreases-loop-end : goal.decreases-loop-end
decreases-loop-end l = l.end
