use Rattle.std.proofs.Common.{◌≡◌, ◌≤◌, drop, length}
use Rattle.lin_form.proofs.Items.{each_of}
use Rattle.term_classes.specs.Finding.{sum_of_polynomials}
use Rattle.tree_polynomials.proofs.PolynomialMeanings.{meaning_of}
use Rattle.tree_polynomials.proofs.sums.sum_of.Given as goal

-- the sum of the polynomials from here on
abbrev pub invariant-loop-index : goal.invariant-loop-index
invariant-loop-index l = record {
  sum : meaning_of l.sum
      ≡ sum_of_polynomials (each_of (drop l.index l.polynomials) meaning_of);
  within : l.index ≤ length l.polynomials;
}

abbrev pub decreases-loop-index : goal.decreases-loop-index
decreases-loop-index l = l.index
