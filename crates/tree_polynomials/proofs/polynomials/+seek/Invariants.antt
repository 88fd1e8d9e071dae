use Rattle.std.proofs.Common.{drop}
use Rattle.lin_form.proofs.Items.{each_of}
use Rattle.term_text.specs.View.{parts_of}
use Rattle.term_classes.specs.Finding.{find_summands, find_factors}
use Rattle.steps.proofs.FindingParts.{Continues}
use Rattle.tree_polynomials.proofs.PolynomialMeanings.{meaning_of}
use Rattle.tree_polynomials.proofs.polynomials.+seek.Given as goal

-- the whole is what the parts from here on give, with the polynomials so far in front
abbrev pub invariant-factors_of-loop-part : goal.invariant-factors_of-loop-part
invariant-factors_of-loop-part l =
    Continues (find_factors (parts_of l.parts)) (find_factors (parts_of (drop l.part-index l.parts)))
    (each_of l.factors.items meaning_of)

abbrev pub invariant-summands_of-loop-part : goal.invariant-summands_of-loop-part
invariant-summands_of-loop-part l =
    Continues (find_summands (parts_of l.parts)) (find_summands (parts_of (drop l.part-index l.parts)))
    (each_of l.summands.items meaning_of)
