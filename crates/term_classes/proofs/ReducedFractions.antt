-- A walk over a tree leaves the scale and the bases in lowest terms.
use Rattle.std.specs.Prelude.{ℤ}
use Rattle.hypergeometric.specs.Fraction.{Fraction, fraction_product}
use Rattle.hypergeometric.specs.ProperTerm.{ProperTerm, IsNonzero}
use Rattle.hypergeometric.specs.Divisors.{lowest_terms, raised_fraction}
use Rattle.hypergeometric.proofs.LowestTerms.{raised_nonzero}
use Rattle.hypergeometric.proofs.NonzeroPowers.{product_nonzero}
use Rattle.hypergeometric.proofs.ReducedFractions.{IsReduced, reduced_nonzero, lowest_reduced}
use Rattle.term_classes.proofs.RowFacts.{RowsKeep}

-- the fractions of a term
pub record HasReduced (s : ProperTerm) : Type 0 where
  pub scale : IsReduced s.scale
  pub n_base : IsReduced s.n_base
  pub k_base : IsReduced s.k_base

multiplied_reduced : (f g : Fraction) (w : ℤ) → IsReduced f → IsNonzero g → IsReduced (lowest_terms (fraction_product f (raised_fraction g w)))
multiplied_reduced f g w h n =
    lowest_reduced (fraction_product f (raised_fraction g w)) (product_nonzero f (raised_fraction g w) (reduced_nonzero f h) (raised_nonzero g w n))

pub fractions_keep : RowsKeep HasReduced
fractions_keep = record {
  scale = λ s g w h n. record { scale = multiplied_reduced s.scale g w h.scale n; n_base = h.n_base; k_base = h.k_base };
  n_base = λ s g w h n. record { scale = h.scale; n_base = multiplied_reduced s.n_base g w h.n_base n; k_base = h.k_base };
  k_base = λ s g w h n. record { scale = h.scale; n_base = h.n_base; k_base = multiplied_reduced s.k_base g w h.k_base n };
  poly = λ s q w h v. record { scale = h.scale; n_base = h.n_base; k_base = h.k_base };
  up = λ s l w h limits some few. record { scale = h.scale; n_base = h.n_base; k_base = h.k_base };
  down = λ s l w h limits some few. record { scale = h.scale; n_base = h.n_base; k_base = h.k_base };
  over = λ s q l w h v form limits some few. record { scale = h.scale; n_base = h.n_base; k_base = h.k_base };
}
