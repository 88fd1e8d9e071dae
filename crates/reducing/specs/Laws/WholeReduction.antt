-- The laws of the reduction of whole numbers.
-- These are lemmas: they stand in specs/, since the laws that `Reducing` names rest on them.
use Rattle.std.specs.Prelude.{◌≡◌, ℤ, pos, ◌*ℤ◌, [], ◌∷◌, IsTrue, refl}
use Rattle.std.proofs.Common.{ap, sym, ◌∙◌, subst}
use Rattle.ring_solver.proofs.Read.{ring_z, reading_z}
use Rattle.ring_laws.specs.Meaning.{Meaning, number}
use Rattle.ring_laws.specs.Wholes.{whole_algebra}
use Rattle.kernel_laws.specs.Reduction.{Splits, ReductionLaws}
use Rattle.reducing.specs.WholeRows.{WholeSplit, whole_reduction}
use Rattle.reducing.specs.Laws.WholeMultiples.{whole_reduces}
use Rattle.reducing.specs.Laws.OneWholeRow.{one_whole_row}

whole_splits : (x plain core : Meaning) → WholeSplit x plain core → Splits whole_algebra x plain core
whole_splits x plain core h = record {
  plain_passes = subst (λ t. IsTrue (whole_algebra.passes t)) (sym h.plain_is) refl;
  core_passes = subst (λ t. IsTrue (whole_algebra.passes t)) (sym h.core_is) refl;
  is = parts ∙ ap number (times_one h.value) ∙ sym h.value_is;
}
  where
    parts : whole_algebra.ops.product plain core ≡ number (h.value *ℤ pos 1)
    parts = cc (h.plain_is, h.core_is)

    times_one : (z : ℤ) → z *ℤ pos 1 ≡ z
    times_one z = ring_z (z ∷ []) (search reading_z depth 40 fits 20000) refl

one_whole_split : (x plain core other rest : Meaning) → WholeSplit x plain core → WholeSplit x other rest → (plain ≡ other) × (core ≡ rest)
one_whole_split x plain core other rest h k =
    (h.plain_is ∙ sym h.value_is ∙ k.value_is ∙ sym k.plain_is, h.core_is ∙ sym k.core_is)

-- a row of whole numbers is a multiple of its one reduced row, and a number splits in one way
pub whole_reduction_laws : ReductionLaws whole_algebra whole_reduction
whole_reduction_laws = record {
  reduces = whole_reduces;
  one_row = one_whole_row;
  splits = whole_splits;
  one_split = one_whole_split;
}
