-- What each row of the walk over a tree has to keep.
use Rattle.std.proofs.Common.{◌≡◌, ◌≢◌, ℕ, ◌+◌, ◌≤◌, Bool, true, false, Some, arith}
use Rattle.std.proofs.lemmas.Int.{ints}
use Rattle.std.proofs.lemmas.Bool.{leb-true}
use Rattle.std.specs.Prelude.{ℤ, pos, neg_ℤ, unsigned_abs, if◌then◌else◌, Ok}
use Rattle.ring_laws.specs.Meaning.{Meaning}
use Rattle.poly_laws.specs.TwoVariables.{in_n_and_k, poly_power}
use Rattle.steps.specs.Steps.{within_limit, ◌then◌}
use Rattle.steps.specs.declared.limits.LimitName.TheVariants.{Slope, Offset, Factors}
use Rattle.steps.proofs.StepLaws.{then_gave, limit_gave}
use Rattle.hypergeometric.specs.Fraction.{Fraction, fraction_product}
use Rattle.hypergeometric.specs.LinearForm.{LinearForm}
use Rattle.hypergeometric.specs.ProperTerm.{ProperTerm, IsNonzero}
use Rattle.hypergeometric.specs.TermFacts.{IsWithinLimits, total_power}
use Rattle.hypergeometric.specs.FactorLists as lists
use Rattle.hypergeometric.specs.Divisors.{lowest_terms, raised_fraction}
use Rattle.hypergeometric.specs.PrimitiveForm.{primitive_form}
use Rattle.term_classes.specs.TreeValue.{part_power}
use Rattle.term_classes.specs.Forms.{linear_form_of, limited_form}
use Rattle.term_classes.specs.Walk.{with_poly, with_scale, with_n_base, with_k_base, with_lists, few_factors}
use Rattle.term_classes.proofs.VaryingForms.{IsVarying}

abbrev pub IsFew : ProperTerm → Type 0
IsFew s = total_power s.up + total_power s.down + total_power s.over ≤ 24

abbrev pub with_up : LinearForm → ℕ → ProperTerm → ProperTerm
with_up l w s = with_lists (lists.with_factor l w s.up) s.down s.over s.guard s

abbrev pub with_down : LinearForm → ℕ → ProperTerm → ProperTerm
with_down l w s = with_lists s.up (lists.with_factor l w s.down) s.over s.guard s

abbrev pub with_over : LinearForm → ℕ → ProperTerm → ProperTerm
with_over l w s = with_lists s.up s.down (lists.with_factor l w s.over) s.guard s

-- each row keeps P
pub record RowsKeep (P : ProperTerm → Type 0) : Type 0 where
  pub scale : (s : ProperTerm) (g : Fraction) (w : ℤ) → P s → IsNonzero g
      → P (with_scale (lowest_terms (fraction_product s.scale (raised_fraction g w))) s)
  pub n_base : (s : ProperTerm) (g : Fraction) (w : ℤ) → P s → IsNonzero g
      → P (with_n_base (lowest_terms (fraction_product s.n_base (raised_fraction g w))) s)
  pub k_base : (s : ProperTerm) (g : Fraction) (w : ℤ) → P s → IsNonzero g
      → P (with_k_base (lowest_terms (fraction_product s.k_base (raised_fraction g w))) s)
  pub poly : (s : ProperTerm) (q : Meaning) (w : ℕ) → P s → IsVarying q → P (with_poly (in_n_and_k.product s.poly (poly_power q w)) s)
  pub up : (s : ProperTerm) (l : LinearForm) (w : ℕ) → P s → IsWithinLimits l → 1 ≤ w → IsFew (with_up l w s) → P (with_up l w s)
  pub down : (s : ProperTerm) (l : LinearForm) (w : ℕ) → P s → IsWithinLimits l → 1 ≤ w → IsFew (with_down l w s) → P (with_down l w s)
  pub over : (s : ProperTerm) (q : Meaning) (l : LinearForm) (w : ℕ) → P s → IsVarying q → linear_form_of (Some q) ≡ Some l → IsWithinLimits l → 1 ≤ w
      → IsFew (with_over (primitive_form l) w s) → P (with_over (primitive_form l) w s)

pub few_given : (s s' : ProperTerm) → (few_factors s).outcome ≡ Ok s' → IsFew s
few_given s s' e =
    (limit_gave Factors (total_power s.up + total_power s.down + total_power s.over) s s' e).few

pub limits_given : (l l' : LinearForm) → (limited_form l).outcome ≡ Ok l' → IsWithinLimits l
limits_given l l' e =
    let g = then_gave (within_limit Slope (unsigned_abs l.n_slope) l) (λ f1.
    within_limit Slope (unsigned_abs l.k_slope) l then (λ f2. within_limit Offset (unsigned_abs l.offset) l)) l' e in
    let h = then_gave (within_limit Slope (unsigned_abs l.k_slope) l) (λ f2. within_limit Offset (unsigned_abs l.offset) l)
    l' g.second in
    record {
      n_slope = (limit_gave Slope (unsigned_abs l.n_slope) l g.value g.first).few;
      k_slope = (limit_gave Slope (unsigned_abs l.k_slope) l h.value h.first).few;
      offset = (limit_gave Offset (unsigned_abs l.offset) l l' h.second).few;
    }

pub negated_not_zero : (w : ℤ) → w ≢ pos 0 → neg_ℤ w ≢ pos 0
negated_not_zero w n e = n (omega (arith, ints, e))

pub part_not_zero : (turned : Bool) (w : ℤ) → w ≢ pos 0 → part_power turned w ≢ pos 0
part_not_zero true w n = negated_not_zero w n
part_not_zero false w n = n
