-- The lists that a walk over a tree gathers: no form twice, powers of at least 1, all forms within the limits, and few of them.
use Rattle.std.proofs.Common.{◌≡◌, ℕ, ◌+◌, ◌≤◌, ◌<◌, ◌^◌, List, [], ◌∷◌, arith}
use Rattle.std.proofs.lemmas.Bool.{cond_both}
use Rattle.std.proofs.Math.Nat.{div-le_self}
use Rattle.std.specs.Prelude.{ℤ, unsigned_abs}
use Rattle.std.specs.List.{AllByRecursion}
use Rattle.std.specs.Int.RustNames.{int_div}
use Rattle.ring_laws.proofs.Quotients.{abs_div}
use Rattle.hypergeometric.specs.LinearForm.{LinearForm, Factor}
use Rattle.hypergeometric.specs.FormOrder.{IsForm, IsFactor, AreFactors}
use Rattle.hypergeometric.specs.ProperTerm.{ProperTerm}
use Rattle.hypergeometric.specs.TermFacts.{IsWithinLimits, AllWithinLimits, total_power}
use Rattle.hypergeometric.specs.FactorLists as lists
use Rattle.hypergeometric.specs.PrimitiveForm.{content_of_form, primitive_form}
use Rattle.hypergeometric.proofs.Lookups.{factors_stay}
use Rattle.hypergeometric.proofs.SharedForms.{AllSome, power_by, all_more}
use Rattle.term_classes.proofs.RowFacts.{RowsKeep, IsFew}

pub total_with : (l : LinearForm) (w : ℕ) (xs : List Factor) → total_power (lists.with_factor l w xs) ≡ total_power xs + w
total_with l w [] = omega arith
total_with l w (x ∷ xs) =
    cond_both (lists.same_form l x.form) (lists.factor_with x.form (x.power + w) ∷ xs) (x ∷ lists.with_factor l w xs)
    (λ ys. total_power ys ≡ total_power (x ∷ xs) + w)
    (λ e. omega arith) (λ e. omega (arith, total_with l w xs))

pub power_in_total : (l : LinearForm) (xs : List Factor) → lists.power_of l xs ≤ total_power xs
power_in_total l [] = omega arith
power_in_total l (x ∷ xs) = power_by (λ m. m ≤ total_power (x ∷ xs)) l x xs (λ e. omega arith) (λ n. omega (arith, power_in_total l xs))

-- what holds of the forms of a list and of a new one holds after it is put in
pub all_with : (P : LinearForm → Type 0) (l : LinearForm) (w : ℕ) (xs : List Factor) → P l → AllByRecursion (λ x. P x.form) xs
    → AllByRecursion (λ x. P x.form) (lists.with_factor l w xs)
all_with P l w [] p h = (p, tt)
all_with P l w (x ∷ xs) p h =
    cond_both (lists.same_form l x.form) (lists.factor_with x.form (x.power + w) ∷ xs) (x ∷ lists.with_factor l w xs) (AllByRecursion (λ x. P x.form))
    (λ e. h) (λ e. (h.0, all_with P l w xs p h.1))

form_within : (l : LinearForm) → IsWithinLimits l → IsForm l
form_within l h = record { n_slope = omega (arith, h.n_slope); k_slope = omega (arith, h.k_slope); offset = omega (arith, h.offset) }

quotient_within : (z c : ℤ) (bound : ℕ) → unsigned_abs z ≤ bound → unsigned_abs (int_div z c) ≤ bound
quotient_within z c bound h = omega (arith, h, abs_div z c, div-le_self (unsigned_abs z) (unsigned_abs c))

pub primitive_within : (l : LinearForm) → IsWithinLimits l → IsWithinLimits (primitive_form l)
primitive_within l h = record {
  n_slope = quotient_within l.n_slope (content_of_form l) 8 h.n_slope;
  k_slope = quotient_within l.k_slope (content_of_form l) 8 h.k_slope;
  offset = quotient_within l.offset (content_of_form l) 1000000 h.offset;
}

-- a list of a term
pub record IsGatheredList (xs : List Factor) : Type 0 where
  pub factors : AreFactors xs
  pub limits : AllWithinLimits xs

pub list_some : (xs : List Factor) → IsGatheredList xs → AllSome xs
list_some xs h = all_more IsFactor (λ x. 1 ≤ x.power) (λ x f. f.some) xs h.factors.each

gathered_with : (l : LinearForm) (w : ℕ) (xs : List Factor) → IsGatheredList xs → IsWithinLimits l → 1 ≤ w
    → total_power (lists.with_factor l w xs) ≤ 24
    → IsGatheredList (lists.with_factor l w xs)
gathered_with l w xs h limits some few = record {
  factors = factors_stay l w xs (form_within l limits) some small h.factors;
  limits = all_with IsWithinLimits l w xs limits h.limits;
}
  where
    small : lists.power_of l xs + w < 2 ^ 32
    small = omega (arith, few, total_with l w xs, power_in_total l xs)

-- the lists of a term, before anything is cancelled
pub record HasLists (s : ProperTerm) : Type 0 where
  pub up : IsGatheredList s.up
  pub down : IsGatheredList s.down
  pub over : IsGatheredList s.over
  pub few : IsFew s

pub lists_keep : RowsKeep HasLists
lists_keep = record {
  scale = λ s g w h n. record { up = h.up; down = h.down; over = h.over; few = h.few };
  n_base = λ s g w h n. record { up = h.up; down = h.down; over = h.over; few = h.few };
  k_base = λ s g w h n. record { up = h.up; down = h.down; over = h.over; few = h.few };
  poly = λ s q w h v. record { up = h.up; down = h.down; over = h.over; few = h.few };
  up = λ s l w h limits some few. record {
    up = gathered_with l w s.up h.up limits some (omega (arith, few));
    down = h.down;
    over = h.over;
    few =
        few;
  };
  down = λ s l w h limits some few. record {
    up = h.up;
    down = gathered_with l w s.down h.down limits some (omega (arith, few));
    over =
        h.over;
    few = few;
  };
  over = λ s q l w h v form limits some few.
      record {
        up = h.up;
        down = h.down;
        over = gathered_with (primitive_form l) w s.over h.over (primitive_within l limits) some
            (omega (arith, few));
        few = few;
      };
}
