-- A reduced row in which some coefficient isn't zero is what is left of the old row without a number and without forms of the profile.
use Rattle.std.specs.Prelude.{◌≡◌, ℕ, zero, suc, ℤ, pos, List, [], ◌∷◌}
use Rattle.std.specs.List.{AllByRecursion}
use Rattle.std.proofs.Common.{refl, ap, sym, ◌∙◌, subst}
use Rattle.ring_laws.specs.Meaning.{Meaning}
use Rattle.ring_laws.specs.Algebra.{Passing}
use Rattle.poly_divide.specs.Forms.{linear}
use Rattle.whole_roots.specs.Differences.{polynomials}
use Rattle.whole_roots.specs.LinearFactors.{Entry, IsLinearFactor, IsProfileForm}
use Rattle.reducing.specs.TakenOut.{raised_to, times_row, AllTakenOut, none, next}
use Rattle.reducing.specs.Laws.ScaledRows.{scaled, scaled_is, is_scaled, scaled_twice}
use Rattle.reducing.specs.Laws.RowPowers.{power_of, no_power}
use Rattle.reducing.specs.Laws.FactorLists.{laws, domain, P, linear_is_factor}
use Rattle.reducing.specs.PolynomialRows.{Row, meant, forms, Reduced, stays, divides, PolynomialsReduced}
use Rattle.reducing.specs.CommonForms.{IsSomeNonzero}
use Rattle.reducing.specs.WhatIsLeft.{product_of_forms, IsWhatIsLeft}
use Rattle.reducing.proofs.CommonForms.{no_common_form}
use Rattle.reducing.proofs.CommonNumbers.{no_common_number}

abbrev times : Passing polynomials → Row → Row
times t row = scaled polynomials laws domain t row

abbrev pub AreForms : List (ℕ × ℤ) → Type 0
AreForms xs = AllByRecursion (λ (x : ℕ × ℤ). IsProfileForm x.0 x.1) xs

-- forms whose product, times the new row, is the old row
record Taken (old new : Row) : Type 0 where
  forms : List (ℕ × ℤ)
  profile : AreForms forms
  product : Passing polynomials
  product_is : product.0 ≡ product_of_forms forms
  is : old ≡ times product new

-- one form more, so often
more : (u : ℕ) (v : ℤ) (p : IsProfileForm u v) (power : ℕ) (old between new : Row)
    → old ≡ times (raised_to P (linear (pos u) v, (linear_is_factor u v p.from_one).0) power) between → Taken between new → Taken old new
more u v p zero old between new e h =
    subst (λ r. Taken r new) (sym (e ∙ sym (no_power polynomials laws domain (linear (pos u) v, (linear_is_factor u v p.from_one).0) between))) h
more u v p (suc power) old between new e h =
    let t : Passing polynomials = (linear (pos u) v, (linear_is_factor u v p.from_one).0) in
    let first : Taken (times (raised_to P t power) between) new = more u v p power (times (raised_to P t power) between) between new refl h in
    record {
      forms = (u, v) ∷ first.forms;
      profile = (p, first.profile);
      product = P.product first.product t;
      product_is = ap (λ m. polynomials.ops.product m t.0) first.product_is;
      is = e ∙ sym (scaled_twice polynomials laws domain t (raised_to P t power) between) ∙ ap (times t) first.is
          ∙ scaled_twice polynomials laws domain t first.product new;
    }

all_taken : (f : Meaning) (xs : List Entry) → AllByRecursion (IsLinearFactor f) xs → (old new : Row) → AllTakenOut polynomials (forms xs) old new
    → Taken old new
all_taken f [] h old _ none = record {
  forms = [];
  profile = tt;
  product = P.unit;
  product_is = refl;
  is = no_power polynomials laws domain P.unit old;
}
all_taken f (x ∷ xs) h old new (next {between = y} k ks) =
    more x.0.0 x.0.1 h.0.form k.power old y new
    (power_of polynomials laws domain (linear (pos x.0.0) x.0.1, (linear_is_factor x.0.0 x.0.1 h.0.form.from_one).0) old y k)
    (all_taken f xs h.1 y new ks)

pub what_is_left : (old new : List Meaning) → PolynomialsReduced old new → IsSomeNonzero new → IsWhatIsLeft old new
what_is_left old new h some = by h.row h.result h.holds h.row_is h.result_is
  where
    by : (row result : Row) → Reduced row result → old ≡ meant row → new ≡ meant result → IsWhatIsLeft old new
    by row _ (stays z) e g = absurd (subst IsSomeNonzero g some z)
    by row result (divides middle xs w f t) e g =
        let k : Taken middle result = all_taken _ xs f.factors.each middle result t in
        record {
          row = result;
          row_is = g;
          number = w.content;
          not_zero = w.not_zero;
          forms = k.forms;
          profile = k.profile;
          is = e ∙ is_scaled polynomials laws domain (P.product k.product (P.whole (pos w.content))) row result
              (scaled_is polynomials laws domain (P.whole (pos w.content)) row middle w.times ∙ ap (times (P.whole (pos w.content))) k.is
              ∙ scaled_twice polynomials laws domain (P.whole (pos w.content)) k.product result)
              ∙ ap (λ m. times_row polynomials (polynomials.ops.product m (polynomials.ops.whole (pos w.content))) result) k.product_is;
          primitive = no_common_number old new h some;
          no_form = no_common_form old new h some;
        }
