-- Two lists have a normal form.
use Rattle.std.proofs.Common.{◌≡◌, ◌≢◌, ℕ, suc, ◌+◌, ◌-◌, ◌≤◌, Bool, true, false, List, [], ◌∷◌, refl, arith, inl, inr}
use Rattle.std.specs.Prelude.{pos, cond, map}
use Rattle.hypergeometric.specs.LinearForm.{LinearForm, Factor, FactorList}
use Rattle.hypergeometric.specs.FactorLists.{same_form, power_of}
use Rattle.hypergeometric.specs.Match.{Match}
use Rattle.hypergeometric.proofs.Lookups.{same_form_found}
use Rattle.term_pieces.specs.NormalForm.{Normal, form_above, form_below, matched, power_within, IsWithout, gosper_forms, chains, IsNormalFormOf}
use Rattle.term_pieces.proofs.PowerLists.{powers_listed, IsAmong, listed_some, listed_sorted, listed_power}
use Rattle.term_pieces.proofs.SomePieces.{product_list, is_product}
use Rattle.term_pieces.proofs.FewShifts.{few_shifts}
use Rattle.term_pieces.proofs.SomeMatches.{matches_below, are_matches, matched_above, matched_below}
use Rattle.term_pieces.proofs.SomeTaking.{taking, takes, offsets_of}
use Rattle.term_pieces.proofs.Takings.{no_more_above, no_more_below}

abbrev forms_in : List Factor → List LinearForm
forms_in xs = map (λ x. x.form) xs

power_among : (f : LinearForm) (xs : List Factor) → power_of f xs ≢ 0 → IsAmong f (forms_in xs)
power_among f [] some = absurd (some refl)
power_among f (x ∷ xs) some = by (same_form f x.form) refl some (power_among f xs)
  where
    by : (b : Bool) → same_form f x.form ≡ b → cond b x.power (power_of f xs) ≢ 0 → (power_of f xs ≢ 0 → IsAmong f (forms_in xs))
        → IsAmong f (forms_in (x ∷ xs))
    by true e has rest = inl (same_form_found f x.form e)
    by false e has rest = inr (rest has)

-- the power that is left of a form
abbrev left_of : FactorList → List Factor → LinearForm → ℕ
left_of whole taken f = power_of f whole.factors - power_within f taken

-- a list without forms
abbrev without : FactorList → List Factor → FactorList
without whole taken = record {
  scale = whole.scale;
  factors = powers_listed (left_of whole taken) (forms_in whole.factors);
}

is_without : (whole : FactorList) (taken : List Factor) → ((f : LinearForm) → power_within f taken ≤ power_of f whole.factors)
    → IsWithout (without whole taken) whole taken
is_without whole taken few = record {
  scale = refl;
  sorted = listed_sorted (left_of whole taken) (forms_in whole.factors);
  some = listed_some (left_of whole taken) (forms_in whole.factors);
  powers = λ f.
      let is = listed_power (left_of whole taken) f (forms_in whole.factors)
      (λ ne. power_among f whole.factors (λ z. ne (omega (arith, z)))) in
      omega (arith, is, few f);
}

module _ (q0 r0 : FactorList) where
  abbrev matches_of : List Match
  matches_of = matches_below (taking q0.factors r0.factors) (forms_in q0.factors) (suc (offsets_of q0.factors + offsets_of r0.factors))

  abbrev pub normal_form_of : Normal
  normal_form_of = record {
    matches = matches_of;
    q = without q0 (matched form_above matches_of);
    r = without r0 (matched form_below matches_of);
    g = product_list (pos 1) (gosper_forms matches_of);
    poles = product_list (pos 1) (chains matches_of);
  }

  -- only forms of q0 are taken
  known : (s : LinearForm) (h : ℕ) → taking q0.factors r0.factors s h ≢ 0 → IsAmong s (forms_in q0.factors)
  known s h some = power_among s q0.factors (λ z. some (omega (arith, takes q0.factors r0.factors s h, z)))

  pub is_normal_form : IsNormalFormOf normal_form_of q0 r0
  is_normal_form =
      let e = taking q0.factors r0.factors in
      let bound = suc (offsets_of q0.factors + offsets_of r0.factors) in
      let is = takes q0.factors r0.factors in
      let above = matched_above e (forms_in q0.factors) known in
      let below = matched_below e (forms_in q0.factors) known in
      record {
        taken = e;
        takes = is;
        matches = are_matches e (forms_in q0.factors) known bound (few_shifts q0.factors r0.factors e is);
        q = is_without q0 (matched form_above matches_of) (λ f. omega (arith, above f bound, no_more_above q0.factors r0.factors e is f bound));
        r = is_without r0 (matched form_below matches_of) (λ f. omega (arith, below f bound, no_more_below q0.factors r0.factors e is f bound));
        g = is_product (pos 1) (gosper_forms matches_of);
        poles = is_product (pos 1) (chains matches_of);
      }

pub some_normal_form : (q0 r0 : FactorList) → (normal : Normal) × IsNormalFormOf normal q0 r0
some_normal_form q0 r0 = (normal_form_of q0 r0, is_normal_form q0 r0)
