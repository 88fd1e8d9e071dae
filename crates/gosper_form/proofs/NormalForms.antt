-- From what was taken and left to the normal form, and the bounds of its forms.
use Rattle.std.proofs.Common.{◌≡◌, ◌≢◌, ℕ, suc, ◌+◌, ◌*◌, ◌≤◌, ◌^◌, Bool, true, false, List, [], ◌∷◌, refl, ap, sym, ◌∙◌, subst, arith, inl, inr}
use Rattle.std.proofs.lemmas.Int.{ints}
use Rattle.std.proofs.Math.Nat.{mul-le-mul_left}
use Rattle.std.specs.List.{AllByRecursion}
use Rattle.std.specs.Prelude.{ℤ, pos, negsuc, neg_ℤ, ◌+ℤ◌, ◌*ℤ◌, ◌≤ℤ◌, unsigned_abs, cond, Ok}
use Rattle.ring_solver.proofs.Read.{ring_z, reading_z}
use Rattle.hypergeometric.specs.LinearForm.{LinearForm, Factor, FactorList}
use Rattle.hypergeometric.specs.FormOrder.{IsForm, IsPrimitive, IsFactor, IsPositiveFirst}
use Rattle.hypergeometric.specs.FactorLists.{same_form, power_of}
use Rattle.hypergeometric.specs.Match.{Match}
use Rattle.hypergeometric.proofs.Lookups.{same_form_found}
use Rattle.hypergeometric.proofs.SharedForms.{all_more}
use Rattle.term_pieces.specs.Products.{IsProductOf}
use Rattle.term_pieces.specs.NormalForm.{Normal, at_earlier_k, form_above, form_below, matched, power_within, AreMatches, IsNormalFormOf}
use Rattle.term_pieces.proofs.ShiftedMatches.{all_follow}
use Rattle.gosper_form.specs.NormalCandidates.{AreTaken, AreMatchesOf}
use Rattle.gosper_form.specs.NormalLists.{IsFormQuotient, HasChain, forms_further, IsLeftOf}
use Rattle.gosper_form.specs.NormalShifts.{shifts_counted, normal_steps}
use Rattle.gosper_form.proofs.NormalChains.{further_none, further_one}
use Rattle.gosper_form.proofs.NormalLimits.{tested_kept}
use Rattle.gosper_form.proofs.NormalMatches.{whole_of, is_whole, only_whole}
use Rattle.gosper_form.proofs.NormalShifted.{earlier_again}
use Rattle.gosper_form.proofs.NormalWalk.{some_above, some_below}

-- a primitive form has no negative slope of k
pub rising_forms : (xs : List Factor) → AllByRecursion (λ x. IsPrimitive x.form) xs → AllByRecursion (λ x. pos 0 ≤ℤ x.form.k_slope) xs
rising_forms xs all = all_more (λ x. IsPrimitive x.form) (λ x. pos 0 ≤ℤ x.form.k_slope) (λ x p. rising x.form p.first) xs all
  where
    rising : (f : LinearForm) → IsPositiveFirst f → pos 0 ≤ℤ f.k_slope
    rising f (inl a) = omega (arith, ints, a)
    rising f (inr (inl a)) = omega (arith, ints, a.0)
    rising f (inr (inr a)) = omega (arith, ints, a.0)

-- what is said of each form of a list is said of a form that has a power there
by_power : (P : LinearForm → Type 0) (f : LinearForm) (xs : List Factor) → AllByRecursion (λ x. P x.form) xs → power_of f xs ≢ 0 → P f
by_power P f [] all some = absurd (some refl)
by_power P f (x ∷ xs) all some = by (same_form f x.form) refl some (by_power P f xs all.1)
  where
    by : (b : Bool) → same_form f x.form ≡ b → cond b x.power (power_of f xs) ≢ 0 → (power_of f xs ≢ 0 → P f) → P f
    by true e some rest = subst P (sym (same_form_found f x.form e)) all.0
    by false e some rest = rest some

-- a number between two others is within their bound
module _ (o : ℤ) (bound : ℕ) where
  below_both : (a j n : ℕ) → j ≤ n → unsigned_abs o ≤ bound → unsigned_abs (o +ℤ neg_ℤ (pos (a * n))) ≤ bound
      → unsigned_abs (o +ℤ neg_ℤ (pos (a * j))) ≤ bound
  below_both a j n l p q =
      let less : a * j ≤ a * n = mul-le-mul_left a l in
      omega (arith, ints, less, p, q)

  above_both : (a j n : ℕ) → j ≤ n → unsigned_abs o ≤ bound → unsigned_abs (o +ℤ pos (a * n)) ≤ bound → unsigned_abs (o +ℤ pos (a * j)) ≤ bound
  above_both a j n l p q =
      let less : a * j ≤ a * n = mul-le-mul_left a l in
      omega (arith, ints, less, p, q)

  pub between : (k : ℤ) (j n : ℕ) → j ≤ n → unsigned_abs o ≤ bound → unsigned_abs (o +ℤ k *ℤ neg_ℤ (pos n)) ≤ bound
      → unsigned_abs (o +ℤ k *ℤ neg_ℤ (pos j)) ≤ bound
  between (pos a) j n l p q =
      subst (λ z. unsigned_abs (o +ℤ z) ≤ bound) (sym (down a j))
      (below_both a j n l p (subst (λ z. unsigned_abs (o +ℤ z) ≤ bound) (down a n) q))
    where
      turned : (x y : ℤ) → x *ℤ neg_ℤ y ≡ neg_ℤ (x *ℤ y)
      turned x y = ring_z (x ∷ y ∷ []) (search reading_z depth 40 fits 20000) refl

      down : (a j : ℕ) → pos a *ℤ neg_ℤ (pos j) ≡ neg_ℤ (pos (a * j))
      down a j = turned (pos a) (pos j)
  between (negsuc a) j n l p q =
      subst (λ z. unsigned_abs (o +ℤ z) ≤ bound) (sym (up a j))
      (above_both (suc a) j n l p (subst (λ z. unsigned_abs (o +ℤ z) ≤ bound) (up a n) q))
    where
      turned : (x y : ℤ) → neg_ℤ x *ℤ neg_ℤ y ≡ x *ℤ y
      turned x y = ring_z (x ∷ y ∷ []) (search reading_z depth 40 fits 20000) refl

      up : (a j : ℕ) → negsuc a *ℤ neg_ℤ (pos j) ≡ pos (suc a * j)
      up a j = turned (pos (suc a)) (pos j)

module _ (q0 r0 : FactorList) (ms : List Match) (found : AreMatchesOf ms q0 r0) where
  is : IsNormalFormOf (whole_of q0 r0) q0 r0
  is = is_whole q0 r0

  same_matches : (whole_of q0 r0).matches ≡ ms
  same_matches = found (whole_of q0 r0) is

  -- the forms of a chain lie between a form of q0 and a form of r0 at k - 1
  pub have_chains : IsFormQuotient q0 r0 → AllByRecursion IsFactor q0.factors → AllByRecursion IsFactor r0.factors → AllByRecursion HasChain ms
  have_chains forms from_q from_r = all_follow (λ m. (m.power ≡ is.taken m.form m.shift) × (m.power ≢ 0)) HasChain ms (λ m t. chain m t)
      (subst (AllByRecursion (λ m. (m.power ≡ is.taken m.form m.shift) × (m.power ≢ 0))) same_matches is.matches.each)
    where
      chain : (m : Match) → (m.power ≡ is.taken m.form m.shift) × (m.power ≢ 0) → HasChain m
      chain m t =
          let some : is.taken m.form m.shift ≢ 0 = λ z. t.1 (t.0 ∙ z) in
          let above = some_above (whole_of q0 r0) q0 r0 is m.form m.shift some in
          let below = some_below (whole_of q0 r0) q0 r0 is m.form m.shift some in
          let first : IsForm m.form = by_power IsForm m.form q0.factors (all_more IsFactor (λ x. IsForm x.form) (λ x h. h.form) q0.factors from_q) above in
          let end : IsForm (at_earlier_k m.form (m.shift + 1)) = subst IsForm (earlier_again m.form m.shift)
          (by_power (λ f. IsForm (at_earlier_k f 1)) (at_earlier_k m.form m.shift) r0.factors forms.earlier below) in
          record {
            some = t.1;
            primitive = by_power IsPrimitive m.form q0.factors forms.primitive above;
            within = λ j l. record {
              n_slope = first.n_slope;
              k_slope = first.k_slope;
              offset = between m.form.offset (2 ^ 40) m.form.k_slope j (m.shift + 1) (omega (arith, l)) first.offset end.offset;
            };
          }

  module _ (from_q from_r : List Factor) (taken : AreTaken ms from_q from_r) where
    -- no more is taken than there is
    pub no_more_above : (f : LinearForm) → power_of f from_q ≤ power_of f q0.factors
    no_more_above f =
        let same : power_within f (matched form_above (whole_of q0 r0).matches) ≡ power_within f (matched form_above ms) =
        ap (λ (all : List Match). power_within f (matched form_above all)) same_matches in
        omega (arith, is.q.powers f, taken.above f, same)

    pub no_more_below : (f : LinearForm) → power_of f from_r ≤ power_of f r0.factors
    no_more_below f =
        let same : power_within f (matched form_below (whole_of q0 r0).matches) ≡ power_within f (matched form_below ms) =
        ap (λ (all : List Match). power_within f (matched form_below all)) same_matches in
        omega (arith, is.r.powers f, taken.below f, same)

    pub made_normal : (q r g poles : FactorList) → IsLeftOf q q0 from_q → IsLeftOf r r0 from_r → IsProductOf g (pos 1) (forms_further 0 ms)
        → IsProductOf poles (pos 1) (forms_further 1 ms)
        → IsNormalFormOf (record { matches = ms; q = q; r = r; g = g; poles = poles }) q0 r0
    made_normal q r g poles left_q left_r product chains = record {
      taken = is.taken;
      takes = is.takes;
      matches = subst (AreMatches is.taken) same_matches is.matches;
      q = record {
        scale = left_q.scale;
        sorted = left_q.sorted;
        some = left_q.some;
        powers = λ f. ap (λ n. power_of f q.factors + n) (sym (taken.above f)) ∙ left_q.powers f;
      };
      r = record {
        scale = left_r.scale;
        sorted = left_r.sorted;
        some = left_r.some;
        powers = λ f. ap (λ n. power_of f r.factors + n) (sym (taken.below f)) ∙ left_r.powers f;
      };
      g = subst (IsProductOf g (pos 1)) (further_none ms) product;
      poles = subst (IsProductOf poles (pos 1)) (further_one ms) chains;
    }

-- a normal form whose shifts are within the limit is what the steps give
pub steps_give : (q0 r0 : FactorList) (normal made : Normal) → IsNormalFormOf normal q0 r0 → IsNormalFormOf made q0 r0
    → shifts_counted made.matches ≤ 256 → (normal_steps normal).outcome ≡ Ok made
steps_give q0 r0 normal made p q few =
    ap (λ (x : Normal). (normal_steps x).outcome) (only_whole q0 r0 normal p ∙ sym (only_whole q0 r0 made q))
    ∙ tested_kept 0 made.matches made (omega (arith, few))
