-- The lead of a polynomial and of its negative.
use Rattle.std.proofs.Common.{◌≡◌, zero, suc, ◌-◌, ℤ, pos, negsuc, ◌<ℤ◌, not, IsTrue, List, [], ◌∷◌, map, length, refl, ap, ◌∙◌, sym, arith, inl, inr, Result, Ok, Err, IfOk}
use Rattle.std.proofs.lemmas.Int.{ints}
use Rattle.std.proofs.lemmas.List.{length-map}
use Rattle.ring_laws.specs.Meaning.{Meaning, number, listed, items, parted-joined}
use Rattle.ring_laws.specs.Answer.{Gives}
use Rattle.ring_laws.specs.Wholes.{number_of, is_zero, whole_algebra}
use Rattle.ring_laws.specs.declared.wholes.Whole.{Whole}
use Rattle.ring_laws.specs.declared.faults.RingFault.{RingFault}
use Rattle.poly_laws.specs.Lists.{coefficient_at, is_trimmed}
use Rattle.whole_roots.specs.Differences.{polynomials}
use Rattle.reducing.specs.PolynomialRows.{lead_number}
use Rattle.reducing.specs.Laws.PolynomialReduction.{lead_negative}
use Rattle.reducing.specs.PolynomialAnswers.{HasPositiveLead}
use Rattle.reducing.proofs.Polynomials.{Zn, sense, sense_passes}

zero_isnt : (m : Meaning) → IsTrue (not (is_zero (number_of m))) → ¬ (number_of m ≡ pos 0)
zero_isnt m h e = cc (h, ap is_zero e)

last_nonzero : (ms : List Meaning) → IsTrue (is_trimmed whole_algebra.ops ms) → ¬ (ms ≡ [])
    → ¬ (number_of (coefficient_at whole_algebra.ops ms (length ms - 1)) ≡ pos 0)
last_nonzero [] h n e = n refl
last_nonzero (m ∷ []) h n e = zero_isnt m h e
last_nonzero (m ∷ k ∷ ks) h n e =
    let s : length (m ∷ k ∷ ks) - 1 ≡ suc (length (k ∷ ks) - 1) = omega arith in
    last_nonzero (k ∷ ks) h (λ t. cc) (ap (λ i. number_of (coefficient_at whole_algebra.ops (m ∷ k ∷ ks) i)) (sym s) ∙ e)

lead_isnt : (f : Zn) → ¬ (sense f ≡ polynomials.ops.nought) → ¬ (lead_number (sense f) ≡ pos 0)
lead_isnt f n e =
    last_nonzero (map (λ w. number w.value) f.list.items) f.ended (λ t. n (ap listed t))
    (sym (ap (λ ms. number_of (coefficient_at whole_algebra.ops ms (length ms - 1))) (parted-joined (map (λ w. number w.value) f.list.items))) ∙ e)

pub lead_of_negative : (f : Zn) (r : Result Zn RingFault) → Gives sense (polynomials.ops.neg (sense f)) r → lead_number (sense f) <ℤ pos 0
    → IfOk r (λ out. HasPositiveLead (sense f) (sense out))
lead_of_negative f (Ok out) g h = record {
  is = inr g;
  positive = λ n. omega (arith, ints, h, ap lead_number g, lead_negative (sense f, sense_passes f));
}
lead_of_negative f (Err fault) g h = tt

pub lead_as_it_is : (f : Zn) → ¬ (lead_number (sense f) <ℤ pos 0) → HasPositiveLead (sense f) (sense f)
lead_as_it_is f h = record { is = inl refl; positive = λ n. above (lead_number (sense f)) h (lead_isnt f n) }
  where
    above : (z : ℤ) → ¬ (z <ℤ pos 0) → ¬ (z ≡ pos 0) → pos 0 <ℤ z
    above (pos zero) p q = absurd (q refl)
    above (pos (suc n)) p q = omega (arith, ints)
    above (negsuc n) p q = absurd (p (omega (arith, ints)))

-- a polynomial that is 1 has one number
pub one_number : (list : List Whole) (f : Meaning) → listed (map (λ w. number w.value) list) ≡ f → f ≡ polynomials.ops.unit → length list ≡ 1
one_number list f e h =
    omega (arith, length-map list (λ w. number w.value), ap length (sym (parted-joined (map (λ w. number w.value) list)) ∙ ap items (e ∙ h)))
