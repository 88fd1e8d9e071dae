-- The slope of a form that divides a polynomial divides its lead, and such a polynomial isn't constant.
use Rattle.std.specs.Prelude.{◌≡◌, ℕ, zero, suc, ◌-◌, ◌%◌, ◌≤◌, ◌<◌, ℤ, pos, ◌*ℤ◌, unsigned_abs, IsTrue, List, [], ◌∷◌, map, length, get_or, refl}
use Rattle.std.proofs.Common.{ap, sym, ◌∙◌, arith}
use Rattle.std.proofs.Math.Nat.{mul-mod_right}
use Rattle.std.proofs.lemmas.Int.{unsigned_abs-mul}
use Rattle.std.proofs.lemmas.List.{length-map}
use Rattle.ring_laws.specs.Meaning.{number, listed, parted-joined}
use Rattle.ring_laws.specs.Algebra.{Passing}
use Rattle.ring_laws.specs.WholeLaws.{whole_laws}
use Rattle.ring_laws.specs.Wholes.{whole_algebra, number_of}
use Rattle.ring_laws.specs.declared.wholes.Whole.{Whole}
use Rattle.poly_laws.specs.Lists.{coefficient_at, is_trimmed}
use Rattle.poly_laws.proofs.Coefficients.{meanings_of, meanings-coefficients}
use Rattle.poly_divide.specs.Forms.{linear}
use Rattle.whole_roots.specs.Differences.{polynomials}
use Rattle.whole_roots.specs.LinearFactors.{PowerDivides}
use Rattle.whole_roots.proofs.DifferenceLaws.{base, polynomial_of}
use Rattle.whole_roots.proofs.FactorRoots.{times_form_lead, times_form_length, product_none, product_form}
use Rattle.whole_roots.proofs.FormParts.{parts, whole}
use Rattle.whole_roots.proofs.FormPowers.{one_division}
use Rattle.whole_roots.proofs.Stretching.{numbers}

number_at : (ws : List Whole) (k : ℕ) (w : Whole) → k < length ws → w ≡ get_or ws k w → coefficient_at whole_algebra.ops (numbers ws) k ≡ number w.value
number_at [] k w b e = absurd (omega (arith, b))
number_at (x ∷ ws) zero w b e = ap (λ (t : Whole). number t.value) (sym e)
number_at (x ∷ ws) (suc k) w b e = number_at ws k w (omega (arith, b)) e

meaning_at : (xs : List (Passing whole_algebra)) (k : ℕ)
    → coefficient_at whole_algebra.ops (meanings_of whole_algebra whole_laws.closed xs) k ≡ (coefficient_at base xs k).0
meaning_at [] k = refl
meaning_at (x ∷ xs) zero = refl
meaning_at (x ∷ xs) (suc k) = meaning_at xs k

-- the lead of a product with u*n + v, and that it isn't constant
pub record HasSlope (u : ℕ) (list : List Whole) : Type 0 where
  pub long : 2 ≤ length list
  pub lead : (w : Whole) → w ≡ get_or list (length list - 1) w → (z : ℤ) × (w.value ≡ pos u *ℤ z)

pub no_rest : (u : ℕ) (list : List Whole) → HasSlope u list → (w : Whole) → w ≡ get_or list (length list - 1) w → unsigned_abs w.value % u ≡ 0
no_rest u list h w at =
    let l = h.lead w at in
    ap (λ (z : ℤ). unsigned_abs z % u) l.1 ∙ ap (λ (n : ℕ). n % u) (unsigned_abs-mul (pos u) l.0) ∙ mul-mod_right u (unsigned_abs l.0)

pub slope_divides : (u : ℕ) (v : ℤ) → 1 ≤ u → (list : List Whole) → IsTrue (is_trimmed whole_algebra.ops (map (λ (w : Whole). number w.value) list))
    → ¬ (list ≡ []) → PowerDivides u v 1 (listed (map (λ (w : Whole). number w.value) list)) → HasSlope u list
slope_divides u v some list ended n d = by (parts q) refl
  where
    f : Passing polynomials
    f = polynomial_of list ended

    q : Passing polynomials
    q = d.quotient

    is : polynomials.ops.product q.0 (linear (pos u) v) ≡ f.0
    is = one_division u v some f d

    same : meanings_of whole_algebra whole_laws.closed (parts f) ≡ numbers list
    same = meanings-coefficients whole_algebra whole_laws.closed f ∙ parted-joined (numbers list)

    count : length (parts f) ≡ length list
    count =
        sym (length-map (parts f) (λ (x : Passing whole_algebra). x.0)) ∙ ap length same ∙ length-map list (λ (w : Whole). number w.value)

    none : (xs : List Whole) → 0 ≡ length xs → xs ≡ []
    none [] e = refl
    none (x ∷ xs) e = absurd (omega (arith, e))

    by : (qs : List (Passing whole_algebra)) → parts q ≡ qs → HasSlope u list
    by [] e = absurd (n (none list (sym (ap length (product_none u v some f q is e)) ∙ count)))
    by (x ∷ xs) e =
        let form = product_form u v some f q is x xs e in
        let size : length list ≡ suc (suc (length xs)) =
        sym count ∙ ap length form ∙ times_form_length base whole_laws.ring (whole (pos u)) (whole v) base.nought (x ∷ xs) in
        let last : length list - 1 ≡ suc (length xs) = omega (arith, size) in
        record {
          long = omega (arith, size);
          lead = λ w at. (
            number_of (coefficient_at base (x ∷ xs) (length xs)).0,
            ap number_of
                (sym (number_at list (length list - 1) w (omega (arith, size)) at)
                ∙ (λ i. coefficient_at whole_algebra.ops (sym same i) (last i))
                ∙ meaning_at (parts f) (suc (length xs))
                ∙ ap (λ t. (coefficient_at base t (suc (length xs))).0) form
                ∙ ap (λ (t : Passing whole_algebra). t.0) (times_form_lead base whole_laws.ring (whole (pos u)) (whole v) base.nought x xs)),
          );
        }
