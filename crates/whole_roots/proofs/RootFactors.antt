-- A root of the stretched polynomial gives a factor, where slope and constant have no common divisor above 1.
use Rattle.std.specs.Prelude.{◌≡◌, ℕ, suc, ◌^◌, ℤ, pos, ◌+ℤ◌, ◌-ℤ◌, ◌*ℤ◌, neg_ℤ, unsigned_abs, List, [], ◌∷◌, length, refl}
use Rattle.std.specs.Int.{◌∣◌}
use Rattle.std.proofs.Common.{ap, sym, ◌∙◌}
use Rattle.std.proofs.Math.Nat.{pow-zero}
use Rattle.std.proofs.lemmas.List.{length-map}
use Rattle.ring_laws.specs.Meaning.{number, several, listed, items, parted-joined}
use Rattle.ring_laws.specs.Algebra.{Passing, same_passing}
use Rattle.ring_laws.specs.WholeLaws.{whole_laws}
use Rattle.ring_laws.specs.Wholes.{whole_algebra, number_of}
use Rattle.poly_laws.specs.Lists.{coefficient_at, trimmed}
use Rattle.poly_laws.specs.Values.{horner}
use Rattle.poly_laws.proofs.Coefficients.{meanings_of, meanings-coefficients, meanings_same, trimmed_passes, coefficients_same, coefficients-nought}
use Rattle.poly_laws.proofs.PolyLaws.{equal_coefficients, trimmed_at, product_same}
use Rattle.whole_roots.specs.Differences.{polynomials}
use Rattle.whole_roots.specs.FactorBounds.{stretched_list, stretched}
use Rattle.whole_roots.specs.LinearFactors.{IsProfileForm, PowerDivides}
use Rattle.whole_roots.specs.Roots.{IsRoot}
use Rattle.whole_roots.proofs.DifferenceLaws.{base}
use Rattle.whole_roots.proofs.FactorRoots.{times_form, stretched_value, none_times, same_list}
use Rattle.whole_roots.proofs.FormParts.{poly, parts, whole, form_parts}
use Rattle.whole_roots.proofs.FormPowers.{form, one_power}
use Rattle.whole_roots.proofs.NextParts.{moved, parted, single, next_part}

-- what belongs to the whole numbers is a number
number_is : (x : Passing whole_algebra) → x.0 ≡ number (number_of x.0)
number_is (number z, h) = refl
number_is (several xs, h) = cc

module _ (u : ℕ) (v : ℤ) (coprime : (d : ℕ) → d ∣ u → d ∣ unsigned_abs v → d ≡ 1) where
  -- a list with this value at -v is c and the products of another list with u*t + v
  from_value : (c x : Passing whole_algebra) (xs : List (Passing whole_algebra))
      → stretched_value u v (x ∷ xs) ≡ number_of c.0 *ℤ pos (u ^ length xs)
      → (qs : List (Passing whole_algebra)) × (x ∷ xs ≡ times_form base (whole (pos u)) (whole v) c qs)
  from_value c x [] h = (
    [],
    ap (λ (t : Passing whole_algebra). t ∷ [])
        (same_passing whole_algebra x c (number_is x
        ∙ ap number (single (number_of x.0) (number_of c.0) (neg_ℤ v) (u ^ 0) (pow-zero u) h) ∙ sym (number_is c))),
  )
  from_value c x (y ∷ ys) h =
      let n : length (meanings_of whole_algebra whole_laws.closed (y ∷ ys)) ≡ suc (length ys) =
      length-map (y ∷ ys) (λ (w : Passing whole_algebra). w.0) in
      let p = next_part u v coprime (number_of x.0 -ℤ number_of c.0) (stretched_value u v (y ∷ ys)) (length ys)
      (moved (number_of x.0) (number_of c.0) (pos (u ^ suc (length ys))) v (stretched_value u v (y ∷ ys))
      (ap (λ (k : ℕ). number_of x.0 *ℤ pos (u ^ k) +ℤ neg_ℤ v *ℤ stretched_value u v (y ∷ ys)) (sym n) ∙ h)) in
      let q = whole p.part in
      let r = from_value (base.product (whole (pos u)) q) y ys p.rest in
      let head : x ≡ base.sum (base.product (whole v) q) c =
      same_passing whole_algebra x (base.sum (base.product (whole v) q) c)
      (number_is x ∙ ap number (parted (v *ℤ p.part) (number_of x.0) (number_of c.0) (sym p.times))) in
      (q ∷ r.0, (λ i. head i ∷ r.1 i))

-- the polynomial of a list
of_list : List (Passing whole_algebra) → Passing polynomials
of_list qs =
    let m = meanings_of whole_algebra whole_laws.closed (trimmed base qs) in
    (listed m, trimmed_passes whole_algebra whole_laws.closed qs m refl)

of_list_parts : (qs : List (Passing whole_algebra)) → parts (of_list qs) ≡ trimmed base qs
unfolding of_list
of_list_parts qs =
    meanings_same whole_algebra whole_laws.closed (parts (of_list qs)) (trimmed base qs)
    (meanings-coefficients whole_algebra whole_laws.closed (of_list qs)
    ∙ parted-joined (meanings_of whole_algebra whole_laws.closed (trimmed base qs)))

module _ (u : ℕ) (v : ℤ) (profile : IsProfileForm u v) (f : Passing polynomials) where
  abbrev divisor : Passing polynomials
  divisor = form u v profile.from_one

  product_is : (qs : List (Passing whole_algebra)) → parts f ≡ times_form base (whole (pos u)) (whole v) base.nought qs
      → poly.product (of_list qs) divisor ≡ f
  product_is qs e =
      equal_coefficients whole_algebra whole_laws.closed whole_laws.ring (poly.product (of_list qs) divisor) f
      (λ k. product_same whole_algebra whole_laws.closed whole_laws.ring (of_list qs) divisor qs (whole v ∷ whole (pos u) ∷ [])
      (trimmed_at whole_algebra whole_laws.closed whole_laws.ring (of_list qs) qs (of_list_parts qs))
      (λ j. ap (λ t. coefficient_at base t j) (form_parts u v profile.from_one)) k
      ∙ same_list u v qs k ∙ ap (λ t. coefficient_at base t k) (sym e))

  value_is : IsRoot (stretched u f.0) (neg_ℤ v) → stretched_value u v (parts f) ≡ pos 0
  value_is root =
      ap (λ xs. horner number_of (neg_ℤ v) (stretched_list u xs)) (meanings-coefficients whole_algebra whole_laws.closed f)
      ∙ ap (horner number_of (neg_ℤ v)) (sym (parted-joined (stretched_list u (items f.0)))) ∙ root

  -- where -v is a root of u^degree * f(n/u), the form divides f
  pub root_gives_factor : IsRoot (stretched u f.0) (neg_ℤ v) → PowerDivides u v 1 f.0
  root_gives_factor root = by (parts f) refl
    where
      by : (xs : List (Passing whole_algebra)) → parts f ≡ xs → PowerDivides u v 1 f.0
      by [] e =
          one_power u v profile.from_one f poly.nought
          (ap (λ (x : Passing polynomials). x.0) (coefficients_same whole_algebra whole_laws.closed poly.nought f
          (coefficients-nought whole_algebra whole_laws.closed ∙ sym e)))
      by (x ∷ xs) e =
          let value : stretched_value u v (x ∷ xs) ≡ number_of base.nought.0 *ℤ pos (u ^ length xs) =
          ap (stretched_value u v) (sym e) ∙ value_is root ∙ sym (none_times u v (pos (u ^ length xs))) in
          let qs = from_value u v profile.coprime base.nought x xs value in
          one_power u v profile.from_one f (of_list qs.0) (ap (λ (y : Passing polynomials). y.0) (product_is qs.0 (e ∙ qs.1)))
