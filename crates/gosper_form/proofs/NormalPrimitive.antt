-- Primitive forms stay primitive at an earlier k, and are their own primitive parts.
use Rattle.std.proofs.Common.{◌≡◌, ℕ, zero, suc, ◌+◌, List, [], ◌∷◌, ◌++◌, refl, sym, ◌∙◌, subst, arith, ◌⊎◌, inl, inr}
use Rattle.std.proofs.lemmas.Int.{ints, unsigned_abs-mul}
use Rattle.std.proofs.lemmas.Nat.Gcd.{dvd_trans}
use Rattle.std.proofs.Math.Nat.{dvd-add, dvd-add_iff_left, dvd-mul_right}
use Rattle.std.specs.Int.{◌∣◌}
use Rattle.std.specs.List.{AllByRecursion}
use Rattle.std.specs.Prelude.{ℤ, pos, negsuc, neg_ℤ, ◌+ℤ◌, ◌*ℤ◌, unsigned_abs, cond}
use Rattle.ring_solver.proofs.Read.{ring_z, reading_z}
use lib.IntN.{pow, *ℤ_comm}
use Rattle.hypergeometric.specs.LinearForm.{LinearForm, Factor}
use Rattle.hypergeometric.specs.FormOrder.{IsPositiveFirst, IsPrimitive}
use Rattle.hypergeometric.specs.FactorLists.{same_form}
use Rattle.hypergeometric.specs.Forms.{form_with, multiple}
use Rattle.hypergeometric.specs.PrimitiveForm.{content_of_form, primitive_form}
use Rattle.hypergeometric.proofs.Contents.{k_slope_times, n_slope_times, offset_times}
use Rattle.hypergeometric.proofs.OnlyPrimitive.{only_primitive}
use Rattle.hypergeometric.proofs.PrimitiveForms.{IsNotZero}
use Rattle.hypergeometric.proofs.PrimitiveParts.{primitive_is}
use Rattle.term_pieces.specs.Products.{power_among, contents_of}
use Rattle.term_pieces.specs.NormalForm.{at_earlier_k, power_within}
use Rattle.gosper_form.proofs.NormalShifted.{without_k}

-- the magnitude of a sum is the sum of the magnitudes, or their difference
sum_size : (y z : ℤ) → (unsigned_abs (y +ℤ z) ≡ unsigned_abs y + unsigned_abs z)
    ⊎ ((unsigned_abs y ≡ unsigned_abs (y +ℤ z) + unsigned_abs z) ⊎ (unsigned_abs z ≡ unsigned_abs (y +ℤ z) + unsigned_abs y))
sum_size (pos a) (pos b) = inl (omega (arith, ints))
sum_size (negsuc a) (negsuc b) = inl (omega (arith, ints))
sum_size (pos a) (negsuc b) = by (pos a +ℤ negsuc b) refl
  where
    by : (x : ℤ) → pos a +ℤ negsuc b ≡ x → (unsigned_abs x ≡ unsigned_abs (pos a) + unsigned_abs (negsuc b))
        ⊎ ((unsigned_abs (pos a) ≡ unsigned_abs x + unsigned_abs (negsuc b)) ⊎ (unsigned_abs (negsuc b) ≡ unsigned_abs x + unsigned_abs (pos a)))
    by (pos x) e = inr (inl (omega (arith, ints, e)))
    by (negsuc x) e = inr (inr (omega (arith, ints, e)))
sum_size (negsuc a) (pos b) = by (negsuc a +ℤ pos b) refl
  where
    by : (x : ℤ) → negsuc a +ℤ pos b ≡ x → (unsigned_abs x ≡ unsigned_abs (negsuc a) + unsigned_abs (pos b))
        ⊎ ((unsigned_abs (negsuc a) ≡ unsigned_abs x + unsigned_abs (pos b)) ⊎ (unsigned_abs (pos b) ≡ unsigned_abs x + unsigned_abs (negsuc a)))
    by (pos x) e = inr (inr (omega (arith, ints, e)))
    by (negsuc x) e = inr (inl (omega (arith, ints, e)))

divides_sum : (d : ℕ) (y z : ℤ) → d ∣ unsigned_abs y → d ∣ unsigned_abs z → d ∣ unsigned_abs (y +ℤ z)
divides_sum d y z a b = by (sum_size y z)
  where
    by : ((unsigned_abs (y +ℤ z) ≡ unsigned_abs y + unsigned_abs z)
        ⊎ ((unsigned_abs y ≡ unsigned_abs (y +ℤ z) + unsigned_abs z) ⊎ (unsigned_abs z ≡ unsigned_abs (y +ℤ z) + unsigned_abs y)))
        → d ∣ unsigned_abs (y +ℤ z)
    by (inl e) = subst (λ m. d ∣ m) (sym e) (dvd-add d a b)
    by (inr (inl e)) = (dvd-add_iff_left d b).1 (subst (λ m. d ∣ m) e a)
    by (inr (inr e)) = (dvd-add_iff_left d a).1 (subst (λ m. d ∣ m) e b)

pub primitive_earlier : (s : LinearForm) (j : ℕ) → IsPrimitive s → IsPrimitive (at_earlier_k s j)
primitive_earlier s j p = record {
  first = first p.first;
  coprime = λ d k n o. p.coprime d k n
      (subst (λ z. d ∣ unsigned_abs z) (there s.offset s.k_slope (pos j))
      (divides_sum d (s.offset +ℤ s.k_slope *ℤ neg_ℤ (pos j)) (s.k_slope *ℤ pos j) o (times d s.k_slope (pos j) k)));
}
  where
    there : (o t h : ℤ) → (o +ℤ t *ℤ neg_ℤ h) +ℤ t *ℤ h ≡ o
    there o t h = ring_z (o ∷ t ∷ h ∷ []) (search reading_z depth 40 fits 20000) refl

    times : (d : ℕ) (y z : ℤ) → d ∣ unsigned_abs y → d ∣ unsigned_abs (y *ℤ z)
    times d y z a = subst (λ m. d ∣ m) (sym (unsigned_abs-mul y z)) (dvd_trans d a (dvd-mul_right (unsigned_abs y) (unsigned_abs z)))

    first : IsPositiveFirst s → IsPositiveFirst (at_earlier_k s j)
    first (inl a) = inl a
    first (inr (inl a)) = inr (inl a)
    first (inr (inr a)) = subst IsPositiveFirst (sym (without_k s j a.0)) (inr (inr a))

not_zero : (f : LinearForm) → IsPositiveFirst f → IsNotZero f
not_zero f (inl a) z = omega (arith, ints, a, z.0)
not_zero f (inr (inl a)) z = omega (arith, ints, a.1, z.1)
not_zero f (inr (inr a)) z = omega (arith, ints, a.2, z.2)

-- a primitive form has the content 1
pub own_primitive : (f : LinearForm) → IsPrimitive f → (content_of_form f ≡ pos 1) × (primitive_form f ≡ f)
own_primitive f p =
    only_primitive (content_of_form f) (pos 1) (primitive_form f) f (whole ∙ sym once) (λ z. some (parts (sym whole ∙ z)))
    (primitive_is f some) p
  where
    some : IsNotZero f
    some = not_zero f p.first

    whole : multiple (content_of_form f) (primitive_form f) ≡ f
    whole = λ i. form_with ((*ℤ_comm (content_of_form f) (primitive_form f).n_slope ∙ n_slope_times f) i)
        ((*ℤ_comm (content_of_form f) (primitive_form f).k_slope ∙ k_slope_times f) i)
        ((*ℤ_comm (content_of_form f) (primitive_form f).offset ∙ offset_times f) i)

    one_times : (z : ℤ) → pos 1 *ℤ z ≡ z
    one_times z = ring_z (z ∷ []) (search reading_z depth 40 fits 20000) refl

    once : multiple (pos 1) f ≡ f
    once = λ i. form_with (one_times f.n_slope i) (one_times f.k_slope i) (one_times f.offset i)

    parts : f ≡ form_with (pos 0) (pos 0) (pos 0) → (f.k_slope ≡ pos 0) × (f.n_slope ≡ pos 0) × (f.offset ≡ pos 0)
    parts e = (λ i. (e i).k_slope, λ i. (e i).n_slope, λ i. (e i).offset)

abbrev pub ArePrimitive : List Factor → Type 0
ArePrimitive xs = AllByRecursion (λ x. IsPrimitive x.form) xs

pub primitive_joined : (xs ys : List Factor) → ArePrimitive xs → ArePrimitive ys → ArePrimitive (xs ++ ys)
primitive_joined [] ys p q = q
primitive_joined (x ∷ xs) ys p q = (p.0, primitive_joined xs ys p.1 q)

-- primitive forms count for themselves, and leave the number 1
pub primitive_powers : (f : LinearForm) (xs : List Factor) → ArePrimitive xs → power_among f xs ≡ power_within f xs
primitive_powers f [] p = refl
primitive_powers f (x ∷ xs) p = λ i. cond (same_form f ((own_primitive x.form p.0).1 i)) x.power 0 + primitive_powers f xs p.1 i

times_one : (z : ℤ) → z *ℤ pos 1 ≡ z
times_one z = ring_z (z ∷ []) (search reading_z depth 40 fits 20000) refl

power_one : (p : ℕ) → pow (pos 1) p ≡ pos 1
unfolding lib.IntN.pow lib.IntN.one
power_one zero = refl
power_one (suc p) = times_one (pow (pos 1) p) ∙ power_one p

pub primitive_contents : (xs : List Factor) → ArePrimitive xs → contents_of xs ≡ pos 1
primitive_contents [] p = refl
primitive_contents (x ∷ xs) p = (λ i. pow ((own_primitive x.form p.0).0 i) x.power *ℤ primitive_contents xs p.1 i)
    ∙ times_one (pow (pos 1) x.power) ∙ power_one x.power
