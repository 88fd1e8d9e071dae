-- The constants 1 and -1 have no linear factor: its value would be 2 or more somewhere.
use Rattle.std.proofs.Common.{◌≡◌, ℕ, zero, suc, ◌≤◌, [], ◌∷◌, refl, ap, sym, ◌∙◌, subst, arith}
use Rattle.std.proofs.lemmas.Int.{ints, unsigned_abs-mul}
use Rattle.std.proofs.Math.Nat.{dvd-mul_left, eq-one_of_dvd-one}
use Rattle.std.specs.Int.{◌∣◌}
use Rattle.std.specs.Prelude.{ℤ, pos, negsuc, ◌+ℤ◌, ◌*ℤ◌, ◌<ℤ◌, unsigned_abs}
use Rattle.ring_solver.proofs.Read.{ring_z, reading_z}
use Rattle.ring_laws.specs.Meaning.{Meaning, number, listed}
use Rattle.poly_laws.specs.Values.{level}
use Rattle.poly_divide.specs.Forms.{linear}
use Rattle.whole_roots.specs.LinearFactors.{PowerDivides, form_power, AreLinearFactors}
use Rattle.hyper_laws.specs.Recurrences.{value_at_n}
use Rattle.hyper_laws.proofs.Values.{product_value}

abbrev pub one : Meaning
one = listed (number (pos 1) ∷ [])

abbrev pub minus_one : Meaning
minus_one = listed (number (negsuc 0) ∷ [])

great : (u : ℕ) (v : ℤ) → 1 ≤ u → (n : ℤ) × (2 ≤ unsigned_abs (v +ℤ n *ℤ pos u))
great zero v b = absurd (omega (arith, b))
great (suc u) (pos k) b = (pos 2, bigger (pos k +ℤ pos 2 *ℤ pos (suc u)) (omega (arith, ints)))
  where
    bigger : (x : ℤ) → pos 1 <ℤ x → 2 ≤ unsigned_abs x
    bigger x c = omega (arith, ints, c)
great (suc u) (negsuc k) b = (negsuc 0, bigger (negsuc k +ℤ negsuc 0 *ℤ pos (suc u)) (omega (arith, ints)))
  where
    bigger : (x : ℤ) → x <ℤ negsuc 0 → 2 ≤ unsigned_abs x
    bigger x c = omega (arith, ints, c)

no_factor_of : (f : Meaning) (w : ℤ) → unsigned_abs w ≡ 1 → ((n : ℤ) → value_at_n f n ≡ w) → (u : ℕ) (v : ℤ) → 1 ≤ u → PowerDivides u v 1 f → ⊥
no_factor_of f w e h u v b d =
    let far = great u v b in
    let n : ℤ = far.0 in
    let x : ℤ = value_at_n d.quotient.0 n in
    let product : w ≡ x *ℤ (v +ℤ n *ℤ pos u) =
    sym (ap (λ g. value_at_n g n) d.is ∙ h n) ∙ product_value d.quotient.0 (form_power u v 1) n
    ∙ ap (λ t. x *ℤ t) (product_value (level 1).ops.unit (linear (pos u) v) n ∙ plain n (pos u) v) in
    let divides : unsigned_abs (v +ℤ n *ℤ pos u) ∣ 1 =
    subst (λ t. unsigned_abs (v +ℤ n *ℤ pos u) ∣ t) (sym (unsigned_abs-mul x (v +ℤ n *ℤ pos u)) ∙ ap unsigned_abs (sym product) ∙ e)
    (dvd-mul_left (unsigned_abs (v +ℤ n *ℤ pos u)) (unsigned_abs x)) in
    let single : unsigned_abs (v +ℤ n *ℤ pos u) ≡ 1 = eq-one_of_dvd-one divides in
    omega (arith, far.1, single)
  where
    plain : (n u v : ℤ) → (pos 1 +ℤ n *ℤ pos 0) *ℤ (v +ℤ n *ℤ (u +ℤ n *ℤ pos 0)) ≡ v +ℤ n *ℤ u
    plain n u v = ring_z (n ∷ u ∷ v ∷ []) (search reading_z depth 40 fits 20000) refl

one_everywhere : (w n : ℤ) → w +ℤ n *ℤ pos 0 ≡ w
one_everywhere w n = ring_z (w ∷ n ∷ []) (search reading_z depth 40 fits 20000) refl

pub none_of_first : AreLinearFactors minus_one []
none_of_first = record {
  rising = tt;
  each = tt;
  all = λ u v form d. no_factor_of minus_one (negsuc 0) refl (one_everywhere (negsuc 0)) u v form.from_one d;
}

pub none_of_last : AreLinearFactors one []
none_of_last = record {
  rising = tt;
  each = tt;
  all = λ u v form d. no_factor_of one (pos 1) refl (one_everywhere (pos 1)) u v form.from_one d;
}
