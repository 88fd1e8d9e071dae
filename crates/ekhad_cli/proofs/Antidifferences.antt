-- How the least antidifference comes from sixty times an antidifference, by the greatest common divisor.
use Rattle.std.proofs.Common.{◌≡◌, ◌≢◌, ℕ, zero, suc, ◌*◌, ◌<◌, ◌≤◌, ◌↔◌, List, [], ◌∷◌, length, get_or, refl, ap, sym, ◌∙◌, arith, subst, ⊎_elim}
use Rattle.std.proofs.lemmas.Int.{ints, unsigned_abs-mul}
use Rattle.std.proofs.lemmas.List.{get_or_default}
use Rattle.std.proofs.lemmas.Nat.Gcd.{dvd_refl, dvd_antisymm, le_of_dvd}
use Rattle.std.proofs.Math.Nat.{mul-dvd-mul_right, dvd_of_mul-dvd-mul_right, one-dvd, zero-dvd}
use Rattle.std.specs.Int.{◌∣◌}
use Rattle.std.specs.Prelude.{ℤ, pos, negsuc, ◌+ℤ◌, ◌-ℤ◌, ◌*ℤ◌, ◌<ℤ◌, unsigned_abs}
use Rattle.ring_solver.proofs.Integers.{integers}
use Rattle.ring_solver.proofs.Linear.{from1, product_zero, cancel}
use Rattle.ring_solver.proofs.Read.{ring_z, reading_z}
use Rattle.ekhad_cli.specs.Antidifference.{value_of, IsDifference, DividesAll, AreQuotients, IsLeastAntidifference}

-- the divisor is the greatest: 60 isn't 0, so it isn't, and it divides 60 and all numbers
divisor_positive : (g : ℕ) (numbers : List ℤ) → ((d : ℕ) → (d ∣ g) ↔ ((d ∣ 60) × DividesAll d numbers)) → 0 < g
divisor_positive zero numbers h = absurd (no (zero-dvd.0 ((h 0).0 (dvd_refl 0)).0))
  where
    no : ◌≡◌ {A = ℕ} 60 0 → ⊥
    no e = omega (arith, e)
divisor_positive (suc g) numbers h = omega arith

pub divisor_at_most_60 : (g : ℕ) (numbers : List ℤ) → ((d : ℕ) → (d ∣ g) ↔ ((d ∣ 60) × DividesAll d numbers)) → (0 < g) × (g ≤ 60)
divisor_at_most_60 g numbers h = (divisor_positive g numbers h, le_of_dvd (omega arith) ((h g).0 (dvd_refl g)).0)

-- the value of the numbers is the divisor times that of their quotients
quotients_value : (g : ℤ) (numbers quotients : List ℤ) → AreQuotients g numbers quotients → (k : ℤ) → value_of numbers k ≡ g *ℤ value_of quotients k
quotients_value g [] [] q k = ring_z (g ∷ []) (search reading_z depth 40 fits 20000) refl
quotients_value g [] (y ∷ ys) q k = absurd (omega (arith, q.as_many))
quotients_value g (x ∷ xs) [] q k = absurd (omega (arith, q.as_many))
quotients_value g (x ∷ xs) (y ∷ ys) q k =
    ap (λ z. z +ℤ k *ℤ value_of xs k) (sym (q.each 0 (omega arith)))
    ∙ ap (λ z. y *ℤ g +ℤ k *ℤ z) (quotients_value g xs ys (record { as_many = omega (arith, q.as_many); each = λ i h. q.each (suc i) (omega arith) }) k)
    ∙ ring_z (g ∷ y ∷ k ∷ value_of ys k ∷ []) (search reading_z depth 40 fits 20000) refl

-- what divides a quotient, times the divisor, divides the number
times_divisor : (d : ℕ) (a g n : ℤ) → a *ℤ g ≡ n → d ∣ unsigned_abs a → d * unsigned_abs g ∣ unsigned_abs n
times_divisor d a g n e h =
    subst (λ m. d * unsigned_abs g ∣ m) (sym (unsigned_abs-mul a g) ∙ ap unsigned_abs e) (mul-dvd-mul_right d h (unsigned_abs g))

-- no number but 1 divides all quotients by the greatest common divisor
only_one : (g : ℕ) (d : ℕ) → 0 < g → d * g ∣ g → d ≡ 1
only_one g d h e = dvd_antisymm (dvd_of_mul-dvd-mul_right d h (subst (λ m. d * g ∣ m) (units g) e)) (one-dvd d)
  where
    units : (g : ℕ) → g ≡ 1 * g
    units g = omega arith

cancelled : (a g l r : ℤ) → g ≢ pos 0 → a *ℤ g *ℤ l ≡ g *ℤ r → a *ℤ l ≡ r
cancelled a g l r n e =
    cancel g (a *ℤ l) r n (from1 integers (pos 1) e (ring_z (a ∷ g ∷ l ∷ r ∷ []) (search reading_z depth 40 fits 20000) refl))

-- The quotients by the greatest common divisor of 60 and sixty times an antidifference are the least antidifference.
pub least : (cs numbers quotients : List ℤ) (g a : ℤ) → pos 0 <ℤ g
    → ((d : ℕ) → (d ∣ unsigned_abs g) ↔ ((d ∣ 60) × DividesAll d numbers))
    → IsDifference (pos 60) cs numbers → 0 < length numbers → get_or numbers 0 (pos 0) ≡ pos 0
    → a *ℤ g ≡ pos 60 → AreQuotients g numbers quotients → IsLeastAntidifference cs a quotients
least cs numbers quotients g a positive greatest difference some first multiplier q = record {
  difference = λ k. cancelled a g (value_of cs k) (value_of quotients (k +ℤ pos 1) -ℤ value_of quotients k) not_zero
      (ap (λ z. z *ℤ value_of cs k) multiplier ∙ difference k
      ∙ ap (λ z. z -ℤ value_of numbers k) (quotients_value g numbers quotients q (k +ℤ pos 1))
      ∙ ap (λ z. g *ℤ value_of quotients (k +ℤ pos 1) -ℤ z) (quotients_value g numbers quotients q k)
      ∙ ring_z (g ∷ value_of quotients (k +ℤ pos 1) ∷ value_of quotients k ∷ []) (search reading_z depth 40 fits 20000) refl);
  positive = positive_factor a g positive multiplier;
  primitive = λ d divides all. only_one (unsigned_abs g) d (divisor_positive (unsigned_abs g) numbers greatest)
      ((greatest (d * unsigned_abs g)).1 (times_divisor d a g (pos 60) multiplier divides, each d all));
  no_constant = first_zero (get_or quotients 0 (pos 0)) (q.each 0 some ∙ first);
}
  where
    not_zero : g ≢ pos 0
    not_zero e = omega (arith, ints, positive, e)

    positive_factor : (a g : ℤ) → pos 0 <ℤ g → a *ℤ g ≡ pos 60 → pos 0 <ℤ a
    positive_factor (pos zero) g h e = absurd (omega (arith, ints, e))
    positive_factor (pos (suc a)) g h e = omega (arith, ints)
    positive_factor (negsuc a) (pos zero) h e = absurd (omega (arith, ints, h))
    positive_factor (negsuc a) (pos (suc g)) h e = absurd (omega (arith, ints, e))
    positive_factor (negsuc a) (negsuc g) h e = absurd (omega (arith, ints, h))

    each : (d : ℕ) → DividesAll d quotients → DividesAll (d * unsigned_abs g) numbers
    each d all i x h =
        subst (λ z. d * unsigned_abs g ∣ unsigned_abs z) (get_or_default numbers i (pos 0) x h)
        (times_divisor d (get_or quotients i (pos 0)) g (get_or numbers i (pos 0)) (q.each i h) (all i (pos 0) (omega (arith, h, q.as_many))))

    first_zero : (y : ℤ) → y *ℤ g ≡ pos 0 → y ≡ pos 0
    first_zero y e = ⊎_elim (λ p. p) (λ p. absurd (not_zero p)) (product_zero y g e)
