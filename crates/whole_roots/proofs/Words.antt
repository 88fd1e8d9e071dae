-- Horner's rule with two words.
use Rattle.std.specs.Prelude.{◌≡◌, ℕ, ◌≤◌, ◌<◌, ◌+◌, ◌*◌, ◌-◌, ◌^◌, ℤ, pos, ◌+ℤ◌, ◌*ℤ◌, unsigned_abs, [], ◌∷◌, refl}
use Rattle.std.proofs.Common.{sym, ◌∙◌, subst, arith, mul-le-mul, to_z, of_z}
use Rattle.std.specs.Int.{w128}
use Rattle.std.proofs.lemmas.Int.{ints, to_z-of_z, fits_signed_from_abs}
use Rattle.ring_solver.proofs.Read.{ring_z, reading_z}

-- a sum that is held in 127 bits
pub sum_held : (a t : ℤ) → unsigned_abs a ≤ 2 ^ 80 → unsigned_abs t ≤ 2 ^ 80
    → to_z w128 (of_z w128 (to_z w128 (of_z w128 a) +ℤ to_z w128 (of_z w128 t))) ≡ a +ℤ t
sum_held a t p q =
    (λ i. to_z w128 (of_z w128 (to_z-of_z w128 a (fits_signed_from_abs w128 a (omega (arith, p))) i
    +ℤ to_z-of_z w128 t (fits_signed_from_abs w128 t (omega (arith, q))) i)))
    ∙ to_z-of_z w128 (a +ℤ t) (fits_signed_from_abs w128 (a +ℤ t) (omega (arith, ints, p, q)))

pub sum_grows : (a t : ℤ) (bound n : ℕ) → unsigned_abs a ≤ bound → unsigned_abs t ≤ n * bound → unsigned_abs (a +ℤ t) ≤ (n + 1) * bound
sum_grows a t bound n p q = omega (arith, ints, p, q)

-- Horner's rule word by word
pub words_step : (item at v above below high low : ℤ) → item ≡ above *ℤ pos (2 ^ 64) +ℤ below → v ≡ high *ℤ pos (2 ^ 64) +ℤ low
    → item +ℤ at *ℤ v ≡ (above +ℤ at *ℤ high) *ℤ pos (2 ^ 64) +ℤ (below +ℤ at *ℤ low)
words_step item at v above below high low e h =
    (λ i. e i +ℤ at *ℤ h i) ∙ identity at above below high low (pos (2 ^ 64))
  where
    identity : (at above below high low word : ℤ)
        → above *ℤ word +ℤ below +ℤ at *ℤ (high *ℤ word +ℤ low) ≡ (above +ℤ at *ℤ high) *ℤ word +ℤ (below +ℤ at *ℤ low)
    identity at above below high low word = ring_z (at ∷ above ∷ below ∷ high ∷ low ∷ word ∷ []) (search reading_z depth 40 fits 20000) refl

pub near_bound : (a t high : ℤ) (bound l p : ℕ) → bound ≤ 2 ^ 64 → l ≤ 256 → 0 < p → p ≤ l → unsigned_abs a ≤ bound → unsigned_abs t ≤ unsigned_abs high
    → unsigned_abs high ≤ (l - p) * bound
    → (unsigned_abs a ≤ 2 ^ 80) × ((unsigned_abs t ≤ 2 ^ 80) × (unsigned_abs (a +ℤ t) ≤ (l - (p - 1)) * bound))
near_bound a t high bound l p b short h k e f g =
    let n : l - (p - 1) ≡ l - p + 1 = omega (arith, h, k) in
    let c : (l - p) * bound ≤ 256 * 2 ^ 64 = small (l - p) bound (omega (arith, short)) b in (
      omega (arith, e, b),
      (
        omega (arith, f, g, c),
        subst (λ (m : ℕ). unsigned_abs (a +ℤ t) ≤ m * bound) (sym n) (sum_grows a t bound (l - p) e (omega (arith, f, g))),
      ),
    )
  where
    small : (m c : ℕ) → m ≤ 256 → c ≤ 2 ^ 64 → m * c ≤ 256 * 2 ^ 64
    small m c p q = mul-le-mul p q
