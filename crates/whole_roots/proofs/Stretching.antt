-- The list f_i * u^(degree - i): its numbers, one after another.
use Rattle.std.specs.Prelude.{◌≡◌, ℕ, zero, suc, ◌+◌, ◌*◌, ◌-◌, ◌^◌, ◌≤◌, ◌<◌, ℤ, pos, negsuc, ◌*ℤ◌, ◌≤ℤ◌, unsigned_abs, IsTrue, not, List, [], ◌∷◌, ◌++◌, map, drop, length, get_or, refl}
use Rattle.std.proofs.Common.{ap, sym, ◌∙◌, arith, pow-suc, mul_assoc, mul-le-mul_left}
use Rattle.std.proofs.Math.Nat.{pow-zero, pow-le-pow_right}
use Rattle.std.proofs.lemmas.Int.{ints, unsigned_abs-mul}
use Rattle.std.proofs.lemmas.List.{length-map, append-nil}
use Rattle.std.proofs.Math.ListN.{drop_of_length-le}
use Rattle.ring_laws.specs.Meaning.{Meaning, number, listed, items, parted-joined}
use Rattle.ring_laws.specs.Wholes.{whole_algebra, is_zero}
use Rattle.ring_laws.specs.declared.wholes.Whole.{Whole}
use Rattle.poly_laws.specs.Lists.{coefficient_at, is_trimmed}
use Rattle.ring_solver.proofs.Read.{ring_z, reading_z}
use Rattle.whole_roots.specs.FactorBounds.{stretched_list, stretched}

grouped : (n a b : ℤ) → n *ℤ a *ℤ b ≡ n *ℤ (a *ℤ b)
grouped n a b = ring_z (n ∷ a ∷ b ∷ []) (search reading_z depth 40 fits 20000) refl

-- one more power
pub one_more_power : (n s : ℤ) (t : ℕ) → pos 1 ≤ℤ s → n *ℤ pos (unsigned_abs s ^ t) *ℤ s ≡ n *ℤ pos (unsigned_abs s ^ (t + 1))
one_more_power n (pos u) t h =
    grouped n (pos (u ^ t)) (pos u) ∙ ap (λ (m : ℕ). n *ℤ pos m) (sym (pow-suc u t) ∙ ap (λ (k : ℕ). u ^ k) (omega arith))
one_more_power n (negsuc u) t h = absurd (omega (arith, ints, h))

-- what is too large after some powers is so after all
pub too_large_later : (n s : ℤ) (t power : ℕ) → pos 1 ≤ℤ s → t < power → unsigned_abs (n *ℤ pos (unsigned_abs s ^ power)) < 2 ^ 127
    → unsigned_abs (n *ℤ pos (unsigned_abs s ^ t)) * unsigned_abs s < 2 ^ 127
too_large_later n (pos u) t power h b small =
    let grows : u ^ suc t ≤ u ^ power = pow-le-pow_right (omega (arith, ints, h)) b in
    let more : unsigned_abs n * u ^ suc t ≤ unsigned_abs n * u ^ power = mul-le-mul_left (unsigned_abs n) grows in
    let first : unsigned_abs (n *ℤ pos (u ^ t)) * u ≡ unsigned_abs n * u ^ suc t =
    ap (λ (m : ℕ). m * u) (unsigned_abs-mul n (pos (u ^ t))) ∙ mul_assoc (unsigned_abs n) (u ^ t) u
    ∙ ap (λ (m : ℕ). unsigned_abs n * m) (sym (pow-suc u t)) in
    omega (arith, first, more, unsigned_abs-mul n (pos (u ^ power)), small)
too_large_later n (negsuc u) t power h b small = absurd (omega (arith, ints, h))

abbrev pub numbers : List Whole → List Meaning
numbers ws = map (λ (w : Whole). number w.value) ws

pub numbers_are : (m : Meaning) (ws : List Whole) → listed (numbers ws) ≡ m → items m ≡ numbers ws
numbers_are m ws e = ap items (sym e) ∙ parted-joined (numbers ws)

-- the number at an index
pub stretched_at : (u : ℕ) (ws : List Whole) (index : ℕ) (w : Whole) → index < length ws → w ≡ get_or ws index w
    → coefficient_at whole_algebra.ops (stretched_list u (numbers ws)) index ≡ number (w.value *ℤ pos (u ^ (length ws - 1 - index)))
stretched_at u [] index w b e = absurd (omega (arith, b))
stretched_at u (x ∷ xs) zero w b e =
    let n : length (numbers xs) ≡ suc (length xs) - 1 - 0 = length-map xs (λ (v : Whole). number v.value) ∙ omega arith in
    (λ i. number ((sym e i).value *ℤ pos (u ^ n i)))
stretched_at u (x ∷ xs) (suc k) w b e =
    let n : length xs - 1 - k ≡ suc (length xs) - 1 - suc k = omega (arith, b) in
    stretched_at u xs k w (omega (arith, b)) e ∙ ap (λ (t : ℕ). number (w.value *ℤ pos (u ^ t))) n

-- no coefficient is left
pub all_stretched : (u : ℕ) (done ws : List Whole) (index : ℕ) (xs : List Meaning) → length ws ≤ index
    → numbers done ++ stretched_list u (numbers (drop index ws)) ≡ xs → numbers done ≡ xs
all_stretched u done ws index xs b h =
    sym (append-nil (numbers done)) ∙ ap (λ (t : List Whole). numbers done ++ stretched_list u (numbers t)) (sym (drop_of_length-le ws b)) ∙ h

times_one : (z : ℤ) → z *ℤ pos 1 ≡ z
times_one z = ring_z (z ∷ []) (search reading_z depth 40 fits 20000) refl

pub stretched_length : (u : ℕ) (xs : List Meaning) → length (stretched_list u xs) ≡ length xs
stretched_length u [] = refl
stretched_length u (x ∷ xs) = ap suc (stretched_length u xs)

-- the last number is the last coefficient
pub stretched_ended : (u : ℕ) (ws : List Whole) → IsTrue (is_trimmed whole_algebra.ops (numbers ws))
    → IsTrue (is_trimmed whole_algebra.ops (stretched_list u (numbers ws)))
stretched_ended u [] h = refl
stretched_ended u (w ∷ []) h = ap (λ (z : ℤ). not (is_zero z)) (ap (λ (n : ℕ). w.value *ℤ pos n) (pow-zero u) ∙ times_one w.value) ∙ h
stretched_ended u (w ∷ x ∷ xs) h = stretched_ended u (x ∷ xs) h

-- a stretched polynomial isn't zero
pub stretched_not_zero : (u : ℕ) (ws : List Whole) (g : Meaning) → g ≡ stretched u (listed (numbers ws)) → ¬ (listed (numbers ws) ≡ listed [])
    → ¬ (g ≡ listed [])
stretched_not_zero u [] g e n h = n refl
stretched_not_zero u (w ∷ ws) g e n h = absurd (omega (arith, ap (λ (m : Meaning). length (items m)) (sym e ∙ h)))
