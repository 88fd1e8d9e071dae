-- The value of a list of whole numbers, and that of a difference.
use Rattle.std.specs.Prelude.{◌≡◌, ℕ, suc, ℤ, pos, negsuc, ◌+ℤ◌, ◌*ℤ◌, neg_ℤ, ◌<◌, ◌≤◌, ◌+◌, ◌-◌, List, [], ◌∷◌, map, drop, length, get_or, refl}
use Rattle.std.proofs.Common.{ap, sym, ◌∙◌, subst, arith}
use Rattle.std.proofs.lemmas.List.{drop_more, length-map}
use mathlib.Core.Path.{ap₂}
use Rattle.ring_laws.specs.Meaning.{Meaning, number, listed, items, parted-joined}
use Rattle.ring_laws.specs.Wholes.{number_of, whole_algebra}
use Rattle.ring_laws.specs.declared.wholes.Whole.{Whole}
use Rattle.poly_laws.specs.Shift.{poly_shift}
use Rattle.poly_laws.specs.Values.{horner}
use Rattle.poly_laws.proofs.Keeps.{value_at_keeps}
use Rattle.poly_laws.proofs.ShiftLaws.{value_at_shift}
use Rattle.whole_roots.specs.Signs.{sign_of, value}
use Rattle.whole_roots.specs.Differences.{difference, polynomials, iterated_difference, DifferenceInBounds, DifferencesInBounds}
use Rattle.whole_roots.specs.Turns.{IsTurn}
use Rattle.ring_solver.proofs.Read.{ring_z, reading_z}

of_wholes : (z : ℤ) (list : List Whole) → horner number_of z (map (λ (w : Whole). number w.value) list) ≡ horner (λ (w : Whole). w.value) z list
of_wholes z [] = refl
of_wholes z (w ∷ list) = ap (λ (t : ℤ). w.value +ℤ z *ℤ t) (of_wholes z list)

-- the value of a polynomial is that of its list of numbers
pub value_is : (z : ℤ) (m : Meaning) (list : List Whole) → listed (map (λ (w : Whole). number w.value) list) ≡ m
    → value m z ≡ horner (λ (w : Whole). w.value) z list
value_is z m list e =
    ap (λ (t : Meaning). horner number_of z (items t)) (sym e)
    ∙ ap (horner number_of z) (parted-joined (map (λ (w : Whole). number w.value) list))
    ∙ of_wholes z list

-- the coefficient of a power in front of those above it
pub value_step : (z : ℤ) (list : List Whole) (power : ℕ) (w : Whole) → power < length list → w ≡ get_or list power w
    → horner (λ (v : Whole). v.value) z (drop power list) ≡ w.value +ℤ z *ℤ horner (λ (v : Whole). v.value) z (drop (power + 1) list)
value_step z list power w b e =
    ap (horner (λ (v : Whole). v.value) z) (drop_more list power w b)
    ∙ ap (λ (v : Whole). v.value +ℤ z *ℤ horner (λ (v : Whole). v.value) z (drop (power + 1) list)) (sym e)

pub value_before : (z : ℤ) (list : List Whole) (power : ℕ) (w : Whole) → 0 < power → power ≤ length list → w ≡ get_or list (power - 1) w
    → horner (λ (v : Whole). v.value) z (drop (power - 1) list) ≡ w.value +ℤ z *ℤ horner (λ (v : Whole). v.value) z (drop power list)
value_before z list power w h b e =
    let n : power - 1 + 1 ≡ power = omega (arith, h) in
    value_step z list (power - 1) w (omega (arith, h, b)) e ∙ ap (λ (k : ℕ). w.value +ℤ z *ℤ horner (λ (v : Whole). v.value) z (drop k list)) n

-- the value of the difference
pub value_difference : (m : Meaning) (z : ℤ) → value (difference m) z ≡ value m (z +ℤ pos 1) +ℤ neg_ℤ (value m z)
value_difference m z =
    (value_at_keeps (z ∷ [])).sum (poly_shift whole_algebra.ops (pos 1) m) (polynomials.ops.neg m)
    ∙ ap₂ ◌+ℤ◌ (value_at_shift z (pos 1) [] m) ((value_at_keeps (z ∷ [])).neg m)

pub count_is : (m : Meaning) (list : List Whole) → listed (map (λ (w : Whole). number w.value) list) ≡ m → length (items m) ≡ length list
count_is m list e =
    ap (λ (t : Meaning). length (items t)) (sym e) ∙ ap length (parted-joined (map (λ (w : Whole). number w.value) list))
    ∙ length-map list (λ (w : Whole). number w.value)

-- a constant has the same value everywhere
constant : (list : List Whole) → length list < 2 → (x y : ℤ) → horner (λ (w : Whole). w.value) x list ≡ horner (λ (w : Whole). w.value) y list
constant [] h x y = refl
constant (w ∷ []) h x y =
    ap (λ (t : ℤ). w.value +ℤ t) (none x ∙ sym (none y))
  where
    none : (z : ℤ) → z *ℤ pos 0 ≡ pos 0
    none z = ring_z (z ∷ []) (search reading_z depth 40 fits 20000) refl
constant (v ∷ w ∷ list) h x y = absurd (omega (arith, h))

pub constant_turns : (m : Meaning) (list : List Whole) → listed (map (λ (w : Whole). number w.value) list) ≡ m → length list < 2
    → (z : ℤ) → ¬ (IsTurn (value m) z)
constant_turns m list e h z turn =
    turn (ap sign_of (value_is (z +ℤ negsuc 0) m list e ∙ constant list h (z +ℤ negsuc 0) z ∙ sym (value_is z m list e)))

-- the differences of the difference
pub differences_behind : (m d : Meaning) → d ≡ difference m → length (items d) < length (items m) → DifferencesInBounds m → DifferencesInBounds d
differences_behind m d e b h j within =
    subst (λ (t : Meaning). DifferenceInBounds (iterated_difference j t)) (sym e) (h (suc j) (omega (arith, b, within)))
