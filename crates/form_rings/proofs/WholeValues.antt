-- Values of polynomials in n, and which of them are whole numbers.
use Rattle.std.proofs.Common.{◌≡◌, ◌≤◌, ◌*ℤ◌, ◌+ℤ◌, ℤ, IsTrue, List, [], ◌∷◌, map, length, get_or, refl, ap, sym, ◌∙◌, subst, arith, Result}
use Rattle.std.proofs.lemmas.List.{length-map}
use Rattle.ring_laws.specs.Meaning.{Meaning, number, listed, items, parted-joined}
use Rattle.ring_laws.specs.Answer.{GivesInBounds}
use Rattle.ring_laws.specs.declared.faults.RingFault.{RingFault}
use Rattle.ring_laws.specs.Wholes.{number_of, whole_algebra}
use Rattle.ring_laws.specs.declared.wholes.Whole.{Whole}
use Rattle.poly_laws.specs.Evaluation.{list_value}
use Rattle.poly_laws.specs.Lists.{trimmed, is_trimmed}
use Rattle.poly_laws.specs.Values.{horner, level}
use Rattle.poly_laws.proofs.Trimming.{trimmed_already, length-trimmed}

-- the value in the ring of whole numbers is a number
pub value_is : (n : ℤ) (ms : List Meaning) → list_value whole_algebra.ops (number n) ms ≡ number (horner number_of n ms)
value_is n [] = refl
value_is n (m ∷ ms) = ap (λ t. number (number_of m +ℤ n *ℤ number_of t)) (value_is n ms)

abbrev sense : List Whole → List Meaning
sense list = map (λ w. number w.value) list

-- one coefficient is a whole number
pub one_number : (list : List Whole) (w : Whole) → length list ≡ 1 → w ≡ get_or list 0 w
    → IsTrue (is_trimmed whole_algebra.ops (map (λ w. number w.value) list)) → listed (map (λ w. number w.value) list) ≡ (level 1).ops.whole w.value
one_number [] w e is ended = absurd (omega (arith, e))
one_number (x ∷ y ∷ ys) w e is ended = absurd (omega (arith, e))
one_number (x ∷ []) w e is ended =
    ap listed (sym (trimmed_already whole_algebra.ops (number x.value ∷ []) ended))
    ∙ ap (λ (t : Whole). (level 1).ops.whole t.value) (sym is)

-- more than one are none
pub no_number : (list : List Whole) (w : ℤ) → 2 ≤ length list → ¬ (listed (map (λ w. number w.value) list) ≡ (level 1).ops.whole w)
no_number list w many e =
    let same = ap length (sym (parted-joined (sense list)) ∙ ap items e ∙ parted-joined (trimmed whole_algebra.ops (number w ∷ []))) in
    absurd (omega (arith, many, same, length-map list (λ w. number w.value), length-trimmed whole_algebra.ops (number w ∷ [])))

-- a call that gives the value in the ring of whole numbers gives the number
pub value_given : (n : ℤ) (ms : List Meaning) (InBounds : Type 0) (r : Result Whole RingFault)
    → GivesInBounds (λ w. number w.value) InBounds (list_value whole_algebra.ops (number n) ms) r
    → GivesInBounds (λ w. number w.value) InBounds (number (horner number_of n ms)) r
value_given n ms InBounds r h = subst (λ m. GivesInBounds (λ w. number w.value) InBounds m r) (value_is n ms) h

-- the same list of meanings: trimmed as well
pub trimmed_too : (list other : List Whole) → listed (map (λ w. number w.value) list) ≡ listed (map (λ w. number w.value) other)
    → IsTrue (is_trimmed whole_algebra.ops (map (λ w. number w.value) other)) → IsTrue (is_trimmed whole_algebra.ops (map (λ w. number w.value) list))
trimmed_too list other e h =
    subst (λ ms. IsTrue (is_trimmed whole_algebra.ops ms)) (sym (sym (parted-joined (sense list)) ∙ ap items e ∙ parted-joined (sense other))) h
