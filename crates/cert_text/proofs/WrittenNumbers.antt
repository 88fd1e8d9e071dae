-- The steps of the printer's loop, over the numbers that it goes through.
use Rattle.std.proofs.Common.{◌≡◌, ◌≢◌, ℕ, zero, suc, ◌+◌, ◌<◌, ◌≤◌, List, [], ◌∷◌, ◌++◌, length, get_or, refl, ap, sym, arith, subst, Bool, true, false}
use Rattle.std.proofs.lemmas.List.{length-map}
use Rattle.std.specs.Prelude.{pos}
use Rattle.ring_laws.specs.Meaning.{Meaning, number, listed, items, parted-joined}
use Rattle.ring_laws.specs.declared.wholes.Whole.{Whole}
use Rattle.document_text.specs.Spelling.{polynomial_text}
use Rattle.cert_text.specs.PolynomialDocument.{in_k}
use Rattle.cert_text.specs.Printing.{numbers, monomial_in_k, placed_text}
use Rattle.cert_text.proofs.PolynomialText.{IsWritten, written_at_start, written_passed, written_more, finished_some, finished_none}

numbers_length : (ws : List Whole) → length (numbers ws) ≡ length ws
numbers_length ws = length-map ws (λ (w : Whole). number w.value)

number_at : (ws : List Whole) (p : ℕ) (w : Whole) → p < length ws → w ≡ get_or ws p w → number w.value ≡ get_or (numbers ws) p (number w.value)
number_at [] p w h e = absurd (omega arith)
number_at (v ∷ ws) zero w h e = ap (λ (x : Whole). number x.value) e
number_at (v ∷ ws) (suc p) w h e = number_at ws p w (omega arith) e

pub start : (old : List ℕ) (ws : List Whole) → IsWritten old old (numbers ws) true (length ws)
start old ws = subst (IsWritten old old (numbers ws) true) (numbers_length ws) (written_at_start old (numbers ws))

pub passed : (old text : List ℕ) (ws : List Whole) (first : Bool) (p q : ℕ) (w : Whole) → p ≡ q + 1 → p ≤ length ws → w ≡ get_or ws q w
    → w.value ≡ pos 0 → IsWritten old text (numbers ws) first p → IsWritten old text (numbers ws) first q
passed old text ws first p q w next within at z written =
    let e : p ≡ suc q = omega arith in
    written_passed old text (numbers ws) first q (number w.value) (omega (arith, numbers_length ws))
    (number_at ws q w (omega arith) at) z (subst (IsWritten old text (numbers ws) first) e written)

pub added : (old text new : List ℕ) (ws : List Whole) (first : Bool) (p q : ℕ) (w : Whole) → p ≡ q + 1 → p ≤ length ws → w ≡ get_or ws q w
    → w.value ≢ pos 0 → IsWritten old text (numbers ws) first p → new ≡ text ++ placed_text first (monomial_in_k w.value q)
    → IsWritten old new (numbers ws) false q
added old text new ws first p q w next within at n written pushed =
    let e : p ≡ suc q = omega arith in
    written_more old text new (numbers ws) first q (number w.value) w.value (omega (arith, numbers_length ws))
    (number_at ws q w (omega arith) at) refl n (subst (IsWritten old text (numbers ws) first) e written) pushed

-- once the power 0 is done
at_end : (old text : List ℕ) (ws : List Whole) (first : Bool) (p : ℕ) → p ≤ 0 → IsWritten old text (numbers ws) first p
    → IsWritten old text (items (listed (numbers ws))) first 0
at_end old text ws first p h written =
    let e : p ≡ 0 = omega arith in
    subst (λ (cs : List Meaning). IsWritten old text cs first 0) (sym (parted-joined (numbers ws))) (subst (IsWritten old text (numbers ws) first) e written)

pub ended_some : (old text : List ℕ) (ws : List Whole) (first : Bool) (p : ℕ) → p ≤ 0 → IsWritten old text (numbers ws) first p → first ≡ false
    → text ≡ old ++ polynomial_text (in_k (listed (numbers ws)))
ended_some old text ws first p h written e = finished_some old text (listed (numbers ws)) first (at_end old text ws first p h written) e

pub ended_none : (old text new : List ℕ) (ws : List Whole) (first : Bool) (p : ℕ) → p ≤ 0 → IsWritten old text (numbers ws) first p → first ≡ true
    → new ≡ text ++ 48 ∷ [] → new ≡ old ++ polynomial_text (in_k (listed (numbers ws)))
ended_none old text new ws first p h written e pushed =
    finished_none old text new (listed (numbers ws)) first (at_end old text ws first p h written) e pushed
