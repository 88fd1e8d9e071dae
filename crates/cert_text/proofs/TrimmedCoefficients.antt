-- A list of numbers with the coefficients of a polynomial is that polynomial, once it is trimmed.
use Rattle.std.specs.Prelude.{◌≡◌, ◌≤◌, length, ℕ, zero, suc, cond, IsTrue, List, [], ◌∷◌}
use Rattle.std.proofs.Common.{refl, ap, sym, ◌∙◌}
use Rattle.std.proofs.lemmas.Bool.{and_parts}
use Rattle.ring_laws.specs.Meaning.{Meaning, number, several, parted, listed, items, joined-parted}
use Rattle.ring_laws.specs.Wholes.{is_number, whole_algebra}
use Rattle.ring_laws.specs.WholeLaws.{whole_laws}
use Rattle.ring_laws.specs.declared.wholes.Whole.{Whole}
use Rattle.poly_laws.specs.Lists.{coefficient_at, in_front, trimmed, is_trimmed, SameCoefficients}
use Rattle.poly_laws.specs.PolyAlgebra.{every_passes}
use Rattle.poly_laws.specs.Values.{level}
use Rattle.poly_laws.proofs.Trimming.{trimmed_already}
use Rattle.poly_laws.proofs.Belonging.{value_passes, value_fits}
use Rattle.hypergeometric.specs.TermFacts.{IsPolynomial}
use Rattle.document_text.proofs.Totals.{number_at}
use Rattle.cert_text.specs.Printing.{numbers}
use Rattle.cert_text.specs.Reading.{value_in}

-- the whole numbers
abbrev ops : Rattle.ring_laws.specs.Algebra.Ops Meaning
ops = (level 0).ops

-- zeros are trimmed away
no_coefficients : (xs : List Meaning) → ((k : ℕ) → coefficient_at ops xs k ≡ ops.nought) → trimmed ops xs ≡ []
no_coefficients [] each = refl
no_coefficients (x ∷ xs) each =
    ap (in_front ops x) (no_coefficients xs (λ k. each (suc k))) ∙ ap (λ m. cond (ops.is_nought m) [] (x ∷ [])) (each 0)

-- what has the same coefficients is trimmed to the same
same_trimmed : (xs ys : List Meaning) → SameCoefficients ops xs ys → trimmed ops xs ≡ trimmed ops ys
same_trimmed [] ys same = sym (no_coefficients ys (λ k. sym (same k)))
same_trimmed (x ∷ xs) [] same = no_coefficients (x ∷ xs) same
same_trimmed (x ∷ xs) (y ∷ ys) same =
    ap (in_front ops x) (same_trimmed xs ys (λ k. same (suc k))) ∙ ap (λ m. in_front ops m (trimmed ops ys)) (same 0)

-- the coefficients of numbers
coefficient_is : (ws : List Whole) (k : ℕ) → coefficient_at ops (numbers ws) k ≡ number (value_in ws k)
coefficient_is [] k = refl
coefficient_is (w ∷ ws) zero = refl
coefficient_is (w ∷ ws) (suc k) = coefficient_is ws k

number_is : (cs : List Meaning) (k : ℕ) → IsTrue (every_passes is_number cs) → number (number_at cs k) ≡ coefficient_at ops cs k
number_is [] k all = refl
number_is (number z ∷ cs) zero all = refl
number_is (several xs ∷ cs) zero all = cc
number_is (c ∷ cs) (suc k) all = number_is cs k (and_parts (is_number c) (every_passes is_number cs) all).1

-- a polynomial is the list of its coefficients
pub is_polynomial : (ws : List Whole) (p : Meaning) → IsTrue ((level 1).passes p) → ((k : ℕ) → value_in ws k ≡ number_at (items p) k)
    → listed (trimmed ops (numbers ws)) ≡ p
is_polynomial ws (number z) passes same = cc
is_polynomial ws (several xs) passes same =
    let parts = and_parts (every_passes is_number (parted xs)) (is_trimmed ops (parted xs)) passes in
    ap listed (same_trimmed (numbers ws) (parted xs) (λ k. coefficient_is ws k ∙ ap number (same k) ∙ number_is (parted xs) k parts.0)
    ∙ trimmed_already ops (parted xs) parts.1) ∙ ap several (joined-parted xs)

-- a trimmed list of at most 256 numbers is a polynomial within bounds
pub list_bounded : (ws : List Whole) → IsTrue (is_trimmed ops (numbers ws)) → length ws ≤ 256 → IsPolynomial 1 (listed (numbers ws))
list_bounded ws ended short = record {
  passes = value_passes whole_algebra (λ (w : Whole). number w.value) (λ w. refl) ws ended;
  fits = value_fits whole_algebra whole_laws (λ (w : Whole). number w.value) (λ w. w.small) ws short;
}
