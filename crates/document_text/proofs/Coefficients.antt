-- Polynomials with the same coefficients are the same meaning.
use Rattle.std.specs.Prelude.{◌≡◌, ℕ, zero, suc, pos, Bool, IsTrue, List, [], ◌∷◌, get_or}
use Rattle.std.proofs.Common.{refl, ap, sym, ◌∙◌}
use Rattle.std.proofs.lemmas.Bool.{and_parts, both_ways, not-true}
use Rattle.ring_laws.specs.Meaning.{Meaning, number, several, joined, parted, listed, items, joined-parted}
use Rattle.ring_laws.specs.Algebra.{Ops, Algebra}
use Rattle.ring_laws.specs.Wholes.{is_number, number_of, whole_algebra}
use Rattle.poly_laws.specs.Lists.{coefficient_at, is_trimmed, SameCoefficients}
use Rattle.poly_laws.specs.PolyAlgebra.{every_passes, poly_passes}
use Rattle.poly_laws.specs.Values.{level}
use Rattle.document_text.proofs.Totals.{number_at, number_in}

module _ (o : Ops Meaning) (zero_is : IsTrue (o.is_nought o.nought)) where
  -- a trimmed list that isn't empty has a coefficient other than nought
  not_all_nought : (x : Meaning) (xs : List Meaning) → IsTrue (is_trimmed o (x ∷ xs)) → ((k : ℕ) → coefficient_at o (x ∷ xs) k ≡ o.nought) → ⊥
  not_all_nought x [] trimmed all = both_ways (o.is_nought x) (not-true (o.is_nought x) trimmed) (ap o.is_nought (all zero) ∙ zero_is)
  not_all_nought x (y ∷ ys) trimmed all = not_all_nought y ys trimmed (λ k. all (suc k))

  -- without its first coefficient a trimmed list is trimmed
  tail_trimmed : (x : Meaning) (xs : List Meaning) → IsTrue (is_trimmed o (x ∷ xs)) → IsTrue (is_trimmed o xs)
  tail_trimmed x [] trimmed = refl
  tail_trimmed x (y ∷ ys) trimmed = trimmed

  -- trimmed lists with the same coefficients are the same
  trimmed_equal : (xs ys : List Meaning) → IsTrue (is_trimmed o xs) → IsTrue (is_trimmed o ys) → SameCoefficients o xs ys → xs ≡ ys
  trimmed_equal [] [] t u same = refl
  trimmed_equal [] (y ∷ ys) t u same = absurd (not_all_nought y ys u (λ k. sym (same k)))
  trimmed_equal (x ∷ xs) [] t u same = absurd (not_all_nought x xs t same)
  trimmed_equal (x ∷ xs) (y ∷ ys) t u same =
      let first : x ≡ y = same zero in
      let rest = trimmed_equal xs ys (tail_trimmed x xs t) (tail_trimmed y ys u) (λ k. same (suc k)) in
      λ i. first i ∷ rest i

-- what every item and the default passes, each coefficient passes
each_passes : (test : Meaning → Bool) (d : Meaning) → IsTrue (test d) → (xs : List Meaning)
    → IsTrue (every_passes test xs) → (k : ℕ) → IsTrue (test (get_or xs k d))
each_passes test d h [] all k = h
each_passes test d h (x ∷ xs) all zero = (and_parts (test x) (every_passes test xs) all).0
each_passes test d h (x ∷ xs) all (suc k) = each_passes test d h xs (and_parts (test x) (every_passes test xs) all).1 k

-- what it is for a polynomial to belong to its ring, on the list of its coefficients
passing_parts : (a : Algebra) (p : Meaning) → IsTrue (poly_passes a p)
    → IsTrue (every_passes a.passes (items p)) × IsTrue (is_trimmed a.ops (items p))
passing_parts a (number z) h = cc
passing_parts a (several xs) h = and_parts (every_passes a.passes (parted xs)) (is_trimmed a.ops (parted xs)) h

-- polynomials of one list are the same, and so are numbers of one value
same_items : (a : Algebra) (p q : Meaning) → IsTrue (poly_passes a p) → IsTrue (poly_passes a q) → items p ≡ items q → p ≡ q
same_items a (number z) q h k e = cc
same_items a (several xs) (number z) h k e = cc
same_items a (several xs) (several ys) h k e = ap several (sym (joined-parted xs) ∙ ap joined e ∙ joined-parted ys)

same_number : (x y : Meaning) → IsTrue (is_number x) → IsTrue (is_number y) → number_of x ≡ number_of y → x ≡ y
same_number (number v) (number w) h k e = ap number e
same_number (number v) (several ys) h k e = cc
same_number (several xs) y h k e = cc

-- polynomials with equal coefficients in their ring are the same
equal_polynomials : (a : Algebra) → IsTrue (a.ops.is_nought a.ops.nought) → (p q : Meaning) → IsTrue (poly_passes a p) → IsTrue (poly_passes a q)
    → SameCoefficients a.ops (items p) (items q) → p ≡ q
equal_polynomials a zero_is p q h k same =
    same_items a p q h k (trimmed_equal a.ops zero_is (items p) (items q) (passing_parts a p h).1 (passing_parts a q k).1 same)

-- polynomials in n of the same coefficients
pub equal_in_n : (p q : Meaning) → IsTrue ((level 1).passes p) → IsTrue ((level 1).passes q)
    → ((a : ℕ) → number_at (items p) a ≡ number_at (items q) a) → p ≡ q
equal_in_n p q h k same = equal_polynomials whole_algebra refl p q h k
    (λ a. same_number _ _ (each_passes is_number (number (pos 0)) refl (items p) (passing_parts whole_algebra p h).0 a)
    (each_passes is_number (number (pos 0)) refl (items q) (passing_parts whole_algebra q k).0 a) (same a))

-- polynomials in n and k of the same coefficients
pub equal_in_k : (p q : Meaning) → IsTrue ((level 2).passes p) → IsTrue ((level 2).passes q)
    → ((b a : ℕ) → number_in (items p) b a ≡ number_in (items q) b a) → p ≡ q
equal_in_k p q h k same = equal_polynomials (level 1) refl p q h k
    (λ b. equal_in_n (get_or (items p) b (listed [])) (get_or (items q) b (listed []))
    (each_passes (level 1).passes (listed []) refl (items p) (passing_parts (level 1) p h).0 b)
    (each_passes (level 1).passes (listed []) refl (items q) (passing_parts (level 1) q k).0 b) (same b))
