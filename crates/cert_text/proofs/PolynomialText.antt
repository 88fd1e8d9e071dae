-- The text of a polynomial in k, built from the highest power down.
use Rattle.std.proofs.Common.{◌≡◌, ◌≢◌, ℕ, zero, suc, ◌<◌, List, [], ◌∷◌, ◌++◌, length, get_or, drop, map, refl, ap, sym, ◌∙◌, arith, append_assoc, append-nil, drop-cons, Bool, true, false, flat_map}
use Rattle.std.proofs.lemmas.Grind.{common_steps}
use Rattle.std.specs.Prelude.{ℤ, pos, negsuc}
use Rattle.std.specs.Fmt.{decimal, signed_decimal, digits}
use Rattle.ring_laws.specs.Meaning.{Meaning, items, parted-joined}
use Rattle.ring_laws.specs.Wholes.{number_of}
use Rattle.poly_laws.specs.Values.{level}
use Rattle.document_text.specs.Spelling.{Monomial, monomial_before, monomials_in_n, monomials_in_k, first_text, later_text, monomials_text, polynomial_text, polynomial_in_n_text}
use Rattle.cert_text.specs.PolynomialDocument.{as_constant_in_n, in_k}
use Rattle.cert_text.specs.Printing.{monomial_in_k, placed_text}

-- the monomials of the coefficients from the power p on
abbrev pub monomials_from : List Meaning → ℕ → List Monomial
monomials_from cs p = monomials_in_k (map as_constant_in_n (drop p cs)) p []

-- their text, nothing where there are none
abbrev pub body_text : List Monomial → List ℕ
body_text [] = []
body_text (m ∷ ms) = first_text m ++ flat_map later_text ms

abbrev pub is_none : List Monomial → Bool
is_none [] = true
is_none (m ∷ ms) = false

before_is : (z : ℤ) (i j : ℕ) (rest : List Monomial) → monomial_before z i j rest ≡ monomial_before z i j [] ++ rest
before_is (pos zero) i j rest = refl
before_is (pos (suc n)) i j rest = refl
before_is (negsuc n) i j rest = refl

in_n_is : (cs : List Meaning) (i j : ℕ) (rest : List Monomial) → monomials_in_n cs i j rest ≡ monomials_in_n cs i j [] ++ rest
in_n_is [] i j rest = refl
in_n_is (c ∷ cs) i j rest =
    in_n_is cs (suc i) j (monomial_before (number_of c) i j rest)
    ∙ ap (λ r. monomials_in_n cs (suc i) j [] ++ r) (before_is (number_of c) i j rest)
    ∙ sym (append_assoc (monomials_in_n cs (suc i) j []) (monomial_before (number_of c) i j []) rest)
    ∙ ap (λ r. r ++ rest) (sym (in_n_is cs (suc i) j (monomial_before (number_of c) i j [])))

in_k_is : (ps : List Meaning) (j : ℕ) (rest : List Monomial) → monomials_in_k ps j rest ≡ monomials_in_k ps j [] ++ rest
in_k_is [] j rest = refl
in_k_is (p ∷ ps) j rest =
    in_k_is ps (suc j) (monomials_in_n (items p) 0 j rest)
    ∙ ap (λ r. monomials_in_k ps (suc j) [] ++ r) (in_n_is (items p) 0 j rest)
    ∙ sym (append_assoc (monomials_in_k ps (suc j) []) (monomials_in_n (items p) 0 j []) rest)
    ∙ ap (λ r. r ++ rest) (sym (in_k_is ps (suc j) (monomials_in_n (items p) 0 j [])))

-- a constant has one monomial, or none
of_constant : (z : ℤ) (j : ℕ) (c : Meaning) → number_of c ≡ z → monomials_in_n (items (as_constant_in_n c)) 0 j [] ≡ monomial_before z 0 j []
of_constant z j c e = ap (λ y. monomials_in_n (items ((level 1).ops.whole y)) 0 j []) e ∙ cases z
  where
    cases : (z : ℤ) → monomials_in_n (items ((level 1).ops.whole z)) 0 j [] ≡ monomial_before z 0 j []
    cases (pos zero) = refl
    cases (pos (suc n)) = refl
    cases (negsuc n) = refl

before_some : (z : ℤ) (j : ℕ) → z ≢ pos 0 → monomial_before z 0 j [] ≡ monomial_in_k z j ∷ []
before_some (pos zero) j h = absurd (h refl)
before_some (pos (suc n)) j h = refl
before_some (negsuc n) j h = refl

opened : (cs : List Meaning) (p : ℕ) (c : Meaning) (z : ℤ) → p < length cs → c ≡ get_or cs p c → number_of c ≡ z
    → monomials_from cs p ≡ monomials_from cs (suc p) ++ monomial_before z 0 p []
opened cs p c z h e same =
    ap (λ ds. monomials_in_k (map as_constant_in_n ds) p []) (drop-cons cs p c h)
    ∙ ap (λ d. monomials_in_k (map as_constant_in_n (drop (suc p) cs)) (suc p) (monomials_in_n (items (as_constant_in_n d)) 0 p [])) (sym e)
    ∙ ap (λ ms. monomials_in_k (map as_constant_in_n (drop (suc p) cs)) (suc p) ms) (of_constant z p c same)
    ∙ in_k_is (map as_constant_in_n (drop (suc p) cs)) (suc p) (monomial_before z 0 p [])

follow : (ms : List Monomial) (m : Monomial) → flat_map later_text (ms ++ m ∷ []) ≡ flat_map later_text ms ++ later_text m
follow [] m = append-nil (later_text m)
follow (x ∷ xs) m = ap (λ z. later_text x ++ z) (follow xs m) ∙ sym (append_assoc (later_text x) (flat_map later_text xs) (later_text m))

body_more : (ms : List Monomial) (m : Monomial) → body_text (ms ++ m ∷ []) ≡ body_text ms ++ placed_text (is_none ms) m
body_more [] m = append-nil (first_text m)
body_more (x ∷ xs) m = ap (λ z. first_text x ++ z) (follow xs m) ∙ sym (append_assoc (first_text x) (flat_map later_text xs) (later_text m))

none_more : (ms : List Monomial) (m : Monomial) → is_none (ms ++ m ∷ []) ≡ false
none_more [] m = refl
none_more (x ∷ xs) m = refl

-- what is written and whether nothing is, once the powers from p on are done
pub record IsWritten (old so_far : List ℕ) (cs : List Meaning) (at_front : Bool) (p : ℕ) : Type 0 where
  pub text : so_far ≡ old ++ body_text (monomials_from cs p)
  pub first : at_front ≡ is_none (monomials_from cs p)

none_past_end : (cs : List Meaning) → monomials_from cs (length cs) ≡ []
none_past_end cs =
    let e : drop (length cs) cs ≡ [] = grind (arith, common_steps) in ap (λ ds. monomials_in_k (map as_constant_in_n ds) (length cs) []) e

pub written_at_start : (old : List ℕ) (cs : List Meaning) → IsWritten old old cs true (length cs)
written_at_start old cs = record {
  text = sym (ap (λ ms. old ++ body_text ms) (none_past_end cs) ∙ append-nil old);
  first = sym (ap is_none (none_past_end cs));
}

-- a coefficient that is 0 is passed over
pub written_passed : (old text : List ℕ) (cs : List Meaning) (first : Bool) (p : ℕ) (c : Meaning) → p < length cs → c ≡ get_or cs p c
    → number_of c ≡ pos 0 → IsWritten old text cs first (suc p) → IsWritten old text cs first p
written_passed old text cs first p c h e z w =
    let same : monomials_from cs p ≡ monomials_from cs (suc p) = opened cs p c (pos 0) h e z ∙ append-nil (monomials_from cs (suc p)) in record {
      text = w.text ∙ ap (λ ms. old ++ body_text ms) (sym same);
      first = w.first ∙ ap is_none (sym same);
    }

-- a coefficient that isn't 0 adds its monomial
pub written_more : (old text new : List ℕ) (cs : List Meaning) (first : Bool) (p : ℕ) (c : Meaning) (z : ℤ) → p < length cs → c ≡ get_or cs p c
    → number_of c ≡ z → z ≢ pos 0 → IsWritten old text cs first (suc p) → new ≡ text ++ placed_text first (monomial_in_k z p)
    → IsWritten old new cs false p
written_more old text new cs first p c z h e same n w pushed =
    let more : monomials_from cs p ≡ monomials_from cs (suc p) ++ monomial_in_k z p ∷ [] =
    opened cs p c z h e same ∙ ap (λ ms. monomials_from cs (suc p) ++ ms) (before_some z p n) in record {
      text = pushed ∙ ap (λ t. t ++ placed_text first (monomial_in_k z p)) w.text
          ∙ append_assoc old (body_text (monomials_from cs (suc p))) (placed_text first (monomial_in_k z p))
          ∙ ap (λ b. old ++ (body_text (monomials_from cs (suc p)) ++ placed_text b (monomial_in_k z p))) w.first
          ∙ ap (λ t. old ++ t) (sym (body_more (monomials_from cs (suc p)) (monomial_in_k z p)))
          ∙ ap (λ ms. old ++ body_text ms) (sym more);
      first = sym (ap is_none more ∙ none_more (monomials_from cs (suc p)) (monomial_in_k z p));
    }

text_of_some : (ms : List Monomial) → is_none ms ≡ false → body_text ms ≡ monomials_text ms
text_of_some [] h = cc
text_of_some (m ∷ ms) h = refl

text_of_none : (ms : List Monomial) → is_none ms ≡ true → body_text ms ++ 48 ∷ [] ≡ monomials_text ms
text_of_none [] h = refl
text_of_none (m ∷ ms) h = cc

whole_text : (m : Meaning) → polynomial_text (in_k m) ≡ monomials_text (monomials_from (items m) 0)
unfolding polynomial_text
whole_text m = ap (λ ps. monomials_text (monomials_in_k ps 0 [])) (parted-joined (map as_constant_in_n (items m)))

pub finished_some : (old text : List ℕ) (m : Meaning) (first : Bool) → IsWritten old text (items m) first 0 → first ≡ false
    → text ≡ old ++ polynomial_text (in_k m)
finished_some old text m first w e =
    w.text ∙ ap (λ t. old ++ t) (text_of_some (monomials_from (items m) 0) (sym w.first ∙ e) ∙ sym (whole_text m))

pub finished_none : (old text new : List ℕ) (m : Meaning) (first : Bool) → IsWritten old text (items m) first 0 → first ≡ true
    → new ≡ text ++ 48 ∷ [] → new ≡ old ++ polynomial_text (in_k m)
finished_none old text new m first w e pushed =
    pushed ∙ ap (λ t. t ++ 48 ∷ []) w.text ∙ append_assoc old (body_text (monomials_from (items m) 0)) (48 ∷ [])
    ∙ ap (λ t. old ++ t) (text_of_none (monomials_from (items m) 0) (sym w.first ∙ e) ∙ sym (whole_text m))

-- the multiplier's line: a number as a polynomial in n
pub number_text : (z : ℤ) → polynomial_in_n_text ((level 1).ops.whole z) ≡ signed_decimal z
unfolding polynomial_in_n_text digits
number_text (pos zero) = refl
number_text (pos (suc n)) = append-nil (decimal (suc n))
number_text (negsuc n) = append-nil (45 ∷ decimal (suc n))
