-- The polynomials of documents have the same texts.
use Rattle.std.specs.Prelude.{◌≡◌, ℕ, zero, suc, Bool, true, false, if◌then◌else◌, nat_eq, ℤ, pos, negsuc, unsigned_abs, codes, List, [], ◌∷◌, ◌++◌, map}
use Rattle.std.specs.List.{flat_map}
use Rattle.std.specs.Fmt.{decimal}
use Rattle.std.specs.Str.{byte}
use Rattle.std.proofs.Common.{refl, ap, sym, ◌∙◌, append_assoc, append-nil}
use Rattle.std.proofs.lemmas.List.{map-append}
use Rattle.ring_laws.specs.Meaning.{Meaning, items}
use Rattle.ring_laws.specs.Wholes.{number_of}
use Rattle.exact_texts.specs.Texts.{joined}
use Rattle.exact_texts.specs.Sums.{Monomial, power_factor, with_magnitude, body_text, sign_of, signed_text, without_plus, sum_text}
use Rattle.polynomial_sums.specs.PolynomialSums.{letter_n, letter_k, with_power, constant, falling, monomials_of, in_n, in_n_k, polynomials}
use Rattle.polynomial_sums.proofs.Powers.{HavePower}
use Rattle.polynomial_sums.proofs.Letters.{monomials_apart}
use Rattle.document_text.specs.Spelling as document

-- a monomial of a document is one without x
abbrev with_x : document.Monomial → Monomial
with_x m = record { coefficient = m.coefficient; n_power = m.n_power; k_power = m.k_power; x_power = 0 }

-- The monomials are the same.
before_same : (z : ℤ) (i j : ℕ) (rest : List document.Monomial)
    → map with_x (document.monomial_before z i j rest) ≡ map (with_power letter_k j) (map (with_power letter_n i) (constant z)) ++ map with_x rest
before_same (pos zero) i j rest = refl
before_same (pos (suc c)) i j rest = refl
before_same (negsuc c) i j rest = refl

in_n_same : (cs : List Meaning) (i j : ℕ) (rest : List document.Monomial)
    → map with_x (document.monomials_in_n cs i j rest) ≡ map (with_power letter_k j) (falling letter_n (monomials_of []) cs i) ++ map with_x rest
in_n_same [] i j rest = refl
in_n_same (c ∷ cs) i j rest =
    let more = map (with_power letter_k j) (falling letter_n (monomials_of []) cs (suc i)) in
    let here = map (with_power letter_k j) (map (with_power letter_n i) (constant (number_of c))) in
    in_n_same cs (suc i) j (document.monomial_before (number_of c) i j rest)
    ∙ ap (λ t. more ++ t) (before_same (number_of c) i j rest) ∙ sym (append_assoc more here (map with_x rest))
    ∙ ap (λ t. t ++ map with_x rest)
    (sym (map-append (with_power letter_k j) (falling letter_n (monomials_of []) cs (suc i)) (map (with_power letter_n i) (constant (number_of c)))))

in_k_same : (ps : List Meaning) (j : ℕ) (rest : List document.Monomial)
    → map with_x (document.monomials_in_k ps j rest) ≡ falling letter_k (monomials_of in_n) ps j ++ map with_x rest
in_k_same [] j rest = refl
in_k_same (p ∷ ps) j rest =
    let more = falling letter_k (monomials_of in_n) ps (suc j) in
    let here = map (with_power letter_k j) (monomials_of in_n p) in
    in_k_same ps (suc j) (document.monomials_in_n (items p) 0 j rest)
    ∙ ap (λ t. more ++ t) (in_n_same (items p) 0 j rest) ∙ sym (append_assoc more here (map with_x rest))

-- The texts of monomials are the same: one power, or two, behind a magnitude that is left out or not.
one : (t : Bool) (d x : List ℕ) → (if t then x else (d ++ 42 ∷ x)) ≡ joined (codes "*") (if t then x ∷ [] else (d ∷ x ∷ []))
one true d x = refl
one false d x = refl

two : (t : Bool) (d x y : List ℕ)
    → (if t then (x ++ 42 ∷ y) else (d ++ 42 ∷ (x ++ 42 ∷ y))) ≡ joined (codes "*") (if t then x ∷ y ∷ [] else (d ∷ x ∷ y ∷ []))
two true d x y = refl
two false d x y = refl

unsigned_same : (c n k : ℕ) → document.magnitude_text c (document.starred (document.power_text (byte "n") n) (document.power_text (byte "k") k))
    ≡ joined (codes "*") (with_magnitude c (power_factor (byte "n") n ++ (power_factor (byte "k") k ++ [])))
unsigned_same c zero zero = refl
unsigned_same c zero (suc zero) = one (nat_eq c 1) (decimal c) (byte "k" ∷ [])
unsigned_same c zero (suc (suc k)) = one (nat_eq c 1) (decimal c) (byte "k" ∷ byte "^" ∷ decimal (suc (suc k)))
unsigned_same c (suc zero) zero = one (nat_eq c 1) (decimal c) (byte "n" ∷ [])
unsigned_same c (suc zero) (suc zero) = two (nat_eq c 1) (decimal c) (byte "n" ∷ []) (byte "k" ∷ [])
unsigned_same c (suc zero) (suc (suc k)) = two (nat_eq c 1) (decimal c) (byte "n" ∷ []) (byte "k" ∷ byte "^" ∷ decimal (suc (suc k)))
unsigned_same c (suc (suc n)) zero = one (nat_eq c 1) (decimal c) (byte "n" ∷ byte "^" ∷ decimal (suc (suc n)))
unsigned_same c (suc (suc n)) (suc zero) = two (nat_eq c 1) (decimal c) (byte "n" ∷ byte "^" ∷ decimal (suc (suc n))) (byte "k" ∷ [])
unsigned_same c (suc (suc n)) (suc (suc k)) =
    two (nat_eq c 1) (decimal c) (byte "n" ∷ byte "^" ∷ decimal (suc (suc n))) (byte "k" ∷ byte "^" ∷ decimal (suc (suc k)))

body_same : (m : document.Monomial) → document.unsigned_text m ≡ body_text (with_x m)
body_same m = unsigned_same (unsigned_abs m.coefficient) m.n_power m.k_power

-- and so those of sums, with their signs
front_same : (z : ℤ) (u b rest : List ℕ) → u ≡ b → (document.sign_text [] z ++ u) ++ rest ≡ without_plus ((sign_of z ∷ b) ++ rest)
front_same (pos c) u b rest e = ap (λ t. t ++ rest) e
front_same (negsuc c) u b rest e = ap (λ t. byte "-" ∷ (t ++ rest)) e

signed_same : (z : ℤ) (u b : List ℕ) → u ≡ b → document.sign_text (byte "+" ∷ []) z ++ u ≡ sign_of z ∷ b
signed_same (pos c) u b e = ap (λ t. byte "+" ∷ t) e
signed_same (negsuc c) u b e = ap (λ t. byte "-" ∷ t) e

later_same : (ms : List document.Monomial) → flat_map document.later_text ms ≡ flat_map signed_text (map with_x ms)
later_same [] = refl
later_same (m ∷ ms) =
    let first = signed_same m.coefficient (document.unsigned_text m) (body_text (with_x m)) (body_same m) in
    let rest = later_same ms in
    λ i. first i ++ rest i

sums_same : (ms : List document.Monomial) → document.monomials_text ms ≡ sum_text (map with_x ms)
sums_same [] = refl
sums_same (m ∷ ms) =
    ap (λ t. document.first_text m ++ t) (later_same ms)
    ∙ front_same m.coefficient (document.unsigned_text m) (body_text (with_x m)) (flat_map signed_text (map with_x ms)) (body_same m)

-- monomials without k are the same with the power 0 of k
without_k : (ms : List Monomial) → HavePower letter_k 0 ms → map (with_power letter_k 0) ms ≡ ms
without_k [] h = refl
without_k (m ∷ ms) h =
    let first : with_power letter_k 0 m ≡ m = λ i. record m { k_power = sym h.0 i } in
    let rest = without_k ms h.1 in
    λ i. first i ∷ rest i

pub in_n_alike : (p : Meaning) → document.polynomial_in_n_text p ≡ (polynomials in_n).text p
unfolding document.polynomial_in_n_text
in_n_alike p = sums_same (document.monomials_in_n (items p) 0 0 []) ∙ ap sum_text (in_n_same (items p) 0 0 [] ∙ append-nil _
    ∙ without_k (monomials_of in_n p) (monomials_apart letter_k in_n ((λ e. cc), tt) p))

pub in_n_k_alike : (p : Meaning) → document.polynomial_text p ≡ (polynomials in_n_k).text p
unfolding document.polynomial_text
in_n_k_alike p = sums_same (document.monomials_in_k (items p) 0 []) ∙ ap sum_text (in_k_same (items p) 0 [] ∙ append-nil _)
