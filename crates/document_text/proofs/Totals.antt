-- What a list of monomials adds up to at given powers, and that the monomials of a polynomial add up to its coefficients.
use Rattle.std.specs.Prelude.{◌≡◌, ◌≢◌, ℕ, zero, suc, ◌+◌, ◌<◌, Bool, true, false, if◌then◌else◌, nat_eq, ◌&&◌, ℤ, pos, negsuc, ◌+ℤ◌, List, [], ◌∷◌, get_or}
use Rattle.std.proofs.Common.{refl, ap, arith}
use Rattle.std.proofs.lemmas.Bool.{and_from, and_left, and_right, eq-eqb, ne_eqb}
use Rattle.std.proofs.lemmas.Int.{ints}
use Rattle.ring_laws.specs.Meaning.{Meaning, number, listed, items}
use Rattle.ring_laws.specs.Wholes.{number_of}
use Rattle.document_text.specs.Spelling.{Monomial, monomial_before, monomials_in_n, monomials_in_k}

-- a number, where both powers are the given ones
abbrev pub share : ℕ → ℕ → ℕ → ℕ → ℤ → ℤ
share i j a b c = if nat_eq i a && nat_eq j b then c else pos 0

-- the sum of the coefficients at n^a * k^b
abbrev pub total_at : ℕ → ℕ → List Monomial → ℤ
total_at a b [] = pos 0
total_at a b (m ∷ ms) = share m.n_power m.k_power a b m.coefficient +ℤ total_at a b ms

-- a share of 0 is 0
no_share : (t : Bool) → (if t then pos 0 else pos 0) ≡ pos 0
no_share true = refl
no_share false = refl

-- a monomial in front adds its share, also where it is left out
pub total_before : (a b : ℕ) (c : ℤ) (i j : ℕ) (rest : List Monomial)
    → total_at a b (monomial_before c i j rest) ≡ share i j a b c +ℤ total_at a b rest
total_before a b (pos zero) i j rest = omega (arith, ints, no_share (nat_eq i a && nat_eq j b))
total_before a b (pos (suc n)) i j rest = refl
total_before a b (negsuc n) i j rest = refl

-- what the coefficients from n^i on at k^j add up to at n^a * k^b
abbrev row_total : ℕ → ℕ → List Meaning → ℕ → ℕ → ℤ
row_total a b [] i j = pos 0
row_total a b (c ∷ cs) i j = share i j a b (number_of c) +ℤ row_total a b cs (suc i) j

-- the monomials of coefficients at one power of k add their total
total_in_n : (a b : ℕ) (cs : List Meaning) (i j : ℕ) (rest : List Monomial)
    → total_at a b (monomials_in_n cs i j rest) ≡ row_total a b cs i j +ℤ total_at a b rest
total_in_n a b [] i j rest = omega (arith, ints)
total_in_n a b (c ∷ cs) i j rest =
    omega (arith, ints, total_in_n a b cs (suc i) j (monomial_before (number_of c) i j rest), total_before a b (number_of c) i j rest)

-- what the coefficients from k^j on add up to at n^a * k^b
abbrev table_total : ℕ → ℕ → List Meaning → ℕ → ℤ
table_total a b [] j = pos 0
table_total a b (p ∷ ps) j = row_total a b (items p) 0 j +ℤ table_total a b ps (suc j)

-- the monomials of a polynomial add their total
total_in_k : (a b : ℕ) (ps : List Meaning) (j : ℕ) (rest : List Monomial)
    → total_at a b (monomials_in_k ps j rest) ≡ table_total a b ps j +ℤ total_at a b rest
total_in_k a b [] j rest = omega (arith, ints)
total_in_k a b (p ∷ ps) j rest =
    omega (arith, ints, total_in_k a b ps (suc j) (monomials_in_n (items p) 0 j rest), total_in_n a b (items p) 0 j rest)

-- the share is the number at its own powers, and 0 at other powers of n or of k
share_here : (i j a b : ℕ) (c : ℤ) → i ≡ a → j ≡ b → share i j a b c ≡ c
share_here i j a b c p q = ap (λ t. if t then c else pos 0) (and_from (nat_eq i a) (nat_eq j b) (eq-eqb i a p) (eq-eqb j b q))

share_other_n : (i j a b : ℕ) (c : ℤ) → i ≢ a → share i j a b c ≡ pos 0
share_other_n i j a b c p = ap (λ t. if t then c else pos 0) (and_left (nat_eq i a) (nat_eq j b) (ne_eqb i a p))

share_other_k : (i j a b : ℕ) (c : ℤ) → j ≢ b → share i j a b c ≡ pos 0
share_other_k i j a b c p = ap (λ t. if t then c else pos 0) (and_right (nat_eq i a) (nat_eq j b) (ne_eqb j b p))

-- coefficients from n^i on add up to 0 below it, and so they do at another power of k
row_below : (a b : ℕ) (cs : List Meaning) (i j : ℕ) → a < i → row_total a b cs i j ≡ pos 0
row_below a b [] i j h = refl
row_below a b (c ∷ cs) i j h =
    omega (arith, ints, share_other_n i j a b (number_of c) (omega arith), row_below a b cs (suc i) j (omega arith))

row_other : (a b : ℕ) (cs : List Meaning) (i j : ℕ) → j ≢ b → row_total a b cs i j ≡ pos 0
row_other a b [] i j h = refl
row_other a b (c ∷ cs) i j h = omega (arith, ints, share_other_k i j a b (number_of c) h, row_other a b cs (suc i) j h)

-- the number at an index of a list of meanings, 0 beyond its end
abbrev pub number_at : List Meaning → ℕ → ℤ
number_at cs k = number_of (get_or cs k (number (pos 0)))

-- else they add up to the one of that power
row_here : (a b k : ℕ) (cs : List Meaning) (i j : ℕ) → a ≡ i + k → j ≡ b → row_total a b cs i j ≡ number_at cs k
row_here a b k [] i j e s = refl
row_here a b zero (c ∷ cs) i j e s =
    omega (arith, ints, share_here i j a b (number_of c) (omega arith) s, row_below a b cs (suc i) j (omega arith))
row_here a b (suc k) (c ∷ cs) i j e s =
    omega (arith, ints, share_other_n i j a b (number_of c) (omega arith), row_here a b k cs (suc i) j (omega arith) s)

-- coefficients from k^j on add up to 0 below it
table_below : (a b : ℕ) (ps : List Meaning) (j : ℕ) → b < j → table_total a b ps j ≡ pos 0
table_below a b [] j h = refl
table_below a b (p ∷ ps) j h = omega (arith, ints, row_other a b (items p) 0 j (omega arith), table_below a b ps (suc j) (omega arith))

-- the coefficient at n^a of the polynomial in n at an index
abbrev pub number_in : List Meaning → ℕ → ℕ → ℤ
number_in ps k a = number_at (items (get_or ps k (listed []))) a

-- else they add up to the one of both powers
table_here : (a b k : ℕ) (ps : List Meaning) (j : ℕ) → b ≡ j + k → table_total a b ps j ≡ number_in ps k a
table_here a b k [] j e = refl
table_here a b zero (p ∷ ps) j e =
    omega (arith, ints, row_here a b a (items p) 0 j (omega arith) (omega arith), table_below a b ps (suc j) (omega arith))
table_here a b (suc k) (p ∷ ps) j e =
    omega (arith, ints, row_other a b (items p) 0 j (omega arith), table_here a b k ps (suc j) (omega arith))

-- the monomials of a polynomial add up to its coefficients
pub total_of_n : (cs : List Meaning) (a : ℕ) → total_at a 0 (monomials_in_n cs 0 0 []) ≡ number_at cs a
total_of_n cs a = omega (arith, ints, total_in_n a 0 cs 0 0 [], row_here a 0 a cs 0 0 (omega arith) refl)

pub total_of_k : (ps : List Meaning) (a b : ℕ) → total_at a b (monomials_in_k ps 0 []) ≡ number_in ps b a
total_of_k ps a b = omega (arith, ints, total_in_k a b ps 0 [], table_here a b b ps 0 (omega arith))
