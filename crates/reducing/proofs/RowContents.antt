-- The content of a row of polynomials, and its quotients by it.
use Rattle.std.specs.Prelude.{◌≢◌, unsigned_abs}
use Rattle.std.specs.List.{AllByRecursion}
use Rattle.std.specs.Option.{IsSome}
use Rattle.std.proofs.Common.{◌≡◌, ℕ, zero, suc, ◌<◌, ◌≤◌, ◌^◌, ℤ, pos, ◌⊎◌, IsTrue, List, [], ◌∷◌, ◌++◌, map, length, get_or, refl, ap, ◌∙◌, subst, sym, arith, inl, inr, ⊎_elim, lit<, Option, Some, None}
use Rattle.std.proofs.lemmas.Nat.Gcd.{le_of_dvd, dvd-zero}
use Rattle.std.proofs.Math.Nat.{eq-zero_of_zero-dvd}
use Rattle.ring_laws.specs.Meaning.{Meaning, number, parted-joined}
use Rattle.ring_laws.specs.Algebra.{Passing}
use Rattle.ring_laws.specs.Wholes.{number_of}
use Rattle.ring_laws.specs.WholeDomain.{abs_nought}
use Rattle.ring_laws.specs.declared.wholes.Whole.{Whole}
use Rattle.poly_laws.proofs.ListLaws.{nought_product}
use Rattle.poly_divide.specs.Content.{sizes_of, row_sizes, DividesAll, IsContent}
use Rattle.whole_roots.specs.Differences.{polynomials}
use Rattle.kernel_laws.specs.Rows.{entry_at}
use Rattle.reducing.specs.Laws.FactorLists.{laws, P}
use Rattle.reducing.specs.PolynomialAnswers.{LeastOf}
use Rattle.reducing.proofs.Polynomials.{Zn, sense, sense_passes, senses}

pub first_part : (d : ℕ) (xs ys : List ℕ) → DividesAll d (xs ++ ys) → DividesAll d xs
first_part d [] ys h = tt
first_part d (x ∷ xs) ys h = (h.0, first_part d xs ys h.1)

pub last_part : (d : ℕ) (xs ys : List ℕ) → DividesAll d (xs ++ ys) → DividesAll d ys
last_part d [] ys h = h
last_part d (x ∷ xs) ys h = last_part d xs ys h.1

-- what divides each coefficient of the row divides those of an entry
pub divides_entry : (row : List Zn) (i : ℕ) (f : Zn) (d : ℕ) → i < length row → f ≡ get_or row i f → DividesAll d (row_sizes (senses row))
    → DividesAll d (sizes_of (sense f))
divides_entry [] i f d b e h = absurd (omega arith)
divides_entry (g ∷ gs) zero f d b e h =
    subst (λ k. DividesAll d (sizes_of (sense k))) (sym e) (first_part d (sizes_of (sense g)) (row_sizes (senses gs)) h)
divides_entry (g ∷ gs) (suc i) f d b e h = divides_entry gs i f d (omega arith) e (last_part d (sizes_of (sense g)) (row_sizes (senses gs)) h)

-- ---- a content is below 2^127
abbrev AllBelow : ℕ → List ℕ → Type 0
AllBelow b xs = AllByRecursion (λ (x : ℕ). x < b) xs

all_joined : (b : ℕ) (xs ys : List ℕ) → AllBelow b xs → AllBelow b ys → AllBelow b (xs ++ ys)
all_joined b [] ys h k = k
all_joined b (x ∷ xs) ys h k = (h.0, all_joined b xs ys h.1 k)

abbrev numbers : List Whole → List Meaning
numbers ws = map (λ (w : Whole). number w.value) ws

abbrev sizes : List Meaning → List ℕ
sizes ms = map (λ (c : Meaning). unsigned_abs (number_of c)) ms

numbers_below : (ws : List Whole) → AllBelow (2 ^ 127) (sizes (numbers ws))
numbers_below [] = tt
numbers_below (w ∷ ws) = (w.small, numbers_below ws)

row_below : (row : List Zn) → AllBelow (2 ^ 127) (row_sizes (senses row))
row_below [] = tt
row_below (f ∷ fs) = all_joined (2 ^ 127) (sizes_of (sense f)) (row_sizes (senses fs))
    (subst (λ ms. AllBelow (2 ^ 127) (sizes ms)) (sym (parted-joined (numbers f.list.items))) (numbers_below f.list.items)) (row_below fs)

-- a divisor of all is below what all are below, or all are zero
divisor_below : (b g : ℕ) (xs : List ℕ) → AllBelow b xs → DividesAll g xs → (g < b) ⊎ DividesAll 0 xs
divisor_below b g [] h k = inr tt
divisor_below b g (zero ∷ xs) h k = ⊎_elim inl (λ d. inr (dvd-zero 0, d)) (divisor_below b g xs h.1 k.1)
divisor_below b g (suc x ∷ xs) h k = let e : g ≤ suc x = le_of_dvd (omega arith) k.0 in inl (omega (arith, e, h.0))

pub content_below : (row : List Zn) (g : ℕ) → IsContent (row_sizes (senses row)) g → g < 2 ^ 127
content_below row g h =
    ⊎_elim (λ b. b) (λ d. subst (λ n. n < 2 ^ 127) (sym (eq-zero_of_zero-dvd (h.greatest 0 d))) (lit< tt))
    (divisor_below (2 ^ 127) g (row_sizes (senses row)) (row_below row) h.divides)

-- ---- quotients by 1
pub once : (row : List Zn) → senses row ≡ map (λ f. polynomials.ops.product (sense f) (polynomials.ops.whole (pos 1))) row
once [] = refl
once (f ∷ fs) = cc (times_one f, once fs)
  where
    times_one : (f : Zn) → sense f ≡ polynomials.ops.product (sense f) (polynomials.ops.whole (pos 1))
    times_one f = ap (λ (v : Passing polynomials). v.0)
        (sym (laws.ring.product_comm (sense f, sense_passes f) P.unit ∙ laws.ring.unit_product (sense f, sense_passes f)))

-- ---- quotients that are all zero are those of a row of zeros, whose content is 0
zero_sizes : (quotients : List Zn) (d : ℤ)
    → ((k : ℕ) → k < length quotients → IsTrue (polynomials.ops.is_nought (entry_at polynomials.ops (senses quotients) k)))
    → row_sizes (map (λ q. polynomials.ops.product (sense q) (polynomials.ops.whole d)) quotients) ≡ []
zero_sizes [] d h = refl
zero_sizes (q ∷ qs) d h = cc (ap sizes_of zero_product, zero_sizes qs d (λ k b. h (suc k) (omega (arith, b))))
  where
    at : Passing polynomials
    at = (sense q, sense_passes q)

    zero_product : polynomials.ops.product (sense q) (polynomials.ops.whole d) ≡ polynomials.ops.nought
    zero_product = ap (λ (v : Passing polynomials). v.0)
        (ap (λ (v : Passing polynomials). P.product v (P.whole d)) ((laws.ring.is_nought at).0 (h 0 (omega arith)))
        ∙ nought_product P laws.ring (P.whole d))

pub some_quotient : (row quotients : List Zn) (d : ℤ) (r : Option ℕ) → IsContent (row_sizes (senses row)) (unsigned_abs d) → d ≢ pos 0
    → senses row ≡ map (λ q. polynomials.ops.product (sense q) (polynomials.ops.whole d)) quotients
    → LeastOf (senses quotients) (length quotients) r → IsSome r
some_quotient row quotients d (Some place) h n e l = refl
some_quotient row quotients d None h n e l =
    absurd (n (abs_nought d (eq-zero_of_zero-dvd
    (h.greatest 0 (subst (DividesAll 0) (sym (ap row_sizes e ∙ zero_sizes quotients d l)) tt)))))
