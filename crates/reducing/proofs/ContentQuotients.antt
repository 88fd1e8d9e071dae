-- A polynomial whose coefficients are a number times those of another is that number times the other.
use Rattle.std.proofs.Common.{◌≡◌, ℕ, zero, suc, ◌≤◌, ℤ, ◌*ℤ◌, unsigned_abs, List, [], ◌∷◌, map, length, refl, sym, ap, ◌∙◌, subst, arith, Result, Ok, Err, IfOk, IfErr}
use Rattle.std.proofs.lemmas.List.{length-map}
use Rattle.std.proofs.lemmas.Simd.{map-map}
use Rattle.ring_laws.specs.Meaning.{Meaning, number, listed, items, parted-joined}
use Rattle.ring_laws.specs.Algebra.{Ops, Passing, within, same_passing}
use Rattle.ring_laws.specs.Answer.{GivesInBounds}
use Rattle.ring_laws.specs.Wholes.{number_of, whole_algebra}
use Rattle.ring_laws.specs.WholeLaws.{whole_laws}
use Rattle.ring_laws.specs.declared.wholes.Whole.{Whole}
use Rattle.ring_laws.specs.declared.faults.RingFault.{RingFault}
use Rattle.ring_laws.specs.declared.faults.RingFault.TheVariants.{TooLarge, Memory}
use Rattle.poly_laws.specs.Lists.{coefficient_at, list_product, trimmed}
use Rattle.poly_laws.proofs.Coefficients.{meanings_of, meanings_same, meanings-trimmed, coefficients, meanings-coefficients, coefficients-whole, poly_closed}
use Rattle.poly_laws.proofs.ListLaws.{sum_nought, product_nought, times_comm, times_same_left, times_zero, times_suc}
use Rattle.poly_laws.proofs.PolyLaws.{equal_coefficients, coefficient-product}
use Rattle.poly_laws.proofs.Trimming.{at_trimmed, length-trimmed}
use Rattle.poly_divide.specs.Content.{sizes_of, DividesAll}
use Rattle.whole_roots.specs.Differences.{polynomials}
use Rattle.reducing.proofs.Polynomials.{Zn, sense, sense_passes}

abbrev pub o : Ops (Passing whole_algebra)
o = within whole_algebra whole_laws.closed

abbrev pub polys : Ops (Passing polynomials)
polys = within polynomials (poly_closed whole_algebra whole_laws.closed)

abbrev numbers : List Whole → List Meaning
numbers ws = map (λ w. number w.value) ws

abbrev belonging : List Whole → List (Passing whole_algebra)
belonging ws = map (λ w. (number w.value, refl)) ws

belonging_are : (ws : List Whole) → meanings_of whole_algebra whole_laws.closed (belonging ws) ≡ numbers ws
belonging_are [] = refl
belonging_are (w ∷ ws) = ap (λ t. number w.value ∷ t) (belonging_are ws)

abbrev pub parts : Passing polynomials → List (Passing whole_algebra)
parts x = coefficients whole_algebra whole_laws.closed x

items_are : (x : Passing polynomials) (xs : List Meaning) → x.0 ≡ listed xs → items x.0 ≡ xs
items_are x xs e = ap items e ∙ parted-joined xs

parts_are : (x : Passing polynomials) (ws : List Whole) → x.0 ≡ listed (numbers ws) → parts x ≡ belonging ws
parts_are x ws e = meanings_same whole_algebra whole_laws.closed (parts x) (belonging ws)
    (cc (meanings-coefficients whole_algebra whole_laws.closed x, items_are x (numbers ws) e, belonging_are ws))

parts_trimmed : (x : Passing polynomials) (ws : List Whole) → x.0 ≡ listed (trimmed whole_algebra.ops (numbers ws))
    → parts x ≡ trimmed o (belonging ws)
parts_trimmed x ws e = meanings_same whole_algebra whole_laws.closed (parts x) (trimmed o (belonging ws))
    (cc (
      meanings-coefficients whole_algebra whole_laws.closed x,
      items_are x (trimmed whole_algebra.ops (numbers ws)) e,
      meanings-trimmed whole_algebra whole_laws.closed (belonging ws),
      belonging_are ws,
    ))

abbrev Multiples : ℤ → List Whole → List Whole → Type 0
Multiples d ws qs = map (λ (w : Whole). w.value) ws ≡ map (λ (q : Whole). d *ℤ q.value) qs

multiple_at : (d : ℤ) (ws qs : List Whole) → Multiples d ws qs → (k : ℕ)
    → coefficient_at o (belonging ws) k ≡ o.product (o.whole d) (coefficient_at o (belonging qs) k)
multiple_at d [] [] e k = sym (product_nought o whole_laws.ring (o.whole d))
multiple_at d [] (q ∷ qs) e k = cc
multiple_at d (w ∷ ws) [] e k = cc
multiple_at d (w ∷ ws) (q ∷ qs) e zero =
    same_passing whole_algebra (number w.value, refl) (o.product (o.whole d) (number q.value, refl)) (ap number (first e))
  where
    first : {x y : ℤ} {xs ys : List ℤ} → x ∷ xs ≡ y ∷ ys → x ≡ y
    first e = cc
multiple_at d (w ∷ ws) (q ∷ qs) e (suc k) = multiple_at d ws qs (rest e) k
  where
    rest : {x y : ℤ} {xs ys : List ℤ} → x ∷ xs ≡ y ∷ ys → xs ≡ ys
    rest e = cc

-- one coefficient times a list
single : (x : Passing whole_algebra) (ys : List (Passing whole_algebra)) (k : ℕ)
    → coefficient_at o (list_product o (x ∷ []) ys) k ≡ o.product x (coefficient_at o ys k)
single x ys zero = times_zero o whole_laws.ring x [] ys
single x ys (suc k) = times_suc o whole_laws.ring x [] ys k ∙ sum_nought o whole_laws.ring (o.product x (coefficient_at o ys (suc k)))

pub by_number : (d : ℤ) (q : Passing polynomials) (k : ℕ)
    → coefficient_at o (parts (polys.product q (polys.whole d))) k ≡ o.product (o.whole d) (coefficient_at o (parts q) k)
by_number d q k =
    coefficient-product whole_algebra whole_laws.closed whole_laws.ring q (polys.whole d) k
    ∙ times_comm o whole_laws.ring (parts q) (parts (polys.whole d)) k
    ∙ times_same_left o whole_laws.ring (parts (polys.whole d)) (o.whole d ∷ []) (parts q)
    (λ j. ap (λ xs. coefficient_at o xs j) (coefficients-whole whole_algebra whole_laws.closed d) ∙ at_trimmed o whole_laws.ring (o.whole d ∷ []) j) k
    ∙ single (o.whole d) (parts q) k

times_number : (d : ℤ) (x q : Passing polynomials) (ws qs : List Whole) → x.0 ≡ listed (numbers ws)
    → q.0 ≡ listed (trimmed whole_algebra.ops (numbers qs)) → Multiples d ws qs → x ≡ polys.product q (polys.whole d)
times_number d x q ws qs e f m =
    equal_coefficients whole_algebra whole_laws.closed whole_laws.ring x (polys.product q (polys.whole d))
    (λ k. ap (λ xs. coefficient_at o xs k) (parts_are x ws e) ∙ multiple_at d ws qs m k
    ∙ ap (o.product (o.whole d))
    (sym (ap (λ xs. coefficient_at o xs k) (parts_trimmed q qs f) ∙ at_trimmed o whole_laws.ring (belonging qs) k))
    ∙ sym (by_number d q k))

-- ---- the answer of the quotient
pub quotient_is : (f : Zn) (d : ℤ) (ws qs : List Whole) (r : Result Zn RingFault) → listed (numbers ws) ≡ sense f → Multiples d ws qs
    → GivesInBounds sense (length (trimmed whole_algebra.ops (numbers qs)) ≤ 256) (listed (trimmed whole_algebra.ops (numbers qs))) r
    → IfOk r (λ q. sense f ≡ polynomials.ops.product (sense q) (polynomials.ops.whole d))
quotient_is f d ws qs (Ok q) e m h =
    ap (λ (v : Passing polynomials). v.0) (times_number d (sense f, sense_passes f) (sense q, sense_passes q) ws qs (sym e) h.1 m)
quotient_is f d ws qs (Err fault) e m h = tt

pub quotient_fits : (d : ℤ) (ws qs : List Whole) (r : Result Zn RingFault) → length ws ≤ 256 → Multiples d ws qs
    → GivesInBounds sense (length (trimmed whole_algebra.ops (numbers qs)) ≤ 256) (listed (trimmed whole_algebra.ops (numbers qs))) r
    → IfErr r (λ fault. fault ≡ Memory)
quotient_fits d ws qs (Ok q) b m h = tt
quotient_fits d ws qs (Err TooLarge) b m h =
    absurd (h (omega (
      arith,
      b,
      length-trimmed whole_algebra.ops (numbers qs),
      length-map qs (λ w. number w.value),
      ap length m,
      length-map ws (λ (w : Whole). w.value),
      length-map qs (λ (q : Whole). d *ℤ q.value),
    )))
quotient_fits d ws qs (Err Memory) b m h = refl

-- what divides each coefficient divides each number of the list
pub divides_numbers : (f : Zn) (ws : List Whole) (d : ℕ) → listed (numbers ws) ≡ sense f → DividesAll d (sizes_of (sense f))
    → DividesAll d (map (λ (w : Whole). unsigned_abs w.value) ws)
divides_numbers f ws d e h =
    subst (DividesAll d)
    (ap (map (λ (c : Meaning). unsigned_abs (number_of c))) (parted-joined (numbers ws))
    ∙ map-map (λ (c : Meaning). unsigned_abs (number_of c)) (λ (w : Whole). number w.value) ws)
    (subst (λ m. DividesAll d (sizes_of m)) (sym e) h)
