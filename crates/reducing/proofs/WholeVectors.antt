-- The numbers of a vector of the steps have the greatest common divisor 1: its last step reduced it, or it has an entry 1.
use Rattle.std.proofs.Common.{◌≡◌, ℕ, zero, suc, ◌*◌, ◌<◌, ◌≤◌, ℤ, pos, ◌*ℤ◌, unsigned_abs, List, [], ◌∷◌, map, length, get_or, refl, ap, sym, ◌∙◌, subst, arith, All}
use Rattle.std.specs.List.{AllZip}
use Rattle.std.specs.Int.{◌∣◌}
use Rattle.std.proofs.lemmas.Int.{unsigned_abs-mul}
use Rattle.std.proofs.lemmas.List.Elements.{All-nil, All-push}
use Rattle.std.proofs.Math.Nat.{mul-dvd-mul_left, dvd_of_mul-dvd-mul_left, eq-zero_of_zero-dvd}
use Rattle.ring_laws.specs.Meaning.{Meaning, number}
use Rattle.ring_laws.specs.Algebra.{Ops}
use Rattle.ring_laws.specs.Wholes.{whole_algebra}
use Rattle.ring_laws.specs.WholeDomain.{abs_nought}
use Rattle.poly_divide.specs.Content.{DividesAll, IsContent}
use Rattle.kernel_laws.specs.Rows.{entry_at}
use Rattle.kernel_laws.specs.Kernels.{EndsAt}
use Rattle.kernel_laws.specs.BackSubstitution.{zeros, unit_vector, BackRun, begin, step, FreeVectors, none, pivot, free}
use Rattle.kernel_laws.specs.Answers.{VectorOf, VectorsOf, Basis}
use Rattle.reducing.specs.WholeRows.{WholeReduced, ArePrimitive, whole_reduction}
use Rattle.reducing.proofs.CommonNumbers.{by_one}

abbrev o : Ops Meaning
o = whole_algebra.ops

-- ---- a reduced row
zero_at : (zs : List ℤ) → DividesAll 0 (map unsigned_abs zs) → (k : ℕ) → entry_at o (map number zs) k ≡ o.nought
zero_at [] h k = refl
zero_at (z ∷ zs) h zero = ap number (abs_nought z (eq-zero_of_zero-dvd h.0))
zero_at (z ∷ zs) h (suc k) = zero_at zs h.1 k

times_divides : (c d : ℕ) (qs : List ℤ) → DividesAll d (map unsigned_abs qs) → DividesAll (c * d) (map unsigned_abs (map (λ q. pos c *ℤ q) qs))
times_divides c d [] h = tt
times_divides c d (q ∷ qs) h =
    (subst (λ n. c * d ∣ n) (sym (unsigned_abs-mul (pos c) q)) (mul-dvd-mul_left d c h.0), times_divides c d qs h.1)

-- a row that isn't all zero
of_reduced : (old new : List Meaning) (k : ℕ) → WholeReduced old new → ¬ (entry_at o new k ≡ o.nought) → ArePrimitive new
of_reduced old new k h some = record { numbers = h.quotients; numbers_are = h.quotients_are; is_content = by_content h.content refl }
  where
    by_content : (c : ℕ) → h.content ≡ c → IsContent (map unsigned_abs h.quotients) 1
    by_content zero e =
        absurd (some (ap (λ r. entry_at o r k) (h.quotients_are ∙ ap (map number) (h.zeros_stay e))
        ∙ zero_at h.numbers (subst (λ c. DividesAll c (map unsigned_abs h.numbers)) e h.is_content.divides) k))
    by_content (suc c) e = record {
      divides = by_one (map unsigned_abs h.quotients);
      greatest = λ d q. divides_one d
          (subst (λ n. n * d ∣ n) e (h.is_content.greatest (h.content * d)
          (subst (λ zs. DividesAll (h.content * d) (map unsigned_abs zs)) (sym h.times) (times_divides h.content d h.quotients q))));
    }
      where
        divides_one : (d : ℕ) → suc c * d ∣ suc c → d ∣ 1
        divides_one d q =
            let once : suc c ≡ suc c * 1 = omega arith in
            dvd_of_mul-dvd-mul_left d (omega arith) (subst (λ n. suc c * d ∣ n) once q)

-- ---- the unit vector
noughts : ℕ → List ℤ
noughts zero = []
noughts (suc n) = pos 0 ∷ noughts n

units : ℕ → ℕ → List ℤ
units zero place = []
units (suc n) zero = pos 1 ∷ noughts n
units (suc n) (suc place) = pos 0 ∷ units n place

zeros_are : (n : ℕ) → zeros o n ≡ map number (noughts n)
unfolding noughts
zeros_are zero = refl
zeros_are (suc n) = ap (λ t. number (pos 0) ∷ t) (zeros_are n)

units_are : (n place : ℕ) → unit_vector o n place ≡ map number (units n place)
unfolding units
units_are zero place = refl
units_are (suc n) zero = ap (λ t. number (pos 1) ∷ t) (zeros_are n)
units_are (suc n) (suc place) = ap (λ t. number (pos 0) ∷ t) (units_are n place)

one_stands : (n place : ℕ) → place < n → (d : ℕ) → DividesAll d (map unsigned_abs (units n place)) → d ∣ 1
unfolding units
one_stands zero place b d h = absurd (omega (arith, b))
one_stands (suc n) zero b d h = h.0
one_stands (suc n) (suc place) b d h = one_stands n place (omega (arith, b)) d h.1

-- ---- the vectors
of_run : (columns place k : ℕ) (pivots : List (ℕ × List Meaning)) (vector : List Meaning) → place < columns
    → BackRun whole_algebra whole_reduction columns place pivots vector → ¬ (entry_at o vector k ≡ o.nought) → ArePrimitive vector
of_run columns place k _ _ b begin some = record {
  numbers = units columns place;
  numbers_are = units_are columns place;
  is_content = record { divides = by_one (map unsigned_abs (units columns place)); greatest = one_stands columns place b };
}
of_run columns place k _ vector b (step q s) some = of_reduced _ vector k s.reduced some

pub primitive_vector : (columns : ℕ) (rows : List (List Meaning)) (place : ℕ) (vector : List Meaning)
    → VectorOf whole_algebra whole_reduction columns rows place vector → EndsAt o columns (entry_at o vector) place → ArePrimitive vector
primitive_vector columns rows place vector h e = of_run columns place place h.pivots vector e.within h.back e.here

-- a vector of some free column
record OfColumn (columns : ℕ) (pivots : List (ℕ × List Meaning)) (vector : List Meaning) : Type 0 where
  column : ℕ
  within : column < columns
  run : BackRun whole_algebra whole_reduction columns column pivots vector

each_of : (columns : ℕ) (pivots : List (ℕ × List Meaning)) (j : ℕ) (frees : List ℕ) (vectors : List (List Meaning)) → j ≤ columns
    → FreeVectors whole_algebra whole_reduction columns pivots j frees vectors → All (OfColumn columns pivots) vectors
each_of columns pivots _ _ _ b none = All-nil (OfColumn columns pivots)
each_of columns pivots _ _ _ b (pivot {j} {frees} {vectors} h f) = each_of columns pivots j frees vectors (omega (arith, b)) f
each_of columns pivots _ _ _ b (free {j} {frees} {vectors} {vector} m q f) =
    All-push (OfColumn columns pivots) vectors vector (each_of columns pivots j frees vectors (omega (arith, b)) f)
    (record { column = j; within = omega (arith, b); run = q })

-- each vector ends somewhere
ends_of : (columns : ℕ) (vectors : List (List Meaning)) (js : List ℕ) → AllZip (λ v j. EndsAt o columns (entry_at o v) j) vectors js
    → (k : ℕ) (d : List Meaning) → k < length vectors → (j : ℕ) × EndsAt o columns (entry_at o (get_or vectors k d)) j
ends_of columns [] js h k d b = absurd (omega (arith, b))
ends_of columns (v ∷ vs) [] h k d b = absurd h
ends_of columns (v ∷ vs) (j ∷ js) h zero d b = (j, h.0)
ends_of columns (v ∷ vs) (j ∷ js) h (suc k) d b = ends_of columns vs js h.1 k d (omega (arith, b))

pub primitive_basis : (columns : ℕ) (rows vectors : List (List Meaning)) → VectorsOf whole_algebra whole_reduction columns rows vectors
    → Basis whole_algebra columns rows vectors → All ArePrimitive vectors
primitive_basis columns rows vectors h basis k d b =
    let c = each_of columns h.pivots columns h.frees vectors (omega arith) h.back k d b in
    let e = ends_of columns vectors basis.frees basis.ends k d b in
    of_run columns c.column e.0 h.pivots (get_or vectors k d) c.within c.run e.1.here
