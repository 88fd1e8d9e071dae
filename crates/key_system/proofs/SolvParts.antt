-- The parts of a vector.
use Rattle.std.specs.Prelude.{◌≡◌, ℕ, zero, suc, ◌+◌, ◌-◌, ◌≤◌, IfOk, IfErr, Result, Ok, Err, List, [], ◌∷◌, map, length, take, drop, get_or, refl}
use Rattle.std.proofs.Common.{ap, ◌∙◌, subst, arith, ⊎_elim, IsErrAnd}
use Rattle.std.proofs.lemmas.List.{length-map, length-take, length-drop, get_or-drop}
use Rattle.ring_laws.specs.Meaning.{Meaning, listed}
use Rattle.ring_laws.specs.Algebra.{Ops, Algebra}
use Rattle.ring_laws.specs.Answer.{OnFault}
use Rattle.ring_laws.specs.declared.faults.RingFault.{RingFault}
use Rattle.ring_laws.specs.declared.faults.RingFault.TheVariants.{TooLarge, Memory}
use Rattle.poly_laws.specs.Lists.{trimmed}
use Rattle.poly_laws.proofs.Trimming.{length-trimmed}
use Rattle.form_rings.specs.Forms.{Forms}
use Rattle.key_laws.specs.KeyRows.{listing}
use Rattle.key_system.specs.Solved.{IsSigned, AreParts}

-- a fault that would owe what isn't so is one of memory
pub only_memory : {R : Type 0} (P : Type 0) (r : Result R RingFault) (fault : RingFault) → IsErrAnd r (λ e. e ≡ fault) → P → OnFault (¬ P) fault
    → IfErr r (λ e. e ≡ Memory)
only_memory P (Ok v) fault e p h = tt
only_memory P (Err d) TooLarge e p h = absurd (h p)
only_memory P (Err d) Memory e p h = e

pub few_left : {E : Type 0} (o : Ops Meaning) (value : E → Meaning) (xs ys : List E) (n : ℕ) → ys ≡ take n xs → n ≤ 256
    → length (trimmed o (map value ys)) ≤ 256
few_left o value xs ys n e b = omega (arith, length-trimmed o (map value ys), length-map ys value, ap length e, length-take n xs, b)

take_listing : {A : Type 0} (d : A) (n : ℕ) (xs : List A) → n ≤ length xs → take n xs ≡ listing n (λ i. get_or xs i d)
take_listing d zero xs b = refl
take_listing d (suc n) [] b = absurd (omega arith)
take_listing d (suc n) (x ∷ xs) b = ap (λ t. x ∷ t) (take_listing d n xs (omega arith))

all_listing : {A : Type 0} (d : A) (xs : List A) → xs ≡ listing (length xs) (λ i. get_or xs i d)
all_listing d [] = refl
all_listing d (x ∷ xs) = ap (λ t. x ∷ t) (all_listing d xs)

pub drop_listing : {A : Type 0} (d : A) (n : ℕ) (xs : List A) → drop n xs ≡ listing (length xs - n) (λ j. get_or xs (n + j) d)
drop_listing d n xs =
    all_listing d (drop n xs) ∙ (λ i. listing (length (drop n xs)) (λ j. get_or-drop n xs j d i))
    ∙ ap (λ k. listing k (λ j. get_or xs (n + j) d)) (length-drop n xs)

module _ (a : Algebra) (forms : Forms) where
  -- a vector with its sign is as long
  pub as_many : (row vector : List Meaning) (column : ℕ) → IsSigned a forms row vector column → length vector ≡ length row
  as_many row vector column s = ⊎_elim (λ e. ap length e) (λ e. ap length e ∙ length-map row a.ops.neg) s.is

  parts_are : {S F : Type 0} (r : Result S F) (y : S → Meaning) (multipliers : S → List Meaning) (row vector : List Meaning) (column count : ℕ)
      → IsSigned a forms row vector column → count ≤ length row → IfOk r (λ s. y s ≡ listed (trimmed a.ops (take count vector)))
      → IfOk r (λ s. multipliers s ≡ drop count vector) → IfOk r (λ s. AreParts a forms row column count (length row - count) (y s) (multipliers s))
  parts_are (Err fault) y multipliers row vector column count s b h k = tt
  parts_are (Ok v) y multipliers row vector column count s b h k =
      let n : length vector ≡ length row = as_many row vector column s in
      record {
        vector = vector;
        signed = s;
        y_is = h ∙ ap (λ t. listed (trimmed a.ops t)) (take_listing a.ops.nought count vector (omega (arith, b, n)));
        multipliers_are = k ∙ drop_listing a.ops.nought count vector
            ∙ ap (λ m. listing (m - count) (λ j. get_or vector (count + j) a.ops.nought)) n;
      }

  -- of a vector of the code
  pub parts_of_list : {E S F : Type 0} (value : E → Meaning) (r : Result S F) (y : S → Meaning) (multipliers : S → List Meaning)
      (row vector : List E)
      (column count : ℕ) → IsSigned a forms (map value row) (map value vector) column → count ≤ length row
      → IfOk r (λ s. y s ≡ listed (trimmed a.ops (take count (map value vector)))) → IfOk r (λ s. multipliers s ≡ drop count (map value vector))
      → IfOk r (λ s. AreParts a forms (map value row) column count (length row - count) (y s) (multipliers s))
  parts_of_list value r y multipliers row vector column count s b h k =
      let n : length (map value row) ≡ length row = length-map row value in
      subst (λ m. IfOk r (λ s. AreParts a forms (map value row) column count (m - count) (y s) (multipliers s))) n
      (parts_are r y multipliers (map value row) (map value vector) column count s (omega (arith, b, n)) h k)
