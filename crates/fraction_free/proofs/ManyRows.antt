-- Several rows, from what is known of each.
use Rattle.std.proofs.Common.{◌≡◌, ℕ, zero, suc, ◌+◌, ◌<◌, List, [], ◌∷◌, ◌++◌, map, length, get_or, take, drop, sym, ap, ◌∙◌, subst, append_assoc, arith, All, Result, Ok, Err, Vec, IsErrAnd}
use Rattle.std.specs.List.{AllZip}
use Rattle.std.proofs.lemmas.List.{map_push, map-append, length-map}
use Rattle.std.proofs.lemmas.List.Elements.{AllZip-push, All-nil, All-cons, All-append}
use Rattle.ring_laws.specs.Meaning.{Meaning}
use Rattle.ring_laws.specs.Answer.{OnFault, fault_weaker}
use Rattle.ring_laws.specs.declared.faults.RingFault.{RingFault}
use Rattle.kernel_laws.proofs.Kernels.{first_of, rest_of, All-left, All-right}
use Rattle.fraction_free.specs.RowAnswers.{rows_meant, GivesRows}

pub whole_more : {X : Type 0} (before rest after all : List X) (row : X) → rest ≡ row ∷ after → before ++ rest ≡ all
    → (before ++ row ∷ []) ++ after ≡ all
whole_more before rest after all row e f = append_assoc before (row ∷ []) after ∙ ap (λ t. before ++ t) (sym e) ∙ f

split_here : {X : Type 0} (xs : List X) (i : ℕ) (x : X) → i < length xs → x ≡ get_or xs i x → xs ≡ take i xs ++ x ∷ drop (suc i) xs
split_here [] i x b e = absurd (omega arith)
split_here (y ∷ ys) zero x b e = ap (λ t. t ∷ ys) (sym e)
split_here (y ∷ ys) (suc i) x b e = ap (λ t. y ∷ t) (split_here ys i x (omega arith) e)

pub split_at : {X : Type 0} (xs : List X) (i : ℕ) (x : X) → i < length xs → x ≡ get_or xs i x → xs ≡ take i xs ++ x ∷ drop (i + 1) xs
split_at xs i x b e =
    let m : suc i ≡ i + 1 = omega arith in subst (λ m. xs ≡ take i xs ++ x ∷ drop m xs) m (split_here xs i x b e)

module _ {T Z : Type 0} (meaning : T → Meaning) where
  abbrev pub row_meant : Vec T Z → List Meaning
  row_meant row = map meaning row.items

  pub zip_more : (Q : List Meaning → List Meaning → Type 0) (olds news all : List (Vec T Z)) (old new : Vec T Z)
      → AllZip Q (rows_meant meaning olds) (rows_meant meaning news) → Q (row_meant old) (row_meant new) → all ≡ news ++ new ∷ []
      → AllZip Q (rows_meant meaning (olds ++ old ∷ [])) (rows_meant meaning all)
  zip_more Q olds news all old new h q e =
      subst (λ u. AllZip Q u (rows_meant meaning all)) (sym (map_push row_meant olds old))
      (subst (AllZip Q (rows_meant meaning olds ++ row_meant old ∷ [])) (sym (ap (map row_meant) e ∙ map_push row_meant news new))
      (AllZip-push Q (rows_meant meaning olds) (rows_meant meaning news) (row_meant old) (row_meant new) h q))

  one_of : (P : List Meaning → Type 0) (before after all : List (Vec T Z)) (row : Vec T Z) → before ++ row ∷ after ≡ all
      → All P (rows_meant meaning all) → P (row_meant row)
  one_of P before after all row e h =
      first_of P (row_meant row) (rows_meant meaning after)
      (All-right P (rows_meant meaning before) (row_meant row ∷ rows_meant meaning after)
      (subst (All P) (ap (map row_meant) (sym e) ∙ map-append row_meant before (row ∷ after)) h))

  pub fault_rows : (P : List (List Meaning) → Type 0) (InBounds : Type 0) (r : Result (Vec (Vec T Z) Z) RingFault) (fault : RingFault)
      → IsErrAnd r (λ e. e ≡ fault) → OnFault (¬ InBounds) fault → GivesRows meaning P InBounds r
  fault_rows P InBounds (Ok v) fault f h = absurd f
  fault_rows P InBounds (Err d) fault f h = subst (OnFault (¬ InBounds)) (sym f) h

  pub one_fault : (S : List (List Meaning) → Type 0) (P : List Meaning → Type 0) (before after all : List (Vec T Z)) (row : Vec T Z)
      (r : Result (Vec (Vec T Z) Z) RingFault) (fault : RingFault) → before ++ row ∷ after ≡ all → IsErrAnd r (λ e. e ≡ fault)
      → OnFault (¬ (P (row_meant row))) fault → GivesRows meaning S (All P (rows_meant meaning all)) r
  one_fault S P before after all row r fault e f h =
      fault_rows S (All P (rows_meant meaning all)) r fault f (fault_weaker fault (λ n k. n (one_of P before after all row e k)) h)

  -- each row has as many entries as its meaning
  pub sizes_up : (n : ℕ) (rows : List (Vec T Z)) → All (λ (v : Vec T Z). length v.items ≡ n) rows → All (λ (v : List Meaning). length v ≡ n) (rows_meant meaning rows)
  sizes_up n [] h = All-nil (λ (v : List Meaning). length v ≡ n)
  sizes_up n (row ∷ rows) h =
      All-cons (λ (v : List Meaning). length v ≡ n) (row_meant row) (rows_meant meaning rows)
      (length-map row.items meaning ∙ first_of (λ (v : Vec T Z). length v.items ≡ n) row rows h)
      (sizes_up n rows (rest_of (λ (v : Vec T Z). length v.items ≡ n) row rows h))

  pub sizes_down : (n : ℕ) (rows : List (Vec T Z)) → All (λ (v : List Meaning). length v ≡ n) (rows_meant meaning rows)
      → All (λ (v : Vec T Z). length v.items ≡ n) rows
  sizes_down n [] h = All-nil (λ (v : Vec T Z). length v.items ≡ n)
  sizes_down n (row ∷ rows) h =
      All-cons (λ (v : Vec T Z). length v.items ≡ n) row rows
      (sym (length-map row.items meaning) ∙ first_of (λ (v : List Meaning). length v ≡ n) (row_meant row) (rows_meant meaning rows) h)
      (sizes_down n rows (rest_of (λ (v : List Meaning). length v ≡ n) (row_meant row) (rows_meant meaning rows) h))

-- the rows and the one that is taken out have one length
pub removed_long : {T Z : Type 0} (n i : ℕ) (os removed : List (Vec T Z)) (row : Vec T Z) → i < length os → row ≡ get_or os i row
    → removed ≡ take i os ++ drop (i + 1) os → All (λ (v : Vec T Z). length v.items ≡ n) os
    → All (λ (v : Vec T Z). length v.items ≡ n) removed × (length row.items ≡ n)
removed_long {T} {Z} n i os removed row b e r h =
    let P : Vec T Z → Type 0 = λ v. length v.items ≡ n in
    let k = subst (All P) (split_at os i row b e) h in
    let m = All-right P (take i os) (row ∷ drop (i + 1) os) k in (
      subst (All P) (sym r) (All-append P (take i os) (drop (i + 1) os) (All-left P (take i os) (row ∷ drop (i + 1) os) k)
          (rest_of P row (drop (i + 1) os) m)),
      first_of P row (drop (i + 1) os) m,
    )
