-- One row, from what the calls on its entries answer.
use Rattle.std.proofs.Common.{◌≡◌, ℕ, ◌<◌, Bool, true, false, IsTrue, IsFalse, List, [], ◌∷◌, map, length, get_or, refl, sym, ap, ◌∙◌, subst, arith, Result, Ok, Err, Vec, IsErrAnd}
use Rattle.std.proofs.lemmas.List.{length-map}
use Rattle.ring_laws.specs.Meaning.{Meaning}
use Rattle.ring_laws.specs.Algebra.{Algebra, Passing, Laws, within}
use Rattle.ring_laws.specs.Answer.{OnFault, fault_weaker}
use Rattle.ring_laws.specs.declared.faults.RingFault.{RingFault}
use Rattle.poly_generic.proofs.ListLemmas.{at_item}
use Rattle.kernel_laws.specs.Rows.{entry_at}
use Rattle.kernel_laws.specs.RowSteps.{cross, crossed, CrossInBounds, CrossingInBounds, Quotients, NoQuotients, QuotientsInBounds, Divided, divided, kept}
use Rattle.kernel_laws.specs.Reduction.{Reduction, bare}
use Rattle.kernel_laws.specs.Elimination.{crossed_at, Cleared, stays, changes, ClearingInBounds}
use Rattle.kernel_laws.proofs.Crossed.{entry_of_crossed}
use Rattle.reducing.specs.RowAnswer.{GivesRow}

pub fault_row : {T Z : Type 0} (meaning : T → Meaning) (P : List Meaning → Type 0) (InBounds : Type 0) (r : Result (Vec T Z) RingFault)
    (fault : RingFault) → IsErrAnd r (λ e. e ≡ fault) → OnFault (¬ InBounds) fault → GivesRow meaning P InBounds r
fault_row meaning P InBounds (Ok v) fault e h = absurd e
fault_row meaning P InBounds (Err d) fault e h = subst (OnFault (¬ InBounds)) (sym e) h

-- ---- entries of two rows
module _ {T : Type 0} (a : Algebra) (meaning : T → Meaning) where
  pub crossed_not : (p e : Meaning) (xs ys : List T) (i : ℕ) (x y : T) (fault : RingFault) → i < length xs → i < length ys → x ≡ get_or xs i x
      → y ≡ get_or ys i y → OnFault (¬ (CrossInBounds a p (meaning x) e (meaning y))) fault
      → OnFault (¬ (CrossingInBounds a p (map meaning xs) e (map meaning ys))) fault
  crossed_not p e xs ys i x y fault b c f g h =
      fault_weaker fault
      (λ n t. n (subst (λ u. CrossInBounds a p u e (meaning y)) (at_item a.ops meaning xs i x b f)
      (subst (λ u. CrossInBounds a p (entry_at a.ops (map meaning xs) i) e u) (at_item a.ops meaning ys i y c g)
      (t i (omega (arith, length-map xs meaning)))))) h

  pub crossed_item : (p e : Meaning) (xs ys : List T) (i : ℕ) (x y : T) (m : Meaning) → i < length xs → i < length ys → x ≡ get_or xs i x
      → y ≡ get_or ys i y → m ≡ cross a.ops p (meaning x) e (meaning y)
      → m ≡ entry_at a.ops (crossed a.ops p (map meaning xs) e (map meaning ys)) i
  crossed_item p e xs ys i x y m b c f g h =
      cc (
        h,
        entry_of_crossed a.ops p (map meaning xs) e (map meaning ys) i (omega (arith, length-map xs meaning)) (omega (arith, length-map ys meaning)),
        at_item a.ops meaning xs i x b f,
        at_item a.ops meaning ys i y c g,
      )

-- a row divided by 1 is the row
module _ (a : Algebra) (l : Laws a) where
  pub one_times : (x : Passing a) → a.ops.product x.0 a.ops.unit ≡ x.0
  one_times x =
      ap (λ (v : Passing a). v.0) (l.ring.product_comm x (within a l.closed).unit ∙ l.ring.unit_product x)

  quotients_by_one : (xs : List (Passing a)) → Quotients a a.ops.unit (bare a xs) (bare a xs)
  quotients_by_one [] = tt
  quotients_by_one (x ∷ xs) = (one_times x, quotients_by_one xs)

pub refused : {P : Type 0} (b : Bool) → b ≡ false → (P → IsTrue b) → ¬ P
refused b e f p = cc (e, f p)

pub false_from : (b : Bool) → ¬ (IsTrue b) → IsFalse b
false_from true n = absurd (n refl)
false_from false n = refl

-- ---- a row is cleared
module _ {T : Type 0} (a : Algebra) (meaning : T → Meaning) (passes : (x : T) → IsTrue (a.passes (meaning x)))
    (DivisionInBounds : Meaning → Meaning → Type 0) (r : Reduction) (t : Meaning) (column : ℕ) (pivot row : List T) where
  abbrev pub belonging : List T → List (Passing a)
  belonging xs = map (λ x. (meaning x, passes x)) xs

  pub belonging_are : (xs : List T) → bare a (belonging xs) ≡ map meaning xs
  belonging_are [] = refl
  belonging_are (x ∷ xs) = ap (λ t. meaning x ∷ t) (belonging_are xs)

  abbrev crossed_row : List Meaning
  crossed_row = crossed_at a column (map meaning pivot) (map meaning row)

  abbrev IsCleared : List Meaning → Type 0
  IsCleared new = Cleared a r t column (map meaning pivot) (map meaning row) new

  abbrev InBounds : Type 0
  InBounds = ClearingInBounds DivisionInBounds a r t column (map meaning pivot) (map meaning row)

  pub crossed_is : (cs : List Meaning) (p e : T) → column < length pivot → column < length row → p ≡ get_or pivot column p
      → e ≡ get_or row column e → cs ≡ crossed a.ops (meaning p) (map meaning row) (meaning e) (map meaning pivot) → cs ≡ crossed_row
  crossed_is cs p e b c f g h = cc (h, at_item a.ops meaning pivot column p b f, at_item a.ops meaning row column e c g)

  pub zero_stays : (e : T) → column < length row → e ≡ get_or row column e → IsTrue (a.ops.is_nought (meaning e)) → IsCleared (map meaning row)
  zero_stays e c g h = stays (subst (λ u. IsTrue (a.ops.is_nought u)) (sym (at_item a.ops meaning row column e c g)) h)

  -- the entry isn't zero
  module _ (e : T) (c : column < length row) (g : e ≡ get_or row column e) (f : ¬ (IsTrue (a.ops.is_nought (meaning e)))) where
    not_zero : IsFalse (a.ops.is_nought (entry_at a.ops (map meaning row) column))
    not_zero = subst (λ u. IsFalse (a.ops.is_nought u)) (sym (at_item a.ops meaning row column e c g)) (false_from (a.ops.is_nought (meaning e)) f)

    pub division_not : (cs : List Meaning) (fault : RingFault) → cs ≡ crossed_row → OnFault (¬ (QuotientsInBounds DivisionInBounds a t cs)) fault
        → OnFault (¬ InBounds) fault
    division_not cs fault i h =
        fault_weaker fault (λ n s. n (subst (QuotientsInBounds DivisionInBounds a t) (sym i) ((s not_zero).division))) h

    pub crossing_not : (p q : T) (fault : RingFault) → column < length pivot → p ≡ get_or pivot column p → q ≡ get_or row column q
        → OnFault (¬ (CrossingInBounds a (meaning p) (map meaning row) (meaning q) (map meaning pivot))) fault → OnFault (¬ InBounds) fault
    crossing_not p q fault b i j h =
        fault_weaker fault
        (λ n s. n (subst (λ u. CrossingInBounds a u (map meaning row) (meaning q) (map meaning pivot)) (at_item a.ops meaning pivot column p b i)
        (subst (λ u. CrossingInBounds a (entry_at a.ops (map meaning pivot) column) (map meaning row) u (map meaning pivot))
        (at_item a.ops meaning row column q c j) ((s not_zero).crossing)))) h

    pub gives_cleared : {Z : Type 0} (middle : List T) (new : Result (Vec T Z) RingFault) → Divided a t crossed_row (map meaning middle)
        → GivesRow meaning (r.Reduced (map meaning middle)) (r.ReductionInBounds (map meaning middle)) new → GivesRow meaning IsCleared InBounds new
    gives_cleared middle (Ok v) q h =
        changes not_zero (record {
          middle = belonging middle;
          divided = subst (Divided a t crossed_row) (sym (belonging_are middle)) q;
          reduced = subst (λ u. r.Reduced u (map meaning v.items)) (sym (belonging_are middle)) h;
        })
    gives_cleared middle (Err fault) q h = fault_weaker fault (λ n s. n ((s not_zero).reduction (map meaning middle) q)) h

  pub divided_is : (cs qs : List Meaning) → cs ≡ crossed_row → Quotients a t cs qs → Divided a t crossed_row qs
  divided_is cs qs e h = divided qs (subst (λ u. Quotients a t u qs) e h)

  pub kept_is : (cs : List Meaning) → cs ≡ crossed_row → NoQuotients a t cs → Divided a t crossed_row cs
  kept_is cs e h = subst (Divided a t crossed_row) (sym e) (kept (subst (NoQuotients a t) e h))

  pub whole_is : (l : Laws a) (cs : List T) → t ≡ a.ops.unit → map meaning cs ≡ crossed_row → Divided a t crossed_row (map meaning cs)
  whole_is l cs e f =
      divided_is (map meaning cs) (map meaning cs) f (subst (λ u. Quotients a u (map meaning cs) (map meaning cs)) (sym e)
      (subst (λ ms. Quotients a a.ops.unit ms ms) (belonging_are cs) (quotients_by_one a l (belonging cs))))

  pub fault_cleared : {Z : Type 0} (new : Result (Vec T Z) RingFault) (fault : RingFault) → IsErrAnd new (λ e. e ≡ fault)
      → OnFault (¬ InBounds) fault → GivesRow meaning IsCleared InBounds new
  fault_cleared new fault e h = fault_row meaning IsCleared InBounds new fault e h
