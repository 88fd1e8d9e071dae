-- Why a value or a shift of a list is out of bounds where one of its steps is.
use Rattle.std.proofs.Common.{◌≡◌, ℕ, ◌+◌, ◌<◌, IsTrue, List, ◌∷◌, map, length, get_or, drop, sym, ap, ◌∙◌, subst, Result, Ok, Err, IsErrAnd}
use Rattle.std.proofs.lemmas.List.{drop-map, drop_more}
use Rattle.ring_laws.specs.Meaning.{Meaning}
use Rattle.ring_laws.specs.Algebra.{Algebra, Passing, Laws, SumInBounds, ProductInBounds}
use Rattle.ring_laws.specs.Answer.{OnFault, fault_weaker}
use Rattle.ring_laws.specs.declared.faults.RingFault.{RingFault}
use Rattle.poly_laws.specs.Bounds.{ScalingInBounds}
use Rattle.poly_laws.specs.Evaluation.{list_value, ValueInBounds}
use Rattle.poly_laws.specs.Shift.{list_shift, ListShiftInBounds}
use Rattle.poly_laws.proofs.StepMeanings.{ValueStep, value_steps, ShiftStep, shift_steps}
use Rattle.poly_generic.specs.ListAnswer.{GivesValue, RaisingInBounds}
use Rattle.poly_generic.proofs.Senses.{meanings-senses}

-- what the exit of a `?` returns
pub fault_value : {T : Type 0} (meaning : T → Meaning) (InBounds : Type 0) (m : Meaning) (r : Result T RingFault) (fault : RingFault)
    → IsErrAnd r (λ e. e ≡ fault) → OnFault (¬ InBounds) fault → GivesValue meaning InBounds m r
fault_value meaning InBounds m (Ok v) fault e h = absurd e
fault_value meaning InBounds m (Err d) fault e h = subst (OnFault (¬ InBounds)) (sym e) h

-- the bounds of a raising are those of its products, too
pub products_fault : (a : Algebra) (t x : Meaning) (ys : List Meaning) (fault : RingFault)
    → OnFault (¬ (ScalingInBounds a t ys)) fault → OnFault (¬ (RaisingInBounds a t x ys)) fault
products_fault a t x ys fault h = fault_weaker fault (λ n b. n b.products) h

module _ {T : Type 0} (a : Algebra) (l : Laws a) (meaning : T → Meaning)
    (passes : (x : T) → IsTrue (a.passes (meaning x))) (fits : (x : T) → a.ops.Fits (meaning x)) where
  abbrev m : List T → List Meaning
  m xs = map meaning xs

  abbrev sense : T → Passing a
  sense x = (meaning x, passes x)

  abbrev senses : List T → List (Passing a)
  senses xs = map (λ x. (meaning x, passes x)) xs

  from_item : (xs : List T) (i : ℕ) (x : T) → i < length xs → x ≡ get_or xs i x → drop i (senses xs) ≡ sense x ∷ senses (drop (i + 1) xs)
  from_item xs i x b e =
      drop-map (λ x. (meaning x, passes x)) i xs ∙ ap senses (drop_more xs i x b) ∙ ap (λ t. senses (t ∷ drop (i + 1) xs)) (sym e)

  value_step_of : (v : T) (xs : List T) (i : ℕ) (x : T) → i < length xs → x ≡ get_or xs i x → ValueInBounds a (meaning v) (m xs)
      → ValueStep a l (sense v) (sense x) (senses (drop (i + 1) xs))
  value_step_of v xs i x b e h =
      value_steps a l (sense v) (senses xs) i (sense x) (senses (drop (i + 1) xs)) (from_item xs i x b e) (fits x)
      (subst (λ t. ValueInBounds a (meaning v) t) (sym (meanings-senses a l meaning passes xs)) h)

  -- the product with the value so far
  pub value_product_fault : (v : T) (xs : List T) (i : ℕ) (x : T) (rest : Meaning) (fault : RingFault) → i < length xs → x ≡ get_or xs i x
      → rest ≡ list_value a.ops (meaning v) (map meaning (drop (i + 1) xs)) → OnFault (¬ (ProductInBounds a (meaning v) rest)) fault
      → OnFault (¬ (ValueInBounds a (meaning v) (map meaning xs))) fault
  value_product_fault v xs i x rest fault b e f h =
      let is : list_value a.ops (meaning v) (map (λ (y : Passing a). y.0) (senses (drop (i + 1) xs))) ≡ rest =
      ap (list_value a.ops (meaning v)) (meanings-senses a l meaning passes (drop (i + 1) xs)) ∙ sym f in
      fault_weaker fault (λ n t. n (subst (λ z. ProductInBounds a (meaning v) z) is (value_step_of v xs i x b e t).product)) h

  -- the sum with the coefficient
  pub value_sum_fault : (v : T) (xs : List T) (i : ℕ) (x : T) (part : Meaning) (fault : RingFault) → i < length xs → x ≡ get_or xs i x
      → part ≡ a.ops.product (meaning v) (list_value a.ops (meaning v) (map meaning (drop (i + 1) xs)))
      → OnFault (¬ (SumInBounds a (meaning x) part)) fault
      → OnFault (¬ (ValueInBounds a (meaning v) (map meaning xs))) fault
  value_sum_fault v xs i x part fault b e f h =
      let is : a.ops.product (meaning v) (list_value a.ops (meaning v) (map (λ (y : Passing a). y.0) (senses (drop (i + 1) xs)))) ≡ part =
      ap (λ z. a.ops.product (meaning v) (list_value a.ops (meaning v) z)) (meanings-senses a l meaning passes (drop (i + 1) xs)) ∙ sym f in
      fault_weaker fault (λ n t. n (subst (λ z. SumInBounds a (meaning x) z) is (value_step_of v xs i x b e t).sum)) h

  -- one step of a shift
  pub shift_fault : (t : T) (xs : List T) (i : ℕ) (x : T) (ys : List Meaning) (fault : RingFault) → i < length xs → x ≡ get_or xs i x
      → ys ≡ list_shift a.ops (meaning t) (map meaning (drop (i + 1) xs)) → OnFault (¬ (RaisingInBounds a (meaning t) (meaning x) ys)) fault
      → OnFault (¬ (ListShiftInBounds a (meaning t) (map meaning xs))) fault
  shift_fault t xs i x ys fault b e f h =
      let is : list_shift a.ops (meaning t) (map (λ (y : Passing a). y.0) (senses (drop (i + 1) xs))) ≡ ys =
      ap (list_shift a.ops (meaning t)) (meanings-senses a l meaning passes (drop (i + 1) xs)) ∙ sym f in
      fault_weaker fault
      (λ n k. n (
      let s : ShiftStep a l (sense t) (sense x) ys =
      subst (λ z. ShiftStep a l (sense t) (sense x) z) is
      (shift_steps a l (sense t) (senses xs) i (sense x) (senses (drop (i + 1) xs)) (from_item xs i x b e)
      (subst (λ z. ListShiftInBounds a (meaning t) z) (sym (meanings-senses a l meaning passes xs)) k)) in
      record { products = s.products; row = s.row; constant = s.constant })) h
