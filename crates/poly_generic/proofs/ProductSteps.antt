-- Why a product of lists is out of bounds where one of its steps is.
use Rattle.std.proofs.Common.{◌≡◌, ℕ, suc, ◌+◌, ◌<◌, ◌≤◌, ◌⊎◌, inl, inr, ⊎_elim, IsTrue, List, ◌∷◌, map, length, get_or, drop, sym, ap, ◌∙◌, subst, arith}
use Rattle.std.proofs.lemmas.List.{length-map, drop-map, drop_more}
use Rattle.ring_laws.specs.declared.faults.RingFault.{RingFault}
use Rattle.poly_laws.specs.Bounds.{ListProductInBounds, ScalingInBounds}
use Rattle.poly_laws.specs.Lists.{coefficient_at, list_product}
use Rattle.ring_laws.specs.Algebra.{Ops, Algebra, Passing, within, Laws, SumInBounds, ProductInBounds}
use Rattle.ring_laws.specs.Answer.{OnFault, fault_weaker}
use Rattle.ring_laws.specs.Meaning.{Meaning}
use Rattle.poly_generic.proofs.AnswerLemmas.{scale_fault}
use Rattle.poly_generic.proofs.Convolution.{behind, place_step, places_past, nothing_yet}
use Rattle.poly_generic.proofs.ListLemmas.{at_item}
use Rattle.poly_generic.proofs.Senses.{meanings-senses}
use Rattle.poly_laws.proofs.Coefficients.{meanings_of, meanings-product}
use Rattle.poly_laws.proofs.Fitting.{meanings-at}
use Rattle.poly_laws.proofs.ListLaws.{at_scale}
use Rattle.poly_laws.proofs.ListsInBounds.{drop_in_bounds, scaling_in_bounds, step_in_bounds}

module _ {T : Type 0} (a : Algebra) (l : Laws a) (meaning : T → Meaning)
    (passes : (x : T) → IsTrue (a.passes (meaning x))) (fits : (x : T) → a.ops.Fits (meaning x)) where
  abbrev m : List T → List Meaning
  m xs = map meaning xs

  abbrev senses : List T → List (Passing a)
  senses xs = map (λ x. (meaning x, passes x)) xs

  abbrev base : Ops (Passing a)
  base = within a l.closed

  abbrev sense : T → Passing a
  sense x = (meaning x, passes x)

  senses_in_bounds : (xs ys : List T) → ListProductInBounds a (m xs) (m ys)
      → ListProductInBounds a (meanings_of a l.closed (senses xs)) (meanings_of a l.closed (senses ys))
  senses_in_bounds xs ys h =
      subst (λ t. ListProductInBounds a t (meanings_of a l.closed (senses ys))) (sym (meanings-senses a l meaning passes xs))
      (subst (λ t. ListProductInBounds a (m xs) t) (sym (meanings-senses a l meaning passes ys)) h)

  -- from the item at i on
  in_bounds_from : (xs ys : List T) (i : ℕ) (x : T) → i < length xs → x ≡ get_or xs i x → ListProductInBounds a (m xs) (m ys)
      → ListProductInBounds a (meanings_of a l.closed ((meaning x, passes x) ∷ senses (drop (i + 1) xs))) (meanings_of a l.closed (senses ys))
  in_bounds_from xs ys i x b e h =
      let d : drop i (senses xs) ≡ senses (get_or xs i x ∷ drop (i + 1) xs) =
      drop-map (λ x. (meaning x, passes x)) i xs ∙ ap senses (drop_more xs i x b) in
      let c : senses (get_or xs i x ∷ drop (i + 1) xs) ≡ senses (x ∷ drop (i + 1) xs) = ap (λ t. senses (t ∷ drop (i + 1) xs)) (sym e) in
      subst (λ t. ListProductInBounds a (meanings_of a l.closed t) (meanings_of a l.closed (senses ys))) (d
      ∙ c) (drop_in_bounds a l i (senses xs) (senses ys) (senses_in_bounds xs ys h))

  pub row_fault : (xs ys : List T) (i : ℕ) (x : T) (fault : RingFault) → i < length xs → x ≡ get_or xs i x
      → OnFault (¬ (ScalingInBounds a (meaning x) (m ys))) fault → OnFault (¬ (ListProductInBounds a (m xs) (m ys))) fault
  row_fault xs ys i x fault b e h =
      fault_weaker fault
      (λ n t. n (subst (λ u. ScalingInBounds a (meaning x) u) (meanings-senses a l meaning passes ys)
      (scaling_in_bounds a l (meaning x, passes x) (senses (drop (i + 1) xs)) (senses ys) (in_bounds_from xs ys i x b e t)))) h

  -- the product of the items at two places
  pub part_fault : (xs ys : List T) (i j : ℕ) (x y : T) (fault : RingFault) → i < length xs → x ≡ get_or xs i x → j < length ys → y ≡ get_or ys j y
      → OnFault (¬ (ProductInBounds a (meaning x) (meaning y))) fault → OnFault (¬ (ListProductInBounds a (m xs) (m ys))) fault
  part_fault xs ys i j x y fault b e c f h = row_fault xs ys i x fault b e (scale_fault a meaning (meaning x) ys j y fault c f h)

  -- what lies behind the item at i, as a meaning
  behind_is : (xs ys : List T) (j : ℕ)
      → (behind base l.ring (senses xs) (senses ys) j).0 ≡ coefficient_at a.ops (a.ops.nought ∷ list_product a.ops (m xs) (m ys)) j
  behind_is xs ys j =
      sym (meanings-at a l.closed l.ring l.magnitudes (base.nought ∷ list_product base (senses xs) (senses ys)) j)
      ∙ ap (λ t. coefficient_at a.ops (a.ops.nought ∷ t) j) (meanings-product a l.closed (senses xs) (senses ys)
      ∙ (λ k. list_product a.ops (meanings-senses a l meaning passes xs k) (meanings-senses a l meaning passes ys k)))

  sense_at : (ys : List T) (j : ℕ) (y : T) → j < length ys → y ≡ get_or ys j y → coefficient_at base (senses ys) j ≡ (meaning y, passes y)
  sense_at ys j y c f = at_item base sense ys j y c f

  -- the sum of such a product and what lies behind
  pub sum_fault : (xs ys : List T) (i j : ℕ) (x y : T) (part rest : Meaning) (fault : RingFault) → i < length xs → x ≡ get_or xs i x → j < length ys
      → y ≡ get_or ys j y → part ≡ a.ops.product (meaning x) (meaning y)
      → rest ≡ coefficient_at a.ops (a.ops.nought ∷ list_product a.ops (m (drop (i + 1) xs)) (m ys)) j
      → OnFault (¬ (SumInBounds a part rest)) fault → OnFault (¬ (ListProductInBounds a (m xs) (m ys))) fault
  sum_fault xs ys i j x y part rest fault b e c f g h k =
      let v : Passing a = (meaning x, passes x) in
      let us : List (Passing a) = senses (drop (i + 1) xs) in
      let part_is : (coefficient_at base (map (base.product v) (senses ys)) j).0 ≡ part =
      ap (λ (w : Passing a). w.0) (at_scale base l.ring v (senses ys) j ∙ ap (base.product v) (sense_at ys j y c f)) ∙ sym g in
      let rest_is : (behind base l.ring us (senses ys) j).0 ≡ rest = behind_is (drop (i + 1) xs) ys j ∙ sym h in
      fault_weaker fault
      (λ n t. n (subst (λ w. SumInBounds a w rest) part_is
      (subst (λ w. SumInBounds a (coefficient_at base (map (base.product v) (senses ys)) j).0 w) rest_is
      (step_in_bounds a l v us (senses ys) (in_bounds_from xs ys i x b e t) j)))) k

  -- one product more
  pub part_made : (xs ys : List T) (i j : ℕ) (x y : T) (part rest : Meaning) → i < length xs → x ≡ get_or xs i x → j < length ys → y ≡ get_or ys j y
      → part ≡ a.ops.product (meaning x) (meaning y)
      → rest ≡ coefficient_at a.ops (a.ops.nought ∷ list_product a.ops (m (drop (i + 1) xs)) (m ys)) j
      → a.ops.sum part rest ≡ coefficient_at a.ops (a.ops.nought ∷ list_product a.ops (m (drop i xs)) (m ys)) (j + 1)
  part_made xs ys i j x y part rest b e c f g h =
      let v : Passing a = (meaning x, passes x) in
      let us : List (Passing a) = senses (drop (i + 1) xs) in
      let d : x ∷ drop (i + 1) xs ≡ drop i xs = ap (λ t. t ∷ drop (i + 1) xs) e ∙ sym (drop_more xs i x b) in
      let n : suc j ≡ j + 1 = omega arith in
      let s : base.sum (base.product v (meaning y, passes y)) (behind base l.ring us (senses ys) j)
      ≡ coefficient_at base (list_product base (v ∷ us) (senses ys)) j =
      sym (place_step base l.ring v us (senses ys) j
      ∙ ap (λ t. base.sum (base.product v t) (behind base l.ring us (senses ys) j)) (sense_at ys j y c f)) in
      cc (g, h, behind_is (drop (i + 1) xs) ys j)
      ∙ ap (λ (w : Passing a). w.0) s
      ∙ behind_is (x ∷ drop (i + 1) xs) ys (suc j)
      ∙ ap (λ t. coefficient_at a.ops (a.ops.nought ∷ list_product a.ops (m t) (m ys)) (suc j)) d
      ∙ ap (λ k. coefficient_at a.ops (a.ops.nought ∷ list_product a.ops (m (drop i xs)) (m ys)) k) n

  -- no product yet, and none any more
  pub none_made : (xs ys : List T) (i j : ℕ) → (j ≡ 0) ⊎ (length xs ≤ i)
      → a.ops.nought ≡ coefficient_at a.ops (a.ops.nought ∷ list_product a.ops (m (drop i xs)) (m ys)) j
  none_made xs ys i j h =
      let n : length (senses xs) ≡ length xs = length-map xs sense in
      ap (λ (w : Passing a). w.0) (sym (nothing_yet base l.ring (senses xs) (senses ys) i j
      (⊎_elim {C = (j ≡ 0) ⊎ (length (senses xs) ≤ i)} inl (λ b. inr (omega (arith, b, n))) h))
      ∙ ap (λ t. behind base l.ring t (senses ys) j) (drop-map sense i xs))
      ∙ behind_is (drop i xs) ys j

  pub all_made : (xs ys : List T) (i j k : ℕ) (sum : Meaning) → i ≤ length xs → (i ≡ 0) ⊎ (length ys ≤ j) → i + j ≡ k + 1
      → sum ≡ coefficient_at a.ops (a.ops.nought ∷ list_product a.ops (m (drop i xs)) (m ys)) j
      → sum ≡ coefficient_at a.ops (list_product a.ops (m xs) (m ys)) k
  all_made xs ys i j k sum b h e s =
      let p : length (senses xs) ≡ length xs = length-map xs sense in
      let q : length (senses ys) ≡ length ys = length-map ys sense in
      let n : i + j ≡ suc k = omega (arith, e) in
      s
      ∙ sym (behind_is (drop i xs) ys j)
      ∙ ap (λ (w : Passing a). w.0) (ap (λ t. behind base l.ring t (senses ys) j) (sym (drop-map sense i xs))
      ∙ places_past base l.ring (senses xs) (senses ys) i j (omega (arith, b, p))
      (⊎_elim {C = (i ≡ 0) ⊎ (length (senses ys) ≤ j)} inl (λ c. inr (omega (arith, c, q))) h)
      ∙ ap (λ t. behind base l.ring (senses xs) (senses ys) t) n)
      ∙ behind_is xs ys (suc k)
