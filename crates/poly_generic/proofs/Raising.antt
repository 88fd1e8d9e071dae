-- A list times the variable plus a value, place by place.
use Rattle.std.proofs.Common.{◌≡◌, ℕ, zero, suc, ◌+◌, ◌<◌, ◌≤◌, IsTrue, List, [], ◌∷◌, ◌++◌, map, length, get_or, take, drop, set, refl, sym, ap, ◌∙◌, subst, arith}
use Rattle.std.proofs.lemmas.List.{length-map, get_or-map, drop-set-lt, map-append, append_assoc, take_all, take_more_set, drop_all, drop_more}
use Rattle.ring_laws.specs.Meaning.{Meaning}
use Rattle.ring_laws.specs.Algebra.{Ops, Algebra, Passing, within, Laws, SumInBounds}
use Rattle.ring_laws.specs.Answer.{OnFault, fault_weaker}
use Rattle.ring_laws.specs.declared.faults.RingFault.{RingFault}
use Rattle.poly_laws.specs.Lists.{coefficient_at, list_sum}
use Rattle.poly_laws.specs.Shift.{raised_by}
use Rattle.poly_laws.proofs.ListLaws.{sum_nought}
use Rattle.poly_generic.specs.ListAnswer.{RaisingInBounds}
use Rattle.poly_generic.proofs.ListLemmas.{at_item}

-- each coefficient times t, and the one below it, which is x for the first
abbrev pub raised_on : {A : Type 0} → Ops A → A → A → List A → List A
raised_on o t x [] = x ∷ []
raised_on o t x (y ∷ ys) = o.sum (o.product t y) x ∷ raised_on o t y ys

row_is : {A : Type 0} (o : Ops A) (t y : A) (ys : List A) → list_sum o (map (o.product t) ys) (y ∷ ys) ≡ raised_on o t y ys
row_is o t y [] = refl
row_is o t y (z ∷ zs) = ap (λ u. o.sum (o.product t z) y ∷ u) (row_is o t z zs)

module _ {T : Type 0} (a : Algebra) (l : Laws a) (meaning : T → Meaning) (passes : (x : T) → IsTrue (a.passes (meaning x))) where
  abbrev base : Ops (Passing a)
  base = within a l.closed

  abbrev sense : T → Passing a
  sense x = (meaning x, passes x)

  head_is : (t x z : T) → a.ops.sum (meaning x) (a.ops.sum (a.ops.product (meaning t) (meaning z)) a.ops.nought)
      ≡ a.ops.sum (a.ops.product (meaning t) (meaning z)) (meaning x)
  head_is t x z =
      let p : Passing a = base.product (sense t) (sense z) in
      ap (λ (v : Passing a). v.0) (ap (base.sum (sense x)) (sum_nought base l.ring p) ∙ l.ring.sum_comm (sense x) p)

  -- it is the constant and the list times the variable plus t
  pub raised_is : (t x : T) (ys : List T) → raised_by a.ops (meaning t) (meaning x) (map meaning ys)
      ≡ raised_on a.ops (meaning t) (meaning x) (map meaning ys)
  raised_is t x [] = ap (λ (v : Passing a). v.0 ∷ []) (sum_nought base l.ring (sense x))
  raised_is t x (z ∷ zs) = cc (head_is t x z, row_is a.ops (meaning t) (meaning z) (map meaning zs))

  -- what the list was at a place that isn't changed yet
  pub read_before : (xs ys : List T) (i : ℕ) (y : T) → drop i xs ≡ drop i ys → i < length xs → i < length ys → y ≡ get_or xs i y → y ≡ get_or ys i y
  read_before xs ys i y e b c f =
      let g : y ∷ drop (i + 1) xs ≡ get_or ys i y ∷ drop (i + 1) ys =
      ap (λ t. t ∷ drop (i + 1) xs) f ∙ sym (drop_more xs i y b) ∙ e ∙ drop_more ys i y c in
      cc

  -- two reads of one place
  pub same_item : (xs : List T) (i : ℕ) (x y : T) → i < length xs → x ≡ get_or xs i x → y ≡ get_or xs i y → x ≡ y
  same_item xs i x y b e f =
      let g : get_or xs i x ∷ drop (i + 1) xs ≡ get_or xs i y ∷ drop (i + 1) xs = sym (drop_more xs i x b) ∙ drop_more xs i y b in
      cc

  -- the places behind a changed one stay
  pub rest_kept : (xs ys : List T) (i : ℕ) (y : T) → drop i xs ≡ drop i ys → i < length xs → i < length ys
      → drop (i + 1) (set xs i y) ≡ drop (i + 1) ys
  rest_kept xs ys i y e b c =
      let f : get_or xs i y ∷ drop (i + 1) xs ≡ get_or ys i y ∷ drop (i + 1) ys = sym (drop_more xs i y b) ∙ e ∙ drop_more ys i y c in
      let g : drop (i + 1) xs ≡ drop (i + 1) ys = cc in
      drop-set-lt (i + 1) xs i y (omega arith) ∙ g

  -- the coefficient below the next place
  pub below_next : (x : T) (ys : List T) (i : ℕ) (y : T) → i < length ys → y ≡ get_or ys i y
      → meaning y ≡ coefficient_at a.ops (meaning x ∷ map meaning ys) (i + 1)
  below_next x ys i y b e =
      let n : suc i ≡ i + 1 = omega arith in
      sym (at_item a.ops meaning ys i y b e) ∙ ap (λ k. coefficient_at a.ops (meaning x ∷ map meaning ys) k) n

  -- one place more
  pub raised_more : (t x : Meaning) (ys old new : List T) (i : ℕ) (below y item : T) → i < length ys → i < length old → y ≡ get_or ys i y
      → new ≡ set old i item → meaning item ≡ a.ops.sum (a.ops.product t (meaning y)) (meaning below)
      → raised_on a.ops t x (map meaning ys) ≡ map meaning (take i old) ++ raised_on a.ops t (meaning below) (map meaning (drop i ys))
      → raised_on a.ops t x (map meaning ys) ≡ map meaning (take (i + 1) new) ++ raised_on a.ops t (meaning y) (map meaning (drop (i + 1) ys))
  raised_more t x ys old new i below y item b c e f g h =
      let rest : List Meaning = raised_on a.ops t (meaning y) (map meaning (drop (i + 1) ys)) in
      let d : drop i ys ≡ y ∷ drop (i + 1) ys = drop_more ys i y b ∙ ap (λ v. v ∷ drop (i + 1) ys) (sym e) in
      let m : map meaning (take (i + 1) new) ≡ map meaning (take i old) ++ meaning item ∷ [] =
      ap (λ v. map meaning (take (i + 1) v)) f ∙ ap (map meaning) (take_more_set old i item c) ∙ map-append meaning (take i old) (item ∷ []) in
      h
      ∙ ap (λ v. map meaning (take i old) ++ raised_on a.ops t (meaning below) (map meaning v)) d
      ∙ ap (λ v. map meaning (take i old) ++ v ∷ rest) (sym g)
      ∙ sym (append_assoc (map meaning (take i old)) (meaning item ∷ []) rest)
      ∙ ap (λ v. v ++ rest) (sym m)

  -- all places, and what is left is the last coefficient
  pub raised_all : (t x : T) (ys old new : List T) (i : ℕ) (below : T) → length ys ≤ i → length old ≤ i → new ≡ old ++ below ∷ []
      → raised_on a.ops (meaning t) (meaning x) (map meaning ys)
      ≡ map meaning (take i old) ++ raised_on a.ops (meaning t) (meaning below) (map meaning (drop i ys))
      → map meaning new ≡ raised_by a.ops (meaning t) (meaning x) (map meaning ys)
  raised_all t x ys old new i below b c e h =
      ap (map meaning) e
      ∙ map-append meaning old (below ∷ [])
      ∙ ap (λ v. map meaning v ++ meaning below ∷ []) (sym (take_all i old c))
      ∙ ap (λ v. map meaning (take i old) ++ raised_on a.ops (meaning t) (meaning below) (map meaning v)) (sym (drop_all i ys b))
      ∙ sym h
      ∙ sym (raised_is t x ys)

  -- a sum with the coefficient below that is out of bounds
  pub raise_fault : (t x : T) (ys : List T) (i : ℕ) (y : T) (product below : Meaning) (fault : RingFault) → i < length ys → y ≡ get_or ys i y
      → product ≡ a.ops.product (meaning t) (meaning y) → below ≡ coefficient_at a.ops (meaning x ∷ map meaning ys) i
      → OnFault (¬ (SumInBounds a product below)) fault → OnFault (¬ (RaisingInBounds a (meaning t) (meaning x) (map meaning ys))) fault
  raise_fault t x [] i y product below fault b e f g h = absurd (omega arith)
  raise_fault t x (z ∷ zs) zero y product below fault b e f g h =
      let v : Passing a = base.product (sense t) (sense z) in
      let s : a.ops.sum (a.ops.magnitude (meaning x)) (a.ops.magnitude (a.ops.sum v.0 a.ops.nought))
      ≡ a.ops.sum (a.ops.magnitude v.0) (a.ops.magnitude (meaning x)) =
      ap (λ (w : Passing a). w.0) (ap (λ w. base.sum (base.magnitude (sense x)) (base.magnitude w)) (sum_nought base l.ring v)
      ∙ l.ring.sum_comm (base.magnitude (sense x)) (base.magnitude v)) in
      let k : a.ops.sum (a.ops.magnitude v.0) (a.ops.magnitude (meaning x)) ≡ a.ops.sum (a.ops.magnitude product) (a.ops.magnitude below) =
      cc (e, f, g) in
      fault_weaker fault (λ n r. n (subst a.ops.Fits (s ∙ k) (r.constant 0 (omega arith) (omega arith)))) h
  raise_fault t x (z ∷ zs) (suc i) y product below fault b e f g h =
      let p : coefficient_at a.ops (map (a.ops.product (meaning t)) (map meaning (z ∷ zs))) (suc i) ≡ product =
      get_or-map (a.ops.product (meaning t)) (map meaning (z ∷ zs)) (suc i) a.ops.nought a.ops.nought (omega (arith, b, length-map zs meaning))
      ∙ ap (a.ops.product (meaning t)) (at_item a.ops meaning (z ∷ zs) (suc i) y b e) ∙ sym f in
      fault_weaker fault
      (λ n r. n (subst (λ w. SumInBounds a w below) p
      (subst (λ w. SumInBounds a (coefficient_at a.ops (map (a.ops.product (meaning t)) (map meaning (z ∷ zs))) (suc i)) w) (sym g)
      (r.row (suc i) (omega (arith, b, length-map zs meaning, length-map (map meaning zs) (a.ops.product (meaning t))))
      (omega (arith, b, length-map zs meaning)))))) h
