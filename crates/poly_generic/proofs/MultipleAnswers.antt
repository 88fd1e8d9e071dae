-- What the calls on whole multiples answer.
use Rattle.std.proofs.Common.{◌≡◌, ℕ, ◌<◌, Bool, false, IsTrue, IsFalse, ◌↔◌, List, [], ◌∷◌, map, length, get_or, refl, sym, ap, ◌∙◌, subst, arith, ℤ, pos}
use Rattle.std.proofs.lemmas.List.{length-map}
use Rattle.ring_laws.specs.Algebra.{Ops, Algebra, Passing, within, Laws}
use Rattle.ring_laws.specs.Division.{DomainLaws, IsTimes}
use Rattle.ring_laws.specs.Meaning.{Meaning, number, listed, items, parted-joined}
use Rattle.ring_laws.specs.Wholes.{number_of}
use Rattle.poly_laws.specs.Lists.{coefficient_at, is_trimmed}
use Rattle.poly_laws.specs.PolyAlgebra.{poly_algebra}
use Rattle.poly_generic.proofs.ListLemmas.{at_item}
use Rattle.poly_laws.proofs.Belonging.{value_passes}
use Rattle.poly_laws.proofs.Coefficients.{coefficients, meanings-coefficients}
use Rattle.poly_laws.proofs.ListLaws.{product_nought}
use Rattle.poly_laws.proofs.WholeMultiples.{one_number, times_where, times_items, times_length, no_times}

module _ (a : Algebra) (l : Laws a) where
  abbrev o : Ops (Passing a)
  o = within a l.closed

  pub not_nought : (y : Passing a) (b : Bool) → b ≡ false → (IsTrue b ↔ IsTrue (a.ops.is_nought y.0)) → ¬ (y.0 ≡ a.ops.nought)
  not_nought y b f h e = cc (f, h.1 (ap a.ops.is_nought e ∙ (l.ring.is_nought o.nought).1 refl))

  is_nought : (y : Passing a) → IsTrue (a.ops.is_nought y.0) → y ≡ o.nought
  is_nought y h = (l.ring.is_nought y).0 h

  -- of nought each number gives nought
  pub zero_times : (w : ℤ) (x y : Passing a) (b : Bool) → IsTrue (a.ops.is_nought y.0) → (IsTrue b ↔ IsTrue (a.ops.is_nought x.0))
      → (IsTrue b ↔ IsTimes a w y.0 x.0)
  zero_times w x y b z h =
      let none : a.ops.product (a.ops.whole w) y.0 ≡ a.ops.nought =
      ap (λ (t : Passing a). t.0) (ap (o.product (o.whole w)) (is_nought y z) ∙ product_nought o l.ring (o.whole w)) in (
        (λ t. none ∙ ap (λ (v : Passing a). v.0) (sym (is_nought x (h.0 t)))),
        (λ e. h.1 (ap a.ops.is_nought (sym e ∙ none) ∙ (l.ring.is_nought o.nought).1 refl)),
      )

  -- of what isn't nought only one
  pub found_times : (d : DomainLaws a) (v w : ℤ) (x y : Passing a) (b : Bool) → ¬ (y.0 ≡ a.ops.nought) → IsTimes a v y.0 x.0
      → (IsTrue b ↔ (number v ≡ number w)) → (IsTrue b ↔ IsTimes a w y.0 x.0)
  found_times d v w x y b some is h = (
    (λ t. subst (λ z. IsTimes a z y.0 x.0) (ap number_of (h.0 t)) is),
    (λ e. h.1 (ap number (one_number a l d v w x y some is e))),
  )

pub map_twice : {A B C : Type 0} (f : B → C) (g : A → B) (xs : List A) → map (λ x. f (g x)) xs ≡ map f (map g xs)
map_twice f g [] = refl
map_twice f g (x ∷ xs) = ap (λ t. f (g x) ∷ t) (map_twice f g xs)

module _ {T : Type 0} (a : Algebra) (l : Laws a) (d : DomainLaws a) (meaning : T → Meaning) (passes : (x : T) → IsTrue (a.passes (meaning x))) where
  abbrev Mean : List T → Meaning
  Mean xs = listed (map meaning xs)

  abbrev Trimmed : List T → Type 0
  Trimmed xs = IsTrue (is_trimmed a.ops (map meaning xs))

  abbrev value : (xs : List T) → Trimmed xs → Passing (poly_algebra a)
  value xs h = (Mean xs, value_passes a meaning passes xs h)

  abbrev times : ℤ → Meaning → Meaning
  times c m = a.ops.product (a.ops.whole c) m

  counted : (xs : List T) (h : Trimmed xs) → length (coefficients a l.closed (value xs h)) ≡ length xs
  counted xs h = omega (
    arith,
    length-map (coefficients a l.closed (value xs h)) (λ (x : Passing a). x.0),
    ap length (meanings-coefficients a l.closed (value xs h) ∙ parted-joined (map meaning xs)),
    length-map xs meaning,
  )

  some_list : (xs : List T) → 0 < length xs → ¬ (Mean xs ≡ listed [])
  some_list xs p e = absurd (omega (arith, ap (λ t. length (items t)) e, ap length (parted-joined (map meaning xs)), length-map xs meaning))

  -- lists of two lengths
  pub none_apart : (xs ys : List T) → Trimmed xs → Trimmed ys → 0 < length xs → ¬ (length xs ≡ length ys) → (c : ℤ)
      → ¬ (IsTimes (poly_algebra a) c (Mean ys) (Mean xs))
  none_apart xs ys h k p n c is =
      n (omega (arith, counted xs h, counted ys k, times_length a l c (value xs h) (value ys k) is d (some_list xs p)))

  items_times : (xs ys : List T) → Trimmed xs → Trimmed ys → length xs ≡ length ys → (c : ℤ) → IsTimes (poly_algebra a) c (Mean ys) (Mean xs)
      → map (times c) (map meaning ys) ≡ map meaning xs
  items_times xs ys h k n c is =
      ap (map (times c)) (sym (parted-joined (map meaning ys)))
      ∙ times_items a l c (value xs h) (value ys k) is (omega (arith, counted xs h, counted ys k, n))
      ∙ parted-joined (map meaning xs)

  -- the number of two items at a place
  item_times : (xs ys : List T) (i : ℕ) (x y : T) (c : ℤ) → i < length xs → i < length ys → x ≡ get_or xs i x → y ≡ get_or ys i y
      → map (times c) (map meaning ys) ≡ map meaning xs → times c (meaning y) ≡ meaning x
  item_times xs ys i x y c p q e f is =
      sym (at_item a.ops (λ t. times c (meaning t)) ys i y q f)
      ∙ ap (λ t. coefficient_at a.ops t i) (map_twice (times c) meaning ys ∙ is)
      ∙ at_item a.ops meaning xs i x p e

  -- no number of the leads, so none of the polynomials
  pub none_lead : (xs ys : List T) → Trimmed xs → Trimmed ys → length xs ≡ length ys → (i : ℕ) (x y : T) → i < length xs → x ≡ get_or xs i x
      → y ≡ get_or ys i y → ((c : ℤ) → ¬ (IsTimes a c (meaning y) (meaning x))) → (c : ℤ) → ¬ (IsTimes (poly_algebra a) c (Mean ys) (Mean xs))
  none_lead xs ys h k n i x y p e f none c is = none c (item_times xs ys i x y c p (omega (arith, p, n)) e f (items_times xs ys h k n c is))

  -- the number of the leads isn't that of all items, so there is none
  pub none_rest : (xs ys : List T) → Trimmed xs → Trimmed ys → length xs ≡ length ys → (i : ℕ) (x y : T) → i < length xs → x ≡ get_or xs i x
      → y ≡ get_or ys i y → IsFalse (a.ops.is_nought (meaning y)) → (v : ℤ) → IsTimes a v (meaning y) (meaning x)
      → ¬ (map (times v) (map meaning ys) ≡ map meaning xs) → (c : ℤ) → ¬ (IsTimes (poly_algebra a) c (Mean ys) (Mean xs))
  none_rest xs ys h k n i x y p e f some v of_lead not_all c is =
      let all : map (times c) (map meaning ys) ≡ map meaning xs = items_times xs ys h k n c is in
      let same : c ≡ v =
      one_number a l d c v (meaning x, passes x) (meaning y, passes y)
      (not_nought a l (meaning y, passes y) (a.ops.is_nought (meaning y)) some ((λ t. t), (λ t. t)))
      (item_times xs ys i x y c p (omega (arith, p, n)) e f all) of_lead in
      not_all (subst (λ z. map (times z) (map meaning ys) ≡ map meaning xs) same all)

  -- the number of all items
  pub all_times : (xs ys : List T) → Trimmed xs → Trimmed ys → (c : ℤ) → map (times c) (map meaning ys) ≡ map meaning xs
      → IsTimes (poly_algebra a) c (Mean ys) (Mean xs)
  all_times xs ys h k c is = times_where a l c (value xs h) (value ys k)
      (ap (map (times c)) (parted-joined (map meaning ys)) ∙ is ∙ sym (parted-joined (map meaning xs)))

  -- no items are 0 times any
  pub none_times : (xs ys : List T) → Trimmed ys → length xs ≡ 0 → IsTimes (poly_algebra a) (pos 0) (Mean ys) (Mean xs)
  none_times [] ys k n = no_times a l (value ys k)
  none_times (x ∷ xs) ys k n = absurd (omega arith)
