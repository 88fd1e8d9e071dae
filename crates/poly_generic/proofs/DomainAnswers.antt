-- Exact division of polynomials, from the division of their lists.
use Rattle.std.proofs.Common.{◌≡◌, ℕ, zero, suc, ◌+◌, ◌-◌, ◌<◌, ◌≤◌, Bool, true, false, not, IsTrue, IsFalse, List, [], ◌∷◌, ◌++◌, map, length, get_or, take, refl, sym, ap, ◌∙◌, subst, arith, Result, Ok, Err, Option, IsErrAnd}
use Rattle.std.proofs.lemmas.List.{length-map, map-append, take_more, take_all, map_push}
use Rattle.std.proofs.lemmas.Bool.{and_parts, and_from}
use Rattle.ring_laws.specs.declared.faults.RingFault.{RingFault}
use Rattle.poly_laws.specs.Lists.{coefficient_at, trimmed, is_trimmed}
use Rattle.poly_laws.specs.LongDivision.{Divided, begin, step, all_nought, ListDivisionInBounds, DivisionInBounds, Stuck}
use Rattle.poly_laws.specs.PolyAlgebra.{is_empty, poly_algebra}
use Rattle.ring_laws.specs.Algebra.{Ops, Algebra, Passing, within, Laws, same_passing}
use Rattle.ring_laws.specs.Answer.{OnFault, fault_weaker}
use Rattle.ring_laws.specs.Division.{DomainLaws, Divides}
use Rattle.ring_laws.specs.Meaning.{Meaning, joined, parted, listed, items, parted-joined}
use Rattle.poly_generic.proofs.ListLemmas.{last_is}
use Rattle.poly_generic.proofs.PolyAnswers.{listed_same}
use Rattle.poly_laws.proofs.Belonging.{value_passes}
use Rattle.poly_laws.proofs.Coefficients.{meanings_of, meanings-trimmed, meanings_same, coefficients, meanings-coefficients, poly_closed}
use Rattle.poly_laws.proofs.DivisionRuns.{Sound, sound}
use Rattle.poly_laws.proofs.Quotients.{rest_is_nought, gives_quotient, stuck_none}
use Rattle.poly_laws.proofs.Trimming.{at_trimmed, length-trimmed}

pub length-divided : (a : Algebra) (gs : List Meaning) (lead : Meaning) {xs qs rs : List Meaning} → Divided a gs lead xs qs rs → length qs ≡ length xs
length-divided a gs lead begin = refl
length-divided a gs lead (step x c run h) = ap suc (length-divided a gs lead run)

pub fault_exact : {Q : Type 0} (mean : Q → Meaning) (a : Algebra) (InBounds : Type 0) (x y : Meaning) (r : Result (Option Q) RingFault)
    (fault : RingFault) → IsErrAnd r (λ e. e ≡ fault) → OnFault (¬ InBounds) fault → Divides mean a InBounds x y r
fault_exact mean a InBounds x y (Ok v) fault e h = absurd e
fault_exact mean a InBounds x y (Err d) fault e h = subst (OnFault (¬ InBounds)) (sym e) h

-- a product with no zero at the end
pub lead_not : {T A : Type 0} (o : Ops A) (meaning : T → A) (ys : List T) (y : T) → 0 < length ys → y ≡ get_or ys (length ys - 1) y
    → IsTrue (is_trimmed o (map meaning ys)) → IsFalse (o.is_nought (meaning y))
lead_not o meaning ys y p e h = turned (o.is_nought (meaning y)) (last_is o meaning ys y (o.is_nought (meaning y)) p e ((λ t. t), (λ t. t)) ∙ h)
  where
    turned : (b : Bool) → not b ≡ true → b ≡ false
    turned true e = cc
    turned false e = refl

pub some_items : {T : Type 0} (meaning : T → Meaning) (ys : List T) → IsFalse (is_empty (parted (joined (map meaning ys)))) → 0 < length ys
some_items meaning [] h = cc
some_items meaning (y ∷ ys) h = omega arith

pub parted_list : {T : Type 0} (ys : List T) (y : T) → 0 < length ys → y ≡ get_or ys (length ys - 1) y → ys ≡ take (length ys - 1) ys ++ y ∷ []
parted_list ys y p e =
    let n : ℕ = length ys - 1 in
    sym (take_all (n + 1) ys (omega arith)) ∙ take_more ys n y (omega arith) ∙ ap (λ v. take n ys ++ v ∷ []) (sym e)

module _ {T : Type 0} (a : Algebra) (l : Laws a) (d : DomainLaws a) (meaning : T → Meaning) (passes : (x : T) → IsTrue (a.passes (meaning x))) where
  abbrev base : Ops (Passing a)
  base = within a l.closed

  abbrev senses : List T → List (Passing a)
  senses xs = map (λ x. (meaning x, passes x)) xs

  abbrev Trimmed : List T → Type 0
  Trimmed xs = IsTrue (is_trimmed a.ops (map meaning xs))

  abbrev value : (xs : List T) → Trimmed xs → Passing (poly_algebra a)
  value xs h = (listed (map meaning xs), value_passes a meaning passes xs h)

  meanings-senses : (xs : List T) → meanings_of a l.closed (senses xs) ≡ map meaning xs
  meanings-senses [] = refl
  meanings-senses (x ∷ xs) = ap (λ t. meaning x ∷ t) (meanings-senses xs)

  parts-value : (xs : List T) (h : Trimmed xs) → coefficients a l.closed (value xs h) ≡ senses xs
  parts-value xs h = meanings_same a l.closed (coefficients a l.closed (value xs h)) (senses xs)
      (cc (meanings-coefficients a l.closed (value xs h), parted-joined (map meaning xs), meanings-senses xs))

  parts-by : (ys low : List T) (y : T) (h : Trimmed ys) → ys ≡ low ++ y ∷ []
      → coefficients a l.closed (value ys h) ≡ senses low ++ (meaning y, passes y) ∷ []
  parts-by ys low y h e = parts-value ys h ∙ ap senses e ∙ map-append (λ x. (meaning x, passes x)) low (y ∷ [])

  not_nought : (y : T) → IsFalse (a.ops.is_nought (meaning y)) → (v : Passing a) → v.0 ≡ meaning y → ¬ (v ≡ base.nought)
  not_nought y h v e n = cc (h, (l.ring.is_nought v).1 n, ap a.ops.is_nought e)

  nought_items : (rs : List (Passing a)) → IsTrue (all_nought a.ops (meanings_of a l.closed rs)) → (k : ℕ) → coefficient_at base rs k ≡ base.nought
  nought_items [] h k = refl
  nought_items (r ∷ rs) h zero = (l.ring.is_nought r).0 (and_parts (a.ops.is_nought r.0) (all_nought a.ops (meanings_of a l.closed rs)) h).0
  nought_items (r ∷ rs) h (suc k) = nought_items rs (and_parts (a.ops.is_nought r.0) (all_nought a.ops (meanings_of a l.closed rs)) h).1 k

  items_nought : (rs : List (Passing a)) → ((k : ℕ) → coefficient_at base rs k ≡ base.nought) → IsTrue (all_nought a.ops (meanings_of a l.closed rs))
  items_nought [] h = refl
  items_nought (r ∷ rs) h =
      and_from (a.ops.is_nought r.0) (all_nought a.ops (meanings_of a l.closed rs)) ((l.ring.is_nought r).1 (h 0)) (items_nought rs (λ k. h (suc k)))

  sound_here : (xs low : List T) (y : T) (hx : Trimmed xs) (qs rs : List Meaning) → Divided a (map meaning low) (meaning y) (map meaning xs) qs rs
      → Sound a l (senses low) (meaning y, passes y) (coefficients a l.closed (value xs hx)) qs rs
  sound_here xs low y hx qs rs run =
      sound a l (senses low) (meaning y, passes y) (subst (λ t. Divided a t (meaning y) (map meaning xs) qs rs) (sym (meanings-senses low)) run)
      (coefficients a l.closed (value xs hx)) (meanings-coefficients a l.closed (value xs hx) ∙ parted-joined (map meaning xs))

  pub division_fault : (InBounds : Meaning → Meaning → Type 0) (xs ys low : List T) (y : T) (fault : RingFault) → ys ≡ low ++ y ∷ []
      → OnFault (¬ (ListDivisionInBounds a InBounds (map meaning xs) (map meaning low) (meaning y))) fault
      → OnFault (¬ (DivisionInBounds a InBounds (listed (map meaning xs)) (listed (map meaning ys)))) fault
  division_fault InBounds xs ys low y fault e h =
      let p : map meaning low ++ meaning y ∷ [] ≡ items (listed (map meaning ys)) = sym (map-append meaning low (y ∷ [])) ∙ ap (map meaning) (sym e)
      ∙ sym (parted-joined (map meaning ys)) in
      fault_weaker fault (λ n t.
      n (subst (λ u. ListDivisionInBounds a InBounds u (map meaning low) (meaning y)) (parted-joined (map meaning xs))
      (t (map meaning low) (meaning y) p))) h

  pub quotient_short : (InBounds : Type 0) (xs low qs : List T) (y : T) (rs : List Meaning) (fault : RingFault) → length xs ≤ 256
      → Divided a (map meaning low) (meaning y) (map meaning xs) (map meaning qs) rs
      → OnFault (¬ (length (trimmed a.ops (map meaning qs)) ≤ 256)) fault → OnFault (¬ InBounds) fault
  quotient_short InBounds xs low qs y rs fault b run h =
      fault_weaker fault (λ n.
      absurd (n (omega (arith, length-trimmed a.ops (map meaning qs), length-divided a (map meaning low) (meaning y) run, length-map xs meaning)))) h

  pub quotient_is : (xs ys low qs ws : List T) (y : T) (rs : List Meaning) (hx : Trimmed xs) (hy : Trimmed ys) (hw : Trimmed ws) → ys ≡ low ++ y ∷ []
      → Divided a (map meaning low) (meaning y) (map meaning xs) (map meaning qs) rs → IsTrue (all_nought a.ops rs)
      → listed (map meaning ws) ≡ listed (trimmed a.ops (map meaning qs))
      → (poly_algebra a).ops.product (listed (map meaning ws)) (listed (map meaning ys)) ≡ listed (map meaning xs)
  quotient_is xs ys low qs ws y rs hx hy hw e run z w =
      let s = sound_here xs low y hx (map meaning qs) rs run in
      let t : (k : ℕ) → coefficient_at base s.rest k ≡ base.nought =
      nought_items s.rest (subst (λ u. IsTrue (all_nought a.ops u)) (sym s.rest_is) z) in
      let p : coefficients a l.closed (value ws hw) ≡ trimmed base s.quotient =
      meanings_same a l.closed (coefficients a l.closed (value ws hw)) (trimmed base s.quotient)
      (cc (
        meanings-coefficients a l.closed (value ws hw),
        parted-joined (map meaning ws),
        listed_same (map meaning ws) (trimmed a.ops (map meaning qs)) w,
        ap (trimmed a.ops) s.quotient_is,
        meanings-trimmed a l.closed s.quotient,
      )) in
      ap (λ (v : Passing (poly_algebra a)). v.0)
      (gives_quotient a l d (value xs hx) (value ys hy) (value ws hw) (senses low) (meaning y, passes y) (map meaning qs) rs
      (parts-by ys low y hy e) s t (λ k. ap (λ u. coefficient_at base u k) p ∙ at_trimmed base l.ring s.quotient k))

  -- a quotient leaves nothing
  pub rest_not_zero : (xs ys low : List T) (y : T) (qs rs : List Meaning) (hx : Trimmed xs) (hy : Trimmed ys) → ys ≡ low ++ y ∷ []
      → IsFalse (a.ops.is_nought (meaning y)) → Divided a (map meaning low) (meaning y) (map meaning xs) qs rs
      → ¬ (IsTrue (all_nought a.ops rs)) → (q : Passing (poly_algebra a))
      → ¬ ((poly_algebra a).ops.product q.0 (listed (map meaning ys)) ≡ listed (map meaning xs))
  rest_not_zero xs ys low y qs rs hx hy e f run n q h =
      let s = sound_here xs low y hx qs rs run in
      let t = rest_is_nought a l d (value xs hx) (value ys hy) q (senses low) (meaning y, passes y) qs rs (parts-by ys low y hy e)
      (not_nought y f (meaning y, passes y) refl) s
      (same_passing (poly_algebra a) ((within (poly_algebra a) (poly_closed a l.closed)).product q (value ys hy)) (value xs hx) h) in
      n (subst (λ u. IsTrue (all_nought a.ops u)) s.rest_is (items_nought s.rest t))

  pub none_at_all : (xs ys low : List T) (y : T) (hx : Trimmed xs) (hy : Trimmed ys) → ys ≡ low ++ y ∷ [] → IsFalse (a.ops.is_nought (meaning y))
      → Stuck a (map meaning xs) (map meaning low) (meaning y)
      → (q : Passing (poly_algebra a)) → ¬ ((poly_algebra a).ops.product q.0 (listed (map meaning ys)) ≡ listed (map meaning xs))
  none_at_all xs ys low y hx hy e f s q h =
      stuck_none a l d (value xs hx) (value ys hy) (senses low) (meaning y, passes y) (parts-by ys low y hy e)
      (not_nought y f (meaning y, passes y) refl)
      (subst (λ t. Stuck a t (meanings_of a l.closed (senses low)) (meaning y)) (sym (parted-joined (map meaning xs)))
      (subst (λ t. Stuck a (map meaning xs) t (meaning y)) (sym (meanings-senses low)) s)) q
      (same_passing (poly_algebra a) ((within (poly_algebra a) (poly_closed a l.closed)).product q (value ys hy)) (value xs hx) h)

-- ---- all_zero
pub zero_more : {T : Type 0} (o : Ops Meaning) (meaning : T → Meaning) (xs : List T) (i : ℕ) (x : T) → i < length xs → x ≡ get_or xs i x
    → IsTrue (all_nought o (map meaning (take i xs))) → IsTrue (o.is_nought (meaning x)) → IsTrue (all_nought o (map meaning (take (i + 1) xs)))
zero_more o meaning xs i x p e h t =
    let s : map meaning (take (i + 1) xs) ≡ map meaning (take i xs) ++ meaning x ∷ [] =
    ap (map meaning) (take_more xs i x p) ∙ map_push meaning (take i xs) (get_or xs i x)
    ∙ ap (λ v. map meaning (take i xs) ++ meaning v ∷ []) (sym e) in
    subst (λ u. IsTrue (all_nought o u)) (sym s) (pushed (map meaning (take i xs)) h)
  where
    pushed : (ms : List Meaning) → IsTrue (all_nought o ms) → IsTrue (all_nought o (ms ++ meaning x ∷ []))
    pushed [] h = and_from (o.is_nought (meaning x)) true t refl
    pushed (m ∷ ms) h =
        let q = and_parts (o.is_nought m) (all_nought o ms) h in
        and_from (o.is_nought m) (all_nought o (ms ++ meaning x ∷ [])) q.0 (pushed ms q.1)

pub zero_at : (o : Ops Meaning) (ms : List Meaning) (i : ℕ) (d : Meaning) → i < length ms → IsTrue (all_nought o ms)
    → IsTrue (o.is_nought (get_or ms i d))
zero_at o [] i d p h = absurd (omega arith)
zero_at o (m ∷ ms) zero d p h = (and_parts (o.is_nought m) (all_nought o ms) h).0
zero_at o (m ∷ ms) (suc i) d p h = zero_at o ms i d (omega arith) (and_parts (o.is_nought m) (all_nought o ms) h).1
