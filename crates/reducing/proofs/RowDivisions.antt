-- The quotients of a row by one value, entry by entry, in any domain.
use Rattle.std.proofs.Common.{◌≡◌, ℕ, zero, suc, ◌+◌, ◌<◌, IsTrue, List, [], ◌∷◌, ◌++◌, map, length, get_or, take, refl, sym, ap, ◌∙◌, subst, arith, Result, Ok, Err, Option, Vec, IsErrAnd}
use Rattle.std.proofs.lemmas.List.{length-map, map_push, take_more}
use Rattle.std.proofs.lemmas.List.Elements.{AllZip-push}
use Rattle.ring_laws.specs.Meaning.{Meaning}
use Rattle.ring_laws.specs.Algebra.{Algebra, Passing}
use Rattle.ring_laws.specs.Answer.{OnFault, fault_weaker}
use Rattle.ring_laws.specs.declared.faults.RingFault.{RingFault}
use Rattle.poly_generic.proofs.ListLemmas.{at_item}
use Rattle.kernel_laws.specs.Rows.{entry_at}
use Rattle.kernel_laws.specs.RowSteps.{HasQuotient, Quotients, NoQuotients, QuotientsInBounds}
use Rattle.reducing.specs.RowAnswer.{DividesRow}

pub fault_divides : {T Z : Type 0} (meaning : T → Meaning) (a : Algebra) (InBounds : Meaning → Meaning → Type 0) (xs : List Meaning) (t : Meaning)
    (r : Result (Option (Vec T Z)) RingFault) (fault : RingFault) → IsErrAnd r (λ e. e ≡ fault)
    → OnFault (¬ (QuotientsInBounds InBounds a t xs)) fault → DividesRow meaning a InBounds xs t r
fault_divides meaning a InBounds xs t (Ok v) fault e h = absurd e
fault_divides meaning a InBounds xs t (Err d) fault e h = subst (OnFault (¬ (QuotientsInBounds InBounds a t xs))) (sym e) h

module _ {T : Type 0} (a : Algebra) (meaning : T → Meaning) where
  has_quotients : (passes : (x : T) → IsTrue (a.passes (meaning x))) (t : Meaning) (xs : List Meaning) (n : ℕ) (out : List T)
      → Quotients a t (take n xs) (map meaning out) → (i : ℕ) → i < n → i < length xs → HasQuotient a t (entry_at a.ops xs i)
  has_quotients passes t xs zero out h i b c = absurd (omega arith)
  has_quotients passes t [] (suc n) out h i b c = absurd (omega arith)
  has_quotients passes t (x ∷ xs) (suc n) [] h i b c = absurd h
  has_quotients passes t (x ∷ xs) (suc n) (q ∷ out) h zero b c = record { quotient = (meaning q, passes q); is = h.0 }
  has_quotients passes t (x ∷ xs) (suc n) (q ∷ out) h (suc i) b c = has_quotients passes t xs n out h.1 i (omega arith) (omega arith)

  taken : (xs : List T) (n : ℕ) → map meaning (take n xs) ≡ take n (map meaning xs)
  taken xs zero = refl
  taken [] (suc n) = refl
  taken (x ∷ xs) (suc n) = ap (λ t. meaning x ∷ t) (taken xs n)

  pub quotient_not : (passes : (x : T) → IsTrue (a.passes (meaning x))) (InBounds : Meaning → Meaning → Type 0) (xs out : List T) (t : Meaning)
      (i : ℕ) (x : T) (fault : RingFault) → i < length xs → x ≡ get_or xs i x → Quotients a t (map meaning (take i xs)) (map meaning out)
      → OnFault (¬ (InBounds (meaning x) t)) fault → OnFault (¬ (QuotientsInBounds InBounds a t (map meaning xs))) fault
  quotient_not passes InBounds xs out t i x fault b f q h =
      let inside : i < length (map meaning xs) = omega (arith, b, length-map xs meaning) in
      let before : (k : ℕ) → k < i → HasQuotient a t (entry_at a.ops (map meaning xs) k) = λ k c.
      has_quotients passes t (map meaning xs) i out (subst (λ u. Quotients a t u (map meaning out)) (taken xs i) q) k c (omega (arith, c, inside)) in
      fault_weaker fault (λ n s. n (subst (λ u. InBounds u t) (at_item a.ops meaning xs i x b f) (s i inside before))) h

  pub none_at : (xs : List T) (t : Meaning) (i : ℕ) (x : T) → i < length xs → x ≡ get_or xs i x
      → ((q : Passing a) → ¬ (a.ops.product q.0 t ≡ meaning x)) → NoQuotients a t (map meaning xs)
  none_at xs t i x b f h = record {
    index = i;
    within = omega (arith, length-map xs meaning);
    none = λ s. h s.quotient (s.is ∙ at_item a.ops meaning xs i x b f);
  }

  pub quotients_more : (xs out new : List T) (t : Meaning) (i : ℕ) (x q : T) → i < length xs → x ≡ get_or xs i x → new ≡ out ++ q ∷ []
      → a.ops.product (meaning q) t ≡ meaning x → Quotients a t (map meaning (take i xs)) (map meaning out)
      → Quotients a t (map meaning (take (i + 1) xs)) (map meaning new)
  quotients_more xs out new t i x q b f g e h =
      subst (λ u. Quotients a t u (map meaning new))
      (sym (ap (map meaning) (take_more xs i x b) ∙ map_push meaning (take i xs) (get_or xs i x)
      ∙ ap (λ v. map meaning (take i xs) ++ meaning v ∷ []) (sym f)))
      (subst (λ u. Quotients a t (map meaning (take i xs) ++ meaning x ∷ []) u) (sym (ap (map meaning) g ∙ map_push meaning out q))
      (AllZip-push (λ u v. a.ops.product u t ≡ v) (map meaning out) (map meaning (take i xs)) (meaning q) (meaning x) h e))
