-- Lists of coefficients at a place, for the functions that read and write them.
use Rattle.std.proofs.Common.{◌≡◌, ℕ, zero, suc, ◌-◌, ◌<◌, ◌≤◌, max, Bool, true, false, not, cond, IsTrue, ◌↔◌, List, [], ◌∷◌, ◌++◌, map, length, get_or, refl, sym, ap, ◌∙◌, arith, Option, Some, None, option_to_list}
use Rattle.std.proofs.lemmas.List.{length-map, get_or-map, map-append, append-nil, get_or_past}
use Rattle.poly_laws.specs.Lists.{coefficient_at, list_sum, in_front, trimmed, is_trimmed}
use Rattle.ring_laws.specs.Algebra.{Ops}

is_trimmed_at : {A : Type 0} (o : Ops A) (xs : List A) (n : ℕ) (d : A) → length xs ≡ suc n → is_trimmed o xs ≡ not (o.is_nought (get_or xs n d))
is_trimmed_at o [] n d e = absurd (omega arith)
is_trimmed_at o (x ∷ []) zero d e = refl
is_trimmed_at o (x ∷ []) (suc n) d e = absurd (omega arith)
is_trimmed_at o (x ∷ y ∷ ys) zero d e = absurd (omega arith)
is_trimmed_at o (x ∷ y ∷ ys) (suc n) d e = is_trimmed_at o (y ∷ ys) n d (omega arith)

same_tests : (a b : Bool) → (IsTrue a ↔ IsTrue b) → a ≡ b
same_tests true b h = sym (h.0 refl)
same_tests false true h = h.1 refl
same_tests false false h = refl

pub last_is : {T A : Type 0} (o : Ops A) (meaning : T → A) (xs : List T) (x : T) (b : Bool) → 0 < length xs → x ≡ get_or xs (length xs - 1) x
    → (IsTrue b ↔ IsTrue (o.is_nought (meaning x))) → not b ≡ is_trimmed o (map meaning xs)
last_is o meaning xs x b p e t =
    let n : ℕ = length xs - 1 in
    ap not (same_tests b (o.is_nought (meaning x)) t)
    ∙ ap (λ v. not (o.is_nought (meaning v))) e
    ∙ ap (λ v. not (o.is_nought v)) (sym (get_or-map meaning xs n x (meaning x) (omega arith)))
    ∙ sym (is_trimmed_at o (map meaning xs) n (meaning x) (omega (arith, length-map xs meaning)))

is_trimmed_push : {A : Type 0} (o : Ops A) (xs : List A) (x : A) → is_trimmed o (xs ++ x ∷ []) ≡ not (o.is_nought x)
is_trimmed_push o [] x = refl
is_trimmed_push o (y ∷ []) x = refl
is_trimmed_push o (y ∷ z ∷ zs) x = is_trimmed_push o (z ∷ zs) x

trimmed_push : {A : Type 0} (o : Ops A) (xs : List A) (x : A) → not (o.is_nought x) ≡ false → trimmed o (xs ++ x ∷ []) ≡ trimmed o xs
trimmed_push o [] x h = dropped (o.is_nought x) h
  where
    dropped : (b : Bool) → not b ≡ false → cond b [] (x ∷ []) ≡ []
    dropped true e = refl
    dropped false e = cc
trimmed_push o (y ∷ ys) x h = ap (in_front o y) (trimmed_push o ys x h)

-- a last coefficient that is zero is left out
pub trimmed_popped : {T A : Type 0} (o : Ops A) (meaning : T → A) (xs ys : List T) (last : Option T) → xs ≡ ys ++ option_to_list last
    → is_trimmed o (map meaning xs) ≡ false → trimmed o (map meaning ys) ≡ trimmed o (map meaning xs)
trimmed_popped o meaning xs ys None e h = ap (λ t. trimmed o (map meaning t)) (sym (e ∙ append-nil ys))
trimmed_popped o meaning xs ys (Some x) e h =
    let f : map meaning xs ≡ map meaning ys ++ meaning x ∷ [] = ap (map meaning) e ∙ map-append meaning ys (x ∷ []) in
    sym (ap (trimmed o) f ∙ trimmed_push o (map meaning ys) (meaning x) (sym (is_trimmed_push o (map meaning ys) (meaning x))
    ∙ sym (ap (is_trimmed o) f) ∙ h))

pub length-list_sum : {A : Type 0} (o : Ops A) (xs ys : List A) → length (list_sum o xs ys) ≡ max (length xs) (length ys)
length-list_sum o [] ys = omega arith
length-list_sum o (x ∷ xs) [] = omega arith
length-list_sum o (x ∷ xs) (y ∷ ys) = omega (arith, length-list_sum o xs ys)

pub sum_both : {A : Type 0} (o : Ops A) (xs ys : List A) (i : ℕ) → i < length xs → i < length ys
    → coefficient_at o (list_sum o xs ys) i ≡ o.sum (coefficient_at o xs i) (coefficient_at o ys i)
sum_both o [] ys i p q = absurd (omega arith)
sum_both o (x ∷ xs) [] i p q = absurd (omega arith)
sum_both o (x ∷ xs) (y ∷ ys) zero p q = refl
sum_both o (x ∷ xs) (y ∷ ys) (suc i) p q = sum_both o xs ys i (omega arith) (omega arith)

pub sum_left : {A : Type 0} (o : Ops A) (xs ys : List A) (i : ℕ) → length ys ≤ i → coefficient_at o (list_sum o xs ys) i ≡ coefficient_at o xs i
sum_left o [] [] i q = refl
sum_left o [] (y ∷ ys) zero q = absurd (omega arith)
sum_left o [] (y ∷ ys) (suc i) q = sum_left o [] ys i (omega arith)
sum_left o (x ∷ xs) [] i q = refl
sum_left o (x ∷ xs) (y ∷ ys) zero q = absurd (omega arith)
sum_left o (x ∷ xs) (y ∷ ys) (suc i) q = sum_left o xs ys i (omega arith)

pub sum_right : {A : Type 0} (o : Ops A) (xs ys : List A) (i : ℕ) → length xs ≤ i → coefficient_at o (list_sum o xs ys) i ≡ coefficient_at o ys i
sum_right o [] ys i q = refl
sum_right o (x ∷ xs) ys zero q = absurd (omega arith)
sum_right o (x ∷ xs) [] (suc i) q = get_or_past xs i o.nought (omega arith)
sum_right o (x ∷ xs) (y ∷ ys) (suc i) q = sum_right o xs ys i (omega arith)

pub at_item : {T A : Type 0} (o : Ops A) (meaning : T → A) (xs : List T) (i : ℕ) (x : T) → i < length xs → x ≡ get_or xs i x
    → coefficient_at o (map meaning xs) i ≡ meaning x
at_item o meaning xs i x p e = get_or-map meaning xs i x o.nought p ∙ ap meaning (sym e)
