-- The kernel of a list of rows.
use Rattle.std.proofs.Common.{◌≡◌, ℕ, suc, ◌<◌, List, [], ◌∷◌, ◌++◌, ◌∙◌, arith, All, ⊎_elim}
use Rattle.std.proofs.lemmas.List.Elements.{All-nil, All-cons}
use Rattle.ring_laws.specs.Algebra.{Ops, RingLaws}
use Rattle.kernel_laws.specs.Rows.{InKernel}
use Rattle.poly_laws.proofs.ListLaws.{product_nought}
use Rattle.poly_laws.proofs.OneQuotient.{NoDivisors}
use Rattle.kernel_laws.proofs.Totals.{dot_vectors}

pub first_of : {X : Type 0} (P : X → Type 0) (x : X) (xs : List X) → All P (x ∷ xs) → P x
first_of P x xs h = h 0 x (omega arith)

pub rest_of : {X : Type 0} (P : X → Type 0) (x : X) (xs : List X) → All P (x ∷ xs) → All P xs
rest_of P x xs h k d b = h (suc k) d (omega arith)

pub weaker : {X : Type 0} (P Q : X → Type 0) (xs : List X) → ((x : X) → P x → Q x) → All P xs → All Q xs
weaker P Q xs f h k d b = f _ (h k d b)

pub All-left : {X : Type 0} (P : X → Type 0) (xs ys : List X) → All P (xs ++ ys) → All P xs
All-left P [] ys h = All-nil P
All-left P (x ∷ xs) ys h = All-cons P x xs (first_of P x (xs ++ ys) h) (All-left P xs ys (rest_of P x (xs ++ ys) h))

pub All-right : {X : Type 0} (P : X → Type 0) (xs ys : List X) → All P (xs ++ ys) → All P ys
All-right P [] ys h = h
All-right P (x ∷ xs) ys h = All-right P xs ys (rest_of P x (xs ++ ys) h)

module _ {A : Type 0} (o : Ops A) (l : RingLaws o) (n : ℕ) where
  both_nought : (p q x y : A) → x ≡ o.nought → y ≡ o.nought → o.sum (o.product p x) (o.product q y) ≡ o.nought
  both_nought p q x y e f = cc (e, f, product_nought o l p, product_nought o l q, l.nought_sum o.nought)

  -- a combination of two vectors of the kernel
  pub combination : (rows : List (List A)) (p q : A) (u v w : ℕ → A)
      → ((k : ℕ) → k < n → w k ≡ o.sum (o.product p (u k)) (o.product q (v k))) → InKernel o n rows u → InKernel o n rows v
      → InKernel o n rows w
  combination rows p q u v w e h i k d b =
      dot_vectors o l n p q _ u v w e ∙ both_nought p q _ _ (h k d b) (i k d b)

  module _ (d : NoDivisors o) where
    pub not_product : (x y : A) → ¬ (x ≡ o.nought) → ¬ (y ≡ o.nought) → ¬ (o.product x y ≡ o.nought)
    not_product x y n m e = ⊎_elim n m (d x y e)

    pub other_factor : (x y : A) → ¬ (x ≡ o.nought) → o.product x y ≡ o.nought → y ≡ o.nought
    other_factor x y n e = ⊎_elim (λ h. absurd (n h)) (λ h. h) (d x y e)
