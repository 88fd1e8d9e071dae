-- A row that is multiplied by something that isn't zero, gets a multiple of the pivot row, and is divided exactly, has the same kernel beside the pivot row.
use Rattle.std.proofs.Common.{◌≡◌, ℕ, ◌<◌, List, [], ◌∷◌, ap, sym, ◌∙◌}
use Rattle.std.proofs.lemmas.List.Elements.{All-cons}
use Rattle.std.specs.List.{AllZip}
use Rattle.ring_laws.specs.Algebra.{Ops, RingLaws}
use Rattle.kernel_laws.specs.Rows.{InKernel, dot, entry_at}
use Rattle.poly_laws.proofs.ListLaws.{sum_nought, product_nought}
use Rattle.poly_laws.proofs.OneQuotient.{NoDivisors}
use Rattle.kernel_laws.proofs.Totals.{total_scale, total_linear, row_step}
use Rattle.kernel_laws.proofs.Kernels.{first_of, rest_of, other_factor}

-- divisor * new = factor * old + other * pivot
pub record Turned {A : Type 0} (o : Ops A) (n : ℕ) (pivot old new : List A) : Type 0 where
  pub divisor : A
  pub divisor_isnt : ¬ (divisor ≡ o.nought)
  pub factor : A
  pub factor_isnt : ¬ (factor ≡ o.nought)
  pub other : A
  pub is : (k : ℕ) → k < n
      → o.product divisor (entry_at o new k) ≡ o.sum (o.product factor (entry_at o old k)) (o.product other (entry_at o pivot k))

module _ {A : Type 0} (o : Ops A) (l : RingLaws o) (d : NoDivisors o) (n : ℕ) where
  both : (pivot old new : List A) (t : Turned o n pivot old new) (v : ℕ → A) → dot o n pivot v ≡ o.nought
      → o.product t.divisor (dot o n new v) ≡ o.product t.factor (dot o n old v)
  both pivot old new t v h =
      sym (total_scale o l n t.divisor (λ k. o.product (entry_at o new k) (v k))
      (λ k. o.product (o.product t.divisor (entry_at o new k)) (v k)) (λ k b. l.product_assoc t.divisor (entry_at o new k) (v k)))
      ∙ total_linear o l n t.factor t.other (λ k. o.product (entry_at o old k) (v k)) (λ k. o.product (entry_at o pivot k) (v k))
      (λ k. o.product (o.product t.divisor (entry_at o new k)) (v k))
      (λ k b. ap (λ x. o.product x (v k)) (t.is k b) ∙ row_step o l t.factor t.other (entry_at o old k) (entry_at o pivot k) (v k))
      ∙ ap (λ x. o.sum (o.product t.factor (dot o n old v)) (o.product t.other x)) h
      ∙ ap (o.sum (o.product t.factor (dot o n old v))) (product_nought o l t.other)
      ∙ sum_nought o l (o.product t.factor (dot o n old v))

  pub row_on : (pivot old new : List A) (t : Turned o n pivot old new) (v : ℕ → A) → dot o n pivot v ≡ o.nought
      → dot o n old v ≡ o.nought → dot o n new v ≡ o.nought
  row_on pivot old new t v h e =
      other_factor o l n d t.divisor (dot o n new v) t.divisor_isnt
      (both pivot old new t v h ∙ ap (o.product t.factor) e ∙ product_nought o l t.factor)

  pub row_back : (pivot old new : List A) (t : Turned o n pivot old new) (v : ℕ → A) → dot o n pivot v ≡ o.nought
      → dot o n new v ≡ o.nought → dot o n old v ≡ o.nought
  row_back pivot old new t v h e =
      other_factor o l n d t.factor (dot o n old v) t.factor_isnt
      (sym (both pivot old new t v h) ∙ ap (o.product t.divisor) e ∙ product_nought o l t.divisor)

  -- beside the pivot row
  pub rows_on : (pivot : List A) (olds news : List (List A)) (v : ℕ → A) → AllZip (Turned o n pivot) olds news
      → dot o n pivot v ≡ o.nought → InKernel o n olds v → InKernel o n news v
  rows_on pivot [] [] v t h k = k
  rows_on pivot [] (new ∷ news) v t h k = absurd t
  rows_on pivot (old ∷ olds) [] v t h k = absurd t
  rows_on pivot (old ∷ olds) (new ∷ news) v t h k =
      All-cons (λ r. dot o n r v ≡ o.nought) new news (row_on pivot old new t.0 v h (first_of (λ r. dot o n r v ≡ o.nought) old olds k))
      (rows_on pivot olds news v t.1 h (rest_of (λ r. dot o n r v ≡ o.nought) old olds k))

  pub rows_back : (pivot : List A) (olds news : List (List A)) (v : ℕ → A) → AllZip (Turned o n pivot) olds news
      → dot o n pivot v ≡ o.nought → InKernel o n news v → InKernel o n olds v
  rows_back pivot [] [] v t h k = k
  rows_back pivot [] (new ∷ news) v t h k = absurd t
  rows_back pivot (old ∷ olds) [] v t h k = absurd t
  rows_back pivot (old ∷ olds) (new ∷ news) v t h k =
      All-cons (λ r. dot o n r v ≡ o.nought) old olds (row_back pivot old new t.0 v h (first_of (λ r. dot o n r v ≡ o.nought) new news k))
      (rows_back pivot olds news v t.1 h (rest_of (λ r. dot o n r v ≡ o.nought) new news k))
